-- Of words none of which is an option, those that clap takes are the words of a command.
use Rattle.std.proofs.Common.{◌≡◌, ◌∙◌, ◌++◌, ◌&&◌, inr, [], ◌∷◌, List, map, refl, sym, subst, ap, true, false, Bool, cond, codes, Option, Some, None, bytes_eq, true≢false}
use Rattle.std.specs.Prelude.{Err, Result, find}
use Rattle.std.specs.List.{list_all}
use Rattle.std.specs.Option.{option_map_or}
use Rattle.std.proofs.lemmas.Slice.Eq.{bytes_eq-Decides}
use Rattle.clap.specs.Words.{Text, built, subcommand_of}
use Rattle.clap.specs.Faults.{step_fault}
use Rattle.clap.specs.Simple.{label_of, names_of}
use Rattle.clap.specs.Walk.{Names, answers_to, nothing_held, value}
use Rattle.clap.specs.declared.error.kind.ErrorKind.TheVariants.{DisplayHelp, InvalidSubcommand, MissingSubcommand, UnknownArgument}
use Rattle.wh_words.specs.Asked.{asked_by, asked_of, faults_in, no_line, when_none}
use Rattle.wh_words.specs.CommandLine.{CommandLine, Says, are_given, extra_words, given_to, has_operands, is_operand, is_taken, program_app, task_of, words_of}
use Rattle.wh_words.specs.Task.{Task, Command, command_of, every_command, asks_of}
use Rattle.wh_words.specs.WrongWord.{no_command_line}
use Rattle.wh_words.proofs.CommandFaults.{not_asked, no_words}
use Rattle.wh_words.proofs.CommandWords.{IsRead}
use Rattle.wh_words.proofs.EachWord.{each_known}
use Rattle.wh_words.proofs.Operands.{plain}
use Rattle.wh_words.proofs.Program.{bare, commands, commands_on_literals}
use Rattle.wh_words.proofs.Reading.{first_faulty, unknown}
use Rattle.wh_words.proofs.Words.{Fits, Known, fits_behind, is_read, known_among}
use Rattle.wh_history.proofs.Basics.{both_true}

-- a name in the table is that of a command of which all is shown
pub known_of : (name : Text) (c : Command) → command_of name ≡ Some c → (name ≡ c.name) × Known c
unfolding command_of
known_of name c is = known_among name c every_command each_known is

-- ---- the words of a command

-- clap finds no fault in them, and the command
pub reads : (line : CommandLine) → has_operands line ≡ true → IsRead (words_of line) (task_of line)
reads line is = by (command_of line.name) refl is
  where
    asked_at : Option Command → Result Task Text
    asked_at met = option_map_or (λ (c : Command). asks_of c (given_to c line.operands line.extra)) met (Err no_command_line)

    by : (met : Option Command) → command_of line.name ≡ met → option_map_or (λ (c : Command). are_given c.operands line.operands && is_taken c.beside line.extra) met false ≡ true → IsRead (words_of line) (task_of line)
    by None none is = cc
    by (Some c) met is =
        let known = known_of line.name c met in
        let found : IsRead (line.name ∷ (line.operands ++ extra_words line.extra)) (asks_of c (given_to c line.operands line.extra)) =
        subst (λ (name : Text). IsRead (name ∷ (line.operands ++ extra_words line.extra)) (asks_of c (given_to c line.operands line.extra))) (sym known.0) (is_read c known.1 line.operands line.extra is) in
        subst (λ (asked : Result Task Text). IsRead (words_of line) asked) (sym (ap asked_at met)) found

-- so they ask for what it is to do
pub read : (words : List Text) (line : CommandLine) → Says words line → asked_by words ≡ no_line (task_of line)
unfolding asked_by
read words line says =
    let found = reads line says.operands in
    let none : faults_in words ≡ [] = ap faults_in says.words_are ∙ found.faultless in
    let met : asked_of (subcommand_of program_app words) ≡ task_of line = ap (λ (w : List Text). asked_of (subcommand_of program_app w)) says.words_are ∙ found.asks in
    λ i. when_none (none i) (no_line (met i))

-- ---- other first words

-- `help` alone asks for help, and with a word behind it for that of a command
pub help_asked : (rest : List Text) → asked_by (codes "help" ∷ rest) ≡ None
unfolding faults_in program_app commands_on_literals
help_asked rest = not_asked (codes "help" ∷ rest) DisplayHelp (InvalidSubcommand ∷ []) (first_faulty program_app (codes "help") rest DisplayHelp (InvalidSubcommand ∷ []) bare refl)

abbrev labels : List Command → Names
labels cs = map (λ (c : Command). (c.name, [])) cs ++ (codes "help", []) ∷ []

names_are : names_of (built program_app) ≡ labels every_command
unfolding commands_on_literals
names_are = ap (map label_of) commands

not_other : (name word : Text) → bytes_eq word name ≡ false → bytes_eq name word ≡ false
not_other name word other = by (bytes_eq name word) refl
  where
    by : (b : Bool) → bytes_eq name word ≡ b → b ≡ false
    by true same = absurd (true≢false (sym ((bytes_eq-Decides word name).1 (sym ((bytes_eq-Decides name word).0 same))) ∙ other))
    by false is = refl

none_answers : (w : Text) (cs : List Command) → find (λ (c : Command). bytes_eq w c.name) cs ≡ None → bytes_eq w (codes "help") ≡ false → find (answers_to w) (labels cs) ≡ None
none_answers w [] none help = rw (not_other (codes "help") w help) refl
none_answers w (c ∷ cs) none help = by (bytes_eq w c.name) refl none (λ others. none_answers w cs others help)
  where
    by : (b : Bool) → bytes_eq w c.name ≡ b → cond b (Some c) (find (λ (d : Command). bytes_eq w d.name) cs) ≡ None → (find (λ (d : Command). bytes_eq w d.name) cs ≡ None → find (answers_to w) (labels cs) ≡ None)
        → find (answers_to w) (labels (c ∷ cs)) ≡ None
    by true same is others = cc
    by false other is others = rw (not_other c.name w other) (others is)

none_in_table : (w : Text) → command_of w ≡ None → bytes_eq w (codes "help") ≡ false → find (answers_to w) (labels every_command) ≡ None
unfolding command_of
none_in_table w none help = none_answers w every_command none help

-- no argument of the program takes a word
no_place : step_fault (built program_app).top 1 nothing_held value ≡ UnknownArgument ∷ InvalidSubcommand ∷ []
unfolding program_app commands_on_literals
no_place = refl

-- an operand that names no command
pub unnamed_asked : (w : Text) (rest : List Text) → is_operand w ≡ true → command_of w ≡ None → bytes_eq w (codes "help") ≡ false → asked_by (w ∷ rest) ≡ None
unfolding faults_in
unnamed_asked w rest is none help = not_asked (w ∷ rest) UnknownArgument (InvalidSubcommand ∷ []) (first_faulty program_app w rest UnknownArgument (InvalidSubcommand ∷ []) bare
    (unknown (built program_app).top (names_of (built program_app)) w (plain w is) (ap (find (answers_to w)) names_are ∙ none_in_table w none help) ∙ no_place))

-- ---- any words

pub fits : (words : List Text) → list_all is_operand words ≡ true → Fits words
fits [] is = inr (not_asked [] MissingSubcommand [] no_words)
fits (w ∷ rest) is = let parts = both_true (is_operand w) _ is in by (command_of w) (bytes_eq w (codes "help")) refl refl parts.0 parts.1
  where
    by : (met : Option Command) (help : Bool) → command_of w ≡ met → bytes_eq w (codes "help") ≡ help → is_operand w ≡ true → list_all is_operand rest ≡ true → Fits (w ∷ rest)
    by (Some c) help met other w-is are = let known = known_of w c met in subst (λ (name : Text). Fits (name ∷ rest)) (sym known.0) (fits_behind c known.1 rest are)
    by None true none help w-is are = inr (subst (λ (name : Text). asked_by (name ∷ rest) ≡ None) (sym ((bytes_eq-Decides w (codes "help")).0 help)) (help_asked rest))
    by None false none help w-is are = inr (unnamed_asked w rest w-is none help)
