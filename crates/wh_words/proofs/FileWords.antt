-- Words behind a command's name that begin with a file ask for what is about that file.
use Rattle.std.proofs.Common.{◌≡◌, ◌∙◌, ◌⊎◌, inl, inr, refl, sym, ap, subst, arith, ℕ, Bool, cond, true, false, not, ◌==◌, List, [], ◌∷◌, length, codes, Option, Some, None, Ok, Err}
use Rattle.std.specs.Prelude.{Result, IfOk, bytes_eq, find, fold, option_map, slice_get, unwrap_or}
use Rattle.std.specs.Str.{chars}
use Rattle.std.proofs.lemmas.Bool.{eqb-true}
use Rattle.std.proofs.lemmas.Slice.Eq.{bytes_eq-Decides}
use Rattle.clap.specs.Words.{Kinds, Rule, Shape, Text, built, first_of, subcommand_of}
use Rattle.clap.specs.Faults.{bundle_fault, bundle_step_fault, other_fault, flags_fault, long_fault, short_fault, step_fault, turn_fault}
use Rattle.clap.specs.Kinds.{or_else}
use Rattle.clap.specs.Lexer.{long_of, name_and_value, short_of}
use Rattle.clap.specs.Simple.{filled, help_rule, names_of, rows_at, version_rule, with_index}
use Rattle.clap.specs.Walk.{Held, Walk, after_flag, answers_to, bundle_met, bundle_step, finished, has_long, has_short, idle, nothing_held, plain, short_word, subcommand_or_other, walked}
use Rattle.clap.specs.declared.error.kind.ErrorKind.{ErrorKind}
use Rattle.clap.specs.declared.error.kind.ErrorKind.TheVariants.{DisplayHelp, DisplayVersion, InvalidSubcommand, MissingSubcommand, TooManyValues, UnknownArgument}
use Rattle.wh_words.specs.Asked.{asked_by, asked_of, faults_in, no_line, when_none}
use Rattle.wh_words.specs.CommandLine.{is_operand, program_app}
use Rattle.wh_day.specs.Reading.{◌>>=◌}
use Rattle.wh_words.specs.Given.{Given, given_by, word_for}
use Rattle.wh_words.specs.Task.{Task, Over, Work, Asks, Alone, OfFile, Command, FILE, asked, asks_of, command_of, trial_command, warehouse_of}
use Rattle.wh_words.proofs.CommandFaults.{not_asked}
use Rattle.wh_words.proofs.CommandWords.{asked_at}
use Rattle.wh_words.proofs.EachWord.{trial_about, trial_known}
use Rattle.wh_words.proofs.FirstOperand.{first_stays}
use Rattle.wh_words.proofs.GivenLemmas.{first_given}
use Rattle.wh_words.proofs.Operands.{plain as plain_word}
use Rattle.wh_words.proofs.PlainWords.{help_asked, known_of, unnamed_asked}
use Rattle.wh_words.proofs.Program.{bare, commands_on_literals, leaf, meets}
use Rattle.wh_words.proofs.Reading.{command_is, first_faulty, start, walked_is}
use Rattle.wh_words.proofs.Words.{About, IsTrial, Known, behind_file, first_operand}

asked_task : (words : List Text) (task : Task) → asked_by words ≡ Some task → no_line (asked_of (subcommand_of program_app words)) ≡ Some task
unfolding asked_by
asked_task words task = by (faults_in words)
  where
    by : (faults : Kinds) → when_none faults (no_line (asked_of (subcommand_of program_app words))) ≡ Some task → no_line (asked_of (subcommand_of program_app words)) ≡ Some task
    by [] is = is
    by (k ∷ ks) is = cc

asked_so : (P : Task → Type 0) (r : Result Task Text) (task : Task) → IfOk r P → no_line r ≡ Some task → P task
asked_so P (Ok t) task so is = let same : t ≡ task = cc in subst P same so
asked_so P (Err e) task so is = cc

-- what the words behind a command's name ask for
asks_so : (c : Command) (known : Known c) (words : List Text) (task : Task) (P : Task → Type 0) → asked_by (c.name ∷ words) ≡ Some task → IfOk (asks_of c (given_by (rows_at (leaf c) words).1)) P → P task
asks_so c known words task P asked so =
    let met : asked_of (subcommand_of program_app (c.name ∷ words)) ≡ asks_of c (given_by (rows_at (leaf c) words).1) =
    ap asked_of (command_is program_app c.name words (leaf c) (meets c known.found) bare) ∙ asked_at c known.found (rows_at (leaf c) words).1 in
    asked_so P (asks_of c (given_by (rows_at (leaf c) words).1)) task so (sym (ap no_line met) ∙ asked_task (c.name ∷ words) task asked)

-- ---- a first word that is an option

-- there is a fault
abbrev IsFaulty : Kinds → Type 0
IsFaulty faults = (k : ErrorKind) × (ks : Kinds) × (faults ≡ k ∷ ks)

first_faults : (x y : Kinds) → IsFaulty x → IsFaulty (or_else x y)
first_faults x y (k, ks, is) = (k, ks, ap (λ (f : Kinds). or_else f y) is)

abbrev top : Shape
top = (built program_app).top

-- the options of the program itself
abbrev help_built : Rule
help_built = with_index 1 (filled help_rule)

abbrev version_built : Rule
version_built = with_index 1 (filled version_rule)

abbrev either_option : Bool → Bool → Option Rule
either_option a b = cond a (Some help_built) (cond b (Some version_built) None)

long_by : (a b : Bool) (v : Option Text) → IsFaulty (long_fault top.rules top.args_override_self (either_option a b) v nothing_held)
unfolding program_app commands_on_literals
long_by true b None = (DisplayHelp, [], refl)
long_by true b (Some v) = (TooManyValues, [], refl)
long_by false true None = (DisplayVersion, [], refl)
long_by false true (Some v) = (TooManyValues, [], refl)
long_by false false v = (UnknownArgument, [], refl)

short_by : (a b : Bool) (rest : Text) (next : Held → Kinds) → IsFaulty (short_fault top.rules top.args_override_self (either_option a b) rest nothing_held next)
unfolding program_app commands_on_literals
short_by true b rest next = (DisplayHelp, [], refl)
short_by false true rest next = (DisplayVersion, [], refl)
short_by false false rest next = (UnknownArgument, [], refl)

long_turns : (x : ℕ) (xs : Text) → IsFaulty (turn_fault top (names_of (built program_app)) start (45 ∷ 45 ∷ x ∷ xs))
unfolding program_app commands_on_literals
long_turns x xs = first_faults _ _ (long_by (has_long help_built (name_and_value (x ∷ xs)).0) (has_long version_built (name_and_value (x ∷ xs)).0) (name_and_value (x ∷ xs)).1)

-- what is wrong with short options, by the first
abbrev bundle_turn : Option ℕ → ℕ → Text → Kinds
bundle_turn first x xs =
    let word = 45 ∷ x ∷ xs in
    let met = bundle_step top.rules first (x ∷ xs) 0 plain nothing_held (bundle_met top.rules (length xs)) in
    let step = after_flag top.rules idle word met.0 met.1 in
    or_else (bundle_step_fault top.rules top.args_override_self first (x ∷ xs) 0 nothing_held (flags_fault top.rules top.args_override_self (length xs))) (step_fault top 1 step.0 step.1)

bundle_by : (first : Option ℕ) (x : ℕ) (xs : Text) → IsFaulty (bundle_turn first x xs)
unfolding program_app commands_on_literals
bundle_by None x xs = (UnknownArgument, InvalidSubcommand ∷ [], refl)
bundle_by (Some c) x xs = first_faults _ _ (short_by (has_short help_built c) (has_short version_built c) _ _)

no_name : (rest : Text) → find (answers_to (45 ∷ rest)) (names_of (built program_app)) ≡ None
unfolding program_app commands_on_literals
no_name rest = refl

abbrev short_turn : Text → Text → Kinds
short_turn word flags =
    or_else (bundle_fault top.rules top.args_override_self flags nothing_held) (step_fault top 1 (short_word top.rules idle word flags nothing_held).0 (short_word top.rules idle word flags nothing_held).1)

abbrev turn_by : Text → Option (Text × List Text) → Kinds
turn_by word met = or_else (other_fault top (option_map (λ p. p.0) met) word nothing_held)
    (step_fault top 1 (subcommand_or_other top.rules (option_map (λ p. p.0) met) idle 1 word nothing_held).0 (subcommand_or_other top.rules (option_map (λ p. p.0) met) idle 1 word nothing_held).1)

turns_short : (word flags : Text) → bytes_eq word (45 ∷ 45 ∷ []) ≡ false → long_of word ≡ None → short_of word ≡ Some flags → turn_by word None ≡ short_turn word flags
turns_short word flags no_end no_long is_short = rw (no_end, no_long, is_short) refl

bundle_is : (x : ℕ) (xs : Text) → short_turn (45 ∷ x ∷ xs) (x ∷ xs) ≡ bundle_turn (slice_get (chars (x ∷ xs)) 0) x xs
unfolding bundle_met flags_fault
bundle_is x xs = refl

short_turns : (x : ℕ) (xs : Text) → (x == 45) ≡ false → turn_fault top (names_of (built program_app)) start (45 ∷ x ∷ xs) ≡ bundle_turn (slice_get (chars (x ∷ xs)) 0) x xs
short_turns x xs other = ap (turn_by (45 ∷ x ∷ xs)) (no_name (x ∷ xs)) ∙ turns_short (45 ∷ x ∷ xs) (x ∷ xs) (rw other refl) (rw other refl) (rw other refl) ∙ bundle_is x xs

option_none : (word : Text) (more : List Text) → IsFaulty (turn_fault top (names_of (built program_app)) start word) → asked_by (word ∷ more) ≡ None
unfolding faults_in
option_none word more (k, ks, is) = not_asked (word ∷ more) k ks (first_faulty program_app word more k ks bare is)

-- two hyphens alone, and then what names nothing
ends_none : (more : List Text) → asked_by ((45 ∷ 45 ∷ []) ∷ more) ≡ None
unfolding faults_in program_app commands_on_literals
ends_none [] = not_asked _ MissingSubcommand [] refl
ends_none (x ∷ more) = not_asked _ UnknownArgument (InvalidSubcommand ∷ []) refl

hyphen_turns : turn_fault top (names_of (built program_app)) start (45 ∷ []) ≡ UnknownArgument ∷ InvalidSubcommand ∷ []
unfolding program_app commands_on_literals
hyphen_turns = refl

long_none : (rest : Text) (more : List Text) → asked_by ((45 ∷ 45 ∷ rest) ∷ more) ≡ None
long_none [] more = ends_none more
long_none (x ∷ xs) more = option_none (45 ∷ 45 ∷ x ∷ xs) more (long_turns x xs)

hyphen_none : (rest : Text) (more : List Text) → asked_by ((45 ∷ rest) ∷ more) ≡ None
hyphen_none [] more = option_none (45 ∷ []) more (UnknownArgument, InvalidSubcommand ∷ [], hyphen_turns)
hyphen_none (x ∷ xs) more = by (x == 45) refl
  where
    by : (b : Bool) → (x == 45) ≡ b → asked_by ((45 ∷ x ∷ xs) ∷ more) ≡ None
    by true is = subst (λ (c : ℕ). asked_by ((45 ∷ c ∷ xs) ∷ more) ≡ None) (sym (eqb-true x 45 is)) (long_none xs more)
    by false other = option_none (45 ∷ x ∷ xs) more (subst IsFaulty (sym (short_turns x xs other)) (bundle_by (slice_get (chars (x ∷ xs)) 0) x xs))

no_operand : (b : Bool) → not b ≡ false → b ≡ true
no_operand true h = refl
no_operand false h = cc

pub option_asked : (word : Text) (more : List Text) → is_operand word ≡ false → asked_by (word ∷ more) ≡ None
option_asked [] more is = cc
option_asked (b ∷ rest) more is = subst (λ (c : ℕ). asked_by ((c ∷ rest) ∷ more) ≡ None) (sym (eqb-true b 45 (no_operand (b == 45) is))) (hyphen_none rest more)

-- ---- a first word that is none

none_some : {X : Type 0} (x : X) → None ≡ Some x → ⊥
none_some x e = cc

module _ (file : Text) where
  -- whatever these words ask for is about the file, or a trial
  abbrev pub Keeps : List Text → Type 0
  Keeps words = (task : Task) → asked_by words ≡ Some task → (warehouse_of task ≡ Some file) ⊎ IsTrial task

  pub none_keeps : (words : List Text) → asked_by words ≡ None → Keeps words
  none_keeps words none = λ task asked. absurd (none_some task (sym none ∙ asked))

  alone_keeps : (c : Command) → Known c → (words : List Text) → ((given : Given) → IfOk (asks_of c given) IsTrial) → Keeps (c.name ∷ words)
  alone_keeps c known words alone = λ task asked. inr (asks_so c known words task IsTrial asked (alone (given_by (rows_at (leaf c) words).1)))

  pub trial_keeps : (words : List Text) → Keeps (codes "trial" ∷ words)
  trial_keeps words = alone_keeps trial_command trial_known words trial_about

  -- what is to be done with a file is about it
  over_file : (given : Given) (asks : Given → Result Work Text) → word_for given FILE ≡ file → IfOk (asked (OfFile asks) given) (λ task. warehouse_of task ≡ Some file)
  over_file given asks is = by (asks given)
    where
      by : (r : Result Work Text) → IfOk (r >>= λ work. Ok (Over (word_for given FILE) work)) (λ task. warehouse_of task ≡ Some file)
      by (Ok work) = ap (λ (w : Text). Some w) is
      by (Err line) = tt

  module _ (plain : is_operand file ≡ true) where
    -- clap reads the first operand as the file, whatever words follow
    file_is : (c : Command) → first_operand c file ≡ (true, Some file, behind_file file) → (rest : List Text) → word_for (given_by (rows_at (leaf c) (file ∷ rest)).1) FILE ≡ file
    file_is c first rest =
        let s = leaf c in
        let at_file : walked s.rules [] start file ≡ behind_file file = walked_is s start file (plain_word file plain) refl refl ∙ ap (λ o. o.2) first in
        let walk = ap (λ (w : Walk). finished s.rules (fold (walked s.rules []) w rest).held) at_file in
        let rows_is : first_of FILE (rows_at s (file ∷ rest)).1 ≡ Some file =
        ap (first_of FILE) walk ∙ first_stays s.rules FILE file (ap (λ o. o.0) first) (ap (λ o. o.1) first) (behind_file file) rest (record { held = inl (refl, refl); waits_so = tt; later = omega arith; goes = refl }) in
        ap (λ (o : Option Text). unwrap_or o []) (sym (first_given (rows_at s (file ∷ rest)).1 FILE) ∙ rows_is)

    command_keeps : (c : Command) → Known c → (asks : Asks) → c.asks ≡ asks → About c asks → (rest : List Text) → Keeps (c.name ∷ file ∷ rest)
    command_keeps c known (Alone asks) is about rest = alone_keeps c known (file ∷ rest) (subst (λ (a : Asks). (given : Given) → IfOk (asked a given) IsTrial) (sym is) about)
    command_keeps c known (OfFile asks) is about rest = λ task given.
        let found = given_by (rows_at (leaf c) (file ∷ rest)).1 in
        inl (asks_so c known (file ∷ rest) task (λ t. warehouse_of t ≡ Some file) given (subst (λ (a : Asks). IfOk (asked a found) (λ t. warehouse_of t ≡ Some file)) (sym is) (over_file found asks (file_is c (about file) rest))))

    -- behind any first word that is no option
    pub behind_keeps : (w : Text) (rest : List Text) → is_operand w ≡ true → Keeps (w ∷ file ∷ rest)
    behind_keeps w rest is = by (command_of w) (bytes_eq w (codes "help")) refl refl
      where
        by : (met : Option Command) (help : Bool) → command_of w ≡ met → bytes_eq w (codes "help") ≡ help → Keeps (w ∷ file ∷ rest)
        by (Some c) help met other = let known = known_of w c met in subst (λ (name : Text). Keeps (name ∷ file ∷ rest)) (sym known.0) (command_keeps c known.1 c.asks refl known.1.about rest)
        by None true none help = none_keeps (w ∷ file ∷ rest) (subst (λ (name : Text). asked_by (name ∷ file ∷ rest) ≡ None) (sym ((bytes_eq-Decides w (codes "help")).0 help)) (help_asked (file ∷ rest)))
        by None false none help = none_keeps (w ∷ file ∷ rest) (unnamed_asked w (file ∷ rest) is none help)
