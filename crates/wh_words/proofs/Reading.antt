-- How clap reads the words of a command that has subcommands, whatever their names and arguments.
use Rattle.std.proofs.Common.{◌≡◌, ◌∙◌, [], ◌∷◌, ◌++◌, ℕ, List, refl, sym, ap, true, false, Bool, cond, codes, Option, Some, None, ◌&&◌, not}
use Rattle.std.specs.Prelude.{bytes_eq, drop, fold, find, is_some, option_map}
use Rattle.std.specs.List.{list_all}
use Rattle.std.specs.Option.{option_map_or}
use Rattle.clap.specs.declared.error.kind.ErrorKind.{ErrorKind}
use Rattle.clap.specs.declared.error.kind.ErrorKind.TheVariants.{DisplayHelp, InvalidSubcommand}
use Rattle.clap.specs.Words.{App, Kinds, Row, Rule, Shape, Text, built, subcommand_of}
use Rattle.clap.specs.Faults.{built_fault, check_fault, defaults_fault, entered_fault, fault_of, level_fault, other_fault, settle_fault, step_fault, turn_fault, walk_fault, word_fault}
use Rattle.clap.specs.Kinds.{or_else}
use Rattle.clap.specs.Lexer.{long_of}
use Rattle.clap.specs.Simple.{entered, label_of, names_of, rows_at}
use Rattle.clap.specs.Walk.{Held, Names, Step, Waiting, Walk, after_step, answers_to, finished, idle, long_or_other, nothing_held, option, plain_word, positional, settled, subcommand_or_other, value, walk, walk_from, walked, walked_from, word_met}
use Rattle.clap.proofs.FaultLemmas.{stopped_fault}
use Rattle.clap.proofs.SimpleLemmas.{label_first}
use Rattle.clap.proofs.WalkLemmas.{walk_stopped}
use Rattle.wh_words.specs.CommandLine.{is_operand}
use Rattle.wh_words.proofs.Operands.{IsPlain, plain}
use Rattle.wh_history.proofs.Basics.{both_true}

-- ---- operands

-- a word that is no option goes to what takes the next value
operand_met : (c : List Rule) (waiting : Waiting) (position : ℕ) (word : Text) (h : Held) → IsPlain word → word_met c [] false waiting position word h ≡ plain_word c waiting word h
operand_met c idle position word h is = rw (is.no_end, is.no_long, is.no_short) refl
operand_met c (option id) position word h is = rw (is.no_end, is.no_long, is.no_short) refl
operand_met c positional position word h is = rw (is.no_end, is.no_long, is.no_short) refl

-- and nothing is wrong with it as a flag
no_flag : (s : Shape) (waiting : Waiting) (word : Text) (h : Held) → IsPlain word → word_fault s [] false waiting word h ≡ []
no_flag s idle word h is = rw (is.no_end, is.no_long, is.no_short) refl
no_flag s (option id) word h is = rw (is.no_end, is.no_long, is.no_short) refl
no_flag s positional word h is = rw (is.no_end, is.no_long, is.no_short) refl

-- the walk after an operand, and what is wrong with it there
abbrev pub took : Shape → Walk → Text → Walk
took s w word = after_step s.rules word w (plain_word s.rules w.waiting word w.held).0 (plain_word s.rules w.waiting word w.held).1

abbrev pub taking_fault : Shape → Walk → Text → Kinds
taking_fault s w word = step_fault s w.position (plain_word s.rules w.waiting word w.held).0 (plain_word s.rules w.waiting word w.held).1

module _ (s : Shape) (w : Walk) (word : Text) (is : IsPlain word) (flows : w.is_trailing ≡ false) (goes : w.stopped ≡ None) where
  met_here : word_met s.rules [] w.is_trailing w.waiting w.position word w.held ≡ plain_word s.rules w.waiting word w.held
  met_here = ap (λ (b : Bool). word_met s.rules [] b w.waiting w.position word w.held) flows ∙ operand_met s.rules w.waiting w.position word w.held is

  pub walked_is : walked s.rules [] w word ≡ took s w word
  unfolding walked
  walked_is = ap (λ (o : Option (Text × List Text)). walked_from s.rules [] o w word) goes ∙ ap (λ (m : Held × Step). after_step s.rules word w m.0 m.1) met_here

  no_flag_here : word_fault s [] w.is_trailing w.waiting word w.held ≡ []
  no_flag_here = ap (λ (b : Bool). word_fault s [] b w.waiting word w.held) flows ∙ no_flag s w.waiting word w.held is

  pub turn_is : turn_fault s [] w word ≡ taking_fault s w word
  turn_is = ap (λ (o : Option (Text × List Text)). cond (is_some o) [] (or_else (word_fault s [] w.is_trailing w.waiting word w.held)
      (step_fault s w.position (word_met s.rules [] w.is_trailing w.waiting w.position word w.held).0 (word_met s.rules [] w.is_trailing w.waiting w.position word w.held).1))) goes
      ∙ ap (λ (k : Kinds). or_else k (step_fault s w.position (word_met s.rules [] w.is_trailing w.waiting w.position word w.held).0 (word_met s.rules [] w.is_trailing w.waiting w.position word w.held).1)) no_flag_here
      ∙ ap (λ (m : Held × Step). step_fault s w.position m.0 m.1) met_here

-- the walk after a flag
abbrev pub flagged : Shape → Walk → Text → Walk
flagged s w word = after_step s.rules word w (long_or_other s.rules w.waiting word (long_of word) w.held).0 (long_or_other s.rules w.waiting word (long_of word) w.held).1

-- no word ends the options, or enters a subcommand
abbrev pub flows : Shape → Walk → List Text → Bool
flows s w [] = true
flows s w (x ∷ xs) = not w.is_trailing && (not (is_some w.stopped) && flows s (took s w x) xs)

abbrev pub operands_fault : Shape → Walk → List Text → Kinds
operands_fault s w [] = []
operands_fault s w (x ∷ xs) = or_else (taking_fault s w x) (operands_fault s (took s w x) xs)

is_false : (b : Bool) → not b ≡ true → b ≡ false
is_false true h = cc
is_false false h = refl

is_none : {X : Type 0} (o : Option X) → not (is_some o) ≡ true → o ≡ None
is_none None h = refl
is_none (Some x) h = cc

pub or_else-assoc : (x y z : Kinds) → or_else x (or_else y z) ≡ or_else (or_else x y) z
or_else-assoc [] y z = refl
or_else-assoc (k ∷ ks) y z = refl

pub or_else-nil : (x : Kinds) → or_else x [] ≡ x
or_else-nil [] = refl
or_else-nil (k ∷ ks) = refl

-- operands, and then other words
pub operands_walked : (s : Shape) (w : Walk) (xs rest : List Text) → list_all is_operand xs ≡ true → flows s w xs ≡ true → fold (walked s.rules []) w (xs ++ rest) ≡ fold (walked s.rules []) (fold (took s) w xs) rest
operands_walked s w [] rest are on = refl
operands_walked s w (x ∷ xs) rest are on =
    let here = both_true (is_operand x) _ are in
    let runs = both_true (not w.is_trailing) _ on in
    let goes = both_true (not (is_some w.stopped)) _ runs.1 in
    ap (λ (v : Walk). fold (walked s.rules []) v (xs ++ rest)) (walked_is s w x (plain x here.0) (is_false _ runs.0) (is_none _ goes.0)) ∙ operands_walked s (took s w x) xs rest here.1 goes.1

pub operands_faulty : (s : Shape) (w : Walk) (xs rest : List Text) → list_all is_operand xs ≡ true → flows s w xs ≡ true
    → walk_fault s [] w (xs ++ rest) ≡ or_else (operands_fault s w xs) (walk_fault s [] (fold (took s) w xs) rest)
unfolding walk_fault
operands_faulty s w [] rest are on = refl
operands_faulty s w (x ∷ xs) rest are on =
    let here = both_true (is_operand x) _ are in
    let runs = both_true (not w.is_trailing) _ on in
    let goes = both_true (not (is_some w.stopped)) _ runs.1 in
    let turn = turn_is s w x (plain x here.0) (is_false _ runs.0) (is_none _ goes.0) in
    let step = walked_is s w x (plain x here.0) (is_false _ runs.0) (is_none _ goes.0) in
    ap (λ (k : Kinds). or_else k (walk_fault s [] (walked s.rules [] w x) (xs ++ rest))) turn
    ∙ ap (λ (v : Walk). or_else (taking_fault s w x) (walk_fault s [] v (xs ++ rest))) step
    ∙ ap (or_else (taking_fault s w x)) (operands_faulty s (took s w x) xs rest here.1 goes.1)
    ∙ or_else-assoc (taking_fault s w x) (operands_fault s (took s w x) xs) (walk_fault s [] (fold (took s) (took s w x) xs) rest)

-- ---- from one state through words to another, with no fault

pub record Goes (s : Shape) (from : Walk) (words : List Text) (end : Walk) : Type 0 where
  pub walks : fold (walked s.rules []) from words ≡ end
  pub passes : walk_fault s [] from words ≡ []

pub record Steps (s : Shape) (from : Walk) (word : Text) (end : Walk) : Type 0 where
  pub walks : walked s.rules [] from word ≡ end
  pub passes : turn_fault s [] from word ≡ []

pub goes_nowhere : (s : Shape) (w : Walk) → Goes s w [] w
unfolding walk_fault
goes_nowhere s w = record { walks = refl; passes = refl }

both_none : (x y : Kinds) → x ≡ [] → y ≡ [] → or_else x y ≡ []
both_none x y a b = λ i. or_else (a i) (b i)

pub goes_on : (s : Shape) (t u v : Walk) (word : Text) (words : List Text) → Steps s t word u → Goes s u words v → Goes s t (word ∷ words) v
unfolding walk_fault
goes_on s t u v word words step goes = record {
  walks = ap (λ (w : Walk). fold (walked s.rules []) w words) step.walks ∙ goes.walks;
  passes = both_none _ _ step.passes (ap (λ (w : Walk). walk_fault s [] w words) step.walks ∙ goes.passes);
}

-- an operand
pub takes : (s : Shape) (w : Walk) (word : Text) → is_operand word ≡ true → w.is_trailing ≡ false → w.stopped ≡ None → taking_fault s w word ≡ [] → Steps s w word (took s w word)
takes s w word is on here none = record { walks = walked_is s w word (plain word is) on here; passes = turn_is s w word (plain word is) on here ∙ none }

-- operands, and then other words
pub operands_go : (s : Shape) (w end : Walk) (xs rest : List Text) → list_all is_operand xs ≡ true → flows s w xs ≡ true → operands_fault s w xs ≡ [] → Goes s (fold (took s) w xs) rest end
    → Goes s w (xs ++ rest) end
operands_go s w end xs rest are on none goes = record {
  walks = operands_walked s w xs rest are on ∙ goes.walks;
  passes = operands_faulty s w xs rest are on ∙ both_none _ _ none goes.passes;
}

-- ---- a command's words

abbrev pub start : Walk
start = walk_from nothing_held

-- what is wrong at the end of the words
abbrev pub end_fault : Shape → Walk → Kinds
end_fault s end = or_else (settle_fault s.rules s.args_override_self end.held) (or_else (defaults_fault (settled s.rules end.held).rows s.rules) (check_fault s (finished s.rules end.held) false))

pub level_is : (s : Shape) (words : List Text) (end : Walk) → Goes s start words end → level_fault s [] nothing_held words false [] ≡ end_fault s end
level_is s words end goes = ap (λ (k : Kinds). or_else k (end_fault s (fold (walked s.rules []) start words))) goes.passes ∙ ap (end_fault s) goes.walks

-- where it is wrong before the others come
pub level_strays : (s : Shape) (xs rest : List Text) (k : ErrorKind) (ks : Kinds) → list_all is_operand xs ≡ true → flows s start xs ≡ true → operands_fault s start xs ≡ k ∷ ks
    → level_fault s [] nothing_held (xs ++ rest) false [] ≡ k ∷ ks
level_strays s xs rest k ks are on is =
    ap (λ (f : Kinds). or_else f (end_fault s (fold (walked s.rules []) start (xs ++ rest)))) (operands_faulty s start xs rest are on ∙ ap (λ (f : Kinds). or_else f (walk_fault s [] (fold (took s) start xs) rest)) is)

-- ---- the words after a command's name are left to it

-- the name is that of this command, once the program is built
pub record Meets (a : App) (name : Text) (s : Shape) : Type 0 where
  pub finds : find (λ (t : Shape). answers_to name (label_of t)) (built a).subs ≡ Some s
  pub called : s.name ≡ name
  pub no_help : bytes_eq name (codes "help") ≡ false

-- what is wrong with the program's own arguments, where a command was met
abbrev pub top_fault : Shape → Kinds
top_fault top = or_else (settle_fault top.rules top.args_override_self nothing_held)
    (or_else (defaults_fault (settled top.rules nothing_held).rows top.rules) (check_fault top (finished top.rules nothing_held) true))

module _ (a : App) (name : Text) (rest : List Text) (s : Shape) (meets : Meets a name s) where
  abbrev b : App
  b = built a

  known : option_map (λ p. p.0) (find (answers_to name) (names_of b)) ≡ Some name
  known = sym (label_first name b.subs) ∙ ap (option_map (λ (t : Shape). t.name)) meets.finds ∙ ap (λ (n : Text). Some n) meets.called

  abbrev turn_by : Option Text → Kinds
  turn_by o = or_else (other_fault b.top o name nothing_held)
      (step_fault b.top 1 (subcommand_or_other b.top.rules o idle 1 name nothing_held).0 (subcommand_or_other b.top.rules o idle 1 name nothing_held).1)

  turns : turn_fault b.top (names_of b) start name ≡ []
  turns = ap turn_by known ∙ ap (λ (c : Bool). or_else (cond (c && not b.top.disable_help_subcommand) (DisplayHelp ∷ InvalidSubcommand ∷ []) []) []) meets.no_help

  stops : walked b.top.rules (names_of b) start name ≡ record start { stopped = Some (name, []) }
  unfolding walked
  stops = ap (λ (o : Option Text). after_step b.top.rules name start (subcommand_or_other b.top.rules o idle 1 name nothing_held).0 (subcommand_or_other b.top.rules o idle 1 name nothing_held).1) known

  stopped-walk : walk b.top.rules (names_of b) nothing_held (name ∷ rest) ≡ record start { stopped = Some (name, rest) }
  stopped-walk = ap (λ (w : Walk). fold (walked b.top.rules (names_of b)) w rest) stops ∙ sym (walk_stopped b.top.rules (names_of b) start name [] rest)

  abbrev entered_by : Walk → Option (Text × List Row)
  entered_by w = entered b w.stopped

  met : entered_by (walk b.top.rules (names_of b) nothing_held (name ∷ rest)) ≡ Some (rows_at s rest)
  met = ap entered_by stopped-walk ∙ ap (λ (o : Option Shape). option_map (λ (t : Shape). rows_at t rest) o) meets.finds

  -- what is wrong, by what is wrong with each word and where the walk ends
  abbrev by_walk : Kinds → Walk → Kinds
  by_walk k w = or_else k (or_else (entered_fault b w.stopped) (or_else (settle_fault b.top.rules b.top.args_override_self w.held)
      (or_else (defaults_fault (settled b.top.rules w.held).rows b.top.rules) (check_fault b.top (finished b.top.rules w.held) (is_some (entered_by w))))))

  passed : walk_fault b.top (names_of b) start (name ∷ rest) ≡ []
  unfolding walk_fault
  passed = ap (λ (k : Kinds). or_else k (walk_fault b.top (names_of b) (walked b.top.rules (names_of b) start name) rest)) turns
      ∙ ap (λ (w : Walk). walk_fault b.top (names_of b) w rest) stops ∙ stopped_fault b.top (names_of b) start (name, []) rest

  abbrev by_command : Option Shape → Kinds
  by_command o = or_else (option_map_or (λ (t : Shape). level_fault t [] nothing_held rest false []) o [])
      (or_else (settle_fault b.top.rules b.top.args_override_self nothing_held)
      (or_else (defaults_fault (settled b.top.rules nothing_held).rows b.top.rules) (check_fault b.top (finished b.top.rules nothing_held) (is_some (option_map (λ (t : Shape). rows_at t rest) o)))))

  behind : built_fault b nothing_held (name ∷ rest) ≡ or_else (level_fault s [] nothing_held rest false []) (top_fault b.top)
  behind = ap (λ (k : Kinds). by_walk k (walk b.top.rules (names_of b) nothing_held (name ∷ rest))) passed ∙ ap (by_walk []) stopped-walk ∙ ap by_command meets.finds

  module _ (bare : a.top.no_binary_name ≡ true) where
    pub command_is : subcommand_of a (name ∷ rest) ≡ Some (rows_at s rest)
    command_is = ap (λ (c : Bool). entered_by (walk b.top.rules (names_of b) nothing_held (cond c (name ∷ rest) (drop 1 (name ∷ rest))))) bare ∙ met

    pub fault_is : top_fault b.top ≡ [] → fault_of a (name ∷ rest) ≡ level_fault s [] nothing_held rest false []
    fault_is none = ap (λ (c : Bool). built_fault b nothing_held (cond c (name ∷ rest) (drop 1 (name ∷ rest)))) bare ∙ behind
        ∙ ap (or_else (level_fault s [] nothing_held rest false [])) none ∙ or_else-nil (level_fault s [] nothing_held rest false [])

-- ---- a first word that is wrong itself

first_of_three : (x y z : Kinds) (k : ErrorKind) (ks : Kinds) → x ≡ k ∷ ks → or_else (or_else x y) z ≡ k ∷ ks
first_of_three x y z k ks is = ap (λ (f : Kinds). or_else (or_else f y) z) is

module _ (a : App) (word : Text) (rest : List Text) (k : ErrorKind) (ks : Kinds) (bare : a.top.no_binary_name ≡ true) (turns : turn_fault (built a).top (names_of (built a)) start word ≡ k ∷ ks) where
  pub first_faulty : fault_of a (word ∷ rest) ≡ k ∷ ks
  unfolding walk_fault
  first_faulty = ap (λ (c : Bool). built_fault (built a) nothing_held (cond c (word ∷ rest) (drop 1 (word ∷ rest)))) bare
      ∙ first_of_three _ _ _ k ks turns

-- it is no option, and names nothing
pub unknown : (top : Shape) (names : Names) (word : Text) → IsPlain word → find (answers_to word) names ≡ None → turn_fault top names start word ≡ step_fault top 1 nothing_held value
unknown top names word is none =
    ap (λ (o : Option (Text × List Text)). or_else (other_fault top (option_map (λ p. p.0) o) word nothing_held)
    (step_fault top 1 (subcommand_or_other top.rules (option_map (λ p. p.0) o) idle 1 word nothing_held).0 (subcommand_or_other top.rules (option_map (λ p. p.0) o) idle 1 word nothing_held).1)) none
    ∙ by
  where
    by : or_else (other_fault top None word nothing_held) (step_fault top 1 (subcommand_or_other top.rules None idle 1 word nothing_held).0 (subcommand_or_other top.rules None idle 1 word nothing_held).1) ≡ step_fault top 1 nothing_held value
    by = rw (is.no_end, is.no_long, is.no_short) refl
