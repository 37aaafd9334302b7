-- What clap makes of the words after a command's name.
use Rattle.std.proofs.Common.{◌≡◌, ◌∙◌, [], ◌∷◌, List, sym, ap, append-nil, true, Bool, Option, Some}
use Rattle.std.specs.Prelude.{Result, fold}
use Rattle.std.specs.List.{list_all}
use Rattle.clap.specs.Words.{Kinds, Row, Shape, Text, subcommand_of}
use Rattle.clap.specs.Faults.{walk_fault}
use Rattle.clap.specs.Walk.{Walk, finished, walked}
use Rattle.wh_words.specs.Asked.{asked_of, asked_to, faults_in}
use Rattle.wh_words.specs.CommandLine.{program_app, is_operand}
use Rattle.wh_words.specs.Given.{Given, given_by}
use Rattle.wh_words.specs.Task.{Task, Command, command_of, asks_of}
use Rattle.wh_words.proofs.Reading.{Goes, command_is, end_fault, fault_is, flows, goes_nowhere, level_is, operands_fault, operands_go, start, took}
use Rattle.wh_words.proofs.Program.{IsFound, bare, leaf, meets, top_faultless}

-- clap finds no fault in the words, and a command that asks for this
pub record IsRead (words : List Text) (asked : Result Task Text) : Type 0 where
  pub faultless : faults_in words ≡ []
  pub asks : asked_of (subcommand_of program_app words) ≡ asked

-- operands up to the last word
abbrev pub end_of : Shape → List Text → Walk
end_of s = fold (took s) start

pub goes_by : (s : Shape) (xs : List Text) → list_all is_operand xs ≡ true → flows s start xs ≡ true → operands_fault s start xs ≡ [] → Goes s start xs (end_of s xs)
goes_by s xs are on none =
    let whole = operands_go s start (end_of s xs) xs [] are on none (goes_nowhere s (end_of s xs)) in
    record { walks = ap (fold (walked s.rules []) start) (sym (append-nil xs)) ∙ whole.walks; passes = ap (walk_fault s [] start) (sym (append-nil xs)) ∙ whole.passes }

module _ (c : Command) (found : IsFound c) where
  abbrev s : Shape
  s = leaf c

  abbrev given_at : Walk → Given
  given_at end = given_by (finished s.rules end.held)

  pub asked_at : (rows : List Row) → asked_of (Some (s.name, rows)) ≡ asks_of c (given_by rows)
  asked_at rows = ap (λ (name : Text). asked_to (command_of name) (given_by rows)) (ap (λ o. o.1) found) ∙ ap (λ (met : Option Command). asked_to met (given_by rows)) (ap (λ o. o.3) found)

  -- where the walk over its words has no fault, and there is none at its end
  pub read_by : (words : List Text) (end : Walk) (given : Given) → Goes s start words end → end_fault s end ≡ [] → asks_of c (given_at end) ≡ asks_of c given → IsRead (c.name ∷ words) (asks_of c given)
  unfolding faults_in
  read_by words end given goes none is = record {
    faultless = fault_is program_app c.name words s (meets c found) bare top_faultless ∙ level_is s words end goes ∙ none;
    asks = ap asked_of (command_is program_app c.name words s (meets c found) bare) ∙ ap (λ (w : Walk). asked_of (Some (s.name, finished s.rules w.held))) goes.walks ∙ asked_at (finished s.rules end.held) ∙ is;
  }

module _ (c : Command) where
  -- what operands come to: whether none of them ends the options, what is wrong with one, what is wrong with them all, and what they ask for
  abbrev pub outcome : List Text → Bool × Kinds × Kinds × Result Task Text
  outcome xs = (flows (leaf c) start xs, operands_fault (leaf c) start xs, end_fault (leaf c) (end_of (leaf c) xs), asks_of c (given_by (finished (leaf c).rules (end_of (leaf c) xs).held)))

  pub operands_read : IsFound c → (xs : List Text) (given : Given) → list_all is_operand xs ≡ true → outcome xs ≡ (true, [], [], asks_of c given) → IsRead (c.name ∷ xs) (asks_of c given)
  operands_read found xs given are is = read_by c found xs (end_of (leaf c) xs) given (goes_by (leaf c) xs are (ap (λ o. o.0) is) (ap (λ o. o.1) is)) (ap (λ o. o.2) is) (ap (λ o. o.3) is)
