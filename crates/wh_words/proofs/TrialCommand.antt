-- What clap makes of the words of a trial under a policy.
use Rattle.std.proofs.Common.{◌≡◌, [], ◌∷◌, refl, true, codes}
use Rattle.std.specs.List.{list_all}
use Rattle.clap.specs.Words.{Shape, Text}
use Rattle.clap.specs.Walk.{Walk}
use Rattle.wh_words.specs.CommandLine.{Under, given_to, is_operand}
use Rattle.wh_words.specs.Task.{asks_of, trial_command}
use Rattle.wh_words.proofs.CommandWords.{IsRead, end_of, read_by}
use Rattle.wh_words.proofs.Program.{IsFound, commands_on_literals, leaf}
use Rattle.wh_words.proofs.Reading.{Steps, flagged, goes_nowhere, goes_on, operands_go, start, takes, took}

abbrev trial_leaf : Shape
trial_leaf = leaf trial_command

pub trial_found : IsFound trial_command
unfolding commands_on_literals
trial_found = refl

module _ (d p q : Text) where
  abbrev before : Walk
  before = end_of trial_leaf (d ∷ p ∷ [])

  policy_flag : Steps trial_leaf before (codes "--policy") (flagged trial_leaf before (codes "--policy"))
  unfolding commands_on_literals
  policy_flag = record { walks = refl; passes = refl }

  pub trial_is_read : list_all is_operand (d ∷ p ∷ []) ≡ true → is_operand q ≡ true → IsRead (codes "trial" ∷ d ∷ p ∷ codes "--policy" ∷ q ∷ []) (asks_of trial_command (given_to trial_command (d ∷ p ∷ []) (Under q)))
  unfolding commands_on_literals
  trial_is_read are is =
      let asked = flagged trial_leaf before (codes "--policy") in
      let end = took trial_leaf asked q in
      read_by trial_command trial_found (d ∷ p ∷ codes "--policy" ∷ q ∷ []) end (given_to trial_command (d ∷ p ∷ []) (Under q))
      (operands_go trial_leaf start end (d ∷ p ∷ []) (codes "--policy" ∷ q ∷ []) are refl refl
      (goes_on trial_leaf before asked end (codes "--policy") (q ∷ []) policy_flag
      (goes_on trial_leaf asked end end q [] (takes trial_leaf asked q is refl refl refl) (goes_nowhere trial_leaf end)))) refl refl
