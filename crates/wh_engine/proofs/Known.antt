-- Commands that were accepted come again, however much came after them.
use Rattle.std.proofs.Common.{◌≡◌, List, [], ◌∷◌, ◌++◌, refl, ◌∙◌, ap}
use Rattle.std.specs.List.{AllByRecursion}
use Rattle.wh_history.specs.Accepted.{Accepted}
use Rattle.wh_history.specs.Tables.{Limits}
use Rattle.wh_admission.specs.Admission.{answer, accepted_after, accepted_after_all}
use Rattle.wh_engine.specs.Nights.{RefusesNone}
use Rattle.wh_admission.specs.declared.command.Command.{Command}
use Rattle.wh_admission.proofs.Known.{IsKnown, known_later, nothing_new, known_after}
use Rattle.wh_history.proofs.Lists.{all_front}

module _ (limits : Limits) where
  -- of which none was refused, all are known
  all_known : (commands : List Accepted) (sent : List Command) → RefusesNone limits commands sent → AllByRecursion (λ c. IsKnown (accepted_after_all limits commands sent) c) sent
  all_known commands [] none = tt
  all_known commands (c ∷ sent) none =
      let after = accepted_after limits commands c in
      (known_later limits after c sent (known_after limits commands c (answer limits commands c) refl none.0), all_known after sent none.1)

  all_repeat : (held : List Accepted) (sent : List Command) → AllByRecursion (λ c. IsKnown held c) sent → accepted_after_all limits held sent ≡ held
  all_repeat held [] known = refl
  all_repeat held (c ∷ sent) known = ap (λ list. accepted_after_all limits list sent) (nothing_new limits held c known.0) ∙ all_repeat held sent known.1

  pub none_of_first : (commands : List Accepted) (first more : List Command) → RefusesNone limits commands (first ++ more) → RefusesNone limits commands first
  none_of_first commands [] more none = tt
  none_of_first commands (c ∷ first) more none = (none.0, none_of_first (accepted_after limits commands c) first more none.1)

  -- sent again over the list after them and more, commands of which none was refused change nothing
  pub changes_nothing : (commands : List Accepted) (first more : List Command) → RefusesNone limits commands (first ++ more)
      → accepted_after_all limits (accepted_after_all limits commands (first ++ more)) first ≡ accepted_after_all limits commands (first ++ more)
  changes_nothing commands first more none =
      let held = accepted_after_all limits commands (first ++ more) in
      all_repeat held first (all_front (λ c. IsKnown held c) first more (all_known commands (first ++ more) none))
