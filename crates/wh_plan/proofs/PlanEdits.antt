-- A batch's own row.
use Rattle.std.proofs.Common.{◌≡◌, suc, ◌-◌, List, [], ◌∷◌, ◌++◌, length, Some, sym, ◌∙◌, ap, arith, length-append}
use Rattle.std.specs.Prelude.{filter_map}
use Rattle.std.specs.List.{range_with_len, cons_option}
use Rattle.wh_history.specs.Accepted.{Accepted}
use Rattle.wh_rows.specs.declared.rows.CommandRow.{CommandRow}
use Rattle.wh_model.specs.Defined.{command_at}
use Rattle.wh_plan.specs.BatchRows.{numbers_after}
use Rattle.wh_plan.proofs.FoundCommands.{command_number}

module _ (commands : List Accepted) (c : Accepted) (own : CommandRow) (at : command_at (commands ++ c ∷ []) (suc (length commands)) ≡ Some own) where
  abbrev after : List Accepted
  after = commands ++ c ∷ []

  one_more : length after ≡ suc (length commands)
  one_more = length-append commands (c ∷ []) ∙ omega arith

  pub own_number : own.number ≡ length (commands ++ c ∷ [])
  own_number = command_number after (suc (length commands)) own at ∙ sym one_more

  pub own_row : own ∷ [] ≡ filter_map (command_at (commands ++ c ∷ [])) (numbers_after (length commands) (length (commands ++ c ∷ [])))
  own_row =
      let one : length after - length commands ≡ 1 = let more = one_more in omega arith in
      let numbers : numbers_after (length commands) (length after) ≡ suc (length commands) ∷ [] = ap (range_with_len (suc (length commands))) one in
      sym (ap (filter_map (command_at after)) numbers ∙ ap (λ o. cons_option o []) at)
