-- A command has one edit of the table of commands: it puts its own row.
use Rattle.std.proofs.Common.{◌≡◌, ℕ, ◌<◌, suc, List, [], ◌∷◌, ◌++◌, length, map, Some, sym, subst}
use Rattle.std.specs.Cmp.{nat_cmp_is}
use Rattle.std.specs.FinMap.{nat_cmp-IsAntisymmetric}
use Rattle.std.specs.Ordering.{nat_cmp}
use Rattle.std.specs.declared.cmp.Ordering.TheVariants.{Less}
use Rattle.std.proofs.lemmas.Cmp.{nat_cmp_total}
use Rattle.wh_history.specs.Accepted.{Accepted}
use Rattle.wh_history.specs.declared.plan.Edit.TheVariants.{Put}
use Rattle.wh_rows.specs.Rows as row
use Rattle.wh_rows.specs.declared.rows.CommandRow.{CommandRow}
use Rattle.wh_model.specs.Defined.{command_at}
use Rattle.wh_model.proofs.GrownCommands.{command_keyed, command_grows, none_past}
use Rattle.wh_plan.specs.Edits.{IsTablePlan}
use Rattle.wh_plan.proofs.PlanEdits.{own_row}
use Rattle.wh_plan.proofs.Plans.{grown_plan}

pub less : (n m : ℕ) → n < m → nat_cmp n m ≡ Less
less n m h = sym (nat_cmp_is n m Less h)

pub own_row_plan : (commands : List Accepted) (c : Accepted) (own : CommandRow) → command_at (commands ++ c ∷ []) (suc (length commands)) ≡ Some own
    → IsTablePlan row.command (command_at commands) (command_at (commands ++ c ∷ [])) (Put own ∷ [])
own_row_plan commands c own stands =
    subst (λ rows. IsTablePlan row.command (command_at commands) (command_at (commands ++ c ∷ [])) (map Put rows)) (sym (own_row commands c own stands))
    (grown_plan row.command nat_cmp_total nat_cmp-IsAntisymmetric (command_at (commands ++ c ∷ [])) (command_keyed (commands ++ c ∷ [])) (λ n. n) less (command_at commands) (length commands) (length (commands ++ c ∷ []))
    (none_past commands c commands) (command_grows commands c))
