use Rattle.std.proofs.Common.{◌≡◌, ◌∷◌, ◌++◌, [], List, length, suc, map, sym, ap, subst, ◌∙◌}
use Rattle.std.specs.List.Sorted.{IsPermutation}
use Rattle.std.proofs.lemmas.Result.{IfOk-weaker}
use Rattle.wh_rows.specs.declared.rows.VoidRow.{VoidRow}
use Rattle.wh_plan.specs.Edits.{AreEdits}
use Rattle.wh_plan.specs.VoidEdits.{void_edits, void_of}
use Rattle.wh_plan.proofs.FoundCommands.{command_number}
use Rattle.wh_plan.proofs.VoidPlans.{void_plan}
use Rattle.wh_plan.proofs.voids.plan_voids.Goals as goal

pub returns-clause-edits : goal.returns-clause-edits
returns-clause-edits c commands sent is second at all once =
    let command = c.args.command in
    let lines = c.args.lines.now in
    let rows = c.sort_by_line.new.rows.items in
    let number = command_number (commands ++ sent ∷ []) (suc (length commands)) command at in
    let made : c.in_ok-rows.rows.items ≡ map (void_of (suc (length commands))) lines = c.in_ok-rows.ensures ∙ ap (λ n. map (void_of n) lines) number in
    let moved = subst (λ (rs : List VoidRow). IsPermutation rs rows) made c.sort_by_line.ensures.same in
    IfOk-weaker c.void_edits.result (λ edits. edits ≡ void_edits command rows) (AreEdits commands (commands ++ sent ∷ []))
    (λ edits are. subst (AreEdits commands (commands ++ sent ∷ [])) (sym are) (void_plan commands sent lines is all once second command rows at moved c.sort_by_line.ensures.sorted))
    c.void_edits.ensures
