use Rattle.std.proofs.Common.{◌≡◌, ◌++◌, take}
use Rattle.wh_program.specs.PlanText.{edit_lines}
use Rattle.wh_program.proofs.lines.plan_text.push_edits.Given as goal

-- the lines of the edits so far were added
abbrev pub invariant-loop-edit : goal.invariant-loop-edit
invariant-loop-edit g l = l.text.items ≡ l.initial.text.items ++ edit_lines l.table g.T.StoredTable.layout g.T.KeyedTable.bind (take l.edit-index l.edits)
