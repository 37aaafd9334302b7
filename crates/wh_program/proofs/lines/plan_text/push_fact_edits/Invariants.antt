use Rattle.std.proofs.Common.{◌≡◌, ◌++◌, take}
use Rattle.std.specs.Prelude.{flat_map}
use Rattle.wh_program.specs.PlanText.{fact_line}
use Rattle.wh_program.proofs.lines.plan_text.push_fact_edits.Given as goal

-- the lines of the edits so far were added
abbrev pub invariant-loop-edit : goal.invariant-loop-edit
invariant-loop-edit l = l.text.items ≡ l.initial.text.items ++ flat_map (fact_line l.table) (take l.edit-index l.edits)
