use Rattle.std.proofs.Common.{◌≡◌, map, take}
use Rattle.wh_history.specs.declared.plan.Edit.TheVariants.{Put}
use Rattle.wh_sql.proofs.edits_in_parts.new_rows.Given as goal

abbrev pub invariant-loop-edit : goal.invariant-loop-edit
invariant-loop-edit g l = map Put (map (λ r. r.now) l.rows.items) ≡ take l.edit-index l.edits
