use Rattle.std.proofs.Common.{◌≡◌, ◌++◌, drop}
use Rattle.std.specs.Prelude.{filter_map}
use Rattle.wh_plan.specs.NewRows.{new_member}
use Rattle.wh_plan.proofs.new_rows.new_member_rows.Given as goal

abbrev pub invariant-loop-member : goal.invariant-loop-member
invariant-loop-member l = l.rows.items ++ filter_map (new_member l.dim l.members_before) (drop l.member-index l.touched) ≡ filter_map (new_member l.dim l.members_before) l.touched
