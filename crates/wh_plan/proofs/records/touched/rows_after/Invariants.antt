use Rattle.std.proofs.Common.{◌≡◌, ◌++◌}
use Rattle.std.specs.Prelude.{flat_map}
use Rattle.wh_plan.specs.declared.records.touched.TouchedMember.{TouchedMember}
use Rattle.wh_plan.proofs.records.touched.rows_after.Given as goal

abbrev pub invariant-loop-member : goal.invariant-loop-member
invariant-loop-member l =
    let each = λ (t : TouchedMember). t.after.rows.items in
    l.found.items ++ flat_map each l.member-iterator.rest.items ≡ flat_map each l.fn.touched.items
