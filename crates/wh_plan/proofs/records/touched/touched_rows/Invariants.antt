use Rattle.std.proofs.Common.{◌≡◌, ◌++◌, map, drop}
use Rattle.std.specs.Prelude.{zip}
use Rattle.wh_history.specs.Shapes.{rendered_in, shape_of}
use Rattle.wh_plan.specs.MovedFacts.{pair_of}
use Rattle.wh_plan.proofs.records.touched.touched_rows.Given as goal

-- the pairs so far, with those of the members that are left, are all
abbrev pub invariant-loop-place : goal.invariant-loop-place
invariant-loop-place l =
    let rendered = rendered_in (shape_of l.dimension) in
    map pair_of l.touched.items ++ zip (drop l.place l.stored) (map rendered (drop l.place l.after)) ≡ zip l.stored (map rendered l.after)
