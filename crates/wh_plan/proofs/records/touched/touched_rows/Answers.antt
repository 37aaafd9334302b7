use Rattle.std.proofs.Common.{map}
use Rattle.std.specs.Prelude.{zip}
use Rattle.wh_history.specs.Shapes.{rendered_in, shape_of}
use Rattle.wh_plan.specs.MovedFacts.{pair_of}
use Rattle.wh_plan.proofs.MovedLists.{pairs_all}
use Rattle.wh_plan.proofs.records.touched.touched_rows.Goals as goal

pub returns : goal.returns
returns c =
    let stored = c.args.stored.now in
    let after = c.args.after.now in
    let rendered = rendered_in (shape_of c.args.dimension.now) in
    pairs_all rendered (map pair_of c.loop-place.touched.items) (zip stored (map rendered after)) stored after c.loop-place.place c.loop-place-test.false c.loop-place.invariant
