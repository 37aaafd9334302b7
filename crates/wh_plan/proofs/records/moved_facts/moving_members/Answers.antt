use Rattle.std.proofs.Common.{◌≡◌, ◌+◌, ◌-◌, ◌<◌, ◌==◌, ◌&&◌, cond, nat_lt, drop, length, map, Some, arith, sym, ◌∙◌, ap}
use Rattle.std.specs.Prelude.{option_map}
use Rattle.wh_history.specs.Shapes.{shape_of}
use Rattle.wh_plan.specs.MovedFacts.{pair_of}
use Rattle.wh_plan.specs.OnePass.{moving_of, owner_in}
use Rattle.wh_plan.proofs.OnePass.{owner_more}
use Rattle.wh_plan.proofs.records.moved_facts.moving_members.Goals as goal

pub loop-left-preserved : goal.loop-left-preserved
loop-left-preserved c =
    let touched = c.args.touched.now in
    let shape = shape_of c.args.dimension.now in
    let i = c.loop-left.left - 1 in
    let within : i < length touched = omega arith in
    let next : c.loop-left.left ≡ i + 1 = omega arith in
    let first = c.index-touched-left.result in
    record {
      within = omega arith;
      found = λ durable.
          c.in_ok-add.ensures durable
          ∙ ap (cond (nat_lt 0 first.stored.now.durable && (first.after.member.now.durable == durable)) (Some (moving_of shape (pair_of first))))
          (c.loop-left.invariant.found durable ∙ ap (λ n. option_map (moving_of shape) (owner_in (map pair_of (drop n touched)) durable)) next)
          ∙ sym (owner_more shape touched i first durable within c.index-touched-left.is);
    }
