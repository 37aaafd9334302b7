use Rattle.std.proofs.Common.{arith}
use Rattle.wh_history.proofs.Plans.{keys_more}
use Rattle.wh_history.proofs.plan.add_keys.Goals as goal

pub loop-left-preserved : goal.loop-left-preserved
loop-left-preserved c = record {
  within = omega arith;
  added = keys_more c.args.rows.now c.loop-left.left c.index-rows-left.result c.loop-left.keys.keys c.args.keys.now.keys c.insert.new.self.keys (omega arith) c.loop-left.invariant.within c.loop-left.invariant.added c.in_ok-insert.ensures.keys;
}
