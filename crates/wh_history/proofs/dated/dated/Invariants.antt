use Rattle.std.proofs.Common.{◌≡◌, ◌≤◌, map, drop, length, Bor}
use Rattle.wh_history.specs.Dated.{dated}
use Rattle.wh_history.specs.Laws.{ChangesHaveDays}
use Rattle.wh_history.specs.declared.member.Change.{Change}
use Rattle.wh_history.proofs.dated.dated.Given as goal

abbrev pub invariant-loop-left : goal.invariant-loop-left
invariant-loop-left l = record {
  within : l.left ≤ length l.changes;
  days : ChangesHaveDays (drop l.left l.changes);
  found : map (λ (c : Bor Change). c.now) l.found.items ≡ dated (drop l.left l.changes);
}

abbrev pub decreases-loop-left : goal.decreases-loop-left
decreases-loop-left l = l.left
