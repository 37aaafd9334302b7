use Rattle.std.proofs.Common.{◌≡◌, ◌++◌, map, drop, Bor}
use Rattle.wh_history.specs.declared.member.Change.{Change}
use Rattle.wh_records.proofs.member.copied.Given as goal

abbrev pub invariant-loop-change : goal.invariant-loop-change
invariant-loop-change l = l.copied.items ++ map (λ (c : Bor Change). c.now) (drop l.change-index l.changes) ≡ map (λ (c : Bor Change). c.now) l.changes
