use Rattle.std.proofs.Common.{◌≡◌, take}
use Rattle.wh_history.proofs.member.Changes.copy.Given as goal

abbrev pub invariant-loop-change : goal.invariant-loop-change
invariant-loop-change l = l.copied ≡ take l.change-index l.self
