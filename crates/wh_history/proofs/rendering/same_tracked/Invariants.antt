use Rattle.std.proofs.Common.{◌≡◌, drop}
use Rattle.wh_policy.specs.Types.{is_tracked}
use Rattle.wh_history.specs.Slots.{columns_from, picked, picks, are_same}
use Rattle.wh_history.proofs.rendering.same_tracked.Given as goal

-- the slots that are left decide
abbrev pub invariant-loop-place : goal.invariant-loop-place
invariant-loop-place l = are_same (columns_from (picked is_tracked l.a) l.place (drop l.place l.types)) (columns_from (picked is_tracked l.b) l.place (drop l.place l.types)) ≡ are_same (picks is_tracked l.types l.a) (picks is_tracked l.types l.b)
