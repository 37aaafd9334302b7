use Rattle.std.proofs.Common.{◌≡◌, take}
use Rattle.wh_records.proofs.member.values_of_slots.Given as goal

abbrev pub invariant-loop-place : goal.invariant-loop-place
invariant-loop-place l = l.taken ≡ take l.place l.values
