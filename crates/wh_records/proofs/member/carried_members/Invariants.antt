use Rattle.std.proofs.Common.{◌≡◌, ◌++◌, drop}
use Rattle.std.specs.Prelude.{flat_map}
use Rattle.wh_records.specs.Carried.{member_records}
use Rattle.wh_records.proofs.member.carried_members.Given as goal

-- what was added, before that of the members that are left, is all
abbrev pub invariant-loop-member : goal.invariant-loop-member
invariant-loop-member l = l.found.items ++ flat_map (member_records l.kind l.types) (drop l.member-index l.members) ≡ flat_map (member_records l.kind l.types) l.members
