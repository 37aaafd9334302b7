use Rattle.std.proofs.Common.{◌≡◌, drop}
use Rattle.wh_plan.specs.Profiles.{with_combinations, said_by}
use Rattle.wh_plan.proofs.profiles.add_said_by.Given as goal

abbrev pub invariant-loop-member : goal.invariant-loop-member
invariant-loop-member l = with_combinations l.found.items (said_by l.types (drop l.member-index l.members)) ≡ with_combinations l.fn.found.items (said_by l.types l.members)
