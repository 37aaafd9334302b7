use Rattle.std.proofs.Common.{◌≡◌, drop}
use Rattle.wh_plan.specs.Profiles.{with_combinations, said_of}
use Rattle.wh_plan.proofs.profiles.add_said.Given as goal

abbrev pub invariant-loop-change : goal.invariant-loop-change
invariant-loop-change l = with_combinations l.found.items (said_of l.types (drop l.change-index l.changes)) ≡ with_combinations l.fn.found.items (said_of l.types l.changes)
