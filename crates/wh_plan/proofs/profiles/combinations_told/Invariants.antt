use Rattle.std.proofs.Common.{◌≡◌, [], drop}
use Rattle.wh_plan.specs.Profiles.{with_combinations, told_of}
use Rattle.wh_plan.proofs.profiles.combinations_told.Given as goal

abbrev pub invariant-loop-incoming : goal.invariant-loop-incoming
invariant-loop-incoming l = with_combinations l.found.items (told_of l.types (drop l.incoming-index l.records)) ≡ with_combinations [] (told_of l.types l.records)
