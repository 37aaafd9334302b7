use Rattle.std.proofs.Common.{◌≡◌, ◌++◌, drop}
use Rattle.wh_plan.specs.Profiles.{unknown}
use Rattle.wh_plan.proofs.profiles.unknown.Given as goal

abbrev pub invariant-loop-texts : goal.invariant-loop-texts
invariant-loop-texts l = l.found.items ++ unknown l.known (drop l.texts-index l.combinations) ≡ unknown l.known l.combinations
