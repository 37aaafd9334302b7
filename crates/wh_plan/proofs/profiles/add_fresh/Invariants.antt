use Rattle.std.proofs.Common.{◌≡◌, ◌+◌, ◌++◌, map, drop}
use Rattle.wh_history.specs.Known.{numbered_from}
use Rattle.wh_plan.specs.Profiles.{row_of_profile}
use Rattle.wh_plan.proofs.profiles.add_fresh.Given as goal

abbrev pub invariant-loop-place : goal.invariant-loop-place
invariant-loop-place l = record {
  rows : l.rows.items ++ map row_of_profile (numbered_from (l.next + l.place) (drop l.place l.combinations)) ≡ map row_of_profile (numbered_from l.next l.combinations);
  known : l.known ++ numbered_from (l.next + l.place) (drop l.place l.combinations) ≡ l.fn.known ++ numbered_from l.next l.combinations;
}
