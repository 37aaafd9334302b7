use Rattle.std.proofs.Common.{◌≡◌, ◌++◌}
use Rattle.wh_policy.specs.Years.{end_key}
use Rattle.wh_migration.specs.Migration.{edit_on, edits_of_days}
use Rattle.wh_migration.proofs.NumberedPlans.{from_to}
use Rattle.wh_migration.proofs.calendar_plan.calendar_edits.Given as goal

-- the edits so far and those of the numbers that are left are all
abbrev pub invariant-loop-number : goal.invariant-loop-number
invariant-loop-number l = record {
  to : l.number-end ≡ end_key l.newer.years;
  whole : l.edits.items ++ from_to (edit_on l.older l.newer) l.number l.number-end ≡ edits_of_days l.older l.newer;
}
