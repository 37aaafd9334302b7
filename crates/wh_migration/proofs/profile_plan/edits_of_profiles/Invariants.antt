use Rattle.std.proofs.Common.{◌≡◌, ◌++◌}
use Rattle.wh_migration.specs.Migration.{profile_edit_at, edits_of_profiles}
use Rattle.wh_migration.proofs.NumberedPlans.{from_to}
use Rattle.wh_migration.proofs.profile_plan.edits_of_profiles.Given as goal

-- the edits so far and those of the places that are left are all
abbrev pub invariant-loop-place : goal.invariant-loop-place
invariant-loop-place l = l.edits.items ++ from_to (profile_edit_at l.stored l.rows) l.place l.end ≡ edits_of_profiles l.stored l.rows
