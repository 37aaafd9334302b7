use Rattle.std.proofs.Common.{◌≡◌, drop}
use Rattle.wh_query.specs.Asked.{condition_columns, have_readings}
use Rattle.wh_query.proofs.asked.conditions_read.Given as goal

-- those so far have readings, and what is left decides
abbrev pub invariant-conditions : goal.invariant-conditions
invariant-conditions l = have_readings l.policy (condition_columns (drop l.condition-index l.conditions)) ≡ have_readings l.policy (condition_columns l.conditions)
