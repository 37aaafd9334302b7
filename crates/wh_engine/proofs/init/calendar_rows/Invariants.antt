use Rattle.std.proofs.Common.{◌≡◌, ◌≤◌, ◌++◌}
use Rattle.wh_policy.specs.Years.{first_key, end_key}
use Rattle.wh_plan.specs.FirstRows.{calendar_rows}
use Rattle.wh_engine.proofs.MadeCalendar.{rows_from}
use Rattle.wh_engine.proofs.init.calendar_rows.Given as goal

-- the rows so far and those of the numbers that are left are all
abbrev pub invariant-loop-number : goal.invariant-loop-number
invariant-loop-number l = record {
  to : l.number-end ≡ end_key l.policy.years;
  behind : first_key l.policy.years ≤ l.number;
  whole : l.rows.items ++ rows_from l.policy l.number l.number-end ≡ calendar_rows l.policy;
}
