use Rattle.std.proofs.Common.{◌≡◌, map, drop, []}
use Rattle.toml.specs.View.{table_view}
use Rattle.wh_day.proofs.Loops.{with_front}
use Rattle.wh_policy.specs.Holidays.{holiday_of}
use Rattle.wh_policy.specs.Document.{each_after}
use Rattle.wh_policy.proofs.holidays.holiday_list.Given as goal

abbrev pub invariant-loop-table : goal.invariant-loop-table
invariant-loop-table l = with_front l.holidays (each_after (holiday_of l.years) l.holidays (map (λ t. table_view t.now) (drop l.table-index l.tables))) ≡ each_after (holiday_of l.years) [] (map (λ t. table_view t.now) l.tables)
