use Rattle.std.proofs.Common.{◌≡◌, ◌++◌, drop}
use Rattle.wh_history.specs.Slots.{columns_from}
use Rattle.wh_records.specs.Carried.{first_value}
use Rattle.wh_records.proofs.member.first_values.Given as goal

abbrev pub invariant-loop-place : goal.invariant-loop-place
invariant-loop-place l = let column = first_value l.changes l.first in l.values ++ columns_from column l.place (drop l.place l.types) ≡ columns_from column 0 l.types
