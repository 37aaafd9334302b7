use Rattle.std.proofs.Common.{◌≡◌, ◌++◌, map, drop}
use Rattle.wh_records.specs.Carried.{record_as}
use Rattle.wh_records.proofs.member.push_changes.Given as goal

abbrev pub invariant-loop-change : goal.invariant-loop-change
invariant-loop-change l = l.found.items ++ map (record_as l.slots l.natural) (drop l.change-index l.changes) ≡ l.fn.found.items ++ map (record_as l.slots l.natural) l.changes
