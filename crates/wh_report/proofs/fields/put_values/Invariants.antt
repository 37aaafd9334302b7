use Rattle.std.proofs.Common.{map, take}
use Rattle.sqlite.specs.Values.{bound}
use Rattle.wh_report.specs.Dump.{value_field}
use Rattle.wh_report.specs.Fields.{HasFields}
use Rattle.wh_report.proofs.fields.put_values.Given as goal

-- the fields of the values so far
abbrev pub invariant-loop-value : goal.invariant-loop-value
invariant-loop-value l = HasFields l.fields (map value_field (bound (take l.value-index l.values)))
