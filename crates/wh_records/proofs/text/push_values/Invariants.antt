use Rattle.std.proofs.Common.{◌≡◌, ◌++◌, map, drop}
use Rattle.csv.specs.Records.{fields_of}
use Rattle.wh_records.specs.Texts.{value_field}
use Rattle.wh_records.proofs.text.push_values.Given as goal

-- what was added, before the fields of what is left, are all
abbrev pub invariant-loop-value : goal.invariant-loop-value
invariant-loop-value l = fields_of l.fields ++ map value_field (drop l.value-index l.values) ≡ fields_of l.fn.fields ++ map value_field l.values
