use Rattle.std.proofs.Common.{◌≡◌, ◌++◌, string_bytes, map, take}
use Rattle.std.specs.Prelude.{flat_map}
use Rattle.wh_query.specs.Table.{in_column}
use Rattle.wh_query.proofs.table.in_columns.Given as goal

-- those so far
abbrev pub invariant-others : goal.invariant-others
invariant-others g l = string_bytes l.line ≡ flat_map in_column (map g.S.AsStr.text (take l.text-index l.others))
