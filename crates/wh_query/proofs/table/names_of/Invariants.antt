use Rattle.std.proofs.Common.{◌≡◌, string_bytes, map, take}
use Rattle.wh_query.specs.Asked.{column_name}
use Rattle.wh_query.proofs.table.names_of.Given as goal

-- those so far
abbrev pub invariant-columns : goal.invariant-columns
invariant-columns l = map string_bytes l.names.items ≡ map column_name (take l.column-index l.columns)
