use Rattle.std.proofs.Common.{◌≡◌, ◌++◌, map, take}
use Rattle.csv.specs.Records.{fields_of}
use Rattle.wh_query.specs.Asked.{column_name}
use Rattle.wh_query.proofs.text.push_names.Given as goal

-- the names so far stand behind what was there
abbrev pub invariant-columns : goal.invariant-columns
invariant-columns l = fields_of l.fields ≡ fields_of l.fn.fields ++ map column_name (take l.column-index l.columns)
