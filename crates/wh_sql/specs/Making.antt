-- The tables of a new warehouse, and the statements that make them.
use Rattle.std.specs.Prelude.{ℕ, ℤ, pos, codes, List, [], ◌∷◌, ◌++◌, map}
use Rattle.std.specs.FinMap.{insert}
use Rattle.sqlite.specs.Order.{Row}
use Rattle.wh_history.specs.Tables.{Limits}
use Rattle.wh_rows.specs.declared.rows.MetaRow.{MetaRow}
use Rattle.wh_rows.specs.Tables.{Tables, no_tables}
use Rattle.wh_rows.specs.Rows.{encode_meta}
use Rattle.wh_rows.specs.Making.{making_texts}
use Rattle.wh_rows.specs.Texts as texts
use Rattle.wh_sql.specs.Refused.{bare}

-- one more row
abbrev pub with_number : List ℕ → ℤ → Tables → Tables
with_number name value t = record t { meta = insert t.meta name (record { name = name; value = value }) }

-- the ten tables of a new warehouse of format 1, with these limits and no other row
abbrev pub made_with : Limits → Tables
made_with limits =
    with_number (codes "format") (pos 1) (with_number (codes "facts_max") (pos limits.facts) (with_number (codes "commands_max") (pos limits.commands) (with_number (codes "changes_max") (pos limits.changes) no_tables)))

-- the rows of meta of a new warehouse
abbrev pub rows_made : Limits → List MetaRow
rows_made limits =
    record { name = codes "changes_max"; value = pos limits.changes } ∷ record { name = codes "commands_max"; value = pos limits.commands } ∷ record { name = codes "facts_max"; value = pos limits.facts } ∷ record { name = codes "format"; value = pos 1 } ∷ []

-- the statements that make a warehouse with these limits, with their parameters
unfoldable pub making : Limits → List (List ℕ × Row)
making limits = bare making_texts ++ map (λ row. (texts.meta.put, encode_meta row)) (rows_made limits)
