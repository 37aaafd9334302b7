use Rattle.std.proofs.Common.{◌≡◌, ◌∙◌, ℕ, List, [], ◌∷◌, ◌&&◌, ◌||◌, Bor, map, refl, sym, ap₂}
use Rattle.std.specs.Prelude.{is_some}
use Rattle.std.specs.List.{list_any}
use Rattle.std.proofs.lemmas.List.Folds.{list_all-map}
use Rattle.sqlite_schema.specs.Names.{same_name, column_named}
use Rattle.sqlite.specs.Table.{Table}
use Rattle.wh_sql.specs.Present.{has_columns, has_table}
use Rattle.wh_sql.proofs.schema.has_table.Goals as goal

-- names that are lent, and the same names
lent : (name : List ℕ) (columns : List (Bor (List ℕ))) (tables : List Table)
    → list_any (λ t. same_name t.name name && has_columns columns (λ c. c.now) t) tables ≡ list_any (λ t. same_name t.name name && has_columns (map (λ c. c.now) columns) (λ c. c) t) tables
lent name columns [] = refl
lent name columns (t ∷ tables) = ap₂ (λ has rest. (same_name t.name name && has) || rest) (sym (list_all-map (λ c. is_some (column_named t c)) (λ c. c.now) columns)) (lent name columns tables)

pub returns : goal.returns
returns c =
    c.has_named.ensures ∙ lent c.name.result.now c.columns.result.now c.args.schema.now.tables
    ∙ ap₂ (λ name columns. has_table name columns (λ c. c) c.args.schema.now) c.name.ensures c.columns.ensures
