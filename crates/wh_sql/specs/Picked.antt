-- Reading the facts of some members out of all that are stored, in whatever order.
use Rattle.std.specs.Prelude.{◌≡◌, ℕ, Bool, List, [], ◌∷◌, pos, filter, map, Result, Vec, IsTrue, ⊤}
use Rattle.std.specs.declared.alloc.Global.{Global}
use Rattle.std.specs.List.{list_all}
use Rattle.std.specs.List.Sorted.{IsPermutation}
use Rattle.sqlite_value.specs.declared.value.Value.TheVariants.{Int}
use Rattle.sqlite_trees.specs.declared.store.Store.{Ghosts}
use Rattle.sqlite.specs.Held.{Held, state}
use Rattle.sqlite.specs.Order.{Row}
use Rattle.sqlite.specs.State.{State, Shown}
use Rattle.wh_history.specs.declared.facts.Fact.{Fact}
use Rattle.wh_policy.specs.declared.attribute.Dim.{Dim}
use Rattle.wh_rows.specs.declared.table.Table.{Table}
use Rattle.wh_rows.specs.Holds.{Layout}
use Rattle.wh_rows.specs.Raw.{HasDamage}
use Rattle.wh_rows.specs.Since.{is_of_members, is_sale_of, is_sold_of}
use Rattle.wh_rows.specs.Tables.{Tables}
use Rattle.wh_sql.specs.Answers.{Answers}
use Rattle.wh_sql.specs.Reads.{IsOfDamage}
use Rattle.wh_sql.specs.Refused.{IsCauseOfQuery}
use Rattle.wh_sql.specs.declared.fault.ReadFault.{ReadFault}
use Rattle.wh_sql.specs.declared.fault.ReadFault.TheVariants.{Memory, Damaged, Store}

-- these rows, of values of their types, are the stored ones in some order
abbrev pub StandFor : {K V : Type 0} → Layout K V → List Row → List V → Type 0
StandFor layout stored rows = IsPermutation stored (map layout.encode rows) × IsTrue (list_all layout.is_valid rows)

-- of the rows that a query shows, those that pass a test are these, all of values of their types
abbrev pub ShowsSome : {K V : Type 0} → Layout K V → (Row → Bool) → List ℕ → Row → State → State → List V → Type 0
ShowsSome layout pick text params old new rows = IsTrue (list_all layout.is_valid rows) × (answer : List Row) × Shown text params old new answer × (filter pick answer ≡ map layout.encode rows)

-- Memory ran out; or it shows a row that passes the test and is out of its type; or the database refused it.
abbrev pub FailsToShowSome : {K V : Type 0} → Layout K V → Table → (Row → Bool) → List ℕ → Row → State → State → ReadFault → Type 0
FailsToShowSome layout table pick text params old new Memory = ⊤
FailsToShowSome layout table pick text params old new (Damaged which) = (which ≡ table) × (answer : List Row) × Shown text params old new answer × HasDamage layout (filter pick answer)
FailsToShowSome layout table pick text params old new (Store why) = IsCauseOfQuery text params old new why

-- The sales of some members on their days, from one on, out of the table of a format, in whatever order.
abbrev pub PicksSales : {S K V : Type 0} → Ghosts S → Held S → Held S → Layout K V → Table → (Tables → List V) → (V → Fact) → (ℕ → ℕ → Bool) → Dim → ℕ → List ℕ → Result (Vec V Global) ReadFault → Type 0
PicksSales g old new layout name rows fact among dim from text result =
    Answers g old new result (λ t read. IsPermutation (filter (λ row. is_sold_of among dim from (fact row)) (rows t)) read.items) (λ stored read. StandFor layout (filter (is_sale_of among dim from) (stored.rows name)) read.items)
    (λ stored. IsOfDamage layout name (filter (is_sale_of among dim from) (stored.rows name))) (FailsToShowSome layout name (is_of_members among dim) text (Int (pos from) ∷ []) (state g old) (state g new))
