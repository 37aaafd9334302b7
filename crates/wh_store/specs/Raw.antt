-- What any stored rows of meta say.
use Rattle.std.specs.Prelude.{◌≡◌, ◌⊎◌, ℕ, ℤ, Bool, codes, List, [], ◌∷◌, filter, Option, None, Result, Err, ⊤}
use Rattle.sqlite.specs.Order.{Row}
use Rattle.sqlite_rules.specs.Lists.{Has}
use Rattle.wh_policy.specs.declared.format.Format.{Format}
use Rattle.wh_rows.specs.Rows.{meta}
use Rattle.wh_rows.specs.Raw.{Stored, HasDamage, IsLastOf}
use Rattle.wh_history.specs.Tables.{Limits}
use Rattle.wh_rows.specs.declared.rows.MetaRow.{MetaRow}
use Rattle.wh_rows.specs.declared.table.Table.TheVariants.{Meta}
use Rattle.wh_rows.specs.Keys.{stands_at_text}
use Rattle.wh_sql.specs.declared.fault.ReadFault.{ReadFault}
use Rattle.wh_sql.specs.declared.fault.ReadFault.TheVariants as sql
use Rattle.wh_store.specs.declared.fault.OpenFault.{OpenFault}
use Rattle.wh_store.specs.declared.fault.OpenFault.TheVariants.{Memory, Damaged, Store}
use Rattle.wh_store.specs.Meta.{meta_number, limits_of_numbers, format_of}

-- the rows that are stored under a name
abbrev pub rows_named : Stored → List ℕ → List Row
rows_named stored name = filter (stands_at_text name) (stored.rows Meta)

-- none of them is damaged, and the last has this number
abbrev pub IsNumberIn : Stored → List ℕ → Option ℤ → Type 0
IsNumberIn stored name number = (found : Option MetaRow) × IsLastOf meta (rows_named stored name) found × (number ≡ meta_number found)

-- what the number of the format that is stored says, by the newest format that is known, and where the tables of the second are there or not
abbrev pub FormatIs : Format → Bool → Stored → Result Format OpenFault → Type 0
FormatIs newest second stored format = (number : Option ℤ) × IsNumberIn stored (codes "format") number × (format_of newest second number ≡ format)

-- It is refused with this fault: memory ran out, or the database refused the call; or the row of the format is damaged; or the format is why.
abbrev pub IsRefusedOn : Format → Bool → Stored → OpenFault → Type 0
IsRefusedOn newest second stored Memory = ⊤
IsRefusedOn newest second stored (Store cause) = ⊤
IsRefusedOn newest second stored (Damaged table) = (table ≡ Meta) × HasDamage meta (rows_named stored (codes "format"))
IsRefusedOn newest second stored fault = FormatIs newest second stored (Err fault)

-- the limits that are stored, where the three numbers are there and good
abbrev pub LimitsAre : Stored → Option Limits → Type 0
LimitsAre stored limits =
    (commands : Option ℤ) × (changes : Option ℤ) × (facts : Option ℤ) × IsNumberIn stored (codes "commands_max") commands × IsNumberIn stored (codes "changes_max") changes × IsNumberIn stored (codes "facts_max") facts
    × (limits_of_numbers commands changes facts ≡ limits)

-- they are refused: one of the rows is damaged, or one is not there or not good
abbrev pub IsLimitless : Stored → ReadFault → Type 0
IsLimitless stored (sql.Damaged table) =
    (table ≡ Meta) × (LimitsAre stored None ⊎ ((name : List ℕ) × Has (codes "commands_max" ∷ codes "changes_max" ∷ codes "facts_max" ∷ []) name × HasDamage meta (rows_named stored name)))
IsLimitless stored (sql.Store cause) = ⊤
IsLimitless stored sql.Memory = ⊤
