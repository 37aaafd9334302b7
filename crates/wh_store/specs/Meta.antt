-- The rows of meta: the format and the limits of a warehouse.
use Rattle.std.specs.Prelude.{ℕ, ℤ, Bool, pos, codes, List, [], ◌∷◌, map, if◌then◌else◌, Option, Some, None, Result, Ok, Err, int_lt}
use Rattle.std.specs.FinMap.{get}
use Rattle.sqlite_value.specs.declared.value.Value.TheVariants.{Text}
use Rattle.sqlite.specs.Order.{Row}
use Rattle.wh_history.specs.Tables.{Limits}
use Rattle.wh_policy.specs.declared.format.Format.{Format}
use Rattle.wh_policy.specs.Formats.{format_number}
use Rattle.wh_policy.specs.declared.format.Format.TheVariants.{One, Two}
use Rattle.wh_rows.specs.Limits.{limits_of}
use Rattle.wh_rows.specs.declared.rows.MetaRow.{MetaRow}
use Rattle.wh_rows.specs.Tables.{Tables}
use Rattle.wh_rows.specs.Texts as texts
use Rattle.wh_store.specs.declared.fault.OpenFault.{OpenFault}
use Rattle.wh_store.specs.declared.fault.OpenFault.TheVariants.{NotAWarehouse, OldFormat, NewFormat}

-- the number of a row that may be there
abbrev pub meta_number : Option MetaRow → Option ℤ
meta_number (Some row) = Some row.value
meta_number None = None

-- the number under a name
abbrev pub number_in : Tables → List ℕ → Option ℤ
number_in t name = meta_number (get t.meta name)

-- The format that a number says, by the newest format that is known, and where the tables of the second are there or not; or why it is none: no number,
-- or the second without its tables; below 1; above the newest.
abbrev pub format_of : Format → Bool → Option ℤ → Result Format OpenFault
format_of newest second None = Err NotAWarehouse
format_of newest second (Some number) = if int_lt number (pos 1) then Err OldFormat else if int_lt (pos (format_number newest)) number then Err NewFormat else if int_lt number (pos 2) then Ok One else if second then Ok Two else Err NotAWarehouse

-- the limits of three numbers, where they are there and good
abbrev pub limits_of_numbers : Option ℤ → Option ℤ → Option ℤ → Option Limits
limits_of_numbers (Some (pos commands)) (Some (pos changes)) (Some (pos facts)) = limits_of commands changes facts
limits_of_numbers _ _ _ = None

-- the limits that the tables keep
abbrev pub limits_in : Tables → Option Limits
limits_in t = limits_of_numbers (number_in t (codes "commands_max")) (number_in t (codes "changes_max")) (number_in t (codes "facts_max"))

-- ---- the statements that ask for them

-- the questions after the three limits, with their parameters
abbrev pub limits_asked : List (List ℕ × Row)
limits_asked = map (λ name. (texts.meta.get, Text name ∷ [])) (codes "commands_max" ∷ codes "changes_max" ∷ codes "facts_max" ∷ [])
