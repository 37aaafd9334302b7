-- The limits that meta says.
use Rattle.std.specs.Prelude.{pos, codes, Option, Some, None}
use Rattle.std.specs.FinMap.{insert}
use Rattle.wh_policy.specs.Formats.{format_number}
use Rattle.wh_policy.specs.declared.format.Format.{Format}
use Rattle.wh_history.specs.Tables.{Limits}
use Rattle.wh_rows.specs.Raw.{Stored, HasDamage}
use Rattle.wh_rows.specs.Rows as row
use Rattle.wh_rows.specs.Tables.{Tables}
use Rattle.wh_rows.specs.declared.rows.MetaRow.{MetaRow}
use Rattle.wh_sql.specs.Making.{made_with}
use Rattle.wh_rows.specs.declared.table.Table.TheVariants.{Meta}
use Rattle.wh_admission.specs.Checked.{SaysLimits}

-- Meta says these limits; or it says none, and none of its rows is damaged.
abbrev pub AreLimitsSaid : Stored → Option Limits → Type 0
AreLimitsSaid stored (Some limits) = SaysLimits stored limits
AreLimitsSaid stored None = ((limits : Limits) → ¬ SaysLimits stored limits) × (¬ HasDamage row.meta (stored.rows Meta))

-- the tables of a making under these limits with one more row of meta, and with the one that says a format
abbrev pub made_saying : Limits → MetaRow → Tables
made_saying limits r = record (made_with limits) { meta = insert (made_with limits).meta r.name r }

abbrev pub made_in : Format → Limits → Tables
made_in format limits = made_saying limits (record { name = codes "format"; value = pos (format_number format) })
