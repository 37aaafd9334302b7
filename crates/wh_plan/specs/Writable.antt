-- Which edits may be written.
use Rattle.std.specs.Prelude.{List, IsTrue}
use Rattle.std.specs.List.{AllByRecursion}
use Rattle.wh_policy.specs.declared.format.Format.{Format}
use Rattle.wh_policy.specs.declared.format.Format.TheVariants.{One, Two}
use Rattle.wh_history.specs.declared.plan.Edit.{Edit}
use Rattle.wh_rows.specs.Facts.{fact_layout}
use Rattle.wh_rows.specs.Holds.{Layout}
use Rattle.wh_rows.specs.Rekey.{are_keys}
use Rattle.wh_rows.specs.Rows as row
use Rattle.wh_sql.specs.Edits.{IsValid, Puts}
use Rattle.wh_plan.specs.Edits.{Edits}
use Rattle.wh_plan.specs.declared.edits.FactEdit.{FactEdit}
use Rattle.wh_plan.specs.declared.edits.FactEdit.TheVariants.{Row, Rekey}

-- each row that edits of a table put is valid
abbrev pub PutsValid : {K V : Type 0} → Layout K V → List (Edit V K) → Type 0
PutsValid layout edits = AllByRecursion (Puts (IsValid layout)) edits

-- a fact that is put is one of the format, and the keys that one gets are keys
abbrev pub IsValidFactEdit : Format → FactEdit → Type 0
IsValidFactEdit format (Row edit) = Puts (IsValid (fact_layout format)) edit
IsValidFactEdit format (Rekey line keys) = IsTrue (are_keys keys)

-- so it is of the edits of meta, command, member and change
pub record AreValidCommands (edits : Edits) : Type 0 where
  pub meta : PutsValid row.meta edits.meta
  pub commands : PutsValid row.command edits.commands
  pub members : PutsValid row.member edits.members
  pub changes : PutsValid row.change edits.changes

-- of those of product, store and customer
pub record AreValidDimensions (edits : Edits) : Type 0 where
  pub products : PutsValid row.product edits.products
  pub stores : PutsValid row.store edits.stores
  pub customers : PutsValid row.customer edits.customers

-- and of those of profile, calendar, the facts of each format and void
pub record AreValidFacts (edits : Edits) : Type 0 where
  pub profiles : PutsValid row.profile edits.profiles
  pub calendar : PutsValid row.calendar edits.calendar
  pub facts : AllByRecursion (IsValidFactEdit One) edits.facts
  pub facts2 : AllByRecursion (IsValidFactEdit Two) edits.facts2
  pub voids : PutsValid row.void edits.voids

pub record MayBeWritten (edits : Edits) : Type 0 where
  pub commands : AreValidCommands edits
  pub dimensions : AreValidDimensions edits
  pub facts : AreValidFacts edits
