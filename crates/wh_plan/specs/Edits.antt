-- What a command writes: for each table the edits of its rows, in order of their keys.
use Rattle.std.specs.Prelude.{◌≡◌, ◌≢◌, ◌⊎◌, ℕ, ◌+◌, Bool, true, false, if◌then◌else◌, List, [], length, Option, Some, None}
use Rattle.std.specs.FinMap.{FinMap, empty}
use Rattle.wh_day.specs.declared.calendar.DateRow.{DateRow}
use Rattle.wh_policy.specs.declared.attribute.Dim.{Dim}
use Rattle.wh_policy.specs.declared.attribute.Dim.TheVariants.{Product, Store, Customer}
use Rattle.wh_policy.specs.declared.format.Format.{Format}
use Rattle.wh_policy.specs.declared.format.Format.TheVariants.{One, Two}
use Rattle.wh_history.specs.Accepted.{Accepted, format_of}
use Rattle.wh_history.specs.Tables.{Limits, dimension_row}
use Rattle.wh_history.specs.Plan.{IsExact, IsPlan, IsRowPlan, edited}
use Rattle.wh_history.specs.declared.plan.Edit.{Edit}
use Rattle.wh_history.specs.declared.plan.Edit.TheVariants.{Put, Remove}
use Rattle.wh_history.specs.declared.rows.DimRow.{DimRow}
use Rattle.wh_history.specs.declared.facts.Fact.{Fact}
use Rattle.wh_rows.specs.declared.rows.MetaRow.{MetaRow}
use Rattle.wh_rows.specs.declared.rows.CommandRow.{CommandRow}
use Rattle.wh_rows.specs.declared.rows.MemberRow.{MemberRow}
use Rattle.wh_rows.specs.declared.rows.ChangeRow.{ChangeRow}
use Rattle.wh_rows.specs.declared.rows.ProfileRow.{ProfileRow}
use Rattle.wh_rows.specs.declared.rows.VoidRow.{VoidRow}
use Rattle.wh_rows.specs.declared.key.MemberKey.{MemberKey}
use Rattle.wh_rows.specs.declared.key.ChangeKey.{ChangeKey}
use Rattle.wh_rows.specs.declared.key.LineKey.{LineKey}
use Rattle.wh_rows.specs.Holds.{Layout}
use Rattle.wh_rows.specs.Rekey.{rekeyed}
use Rattle.wh_rows.specs.Rows as row
use Rattle.wh_rows.specs.Tables.{Tables}
use Rattle.wh_sql.specs.Edits.{with_edit}
use Rattle.wh_model.specs.Defined.{meta_at, command_at, member_at, change_at, profile_at, calendar_at, fact_in, void_at}
use Rattle.wh_rows.specs.Steps.{after_all}
use Rattle.wh_plan.specs.declared.edits.FactEdit.{FactEdit}
use Rattle.wh_plan.specs.declared.edits.FactEdit.TheVariants.{Row, Rekey}

-- whether the tables of the second format are made first and no fact of the first stays, and the edits of each table
pub record Edits : Type 0 where
  pub upgrades : Bool
  pub meta : List (Edit MetaRow (List ℕ))
  pub commands : List (Edit CommandRow ℕ)
  pub members : List (Edit MemberRow MemberKey)
  pub changes : List (Edit ChangeRow ChangeKey)
  pub products : List (Edit DimRow ℕ)
  pub stores : List (Edit DimRow ℕ)
  pub customers : List (Edit DimRow ℕ)
  pub profiles : List (Edit ProfileRow ℕ)
  pub calendar : List (Edit DateRow ℕ)
  pub facts : List FactEdit
  pub facts2 : List FactEdit
  pub voids : List (Edit VoidRow LineKey)

-- none
abbrev pub no_edits : Edits
no_edits = record { upgrades = false; meta = []; commands = []; members = []; changes = []; products = []; stores = []; customers = []; profiles = []; calendar = []; facts = []; facts2 = []; voids = [] }

-- those of the rows of a dimension
abbrev pub rows_of_dimension : Dim → Edits → List (Edit DimRow ℕ)
rows_of_dimension Product edits = edits.products
rows_of_dimension Store edits = edits.stores
rows_of_dimension Customer edits = edits.customers

-- how many there are
abbrev pub count_commands : Edits → ℕ
count_commands edits = length edits.meta + length edits.commands + length edits.members + length edits.changes

abbrev pub count_dimensions : Edits → ℕ
count_dimensions edits = length edits.products + length edits.stores + length edits.customers

abbrev pub count_facts : Edits → ℕ
count_facts edits = length edits.profiles + length edits.calendar + length edits.facts + length edits.facts2 + length edits.voids

abbrev pub edit_count : Edits → ℕ
edit_count edits = count_commands edits + count_dimensions edits + count_facts edits

-- ---- what they make of the tables

-- a table with edits, the first one first
abbrev pub with_edits : {K V : Type 0} (layout : Layout K V) → List (Edit V K) → FinMap layout.order V → FinMap layout.order V
with_edits layout = after_all (with_edit layout)

-- the facts with an edit of one
abbrev pub with_fact_edit : FactEdit → FinMap row.fact.order Fact → FinMap row.fact.order Fact
with_fact_edit (Row edit) facts = with_edit row.fact edit facts
with_fact_edit (Rekey line keys) facts = rekeyed (line, keys) facts

-- the facts of the first format with their edits; those of an upgrade leave none
abbrev pub with_first_facts : Edits → FinMap row.fact.order Fact → FinMap row.fact.order Fact
with_first_facts edits facts = if edits.upgrades then empty else after_all with_fact_edit edits.facts facts

-- the tables in the format that they get
abbrev pub with_format : Edits → Tables → Tables
with_format edits t = record t { format = if edits.upgrades then Two else t.format }

-- the tables with the edits of meta, command, member and change
abbrev pub with_commands : Edits → Tables → Tables
with_commands edits t = record t {
  meta = with_edits row.meta edits.meta t.meta;
  command = with_edits row.command edits.commands t.command;
  member = with_edits row.member edits.members t.member;
  change = with_edits row.change edits.changes t.change;
}

-- with those of product, store and customer
abbrev pub with_dimensions : Edits → Tables → Tables
with_dimensions edits t = record t {
  product = with_edits row.product edits.products t.product;
  store = with_edits row.store edits.stores t.store;
  customer = with_edits row.customer edits.customers t.customer;
}

-- and with those of profile, calendar, the facts of each format and void
abbrev pub with_facts : Edits → Tables → Tables
with_facts edits t = record t {
  profile = with_edits row.profile edits.profiles t.profile;
  calendar = with_edits row.calendar edits.calendar t.calendar;
  fact = with_first_facts edits t.fact;
  fact2 = after_all with_fact_edit edits.facts2 t.fact2;
  void = with_edits row.void edits.voids t.void;
}

-- the tables with the edits of a command
abbrev pub with_all_edits : Edits → Tables → Tables
with_all_edits edits t = with_facts edits (with_dimensions edits (with_commands edits (with_format edits t)))

-- ---- exact edits

-- the edits of a table are exactly what leads from the rows of some keys to others
abbrev pub IsTablePlan : {K V : Type 0} → Layout K V → (K → Option V) → (K → Option V) → List (Edit V K) → Type 0
IsTablePlan layout = IsPlan layout.order layout.key

-- the line of which an edit is
abbrev pub edited_line : FactEdit → LineKey
edited_line (Row edit) = edited row.fact.key edit
edited_line (Rekey line keys) = line

-- the edit of a fact that was one and is to be another: where only its keys differ it gets other keys
abbrev pub ChangesFact : LineKey → Fact → Fact → Option FactEdit → Type 0
ChangesFact line old new edit =
    ((old ≡ new) × (edit ≡ None)) ⊎ (((old ≢ new) × (record old { keys = new.keys } ≡ new) × (edit ≡ Some (Rekey line new.keys))) ⊎ ((record old { keys = new.keys } ≢ new) × (edit ≡ Some (Row (Put new)))))

-- the edit that a line needs
abbrev pub NeedsFact : LineKey → Option Fact → Option Fact → Option FactEdit → Type 0
NeedsFact line None None edit = edit ≡ None
NeedsFact line (Some old) None edit = edit ≡ Some (Row (Remove line))
NeedsFact line None (Some new) edit = edit ≡ Some (Row (Put new))
NeedsFact line (Some old) (Some new) edit = ChangesFact line old new edit

-- the edits of facts are exactly what leads from some facts to others
abbrev pub IsFactPlan : (LineKey → Option Fact) → (LineKey → Option Fact) → List FactEdit → Type 0
IsFactPlan = IsExact row.fact.order edited_line NeedsFact

-- The tables of the second format are made where the first becomes the second; else the format stays.
abbrev pub UpgradesTo : Bool → Format → Format → Type 0
UpgradesTo true before after = (before ≡ One) × (after ≡ Two)
UpgradesTo false before after = after ≡ before

-- The edits are exactly what leads from the tables of some accepted commands to those of others: in each table one edit, in order of key, for each key whose rows differ, and none for any other.
pub record AreEdits (before after : List Accepted) (edits : Edits) : Type 0 where
  pub upgrades : UpgradesTo edits.upgrades (format_of before) (format_of after)
  pub meta : (limits : Limits) → IsTablePlan row.meta (meta_at (format_of before) limits) (meta_at (format_of after) limits) edits.meta
  pub commands : IsTablePlan row.command (command_at before) (command_at after) edits.commands
  pub members : IsTablePlan row.member (member_at before) (member_at after) edits.members
  pub changes : IsTablePlan row.change (change_at before) (change_at after) edits.changes
  pub rows : (dim : Dim) → IsRowPlan (dimension_row before dim) (dimension_row after dim) (rows_of_dimension dim edits)
  pub profiles : IsTablePlan row.profile (profile_at before) (profile_at after) edits.profiles
  pub calendar : IsTablePlan row.calendar (calendar_at before) (calendar_at after) edits.calendar
  pub facts : IsFactPlan (fact_in One before) (fact_in One after) edits.facts
  pub facts2 : IsFactPlan (fact_in Two before) (fact_in Two after) edits.facts2
  pub voids : IsTablePlan row.void (void_at before) (void_at after) edits.voids
