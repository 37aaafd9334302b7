-- What a part of a command's edits makes inside a transaction.
use Rattle.std.specs.Prelude.{◌⊎◌, List, Some, Result}
use Rattle.std.specs.List.{AllByRecursion}
use Rattle.sqlite_trees.specs.declared.store.Store.{Ghosts}
use Rattle.sqlite.specs.Tree.{Trees}
use Rattle.sqlite.specs.State.{State}
use Rattle.wh_policy.specs.declared.format.Format.{Format}
use Rattle.wh_rows.specs.AtRest.{AreTrees}
use Rattle.wh_rows.specs.Facts.{facts_in, with_facts_in}
use Rattle.wh_rows.specs.Steps.{after_all}
use Rattle.wh_rows.specs.Tables.{Tables}
use Rattle.wh_rows.specs.declared.cause.Cause.{Cause}
use Rattle.wh_sql.specs.Answers.{state_of}
use Rattle.wh_sql.specs.Writes.{WritesOnly, Makes}
use Rattle.wh_sql.specs.declared.writing.Writing.{Writing}
use Rattle.wh_plan.specs.Edits.{Edits, with_fact_edit, with_commands, with_dimensions, with_facts}
use Rattle.wh_plan.specs.Writable.{IsValidFactEdit}
use Rattle.wh_plan.specs.declared.edits.FactEdit.{FactEdit}

-- where the rows may be put, a crash leaves what the transaction began with
abbrev pub WritesIn : {S : Type 0} → Ghosts S → Writing S → Writing S → Type 0 → Type 0
WritesIn g old new may = WritesOnly (state_of g old.tables.now) (state_of g new.tables.now) may

-- and after an answer these are the tables that it has made
abbrev pub MakesIn : {S A : Type 0} → Ghosts S → Writing S → Writing S → Result A Cause → Type 0 → (Tables → Tables) → Type 0
MakesIn g old new result may step = Makes (state_of g old.tables.now) (state_of g new.tables.now) result may step

-- the edits of the facts of a format may be written, and what they make
abbrev pub AreValidFactEdits : Format → List FactEdit → Type 0
AreValidFactEdits format edits = AllByRecursion (IsValidFactEdit format) edits

abbrev pub with_one_fact : Format → FactEdit → Tables → Tables
with_one_fact format edit made = with_facts_in format (with_fact_edit edit (facts_in format made)) made

abbrev pub with_fact_edits : Format → List FactEdit → Tables → Tables
with_fact_edits format edits made = with_facts_in format (after_all with_fact_edit edits (facts_in format made)) made

-- the tables with the rows of a command's edits, in the format that they have
abbrev pub with_rows_edited : Edits → Tables → Tables
with_rows_edited edits made = with_facts edits (with_dimensions edits (with_commands edits made))

-- a crash leaves the one tables or the other
abbrev pub LeavesEither : Tables → Tables → State → Type 0
LeavesEither before after s = (trees : Trees) → s.may_leave trees → AreTrees (Some before) trees ⊎ AreTrees (Some after) trees
