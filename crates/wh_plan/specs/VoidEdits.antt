-- The rows of withdrawn lines, in order of their lines, and what a batch of voids writes by them.
use Rattle.std.specs.Prelude.{ℕ, false, List, [], ◌∷◌, map}
use Rattle.std.specs.declared.cmp.Ordering.{Ordering}
use Rattle.wh_policy.specs.declared.record.VoidRecord.{VoidRecord}
use Rattle.wh_history.specs.declared.plan.Edit.TheVariants.{Put, Remove}
use Rattle.wh_rows.specs.Rows as row
use Rattle.wh_rows.specs.declared.rows.CommandRow.{CommandRow}
use Rattle.wh_rows.specs.declared.rows.VoidRow.{VoidRow}
use Rattle.wh_plan.specs.Edits.{Edits}
use Rattle.wh_plan.specs.declared.edits.FactEdit.{FactEdit}
use Rattle.wh_plan.specs.declared.edits.FactEdit.TheVariants.{Row}

-- the row of a line that the command of a number withdraws
abbrev pub void_of : ℕ → VoidRecord → VoidRow
void_of number v = record { ticket = v.ticket; line = v.line; command = number }

abbrev pub by_line : VoidRow → VoidRow → Ordering
by_line v w = row.void.order (row.void.key v) (row.void.key w)

-- the edit that takes out the fact of its line
abbrev pub fact_removed : VoidRow → FactEdit
fact_removed v = Row (Remove (row.void.key v))

-- the edits of a command that withdraws the lines of these rows
abbrev pub void_edits : CommandRow → List VoidRow → Edits
void_edits command rows = record { upgrades = false; meta = []; commands = Put command ∷ []; members = []; changes = []; products = []; stores = []; customers = []; profiles = []; calendar = []; facts = []; facts2 = map fact_removed rows; voids = map Put rows }
