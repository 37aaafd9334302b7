-- Facts in order of their lines, and the edits that they are.
use Rattle.std.specs.Prelude.{if◌then◌else◌, List, [], Option}
use Rattle.std.specs.declared.cmp.Ordering.{Ordering}
use Rattle.wh_policy.specs.Formats.{same_format}
use Rattle.wh_policy.specs.declared.format.Format.{Format}
use Rattle.wh_history.specs.declared.facts.Fact.{Fact}
use Rattle.wh_history.specs.declared.plan.Edit.TheVariants.{Put, Remove}
use Rattle.wh_rows.specs.Rows as row
use Rattle.wh_rows.specs.declared.key.LineKey.{LineKey}
use Rattle.wh_plan.specs.declared.edits.FactEdit.{FactEdit}
use Rattle.wh_plan.specs.declared.edits.FactEdit.TheVariants.{Row, Rekey}

-- the fact of each line that has one
abbrev pub Facts : Type 0
Facts = LineKey → Option Fact

abbrev pub by_line : Fact → Fact → Ordering
by_line f g = row.fact.order (row.fact.key f) (row.fact.key g)

-- the edit that puts a fact
abbrev pub put_of : Fact → FactEdit
put_of f = Row (Put f)

-- the edit that takes it out
abbrev pub remove_of : Fact → FactEdit
remove_of f = Row (Remove (row.fact.key f))

-- the edit that gives the fact of its line its keys
abbrev pub rekey_of : Fact → FactEdit
rekey_of f = Rekey (row.fact.key f) f.keys

-- edits of the facts of a format, as those in the table of the same format or of the other
abbrev pub edits_in : Format → Format → List FactEdit → List FactEdit
edits_in table format edits = if same_format table format then edits else []
