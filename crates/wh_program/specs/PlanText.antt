-- The text of a plan: a line an edit, and their number.
use Rattle.std.specs.Prelude.{ℕ, List, ◌++◌, codes, flat_map}
use Rattle.std.specs.Fmt.{decimal}
use Rattle.std.specs.List.{join_by}
use Rattle.sqlite.specs.Order.{Row as Columns}
use Rattle.wh_history.specs.declared.plan.Edit.{Edit}
use Rattle.wh_history.specs.declared.plan.Edit.TheVariants.{Put, Remove}
use Rattle.wh_rows.specs.Holds.{Layout}
use Rattle.wh_rows.specs.Keys.{bind_text, bind_number, bind_member, bind_change, bind_line}
use Rattle.wh_rows.specs.Names.{table_name}
use Rattle.wh_rows.specs.Rows as row
use Rattle.wh_rows.specs.declared.table.Table.{Table}
use Rattle.wh_rows.specs.declared.table.Table.TheVariants.{Meta, Command, Member, Change, Product, Store, Customer, Profile, Calendar, Fact, Fact2, Void}
use Rattle.wh_plan.specs.Edits.{Edits, edit_count}
use Rattle.wh_plan.specs.declared.edits.FactEdit.{FactEdit}
use Rattle.wh_plan.specs.declared.edits.FactEdit.TheVariants.{Row, Rekey}
use Rattle.wh_report.specs.Dump.{value_field}
use Rattle.wh_words.specs.WrongWord.{line}

-- ---- lines

-- the columns of a key, parted by spaces
abbrev pub key_words : {K : Type 0} → (K → Columns) → K → List ℕ
key_words bind key = join_by value_field (codes " ") (bind key)

-- what is done, the table, and the key of the row
abbrev pub key_line : List ℕ → Table → List ℕ → List ℕ
key_line what table key = line (what ++ codes " " ++ table_name table ++ codes " " ++ key)

-- an edit of a row, in a table whose keys are bound so
abbrev pub edit_line : {K V : Type 0} → Table → Layout K V → (K → Columns) → Edit V K → List ℕ
edit_line table layout bind (Put row) = key_line (codes "put") table (key_words bind (layout.key row))
edit_line table layout bind (Remove key) = key_line (codes "remove") table (key_words bind key)

abbrev pub edit_lines : {K V : Type 0} → Table → Layout K V → (K → Columns) → List (Edit V K) → List ℕ
edit_lines table layout bind edits = flat_map (edit_line table layout bind) edits

-- an edit of a fact in its table, which may only get other keys
abbrev pub fact_line : Table → FactEdit → List ℕ
fact_line table (Row edit) = edit_line table row.fact bind_line edit
fact_line table (Rekey key keys) = key_line (codes "rekey") table (key_words bind_line key)

-- ---- a plan

abbrev pub commands_text : Edits → List ℕ
commands_text edits =
    edit_lines Meta row.meta bind_text edits.meta ++ edit_lines Command row.command bind_number edits.commands ++ edit_lines Member row.member bind_member edits.members
    ++ edit_lines Change row.change bind_change edits.changes

abbrev pub dimensions_text : Edits → List ℕ
dimensions_text edits =
    edit_lines Product row.product bind_number edits.products ++ edit_lines Store row.store bind_number edits.stores ++ edit_lines Customer row.customer bind_number edits.customers

abbrev pub facts_text : Edits → List ℕ
facts_text edits =
    edit_lines Profile row.profile bind_number edits.profiles ++ edit_lines Calendar row.calendar bind_number edits.calendar ++ flat_map (fact_line Fact) edits.facts ++ flat_map (fact_line Fact2) edits.facts2
    ++ edit_lines Void row.void bind_line edits.voids

abbrev pub count_line : Edits → List ℕ
count_line edits = line (codes "edits " ++ decimal (edit_count edits))

-- the lines table by table, and their number
abbrev pub plan_text : Edits → List ℕ
plan_text edits = commands_text edits ++ dimensions_text edits ++ facts_text edits ++ count_line edits
