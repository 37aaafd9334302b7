use Rattle.std.proofs.Common.{◌≡◌, ◌++◌, ◌∷◌, ◌+◌, ◌∙◌, [], sym, ap, subst, take, append-nil}
use Rattle.std.proofs.lemmas.List.{take_all, take_more}
use Rattle.wh_report.specs.Dump.{header_line, row_line, table_text}
use Rattle.wh_report.specs.CsvBuffer.{Gathers}
use Rattle.wh_report.proofs.Parts.{text_row}
use Rattle.wh_report.proofs.table_texts.table_text.Goals as goal

pub loop-row-init : goal.loop-row-init
loop-row-init g c = subst (Gathers c.add_names.new.self) (sym (append-nil (header_line g.T.StoredTable.layout))) (c.in_ok-add_names.ensures [] c.new-text.ensures)

pub loop-row-preserved : goal.loop-row-preserved
loop-row-preserved g c =
    let layout = g.T.StoredTable.layout in
    let rows = c.args.rows.now in
    let row = c.row-item.result in
    let done = take c.loop-row.row-index rows in
    let more : take (c.loop-row.row-index + 1) rows ≡ done ++ row ∷ [] = take_more rows c.loop-row.row-index row c.loop-row-test.true ∙ ap (λ r. done ++ r ∷ []) (sym c.row-item.is) in
    let text : table_text layout done ++ row_line layout row ≡ table_text layout (take (c.loop-row.row-index + 1) rows) = sym (text_row (header_line layout) (row_line layout) done row) ∙ ap (table_text layout) (sym more) in
    subst (Gathers c.add_row.new.self) text (c.in_ok-add_row.ensures.added _ c.loop-row.invariant)

pub returns : goal.returns
returns g c =
    let whole = take_all c.loop-row.row-index c.args.rows.now c.loop-row-test.false in
    c.into_lines.ensures _ c.loop-row.invariant ∙ ap (table_text g.T.StoredTable.layout) whole
