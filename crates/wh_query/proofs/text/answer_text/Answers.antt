use Rattle.std.proofs.Common.{◌++◌, [], ℕ, List, sym, ◌∙◌, ap, subst, append_assoc}
use Rattle.std.specs.Map.Iter.{deref_pair}
use Rattle.std.proofs.lemmas.Map.Iter.{rest_more}
use Rattle.csv.specs.Writing.{default_writer, row_text}
use Rattle.wh_report.specs.CsvBuffer.{Gathers}
use Rattle.wh_query.specs.Asked.{words_of}
use Rattle.wh_query.specs.Answer.{line_fields, header_fields, lines_text}
use Rattle.wh_query.specs.Words.{by_words}
use Rattle.wh_query.proofs.text.answer_text.Goals as goal

pub loop-labels-init : goal.loop-labels-init
loop-labels-init c =
    let header : List ℕ = row_text default_writer (header_fields c.args.query.now.columns) in (
      header,
      subst (Gathers c.add_fields.new.self) (ap (row_text default_writer) (c.in_ok-header_fields.ensures ∙ ap header_fields c.columns.ensures)) (c.in_ok-add_fields.ensures [] c.new-text.ensures),
      ap (λ ls. header ++ lines_text ls) (ap by_words (c.into_iter-labels-iterator.ensures.into_iter_gives ∙ c.iter-labels-items.ensures.rest) ∙ c.lines.view_is),
    )

pub loop-labels-preserved : goal.loop-labels-preserved
loop-labels-preserved c =
    let inv = c.loop-labels.invariant in
    let next = rest_more deref_pair c.loop-labels.labels-iterator c.next.new.self c.next.result (c.in-Some.labels, c.in-Some.totals) c.in-Some.is c.next.ensures.steps in
    let row : List ℕ = row_text default_writer (line_fields (words_of c.in-Some.labels.now.items) c.in-Some.totals.now) in (
      inv.0 ++ row,
      subst (Gathers c.add_fields-in-loop-labels.new.self) (ap (λ fs. inv.0 ++ row_text default_writer fs) (c.in_ok-line_fields.ensures ∙ ap (λ ls. line_fields (words_of ls) c.in-Some.totals.now) c.deref.ensures.value)) (c.in_ok-add_fields-2.ensures inv.0 inv.1),
      append_assoc inv.0 row (lines_text (by_words c.next.new.self)) ∙ ap (λ es. inv.0 ++ lines_text (by_words es)) (sym next) ∙ inv.2,
    )
