use Rattle.std.proofs.Common.{◌++◌, ℕ, List, sym, ◌∙◌, ap, append_assoc, string_bytes}
use Rattle.std.specs.Map.Iter.{deref_pair}
use Rattle.std.proofs.lemmas.Map.Iter.{rest_more}
use Rattle.wh_report.specs.Text.{line_text, lines_text}
use Rattle.wh_query.specs.Asked.{words_of}
use Rattle.wh_query.specs.Table.{in_columns, side_by_side}
use Rattle.wh_query.specs.Words.{by_words}
use Rattle.wh_query.proofs.table.push_lines.Goals as goal

pub loop-labels-init : goal.loop-labels-init
loop-labels-init c =
    ap (λ ls. string_bytes c.args.text.now ++ lines_text (side_by_side ls)) (ap by_words (c.into_iter-labels-iterator.ensures.into_iter_gives ∙ c.iter-labels-items.ensures.rest) ∙ c.lines.view_is)

pub loop-labels-preserved : goal.loop-labels-preserved
loop-labels-preserved c =
    let before : List ℕ = string_bytes c.loop-labels.text in
    let row : List ℕ = line_text (in_columns (words_of c.in-Some.labels.now.items)) c.in-Some.totals.now in
    let rest : List ℕ = lines_text (side_by_side (by_words c.next.new.self)) in
    let next = rest_more deref_pair c.loop-labels.labels-iterator c.next.new.self c.next.result (c.in-Some.labels, c.in-Some.totals) c.in-Some.is c.next.ensures.steps in
    ap (λ t. t ++ rest) (c.in_ok-push_str.ensures.bytes ∙ ap (λ l. before ++ l) (c.as_str.ensures.value ∙ c.in_ok-line.ensures ∙ ap (λ ls. line_text (in_columns (words_of ls)) c.in-Some.totals.now) c.deref.ensures.value))
    ∙ append_assoc before row rest ∙ ap (λ es. before ++ lines_text (side_by_side (by_words es))) (sym next) ∙ c.loop-labels.invariant
