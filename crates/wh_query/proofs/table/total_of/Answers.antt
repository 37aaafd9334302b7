use Rattle.std.proofs.Common.{sym, ◌∙◌, ap}
use Rattle.std.specs.Map.Iter.{deref_pair}
use Rattle.std.proofs.lemmas.Map.Iter.{rest_more}
use Rattle.wh_report.specs.Lines.{added}
use Rattle.wh_report.specs.Sums.{Figures, plus}
use Rattle.wh_report.proofs.AddedLines.{nothing_first}
use Rattle.wh_query.specs.Words.{by_words}
use Rattle.wh_query.proofs.Totals.{plus_assoc, nothing_last, more_than}
use Rattle.wh_query.proofs.table.total_of.Goals as goal

pub loop-labels-init : goal.loop-labels-init
loop-labels-init c =
    ap (λ (t : Figures). plus t (added (by_words c.into_iter-labels-iterator.result))) c.new-total.ensures ∙ nothing_first _
    ∙ ap added (ap by_words (c.into_iter-labels-iterator.ensures.into_iter_gives ∙ c.iter-labels-items.ensures.rest) ∙ c.lines.view_is)

pub loop-labels-preserved : goal.loop-labels-preserved
loop-labels-preserved c =
    let rest : Figures = added (by_words c.next.new.self) in
    let next = rest_more deref_pair c.loop-labels.labels-iterator c.next.new.self c.next.result (c.in-Some.labels, c.in-Some.totals) c.in-Some.is c.next.ensures.steps in
    ap (λ (t : Figures). plus t rest) c.in-Some-checked_add.ensures.value ∙ plus_assoc c.loop-labels.total c.in-Some.totals.now rest ∙ ap (λ es. plus c.loop-labels.total (added (by_words es))) (sym next) ∙ c.loop-labels.invariant
