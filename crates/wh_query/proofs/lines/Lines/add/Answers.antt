use Rattle.std.proofs.Common.{◌∙◌, sym, ap, unwrap_or}
use Rattle.std.specs.BTreeMap.{insert_entry}
use Rattle.wh_report.specs.Sums.{nothing}
use Rattle.wh_query.specs.Asked.{words_of}
use Rattle.wh_query.specs.Words.{by_texts, by_words}
use Rattle.wh_query.proofs.Texts.{one_more, more_found, line_full}
use Rattle.wh_query.proofs.lines.Lines.add.Goals as goal

pub returns-in-Added-clause-sums : goal.returns-in-Added-clause-sums
returns-in-Added-clause-sums c = λ sales is.
    let found = c.in-Added.ensures in
    more_found (by_words c.self.inside.figures.entries) (by_words c.add_to.new.figures.entries) sales (record { label = words_of c.args.labels.now; measures = c.args.measures }) (c.self.view_is ∙ is) found.0 found.1 found.2

pub returns-in-Full-clause-damaged : goal.returns-in-Full-clause-damaged
returns-in-Full-clause-damaged c = λ sales is _.
    let found = c.in-Full.ensures in
    line_full (by_words c.self.inside.figures.entries) found.0 sales (words_of c.args.labels.now) (c.self.view_is ∙ is) (sym (ap (λ o. unwrap_or o nothing) found.1)) found.2

pub returns-in_ok-put-in-Wanting-clause-sums : goal.returns-in_ok-put-in-Wanting-clause-sums
returns-in_ok-put-in-Wanting-clause-sums c = λ sales is.
    let found = c.in-Wanting.ensures in
    one_more (by_words c.self.inside.figures.entries) (by_words c.put.new.figures.entries) nothing c.one_line.result sales (record { label = words_of c.args.labels.now; measures = c.args.measures }) (c.self.view_is ∙ is) (sym (ap (λ o. unwrap_or o nothing) found.0)) c.one_line.ensures
    (c.in_ok-put-in-Wanting.ensures ∙ ap (λ es. insert_entry by_texts es (words_of c.args.labels.now) c.one_line.result) found.1)
