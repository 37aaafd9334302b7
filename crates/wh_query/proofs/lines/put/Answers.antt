use Rattle.std.proofs.Common.{◌∙◌, ap}
use Rattle.std.specs.BTreeMap.{insert_entry}
use Rattle.wh_query.specs.Asked.{words_of}
use Rattle.wh_query.specs.Words.{by_texts, by_words}
use Rattle.wh_query.proofs.Words.{insert_by_words}
use Rattle.wh_query.proofs.lines.put.Goals as goal

pub returns : goal.returns
returns c =
    ap by_words c.in_ok-insert.ensures.entries ∙ insert_by_words c.args.figures.now.entries c.in_ok-labels.labels c.args.line
    ∙ ap (λ ls. insert_entry by_texts (by_words c.args.figures.now.entries) (words_of ls) c.args.line) c.in_ok-labels.ensures.items
