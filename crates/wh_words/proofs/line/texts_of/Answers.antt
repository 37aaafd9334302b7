use Rattle.wh_words.proofs.LineLemmas.{not_all}
use Rattle.wh_words.proofs.line.texts_of.Goals as goal

pub returns-in-Err : goal.returns-in-Err
returns-in-Err c = not_all c.args.words.items c.loop-word.word-index c.word-item.result (rw c.deref-word-items.ensures.value at c.loop-word-test.true) (rw c.deref-word-items.ensures.value at c.word-item.is)
    (rw c.deref.ensures.value at c.in-Err.ensures.cases.0)
