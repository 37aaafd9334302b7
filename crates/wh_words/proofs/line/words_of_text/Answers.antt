use Rattle.std.proofs.Common.{◌∙◌}
use Rattle.wh_words.proofs.LineLemmas.{split_words}
use Rattle.wh_words.proofs.line.words_of_text.Goals as goal

pub returns : goal.returns
returns c = c.into_words.ensures ∙ split_words c.args.text.now c.in_ok-split.split c.take_byte.new.self c.in_ok-split.ensures c.in_ok-take_byte.ensures
