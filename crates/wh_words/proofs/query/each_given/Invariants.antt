use Rattle.std.proofs.Common.{◌≡◌, drop}
use Rattle.wh_day.proofs.Loops.{with_front}
use Rattle.wh_words.specs.Given.{words_in}
use Rattle.wh_words.specs.Task.{each_given}
use Rattle.wh_words.proofs.query.each_given.Given as goal

abbrev pub invariant-words : goal.invariant-words
invariant-words g l = with_front l.given.items (each_given g.G.OfWord.said (words_in (drop l.word-index l.words))) ≡ each_given g.G.OfWord.said (words_in l.fn.words)
