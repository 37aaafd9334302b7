use Rattle.wh_words.proofs.PlainWords.{fits, read}
use Rattle.wh_words.proofs.laws.words_of_commands_are_read.Goals as goal

pub returns-clause-read : goal.returns-clause-read
returns-clause-read c = read

pub returns-clause-others : goal.returns-clause-others
returns-clause-others c = fits
