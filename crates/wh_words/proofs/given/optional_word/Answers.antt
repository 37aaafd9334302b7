use Rattle.std.proofs.Common.{◌∙◌}
use Rattle.clap.specs.Words.{found_of, rows_of}
use Rattle.clap.proofs.WalkLemmas.{first_value-rows}
use Rattle.wh_words.proofs.GivenLemmas.{first_given}
use Rattle.wh_words.proofs.given.optional_word.Goals as goal

pub returns : goal.returns
returns c = c.get_str.ensures ∙ first_value-rows (found_of c.args.given.now) c.args.name.now ∙ first_given (rows_of (found_of c.args.given.now)) c.args.name.now
