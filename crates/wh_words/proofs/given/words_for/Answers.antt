use Rattle.std.proofs.Common.{◌∙◌, sym, ap, List, []}
use Rattle.std.specs.Prelude.{Option, unwrap_or}
use Rattle.clap.specs.Words.{Text, found_of, rows_of}
use Rattle.clap.proofs.WalkLemmas.{raw_values-rows}
use Rattle.wh_words.proofs.GivenLemmas.{all_given, words_or_none}
use Rattle.wh_words.proofs.given.words_for.Goals as goal

pub returns : goal.returns
returns c = words_or_none c.get_raw.result ∙ ap (λ (o : Option (List Text)). unwrap_or o []) (c.get_raw.ensures ∙ raw_values-rows (found_of c.args.given.now) c.args.name.now) ∙ sym (all_given (rows_of (found_of c.args.given.now)) c.args.name.now)
