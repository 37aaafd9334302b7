use Rattle.std.proofs.Common.{map}
use Rattle.wh_words.proofs.LineLemmas.{no_texts}
use Rattle.wh_words.proofs.line.line_of_words.Goals as goal

pub returns-in-None : goal.returns-in-None
returns-in-None c = no_texts (map (λ w. w.items) c.args.words.items) (rw c.in-None.is at c.in_ok-texts.ensures)
