use Rattle.wh_records.proofs.Texts.{texts_are_read_again}
use Rattle.wh_records.proofs.laws.texts_are_read_again.Goals as goal

pub returns : goal.returns
returns c = texts_are_read_again
