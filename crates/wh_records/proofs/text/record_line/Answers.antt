use Rattle.wh_records.specs.Texts.{record_line}
use Rattle.wh_records.proofs.text.record_line.Goals as goal

pub returns : goal.returns
unfolding record_line
returns c = rw c.in_ok-fields.ensures at c.line_of.ensures
