use Rattle.wh_records.specs.Texts.{header_line}
use Rattle.wh_records.proofs.text.header_line.Goals as goal

pub returns : goal.returns
unfolding header_line
returns c = rw c.in_ok-fields.ensures at c.line_of.ensures
