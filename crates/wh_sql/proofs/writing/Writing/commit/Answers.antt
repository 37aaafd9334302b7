use Rattle.std.proofs.Common.{refl}
use Rattle.wh_sql.proofs.writing.Writing.commit.Goals as goal

pub returns-then-refused-clause-nothing : goal.returns-then-refused-clause-nothing
returns-then-refused-clause-nothing g c refused = (refl, λ clean before made at. (c.roll_back.ensures.left clean before made at, c.roll_back.ensures.undone clean before made at))
