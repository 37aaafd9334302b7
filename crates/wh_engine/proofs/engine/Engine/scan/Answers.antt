use Rattle.std.proofs.Common.{refl}
use Rattle.wh_engine.proofs.engine.Engine.scan.Goals as goal

pub returns : goal.returns
returns g c = (
  (refl, λ w. refl, tt),
  record {
    refused = tt;
    same_reference = refl;
    same = refl;
    left = λ t. c.new.ensures.left g.T.StoredTable.layout (g.T.StoredTable.rows t);
    left_stored = λ stored left are. c.new.ensures.left_stored g.T.StoredTable.layout g.T.KeyedTable.bind (stored.rows g.T.KeyedTable.name) left are;
    reopen = c.if-self.false;
  },
)
