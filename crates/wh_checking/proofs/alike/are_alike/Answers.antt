use Rattle.std.proofs.Common.{◌∙◌, ap}
use Rattle.sqlite.specs.Values.{bound}
use Rattle.wh_checking.proofs.SameValues.{alike}
use Rattle.wh_checking.proofs.alike.are_alike.Goals as goal

pub returns : goal.returns
returns g c =
    alike g.T.StoredTable.layout c.args.a.now c.args.b.now (bound c.deref.result.now) (bound c.deref-2.result.now) c.same_values.result
    (ap bound c.deref.ensures.value ∙ c.in_ok-first.ensures) (ap bound c.deref-2.ensures.value ∙ c.in_ok-second.ensures) (g.met.T.KeyedTable.means.plain c.args.a.now) c.same_values.ensures
