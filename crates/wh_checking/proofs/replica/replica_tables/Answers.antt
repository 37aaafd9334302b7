use Rattle.std.proofs.Common.{◌≡◌, refl, rules, sym, ap, ◌∙◌}
use Rattle.wh_engine.specs.declared.engine.Engine.{Engine}
use Rattle.wh_checking.proofs.replica.replica_tables.Goals as goal

pub returns : goal.returns
returns c =
    let own = ap (λ (e : Engine _). e.session.format) c.in-Some.engine-is in
    let same : c.format.result ≡ c.args.format = search rules in
    (c.in-Some.engine, c.in-Some.is, search rules, sym (c.format.ensures ∙ own) ∙ same, rw c.in-Some.is refl)
