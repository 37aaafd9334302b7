use Rattle.std.proofs.Common.{◌≡◌, sym, ◌∙◌, ap}
use Rattle.std.proofs.lemmas.Result.{IfOk-weaker}
use Rattle.wh_history.specs.Facts.{keys_on}
use Rattle.wh_history.specs.Keys.{at_place}
use Rattle.wh_history.specs.Shapes.{shape_of, shown}
use Rattle.wh_migration.specs.Migrated.{keys_given, showing}
use Rattle.wh_migration.proofs.AnewFacts.{given_at, none_at}
use Rattle.wh_migration.proofs.migrated.ShownDimension.keys_given.Goals as goal

pub returns-in-Some : goal.returns-in-Some
returns-in-Some c =
    let d = c.args.self.now in
    let m = c.in-Some.member.now in
    let there = c.in-Some.ensures ∙ ap (at_place c.args.durable) c.deref.ensures.value in
    IfOk-weaker c.keys_on.result (λ own. own ≡ keys_on (shape_of d.dimension) (shown m) c.args.day) (λ keys. keys ≡ keys_given (showing d) c.args.durable c.args.day)
    (λ own is. is ∙ given_at d c.args.durable c.args.day m (sym there)) c.keys_on.ensures

pub returns-in-None : goal.returns-in-None
returns-in-None c = none_at c.args.self.now c.args.durable c.args.day (sym (c.in-None.ensures ∙ ap (at_place c.args.durable) c.deref.ensures.value))
