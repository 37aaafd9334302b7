use Rattle.std.proofs.Common.{◌≡◌, length, arith, sym, ◌∙◌, ap}
use Rattle.std.proofs.lemmas.Result.{on_ok_weaker}
use Rattle.wh_history.specs.Known.{number_in}
use Rattle.wh_history.proofs.Knowing.{next_there, next_new}
use Rattle.wh_history.proofs.profiles.Profiles.add_next.Goals as goal

pub returns-in-Some-clause-ok : goal.returns-in-Some-clause-ok
returns-in-Some-clause-ok c combinations all =
    next_there c.args.self.now combinations c.args.texts c.in-Some.field-0 (ap (number_in c.args.self.now) (sym c.as_slice.ensures) ∙ sym c.in-Some.ensures) all

pub returns-in-None-clause-ok : goal.returns-in-None-clause-ok
returns-in-None-clause-ok c =
    let count : c.len.result ≡ length c.self.inside.known.items = let len = c.len.ensures in omega arith in
    on_ok_weaker c.add.result
    (λ is combinations all. is ∙ next_new c.args.self.now combinations c.args.texts c.len.result (count ∙ ap length c.self.view_is) (ap (number_in c.args.self.now) (sym c.as_slice.ensures) ∙ sym c.in-None.ensures) all)
    c.add.ensures.ok
