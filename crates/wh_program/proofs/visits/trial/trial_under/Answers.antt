use Rattle.wh_program.proofs.InputLemmas.{tried_under}
use Rattle.wh_program.proofs.visits.trial.trial_under.Goals as goal

pub returns : goal.returns
returns g c =
    tried_under (g.H.Host.holds c.args.host.now) c.args.dim c.args.path.now c.args.policy.now c.in-Some.text.items c.in-Some-2.batch.items c.answer_under.result
    (rw c.in-Some.is at c.in_ok-text.ensures) (rw c.in-Some-2.is at c.in_ok-batch.ensures) (rw (c.deref.ensures.value, c.deref-2.ensures.value) at c.answer_under.ensures)
