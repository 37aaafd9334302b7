use Rattle.wh_program.specs.Looking.{Looks}
use Rattle.wh_sql.specs.Answers.{state_of}
use Rattle.wh_program.proofs.LookingLemmas.{looked, looks_itself}
use Rattle.wh_program.proofs.WarehouseLemmas.{described}
use Rattle.wh_program.proofs.visits.explain.DescribingWork.work.Goals as goal

pub returns-clause-done : goal.returns-clause-done
returns-clause-done g c = λ clean limits commands ready.
    described c.args.self.kind limits commands c.description_answer.result c.args.engine.now.session (state_of g.S.Store c.args.engine.now.tables)
    (rw (c.policy.ensures, c.format.ensures) at c.description_answer.ensures) ready

pub returns-clause-over : goal.returns-clause-over
returns-clause-over g c =
    let same : Looks g.S.Store c.args.engine.now c.args.engine.now = looks_itself in
    looked same
