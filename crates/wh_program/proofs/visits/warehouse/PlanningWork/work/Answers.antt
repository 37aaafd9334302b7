use Rattle.wh_sql.specs.Answers.{state_of}
use Rattle.wh_program.proofs.LookingLemmas.{looked, read_looks}
use Rattle.wh_program.proofs.WarehouseLemmas.{foretold}
use Rattle.wh_program.proofs.visits.warehouse.PlanningWork.work.Goals as goal

pub returns-clause-done : goal.returns-clause-done
returns-clause-done g c = λ clean limits commands ready.
    foretold c.args.self.command limits commands c.plan_answer.result c.plan-edits.result c.plan-edits.new.self.session (state_of g.S.Store c.plan-edits.new.self.tables)
    c.plan_answer.ensures (c.plan-edits.ensures.foretold clean limits commands ready)

pub returns-clause-over : goal.returns-clause-over
returns-clause-over g c = looked (read_looks c.plan-edits.ensures.reads)
