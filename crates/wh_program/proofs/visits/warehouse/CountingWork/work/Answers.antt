use Rattle.wh_sql.specs.Answers.{state_of}
use Rattle.wh_program.proofs.LookingLemmas.{looked, read_looks}
use Rattle.wh_program.proofs.WarehouseLemmas.{counted}
use Rattle.wh_program.proofs.visits.warehouse.CountingWork.work.Goals as goal

pub returns-clause-done : goal.returns-clause-done
returns-clause-done g c = λ clean limits commands ready.
    counted limits commands c.status_answer.result c.counts-counts.result c.counts-counts.new.self.session (state_of g.S.Store c.counts-counts.new.self.tables)
    c.status_answer.ensures (c.counts-counts.ensures.counted clean limits commands ready)

pub returns-clause-over : goal.returns-clause-over
returns-clause-over g c = looked (read_looks c.counts-counts.ensures.reads)
