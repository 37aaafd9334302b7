use Rattle.wh_sql.specs.Answers.{state_of}
use Rattle.wh_program.proofs.LookingLemmas.{read_looks}
use Rattle.wh_program.proofs.ReadingLemmas.{carried_read}
use Rattle.wh_program.proofs.visits.records.batch_answer.Goals as goal

pub returns-clause-answered : goal.returns-clause-answered
returns-clause-answered g c = λ clean limits commands ready.
    carried_read c.args.dim c.args.from limits commands c.records_answer.result c.carried_batch.new.self.session (state_of g.S.Store c.carried_batch.new.self.tables) c.carried_batch.result
    (c.carried_batch.ensures.part clean limits commands ready) c.records_answer.ensures (c.carried_batch.ensures.serves clean limits commands ready)

pub returns-clause-looks : goal.returns-clause-looks
returns-clause-looks g c = read_looks c.carried_batch.ensures.reads
