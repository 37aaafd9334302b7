use Rattle.wh_sql.specs.Answers.{state_of}
use Rattle.wh_program.proofs.LookingLemmas.{kept_so}
use Rattle.wh_program.proofs.WarehouseLemmas.{replies_over}
use Rattle.wh_program.proofs.visits.delivery.send_next.Goals as goal

pub returns-clause-sent : goal.returns-clause-sent
returns-clause-sent g c = (
  c.apply-reply.result,
  rw c.as_str.ensures at c.print_sent.ensures.printed,
  c.apply-reply.ensures.answered,
  replies_over (state_of g.S.Store c.args.engine.now.tables) (state_of g.S.Store c.apply-reply.new.self.tables) c.args.command.now c.apply-reply.result
      (kept_so c.apply-reply.ensures.keeps) (λ clean stored stood. (c.apply-reply.ensures.blames clean stored stood, c.apply-reply.ensures.again clean stored stood)),
)
