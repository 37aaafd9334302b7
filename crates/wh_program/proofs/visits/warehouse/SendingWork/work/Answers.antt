use Rattle.std.proofs.Common.{◌≤◌}
use Rattle.std.specs.Prelude.{vec_capacity}
use Rattle.wh_sql.specs.Answers.{state_of}
use Rattle.wh_program.specs.Reply.{sent_answer}
use Rattle.wh_program.specs.Room.{longest_answer}
use Rattle.wh_program.proofs.RoomLemmas.{printed_in}
use Rattle.wh_program.proofs.LookingLemmas.{kept_so}
use Rattle.wh_program.proofs.WarehouseLemmas.{replied, replied_over}
use Rattle.wh_program.proofs.visits.warehouse.SendingWork.work.Goals as goal

pub returns-clause-done : goal.returns-clause-done
returns-clause-done g c = λ clean limits commands ready.
    let tells = rw c.as_str.ensures at c.sent_answer.ensures in
    let id = c.args.self.command.id in
    replied (longest_answer id ≤ vec_capacity c.args.self.room) c.args.self.command limits commands c.sent_answer.result c.apply-reply.result
    c.apply-reply.new.self.session (state_of g.S.Store c.apply-reply.new.self.tables)
    (λ enough. printed_in (longest_answer id) c.args.self.room c.sent_answer.result (sent_answer id c.apply-reply.result) enough tells)
    (c.apply-reply.ensures.answered clean limits commands ready)

pub returns-clause-over : goal.returns-clause-over
returns-clause-over g c = λ clean content at.
    let tells = rw c.as_str.ensures at c.sent_answer.ensures in
    let id = c.args.self.command.id in
    replied_over (longest_answer id ≤ vec_capacity c.args.self.room) c.args.self.command content c.sent_answer.result c.apply-reply.result
    (state_of g.S.Store c.args.engine.now.tables) (state_of g.S.Store c.apply-reply.new.self.tables)
    (λ enough. printed_in (longest_answer id) c.args.self.room c.sent_answer.result (sent_answer id c.apply-reply.result) enough tells)
    at (kept_so c.apply-reply.ensures.keeps clean content at) (λ stored stood. (c.apply-reply.ensures.blames clean stored stood, c.apply-reply.ensures.again clean stored stood))
