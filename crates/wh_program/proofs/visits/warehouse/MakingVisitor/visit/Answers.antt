use Rattle.sqlite.specs.Held.{state}
use Rattle.wh_program.specs.Answer.{done}
use Rattle.wh_program.specs.Reply.{made_line, making_answer}
use Rattle.wh_program.specs.Room.{longest_line}
use Rattle.wh_program.proofs.RoomLemmas.{shown_in, printed_in}
use Rattle.wh_program.proofs.WarehouseLemmas.{made_ok, unmade, not_begun}
use Rattle.wh_program.proofs.visits.warehouse.MakingVisitor.visit.Goals as goal

pub returns-in_default : goal.returns-in_default
returns-in_default g c = λ clean content at. not_begun content c.args.self.policy.items _ (state g.T.Store c.args.connection) at

pub returns-in-Ok-init : goal.returns-in-Ok-init
returns-in-Ok-init g c = rw c.close.ensures (λ clean content at. rw c.deref.ensures.value at
    (made_ok content c.deref.result.now c.made.result c.in-Ok-init.engine.session.policy c.greatest.result c.in-Ok-init.engine.session
    (state g.T.Store c.args.connection) (state g.T.Store c.in-Ok-init.engine.tables.conn)
    c.greatest.ensures c.in-Ok-init.ensures.written.0 (c.in-Ok-init.ensures.made clean) c.in-Ok-init.ensures.written.1 (shown_in longest_line c.in-Ok.room c.made.result (done made_line) c.in-Ok.ensures c.made.ensures) at))

pub returns : goal.returns
returns g c = λ clean content at. rw c.deref.ensures.value at
    (unmade content c.deref.result.now c.making_answer-answer.result c.in-Err.fault c.greatest.result
    (state g.T.Store c.args.connection) (state g.T.Store c.in-Err.connection)
    c.greatest.ensures c.in-Err.ensures.refused (λ w rests. rw (c.in-Err.ensures.same w) rests) (c.in-Err.ensures.left clean)
    (λ taken what stood. rw (c.in-Err.ensures.kept taken) stood) (printed_in longest_line c.in-Ok.room c.making_answer-answer.result (making_answer c.in-Err.fault) c.in-Ok.ensures c.making_answer-answer.ensures) at)
