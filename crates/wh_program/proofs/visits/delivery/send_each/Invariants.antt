use Rattle.std.proofs.Common.{◌≤◌, take}
use Rattle.std.specs.Prelude.{vec_capacity}
use Rattle.wh_sql.specs.Answers.{state_of}
use Rattle.wh_program.specs.Room.{longest_reply}
use Rattle.wh_program.proofs.DeliveryLemmas.{AreSent}
use Rattle.wh_program.proofs.visits.delivery.send_each.Given as goal

-- there is room for the line of the next, and the first were sent
abbrev pub invariant-loop-command : goal.invariant-loop-command
invariant-loop-command g l = record {
  enough : longest_reply l.commands ≤ vec_capacity l.room;
  sent : AreSent (take l.command-index l.commands) l.fn.engine.session l.engine.session (state_of g.S.Store l.fn.engine.tables) (state_of g.S.Store l.engine.tables)
      (g.W.Write.contents l.fn.out) (g.W.Write.contents l.out) l.status;
}
