use Rattle.std.proofs.Common.{◌≤◌}
use Rattle.std.specs.Prelude.{vec_capacity}
use Rattle.wh_program.specs.Room.{longest_answer}
use Rattle.wh_program.specs.Warehouse.{IsReplied, IsRepliedOver}
use Rattle.wh_program.proofs.RoomLemmas.{worked_with}
use Rattle.wh_program.proofs.visits.warehouse.send_command.Goals as goal

pub returns-clause-answers : goal.returns-clause-answers
returns-clause-answers g c = λ content stood.
    worked_with (longest_answer c.args.command.id ≤ vec_capacity c.in_ok-room.room) (IsReplied c.args.command) (IsRepliedOver c.args.command) content
    (g.H.Host.refuses c.args.host.now) (g.H.Host.stores c.work_on.new.host c.args.file.now) c.args.file.now c.work_on.result
    (rw c.as_str.ensures at c.in_ok-room.ensures) (c.work_on.ensures.answers content stood)
