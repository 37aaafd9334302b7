use Rattle.wh_program.specs.Inputs.{as_input}
use Rattle.wh_program.specs.Warehouse.{Sends, LacksFile}
use Rattle.wh_program.proofs.WarehouseLemmas.{answered_with, shut_or}
use Rattle.std.proofs.Common.{◌≡◌}
use Rattle.wh_program.proofs.visits.warehouse.send.Goals as goal

pub returns-clause-answers : goal.returns-clause-answers
returns-clause-answers g c = λ content stood.
    let sent = rw c.in-Some.is at c.in_ok-command.ensures in
    answered_with (as_input c.args.kind (g.H.Host.holds c.args.host.now)) (g.H.Host.refuses c.args.host.now) (g.H.Host.stores c.send_command.new.host c.args.file.now) content c.args.file.now c.args.path.now
    sent.0 sent.1 (Sends c.args.kind c.args.id.now) c.send_command.result (rw sent.2 at (c.send_command.ensures.answers content stood))

pub returns-clause-shut : goal.returns-clause-shut
returns-clause-shut g c = λ shut.
    shut_or (c.send_command.new.host ≡ c.args.host.now) c.args.file.now (LacksFile (as_input c.args.kind (g.H.Host.holds c.args.host.now)) c.args.path.now) c.send_command.result (c.send_command.ensures.shut shut)
