use Rattle.wh_program.specs.Inputs.{as_input}
use Rattle.wh_program.specs.Explained.{Explains}
use Rattle.wh_program.proofs.WarehouseLemmas.{answered_with, shut_or}
use Rattle.std.proofs.Common.{◌≡◌}
use Rattle.wh_program.specs.Warehouse.{LacksFile}
use Rattle.wh_program.proofs.visits.explain.explain_input.Goals as goal

pub returns-clause-answers : goal.returns-clause-answers
returns-clause-answers g c = λ content stood.
    let held = rw c.in-Some.is at c.in_ok-bytes.ensures in
    answered_with (as_input c.args.kind (g.H.Host.holds c.args.host.now)) (g.H.Host.refuses c.args.host.now) (g.H.Host.stores c.work_on.new.host c.args.file.now) content c.args.file.now c.args.path.now
    c.in-Some.bytes.items held (Explains c.args.kind) c.work_on.result (c.work_on.ensures.answers content stood)

pub returns-clause-shut : goal.returns-clause-shut
returns-clause-shut g c = λ shut.
    shut_or (c.work_on.new.host ≡ c.args.host.now) c.args.file.now (LacksFile (as_input c.args.kind (g.H.Host.holds c.args.host.now)) c.args.path.now) c.work_on.result (c.work_on.ensures.shut shut)
