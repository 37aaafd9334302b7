use Rattle.wh_program.specs.Standing.{Rests}
use Rattle.wh_program.specs.Warehouse.{Opens}
use Rattle.wh_program.proofs.WarehouseLemmas.{answered_alone, same_left, shut_answered}
use Rattle.wh_program.proofs.visits.opened.work_on.Goals as goal

pub returns-clause-answers : goal.returns-clause-answers
returns-clause-answers g c = λ content stood.
    answered_alone (g.H.Host.refuses c.args.host.now) (g.H.Host.stores c.with_existing-visit.new.self c.args.file.now) content c.args.file.now c.with_existing-visit.result c.answered.result
    (same_left c.with_existing-visit.result (g.H.Host.stores c.args.host.now) (g.H.Host.stores c.with_existing-visit.new.self) c.args.file.now (Rests content) c.with_existing-visit.ensures.not_visited stood)
    c.with_existing-visit.ensures.refused c.answered.ensures.visited c.answered.ensures.not_visited
    (Opens (g.K.Work.does c.args.work) (g.K.Work.over c.args.work) content) (c.with_existing-visit.ensures.visited content stood)

pub returns-clause-shut : goal.returns-clause-shut
returns-clause-shut g c = λ shut.
    let refused = c.with_existing-visit.ensures.shut shut in
    (refused.1, shut_answered c.with_existing-visit.result c.args.file.now c.answered.result refused.0 c.answered.ensures.not_visited)
