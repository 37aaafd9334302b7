use Rattle.wh_sql.specs.Answers.{state_of}
use Rattle.wh_program.proofs.LookingLemmas.{looked}
use Rattle.wh_program.proofs.WarehouseLemmas.{explained}
use Rattle.wh_program.proofs.visits.explain.ExplainingWork.work.Goals as goal

pub returns-clause-done : goal.returns-clause-done
returns-clause-done g c = λ clean limits commands ready.
    explained c.args.self.kind c.args.self.bytes.items limits commands c.explained.result c.traced-preview.result.0 c.traced-preview.new.engine.session (state_of g.S.Store c.traced-preview.new.engine.tables)
    c.explained.ensures (rw c.deref.ensures.value at (c.traced-preview.ensures.previewed clean limits commands ready))

pub returns-clause-over : goal.returns-clause-over
returns-clause-over g c = looked c.traced-preview.ensures.looks

pub returns-clause-clean : goal.returns-clause-clean
returns-clause-clean g c = c.traced-preview.ensures.looks.spares.clean
