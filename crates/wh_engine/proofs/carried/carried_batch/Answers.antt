use Rattle.wh_engine.proofs.Scanning.{failed_after}
use Rattle.wh_engine.proofs.carried.carried_batch.Goals as goal
use Rattle.wh_sql.proofs.Sparing.{spares_itself}

pub returns-in_err-part-clause-reads : goal.returns-in_err-part-clause-reads
returns-in_err-part-clause-reads g c = failed_after g.S.Store _ _ _ c.in_err-part.field-0.0 c.from_residual.result spares_itself c.in_err-part.ensures.reads c.from_residual.ensures
