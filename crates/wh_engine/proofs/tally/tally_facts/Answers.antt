use Rattle.wh_engine.proofs.Scanning.{failed_after}
use Rattle.wh_engine.proofs.tally.tally_facts.Goals as goal
use Rattle.wh_sql.proofs.Sparing.{spares_itself}

pub returns-in_err-tally_facts-clause-reads : goal.returns-in_err-tally_facts-clause-reads
returns-in_err-tally_facts-clause-reads g c = failed_after g.S.Store _ _ _ c.in_err-tally_facts.field-0.0 c.from_residual.result spares_itself c.in_err-tally_facts.ensures.reads c.from_residual.ensures
