use Rattle.wh_engine.proofs.Scanning.{failed_after}
use Rattle.wh_engine.proofs.links.tally_links.Goals as goal
use Rattle.wh_sql.proofs.Sparing.{spares_itself}

pub returns-in_err-tally_links-clause-reads : goal.returns-in_err-tally_links-clause-reads
returns-in_err-tally_links-clause-reads g c = failed_after g.S.Store _ _ _ c.in_err-tally_links.field-0.0 c.from_residual.result spares_itself c.in_err-tally_links.ensures.reads c.from_residual.ensures
