use Rattle.wh_query.proofs.ReadQueries.{queries_have_readings, no_mode_is_needed}
use Rattle.wh_query.proofs.laws.queries_have_readings.Goals as goal

pub returns-clause-reads : goal.returns-clause-reads
returns-clause-reads c = queries_have_readings

pub returns-clause-modes : goal.returns-clause-modes
returns-clause-modes c = no_mode_is_needed
