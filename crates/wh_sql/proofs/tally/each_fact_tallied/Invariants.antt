use Rattle.std.proofs.Common.{◌≡◌}
use Rattle.wh_sql.specs.Facts.{facts_by}
use Rattle.wh_sql.proofs.Tallying.{IsTallying}
use Rattle.wh_sql.proofs.tally.each_fact_tallied.Given as goal

abbrev pub invariant-facts : goal.invariant-facts
invariant-facts g l = (l.rows.conn.ghost_name ≡ l.initial.rows.conn.ghost_name) × IsTallying g.C.FactAggregate.counts g.S.Store (facts_by l.fn.format l.fn.which) l.fn.conn l.rows.conn.now l.fn.tally l.tally
