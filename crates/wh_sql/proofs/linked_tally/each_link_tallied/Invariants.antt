use Rattle.std.proofs.Common.{◌≡◌}
use Rattle.wh_sql.specs.LinkedTally.{linked_by}
use Rattle.wh_sql.proofs.LinkedTallying.{IsTallying}
use Rattle.wh_sql.proofs.linked_tally.each_link_tallied.Given as goal

abbrev pub invariant-facts : goal.invariant-facts
invariant-facts g l = (l.rows.conn.ghost_name ≡ l.initial.rows.conn.ghost_name) × IsTallying g.C.LinkAggregate.counts g.S.Store (linked_by l.fn.format) l.fn.conn l.rows.conn.now l.fn.tally l.tally
