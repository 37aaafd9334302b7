use Rattle.wh_checking.proofs.compare.next_expected.Goals as goal
use Rattle.wh_sql.proofs.Sparing.{tables_again}

pub returns-in-Ok-clause-rests : goal.returns-in-Ok-clause-rests
returns-in-Ok-clause-rests g c t at = (at.0, tables_again c.in-Ok.ensures.next.reads.spares (at.0 c.next_row.new.tables.conn) t at.1 tt)

pub returns-in-Ok-clause-row : goal.returns-in-Ok-clause-row
returns-in-Ok-clause-row g c t same at = c.in-Ok.ensures.next.rows (at.0 c.next_row.new.tables.conn) t same at.1
