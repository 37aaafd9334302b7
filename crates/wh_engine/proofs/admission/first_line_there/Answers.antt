use Rattle.std.proofs.Common.{sym}
use Rattle.wh_engine.proofs.admission.first_line_there.Goals as goal
use Rattle.wh_sql.proofs.InTurn.{then_reads}
use Rattle.wh_sql.proofs.Sparing.{tables_again}

pub returns-then-branch-clause-there : goal.returns-then-branch-clause-there
returns-then-branch-clause-there g c clean limits commands t are rests same accepted =
    sym (c.in_ok-are_new.ensures.new clean limits commands t are rests same accepted c.if-branch.true)

pub returns-clause-there : goal.returns-clause-there
returns-clause-there g c clean limits commands t are rests same accepted =
    let before = c.first_line_found.ensures.reads.spares.clean clean in
    c.first_line_found.ensures.there clean limits commands t are (tables_again c.in_ok-are_new.ensures.reads.spares before t rests tt) same accepted

pub returns-clause-reads : goal.returns-clause-reads
returns-clause-reads g c = then_reads c.in_ok-are_new.ensures.reads c.first_line_found.ensures.reads
