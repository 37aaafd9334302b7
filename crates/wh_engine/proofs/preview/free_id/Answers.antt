use Rattle.wh_engine.proofs.preview.free_id.Goals as goal
use Rattle.wh_sql.proofs.Sparing.{stored_again, tables_again}
use Rattle.wh_sql.proofs.InTurn.{then_failed}

pub returns-then-branch-clause-new : goal.returns-then-branch-clause-new
returns-then-branch-clause-new g c clean limits commands t are rests distinct =
    let asked = c.in_ok-is_free.ensures in
    let before = asked.reads.spares.clean clean in
    asked.new clean limits commands t are (tables_again c.numbers.invariant.spares before t rests tt) distinct c.if-branch.true

pub returns-then-branch-clause-free : goal.returns-then-branch-clause-free
returns-then-branch-clause-free g c clean stored rests =
    let asked = c.in_ok-is_free.ensures in
    let before = asked.reads.spares.clean clean in
    asked.free clean stored (stored_again c.numbers.invariant.spares before stored rests tt) c.if-branch.true

pub returns-in_err-is_free-clause-reads : goal.returns-in_err-is_free-clause-reads
returns-in_err-is_free-clause-reads g c = then_failed c.numbers.invariant c.in_err-is_free.ensures.reads c.from_residual-in_err-is_free.ensures
