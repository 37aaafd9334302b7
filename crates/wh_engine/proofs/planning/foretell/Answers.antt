use Rattle.sqlite.specs.Held.{state}
use Rattle.wh_engine.proofs.Performing.{held, repeat_foreseen, accept_foreseen, fault_foreseen}
use Rattle.wh_engine.proofs.planning.foretell.Goals as goal
use Rattle.wh_sql.proofs.Sparing.{tables_again, tables_left}

pub returns-in-Ok-Repeat-clause-foretold : goal.returns-in-Ok-Repeat-clause-foretold
returns-in-Ok-Repeat-clause-foretold g c clean limits commands ready =
    let old = state g.S.Store c.args.tables.now.conn in
    let new = state g.S.Store c.decide.new.tables.conn in
    let rests = ready.rests.rests in
    let is_held = held limits commands c.args.command.now c.args.session.now old ready in
    rw c.none.ensures
    (repeat_foreseen limits commands c.args.command.now c.args.session.now old ready c.in-Ok-Repeat.field-0-0 new
    (rw c.in-Ok-Repeat.field-0-is at (c.in-Ok-Repeat.ensures.decided clean commands ready.rests.tables is_held rests)) (tables_again c.in-Ok-Repeat.ensures.reads.spares clean ready.rests.tables rests tt))

pub returns-in-Ok-Accept-clause-foretold : goal.returns-in-Ok-Accept-clause-foretold
returns-in-Ok-Accept-clause-foretold g c clean limits commands ready =
    let old = state g.S.Store c.args.tables.now.conn in
    let new = state g.S.Store c.decide.new.tables.conn in
    let rests = ready.rests.rests in
    let is_held = held limits commands c.args.command.now c.args.session.now old ready in
    let judged = rw c.in-Ok-Accept.field-0-is at (c.in-Ok-Accept.ensures.decided clean commands ready.rests.tables is_held rests) in
    accept_foreseen limits commands c.args.command.now c.args.session.now old ready c.in-Ok-Accept.field-0-0 c.in-Ok-Accept.edits c.in-Ok-Accept.field-0-2 judged new (tables_again c.in-Ok-Accept.ensures.reads.spares clean ready.rests.tables rests tt)

pub returns-clause-foretold : goal.returns-clause-foretold
returns-clause-foretold g c clean limits commands ready =
    let old = state g.S.Store c.args.tables.now.conn in
    let new = state g.S.Store c.decide.new.tables.conn in
    let rests = ready.rests.rests in
    let is_held = held limits commands c.args.command.now c.args.session.now old ready in
    fault_foreseen limits commands c.args.command.now c.args.session.now old ready c.in-Err.fault new
    (c.in-Err.ensures.decided clean commands ready.rests.tables is_held rests) (tables_again c.in-Err.ensures.reads.spares clean ready.rests.tables rests) (tables_left c.in-Err.ensures.reads.spares clean ready.rests.tables rests)
