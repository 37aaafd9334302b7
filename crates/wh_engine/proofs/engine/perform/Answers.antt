use Rattle.sqlite.specs.Held.{state}
use Rattle.wh_engine.proofs.Performing.{held, repeat_performed, fault_performed, may_write, may_upgrade, accept_performed, writes_counted, stop_performed}
use Rattle.wh_engine.proofs.engine.perform.Goals as goal
use Rattle.wh_sql.proofs.Sparing.{tables_again, tables_left}

pub returns-in-Ok-Repeat-clause-performed : goal.returns-in-Ok-Repeat-clause-performed
returns-in-Ok-Repeat-clause-performed g c clean limits commands ready =
    let old = state g.S.Store c.args.tables.now.conn in
    let new = state g.S.Store c.decide.new.tables.conn in
    let rests = ready.rests.rests in
    let is_held = held limits commands c.args.command.now c.args.session.now old ready in
    repeat_performed limits commands c.args.command.now c.args.session.now old ready c.in-Ok-Repeat.receipt new
    (rw c.in-Ok-Repeat.field-0-is at (c.in-Ok-Repeat.ensures.decided clean commands ready.rests.tables is_held rests)) (tables_again c.in-Ok-Repeat.ensures.reads.spares clean ready.rests.tables rests tt)

pub returns-in-Ok-clause-performed : goal.returns-in-Ok-clause-performed
returns-in-Ok-clause-performed g c clean limits commands ready =
    let command = c.args.command.now in
    let old = state g.S.Store c.args.tables.now.conn in
    let new = state g.S.Store c.commit_edits.new.tables.conn in
    let before = c.commit_edits.ensures.clean clean in
    let rests = ready.rests.rests in
    let is_held = held limits commands command c.args.session.now old ready in
    let judged = rw c.in-Ok-Accept.field-0-is at (c.in-Ok-Accept.ensures.decided before commands ready.rests.tables is_held rests) in
    let still = tables_again c.in-Ok-Accept.ensures.reads.spares before ready.rests.tables rests tt in
    let may = may_write limits commands command c.args.session.now old ready c.in-Ok-Accept.receipt c.in-Ok-Accept.edits c.in-Ok-Accept.newer judged in
    let upgrade = may_upgrade limits commands command c.args.session.now old ready c.in-Ok-Accept.receipt c.in-Ok-Accept.edits c.in-Ok-Accept.newer judged in
    rw c.govern.ensures (accept_performed limits commands command c.args.session.now old ready c.in-Ok-Accept.receipt c.in-Ok-Accept.edits c.in-Ok-Accept.newer judged new
    (c.in-Ok.ensures.written clean ready.rests.tables still may upgrade))

pub returns-in-Ok-clause-written : goal.returns-in-Ok-clause-written
returns-in-Ok-clause-written g c clean limits commands ready =
    let command = c.args.command.now in
    let old = state g.S.Store c.args.tables.now.conn in
    let before = c.commit_edits.ensures.clean clean in
    let is_held = held limits commands command c.args.session.now old ready in
    let judged = rw c.in-Ok-Accept.field-0-is at (c.in-Ok-Accept.ensures.decided before commands ready.rests.tables is_held ready.rests.rests) in
    writes_counted limits commands command c.args.session.now old ready c.in-Ok-Accept.receipt c.in-Ok-Accept.edits c.in-Ok-Accept.newer judged c.in-Ok.count c.in-Ok.ensures.counted

pub returns-in-Ok-Accept-clause-performed : goal.returns-in-Ok-Accept-clause-performed
returns-in-Ok-Accept-clause-performed g c clean limits commands ready =
    let command = c.args.command.now in
    let old = state g.S.Store c.args.tables.now.conn in
    let new = state g.S.Store c.commit_edits.new.tables.conn in
    let before = c.commit_edits.ensures.clean clean in
    let rests = ready.rests.rests in
    let is_held = held limits commands command c.args.session.now old ready in
    let judged = rw c.in-Ok-Accept.field-0-is at (c.in-Ok-Accept.ensures.decided before commands ready.rests.tables is_held rests) in
    let still = tables_again c.in-Ok-Accept.ensures.reads.spares before ready.rests.tables rests tt in
    let may = may_write limits commands command c.args.session.now old ready c.in-Ok-Accept.receipt c.in-Ok-Accept.edits c.in-Ok-Accept.newer judged in
    let upgrade = may_upgrade limits commands command c.args.session.now old ready c.in-Ok-Accept.receipt c.in-Ok-Accept.edits c.in-Ok-Accept.newer judged in
    stop_performed limits commands command c.args.session.now old ready c.in-Ok-Accept.receipt c.in-Ok-Accept.edits c.in-Ok-Accept.newer judged new
    (c.commit_edits.ensures.left clean ready.rests.tables still may upgrade)

pub returns-clause-performed : goal.returns-clause-performed
returns-clause-performed g c clean limits commands ready =
    let old = state g.S.Store c.args.tables.now.conn in
    let new = state g.S.Store c.decide.new.tables.conn in
    let rests = ready.rests.rests in
    let is_held = held limits commands c.args.command.now c.args.session.now old ready in
    fault_performed limits commands c.args.command.now c.args.session.now old ready c.in-Err.fault new
    (c.in-Err.ensures.decided clean commands ready.rests.tables is_held rests) (tables_again c.in-Err.ensures.reads.spares clean ready.rests.tables rests) (tables_left c.in-Err.ensures.reads.spares clean ready.rests.tables rests)

pub returns-in-Ok-clause-untaken : goal.returns-in-Ok-clause-untaken
returns-in-Ok-clause-untaken g c clean kind taken = rw c.in-Ok-Accept.field-0-is at (c.in-Ok-Accept.ensures.untaken (c.commit_edits.ensures.clean clean) kind taken)
