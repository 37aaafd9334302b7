use Rattle.std.proofs.Common.{None, Some, OnOk, codes, pos, refl, inl, inr, arith, rules}
use Rattle.std.proofs.lemmas.Result.{err_from_is_err_and, IfErr-weaker}
use Rattle.sqlite.specs.Held.{state}
use Rattle.wh_rows.specs.AtRest.{IsWriting}
use Rattle.wh_rows.specs.Tables.{no_tables}
use Rattle.wh_sql.specs.Making.{made_with}
use Rattle.wh_sql.proofs.Refusals.{text_refused, row_refused}
use Rattle.wh_sql.proofs.writing.Writing.init.Goals as goal

-- src/writing.rt:92:9
pub returns-in_err-put_number-clause-left : goal.returns-in_err-put_number-clause-left
returns-in_err-put_number-clause-left g c clean at =
    let first = c.put_number.ensures.writes.clean clean in
    c.put_number.ensures.writes.left clean None no_tables (c.in_ok-create_tables.ensures.made first at) tt

-- src/writing.rt:93:9
pub returns-in_err-put_number-2-clause-left : goal.returns-in_err-put_number-2-clause-left
returns-in_err-put_number-2-clause-left g c clean at =
    let second = c.put_number-2.ensures.writes.clean clean in
    let first = c.put_number.ensures.writes.clean second in
    c.put_number-2.ensures.writes.left clean None _ (c.in_ok-put_number.ensures.edited second None no_tables (c.in_ok-create_tables.ensures.made first at) tt) tt

-- src/writing.rt:94:9
pub returns-in_err-put_number-3-clause-left : goal.returns-in_err-put_number-3-clause-left
returns-in_err-put_number-3-clause-left g c clean at =
    let third = c.put_number-3.ensures.writes.clean clean in
    let second = c.put_number-2.ensures.writes.clean third in
    let first = c.put_number.ensures.writes.clean second in
    c.put_number-3.ensures.writes.left clean None _ (c.in_ok-put_number-2.ensures.edited third None _ (c.in_ok-put_number.ensures.edited second None no_tables (c.in_ok-create_tables.ensures.made first at) tt) tt) tt

-- src/writing.rt:85:5
pub returns-clause-made : goal.returns-clause-made
returns-clause-made g c clean at =
    let fourth = c.put_number-4.ensures.writes.clean clean in
    let third = c.put_number-3.ensures.writes.clean fourth in
    let second = c.put_number-2.ensures.writes.clean third in
    let first = c.put_number.ensures.writes.clean second in
    let made : OnOk c.put_number-4.result (IsWriting None (Some (made_with (record { commands = c.commands.result; changes = c.changes.result; facts = c.facts.result }))) (state g.S.Store c.put_number-4.new.self.tables.now.conn)) = c.put_number-4.ensures.edited clean None _ (c.in_ok-put_number-3.ensures.edited fourth None _ (c.in_ok-put_number-2.ensures.edited third None _ (c.in_ok-put_number.ensures.edited second None no_tables (c.in_ok-create_tables.ensures.made first at) tt) tt) tt) tt in
    rw (c.changes.ensures.same, c.commands.ensures.same, c.facts.ensures.same) at made

-- src/writing.rt:85:5
pub returns-clause-left : goal.returns-clause-left
returns-clause-left g c clean at =
    let fourth = c.put_number-4.ensures.writes.clean clean in
    let third = c.put_number-3.ensures.writes.clean fourth in
    let second = c.put_number-2.ensures.writes.clean third in
    let first = c.put_number.ensures.writes.clean second in
    c.put_number-4.ensures.writes.left clean None _ (c.in_ok-put_number-3.ensures.edited fourth None _ (c.in_ok-put_number-2.ensures.edited third None _ (c.in_ok-put_number.ensures.edited second None no_tables (c.in_ok-create_tables.ensures.made first at) tt) tt) tt) tt

-- ---- which statement was refused

pub returns-in_err-create_tables-clause-cause : goal.returns-in_err-create_tables-clause-cause
returns-in_err-create_tables-clause-cause g c clean at room =
    let one = c.in_err-create_tables.ensures.cause clean at.inside in
    let p = err_from_is_err_and c.from_residual.result c.from_residual.ensures.1 in
    rw (p.1, p.2) (λ other. text_refused g.S.Store c.args.self.now.tables.now.conn c.create_tables.new.conn c.args.limits c.in_err-create_tables.field-0.0 one)

pub returns-in_err-put_number-clause-cause : goal.returns-in_err-put_number-clause-cause
returns-in_err-put_number-clause-cause g c clean at room =
    let first = c.put_number.ensures.writes.clean clean in
    let writing = c.in_ok-create_tables.ensures.made first at in
    let refused = rw c.changes.ensures.same at (c.in_err-put_number.ensures.cause clean writing.inside (omega (arith, room)) (search (rules, arith, c.changes.ensures.within))) in
    let p = err_from_is_err_and c.from_residual-in_err-put_number.result c.from_residual-in_err-put_number.ensures.1 in
    rw (p.1, p.2) (λ other. row_refused g.S.Store c.args.self.now.tables.now.conn c.create_tables.new.conn c.put_number.new.self.tables.now.conn (omega (arith, c.create_tables.ensures.counts)) c.args.limits (record { name = codes "changes_max"; value = pos c.args.limits.changes }) c.in_err-put_number.field-0.0 (inl refl) (refused other))

pub returns-in_err-put_number-2-clause-cause : goal.returns-in_err-put_number-2-clause-cause
returns-in_err-put_number-2-clause-cause g c clean at room =
    let second = c.put_number-2.ensures.writes.clean clean in
    let first = c.put_number.ensures.writes.clean second in
    let writing = c.in_ok-put_number.ensures.edited second None _ (c.in_ok-create_tables.ensures.made first at) tt in
    let refused = rw c.commands.ensures.same at (c.in_err-put_number-2.ensures.cause clean writing.inside (omega (arith, c.in_ok-put_number.ensures.counted, room)) (search (rules, arith, c.commands.ensures.within))) in
    let p = err_from_is_err_and c.from_residual-in_err-put_number-2.result c.from_residual-in_err-put_number-2.ensures.1 in
    rw (p.1, p.2) (λ other. row_refused g.S.Store c.args.self.now.tables.now.conn c.put_number.new.self.tables.now.conn c.put_number-2.new.self.tables.now.conn (omega (arith, c.create_tables.ensures.counts, c.in_ok-put_number.ensures.writes.counts)) c.args.limits (record { name = codes "commands_max"; value = pos c.args.limits.commands }) c.in_err-put_number-2.field-0.0 (inr (inl refl)) (refused other))

pub returns-in_err-put_number-3-clause-cause : goal.returns-in_err-put_number-3-clause-cause
returns-in_err-put_number-3-clause-cause g c clean at room =
    let third = c.put_number-3.ensures.writes.clean clean in
    let second = c.put_number-2.ensures.writes.clean third in
    let first = c.put_number.ensures.writes.clean second in
    let writing = c.in_ok-put_number-2.ensures.edited third None _ (c.in_ok-put_number.ensures.edited second None _ (c.in_ok-create_tables.ensures.made first at) tt) tt in
    let refused = rw c.facts.ensures.same at (c.in_err-put_number-3.ensures.cause clean writing.inside (omega (arith, c.in_ok-put_number.ensures.counted, c.in_ok-put_number-2.ensures.counted, room)) (search (rules, arith, c.facts.ensures.within))) in
    let p = err_from_is_err_and c.from_residual-in_err-put_number-3.result c.from_residual-in_err-put_number-3.ensures.1 in
    rw (p.1, p.2) (λ other. row_refused g.S.Store c.args.self.now.tables.now.conn c.put_number-2.new.self.tables.now.conn c.put_number-3.new.self.tables.now.conn (omega (arith, c.create_tables.ensures.counts, c.in_ok-put_number.ensures.writes.counts, c.in_ok-put_number-2.ensures.writes.counts)) c.args.limits (record { name = codes "facts_max"; value = pos c.args.limits.facts }) c.in_err-put_number-3.field-0.0 (inr (inr (inl refl))) (refused other))

pub returns-clause-cause : goal.returns-clause-cause
returns-clause-cause g c clean at room =
    let fourth = c.put_number-4.ensures.writes.clean clean in
    let third = c.put_number-3.ensures.writes.clean fourth in
    let second = c.put_number-2.ensures.writes.clean third in
    let first = c.put_number.ensures.writes.clean second in
    let writing = c.in_ok-put_number-3.ensures.edited fourth None _ (c.in_ok-put_number-2.ensures.edited third None _ (c.in_ok-put_number.ensures.edited second None _ (c.in_ok-create_tables.ensures.made first at) tt) tt) tt in
    let refused = c.put_number-4.ensures.cause clean writing.inside (omega (arith, c.in_ok-put_number.ensures.counted, c.in_ok-put_number-2.ensures.counted, c.in_ok-put_number-3.ensures.counted, room)) refl in
    IfErr-weaker c.put_number-4.result _ _ (λ cause told other. row_refused g.S.Store c.args.self.now.tables.now.conn c.put_number-3.new.self.tables.now.conn c.put_number-4.new.self.tables.now.conn (omega (arith, c.create_tables.ensures.counts, c.in_ok-put_number.ensures.writes.counts, c.in_ok-put_number-2.ensures.writes.counts, c.in_ok-put_number-3.ensures.writes.counts)) c.args.limits (record { name = codes "format"; value = pos 1 }) cause (inr (inr (inr (inl refl)))) (told other)) refused
