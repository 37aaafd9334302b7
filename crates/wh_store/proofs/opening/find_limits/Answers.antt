use Rattle.std.proofs.Common.{◌≡◌, Some, None, sym, subst, refl, inl, inr, arith}
use Rattle.std.proofs.lemmas.Result.{err_from_is_err_and}
use Rattle.wh_sql.specs.declared.fault.ReadFault.TheVariants.{Damaged, Store}
use Rattle.wh_store.specs.Meta.{limits_of_numbers}
use Rattle.wh_store.proofs.Refusals.{limit_unread}
use Rattle.wh_store.proofs.opening.find_limits.Goals as goal
use Rattle.wh_sql.specs.Reads.{SparesRows}
use Rattle.wh_sql.proofs.Sparing.{stored_again, tables_again}

pub returns-in_err-commands-clause-refused : goal.returns-in_err-commands-clause-refused
returns-in_err-commands-clause-refused g c clean cause is =
    let p = err_from_is_err_and c.from_residual.result c.from_residual.ensures.1 in
    let same : c.in_err-commands.field-0.0 ≡ Store cause = cc (p.1, p.2, is) in
    limit_unread g.S.Store c.args.tables.now.conn c.args.tables.now.conn c.number.new.tables.conn (omega arith) _ _ cause (inl refl) (c.in_err-commands.ensures.unread clean) same

pub returns-in_err-changes-clause-refused : goal.returns-in_err-changes-clause-refused
returns-in_err-changes-clause-refused g c clean cause is =
    let p = err_from_is_err_and c.from_residual-in_err-changes.result c.from_residual-in_err-changes.ensures.1 in
    let same : c.in_err-changes.field-0.0 ≡ Store cause = cc (p.1, p.2, is) in
    limit_unread g.S.Store c.args.tables.now.conn c.number.new.tables.conn c.number-2.new.tables.conn c.number.ensures.counts _ _ cause (inr (inl refl)) (c.in_err-changes.ensures.unread clean) same

pub returns-in_err-facts-clause-refused : goal.returns-in_err-facts-clause-refused
returns-in_err-facts-clause-refused g c clean cause is =
    let p = err_from_is_err_and c.from_residual-in_err-facts.result c.from_residual-in_err-facts.ensures.1 in
    let same : c.in_err-facts.field-0.0 ≡ Store cause = cc (p.1, p.2, is) in
    limit_unread g.S.Store c.args.tables.now.conn c.number-2.new.tables.conn c.number-3.new.tables.conn (omega (arith, c.number.ensures.counts, c.number-2.ensures.counts)) _ _ cause (inr (inr (inl refl))) (c.in_err-facts.ensures.unread clean) same

-- src/opening.rt:75:5
pub returns-in-Some-clause-limits : goal.returns-in-Some-clause-limits
returns-in-Some-clause-limits g c clean t at =
    let second = c.number-3.ensures.reads.spares.clean clean in
    let first = c.number-2.ensures.reads.spares.clean second in
    let one = tables_again c.in_ok-commands.ensures.reads.spares first t at tt in
    let two = tables_again c.in_ok-changes.ensures.reads.spares second t one tt in
    let found : Some c.in-Some.limits ≡ limits_of_numbers c.in_ok-commands.commands c.in_ok-changes.changes c.in_ok-facts.facts = c.in-Some.ensures in
    sym (rw (c.in_ok-commands.ensures.number first t at, c.in_ok-changes.ensures.number second t one, c.in_ok-facts.ensures.number clean t two) at found)

-- src/opening.rt:75:5
pub returns-in-None-clause-damaged : goal.returns-in-None-clause-damaged
returns-in-None-clause-damaged g c clean t at table is =
    let second = c.number-3.ensures.reads.spares.clean clean in
    let first = c.number-2.ensures.reads.spares.clean second in
    let one = tables_again c.in_ok-commands.ensures.reads.spares first t at tt in
    let two = tables_again c.in_ok-changes.ensures.reads.spares second t one tt in
    let found : None ≡ limits_of_numbers c.in_ok-commands.commands c.in_ok-changes.changes c.in_ok-facts.facts = c.in-None.ensures in
    (cc, sym (rw (c.in_ok-commands.ensures.number first t at, c.in_ok-changes.ensures.number second t one, c.in_ok-facts.ensures.number clean t two) at found))

pub returns-in_err-facts-clause-damaged : goal.returns-in_err-facts-clause-damaged
returns-in_err-facts-clause-damaged g c clean t at table is =
    let second = c.number-3.ensures.reads.spares.clean clean in
    let first = c.number-2.ensures.reads.spares.clean second in
    let one = tables_again c.in_ok-commands.ensures.reads.spares first t at tt in
    let two = tables_again c.in_ok-changes.ensures.reads.spares second t one tt in
    let p = err_from_is_err_and c.from_residual-in_err-facts.result c.from_residual-in_err-facts.ensures.1 in
    let same : c.in_err-facts.field-0.0 ≡ Damaged table = cc (p.1, p.2, is) in
    absurd (subst SparesRows same (c.in_err-facts.ensures.reads.sound clean t two))

-- ---- of any stored rows

pub returns-in-Some-clause-stored : goal.returns-in-Some-clause-stored
returns-in-Some-clause-stored g c clean stored at =
    let second = c.number-3.ensures.reads.spares.clean clean in
    let first = c.number-2.ensures.reads.spares.clean second in
    let one = stored_again c.in_ok-commands.ensures.reads.spares first stored at tt in
    let two = stored_again c.in_ok-changes.ensures.reads.spares second stored one tt in
    let found : Some c.in-Some.limits ≡ limits_of_numbers c.in_ok-commands.commands c.in_ok-changes.changes c.in_ok-facts.facts = c.in-Some.ensures in
    (_, _, _, c.in_ok-commands.ensures.stored first stored at, c.in_ok-changes.ensures.stored second stored one, c.in_ok-facts.ensures.stored clean stored two, sym found)

pub returns-in-None-clause-limitless : goal.returns-in-None-clause-limitless
returns-in-None-clause-limitless g c clean stored at =
    let second = c.number-3.ensures.reads.spares.clean clean in
    let first = c.number-2.ensures.reads.spares.clean second in
    let one = stored_again c.in_ok-commands.ensures.reads.spares first stored at tt in
    let two = stored_again c.in_ok-changes.ensures.reads.spares second stored one tt in
    let found : None ≡ limits_of_numbers c.in_ok-commands.commands c.in_ok-changes.changes c.in_ok-facts.facts = c.in-None.ensures in
    (refl, inl (_, _, _, c.in_ok-commands.ensures.stored first stored at, c.in_ok-changes.ensures.stored second stored one, c.in_ok-facts.ensures.stored clean stored two, sym found))
