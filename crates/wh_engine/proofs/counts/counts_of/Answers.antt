use Rattle.std.proofs.Common.{◌≡◌, ℕ, Ok, Err}
use Rattle.std.proofs.lemmas.Result.{err_from_is_err_and}
use Rattle.wh_engine.specs.declared.counts.Counts.{Counts}
use Rattle.wh_engine.specs.declared.fault.Fault.{Fault}
use Rattle.wh_engine.specs.declared.fault.Fault.TheVariants.{Refused, Damaged, Memory, Store, Reopen}
use Rattle.wh_engine.specs.Faults.{Judges}
use Rattle.wh_engine.proofs.FoundCounts.{counts_are}
use Rattle.wh_engine.proofs.counts.counts_of.Goals as goal
use Rattle.wh_engine.proofs.Scanning.{fails_after, unread_judged}
use Rattle.wh_sql.proofs.Sparing.{stored_again, tables_again, then_spares}

-- what keeps the members from being counted keeps all
not_counted : (fault : Fault) (number : ℕ) (counts : Counts) → Judges {X = ℕ} {Y = ℕ} (λ count told. count ≡ told) (Err fault) (Ok number) → Judges {X = Counts} {Y = Counts} (λ found told. found ≡ told) (Err fault) (Ok counts)
not_counted (Refused why) number counts judged = absurd cc
not_counted (Damaged table) number counts judged = absurd judged
not_counted Memory number counts judged = tt
not_counted (Store cause) number counts judged = tt
not_counted Reopen number counts judged = absurd judged

pub returns-in_err-products-clause-counts : goal.returns-in_err-products-clause-counts
returns-in_err-products-clause-counts g c clean t rests limits commands are accepted same =
    let clean3 = c.in_err-products.ensures.reads.spares.clean clean in
    let clean2 = c.count_facts.ensures.reads.spares.clean clean3 in
    let clean1 = c.count-2.ensures.reads.spares.clean clean2 in
    let rests1 = tables_again c.in_ok-commands.ensures.reads.spares clean1 t rests tt in
    let rests2 = tables_again c.in_ok-changes.ensures.reads.spares clean2 t rests1 tt in
    let rests3 = tables_again c.in_ok-facts.ensures.reads.spares clean3 t rests2 tt in
    let p = err_from_is_err_and c.from_residual-in_err-products.result c.from_residual-in_err-products.ensures.1 in
    rw (p.1, p.2) (not_counted c.in_err-products.field-0.0 _ _ (c.in_err-products.ensures.members clean t rests3 limits commands are))

pub returns-in_err-stores-clause-counts : goal.returns-in_err-stores-clause-counts
returns-in_err-stores-clause-counts g c clean t rests limits commands are accepted same =
    let clean4 = c.in_err-stores.ensures.reads.spares.clean clean in
    let clean3 = c.member_count.ensures.reads.spares.clean clean4 in
    let clean2 = c.count_facts.ensures.reads.spares.clean clean3 in
    let clean1 = c.count-2.ensures.reads.spares.clean clean2 in
    let rests1 = tables_again c.in_ok-commands.ensures.reads.spares clean1 t rests tt in
    let rests2 = tables_again c.in_ok-changes.ensures.reads.spares clean2 t rests1 tt in
    let rests3 = tables_again c.in_ok-facts.ensures.reads.spares clean3 t rests2 tt in
    let rests4 = tables_again c.in_ok-products.ensures.reads.spares clean4 t rests3 tt in
    let p = err_from_is_err_and c.from_residual-in_err-stores.result c.from_residual-in_err-stores.ensures.1 in
    rw (p.1, p.2) (not_counted c.in_err-stores.field-0.0 _ _ (c.in_err-stores.ensures.members clean t rests4 limits commands are))

pub returns-in_err-customers-clause-counts : goal.returns-in_err-customers-clause-counts
returns-in_err-customers-clause-counts g c clean t rests limits commands are accepted same =
    let clean5 = c.in_err-customers.ensures.reads.spares.clean clean in
    let clean4 = c.member_count-2.ensures.reads.spares.clean clean5 in
    let clean3 = c.member_count.ensures.reads.spares.clean clean4 in
    let clean2 = c.count_facts.ensures.reads.spares.clean clean3 in
    let clean1 = c.count-2.ensures.reads.spares.clean clean2 in
    let rests1 = tables_again c.in_ok-commands.ensures.reads.spares clean1 t rests tt in
    let rests2 = tables_again c.in_ok-changes.ensures.reads.spares clean2 t rests1 tt in
    let rests3 = tables_again c.in_ok-facts.ensures.reads.spares clean3 t rests2 tt in
    let rests4 = tables_again c.in_ok-products.ensures.reads.spares clean4 t rests3 tt in
    let rests5 = tables_again c.in_ok-stores.ensures.reads.spares clean5 t rests4 tt in
    let p = err_from_is_err_and c.from_residual-in_err-customers.result c.from_residual-in_err-customers.ensures.1 in
    rw (p.1, p.2) (not_counted c.in_err-customers.field-0.0 _ _ (c.in_err-customers.ensures.members clean t rests5 limits commands are))

pub returns-clause-counts : goal.returns-clause-counts
returns-clause-counts g c clean t rests limits commands are accepted same =
    let clean5 = c.member_count-3.ensures.reads.spares.clean clean in
    let clean4 = c.member_count-2.ensures.reads.spares.clean clean5 in
    let clean3 = c.member_count.ensures.reads.spares.clean clean4 in
    let clean2 = c.count_facts.ensures.reads.spares.clean clean3 in
    let clean1 = c.count-2.ensures.reads.spares.clean clean2 in
    let rests1 = tables_again c.in_ok-commands.ensures.reads.spares clean1 t rests tt in
    let rests2 = tables_again c.in_ok-changes.ensures.reads.spares clean2 t rests1 tt in
    let rests3 = tables_again c.in_ok-facts.ensures.reads.spares clean3 t rests2 tt in
    let rests4 = tables_again c.in_ok-products.ensures.reads.spares clean4 t rests3 tt in
    let rests5 = tables_again c.in_ok-stores.ensures.reads.spares clean5 t rests4 tt in
    rw c.number.ensures (counts_are limits commands t are accepted c.args.format same c.in_ok-commands.commands c.in_ok-changes.changes c.in_ok-facts.facts c.in_ok-products.products c.in_ok-stores.stores c.in_ok-customers.customers
    (c.in_ok-commands.ensures.count clean1 t rests) (c.in_ok-changes.ensures.count clean2 t rests1) (c.in_ok-facts.ensures.count clean3 t rests2)
    (c.in_ok-products.ensures.members clean4 t rests3 limits commands are) (c.in_ok-stores.ensures.members clean5 t rests4 limits commands are) (c.in_ok-customers.ensures.members clean t rests5 limits commands are))

pub returns-clause-stored : goal.returns-clause-stored
returns-clause-stored g c clean stored rests =
    let clean5 = c.member_count-3.ensures.reads.spares.clean clean in
    let clean4 = c.member_count-2.ensures.reads.spares.clean clean5 in
    let clean3 = c.member_count.ensures.reads.spares.clean clean4 in
    let clean2 = c.count_facts.ensures.reads.spares.clean clean3 in
    let clean1 = c.count-2.ensures.reads.spares.clean clean2 in
    let rests1 = stored_again c.in_ok-commands.ensures.reads.spares clean1 stored rests tt in
    let rests2 = stored_again c.in_ok-changes.ensures.reads.spares clean2 stored rests1 tt in
    (c.number.ensures, c.in_ok-commands.ensures.stored clean1 stored rests, c.in_ok-changes.ensures.stored clean2 stored rests1, c.in_ok-facts.ensures.stored clean3 stored rests2)

pub returns-in_err-products-clause-reads : goal.returns-in_err-products-clause-reads
returns-in_err-products-clause-reads g c = fails_after g.S.Store _ _ _ c.in_err-products.field-0.0 c.from_residual-in_err-products.result (then_spares (then_spares c.in_ok-commands.ensures.reads.spares tt c.in_ok-changes.ensures.reads.spares) tt c.in_ok-facts.ensures.reads.spares) c.in_err-products.ensures.reads c.from_residual-in_err-products.ensures

pub returns-in_err-stores-clause-reads : goal.returns-in_err-stores-clause-reads
returns-in_err-stores-clause-reads g c = fails_after g.S.Store _ _ _ c.in_err-stores.field-0.0 c.from_residual-in_err-stores.result (then_spares (then_spares (then_spares c.in_ok-commands.ensures.reads.spares tt c.in_ok-changes.ensures.reads.spares) tt c.in_ok-facts.ensures.reads.spares) tt c.in_ok-products.ensures.reads.spares) c.in_err-stores.ensures.reads c.from_residual-in_err-stores.ensures

pub returns-in_err-customers-clause-reads : goal.returns-in_err-customers-clause-reads
returns-in_err-customers-clause-reads g c = fails_after g.S.Store _ _ _ c.in_err-customers.field-0.0 c.from_residual-in_err-customers.result (then_spares (then_spares (then_spares (then_spares c.in_ok-commands.ensures.reads.spares tt c.in_ok-changes.ensures.reads.spares) tt c.in_ok-facts.ensures.reads.spares) tt c.in_ok-products.ensures.reads.spares) tt c.in_ok-stores.ensures.reads.spares) c.in_err-customers.ensures.reads c.from_residual-in_err-customers.ensures

pub returns-in_err-changes-clause-counts : goal.returns-in_err-changes-clause-counts
returns-in_err-changes-clause-counts g c clean t rests limits commands are accepted same =
    let before = c.in_err-changes.ensures.reads.spares.clean clean in
    let still = tables_again c.in_ok-commands.ensures.reads.spares before t rests tt in
    unread_judged (λ (counts told : Counts). counts ≡ told) c.from_residual-in_err-changes.result _ c.in_err-changes.field-0.0 c.from_residual-in_err-changes.ensures (c.in_err-changes.ensures.reads.sound clean t still)

pub returns-in_err-facts-clause-counts : goal.returns-in_err-facts-clause-counts
returns-in_err-facts-clause-counts g c clean t rests limits commands are accepted same =
    let before = c.in_err-facts.ensures.reads.spares.clean clean in
    let still = tables_again (then_spares c.in_ok-commands.ensures.reads.spares tt c.in_ok-changes.ensures.reads.spares) before t rests tt in
    unread_judged (λ (counts told : Counts). counts ≡ told) c.from_residual-in_err-facts.result _ c.in_err-facts.field-0.0 c.from_residual-in_err-facts.ensures (c.in_err-facts.ensures.reads.sound clean t still)
