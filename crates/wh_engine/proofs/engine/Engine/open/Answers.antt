use Rattle.std.proofs.Common.{◌∙◌, ap, subst, Ok}
use Rattle.sqlite.specs.Held.{state}
use Rattle.wh_sql.specs.Answers.{has_tables, has_second}
use Rattle.wh_store.specs.Opening.{IsTaken, IsRefusedWith}
use Rattle.wh_store.specs.Raw.{FormatIs, IsRefusedOn}
use Rattle.wh_sql.proofs.Worked.{all_of_a_warehouse, second_of_a_warehouse}
use Rattle.wh_engine.proofs.OpenedTables.{format_known, not_opened, opened_ready, opened_refused}
use Rattle.wh_engine.proofs.OpenedStored.{format_refused, session_refused}
use Rattle.wh_admission.proofs.Admitted.{admitted_sound}
use Rattle.wh_engine.proofs.engine.Engine.open.Goals as goal
use Rattle.wh_policy.specs.declared.format.Format.TheVariants.{Two}
use Rattle.wh_sql.proofs.Sparing.{stored_again, stored_left, tables_again, tables_left, then_spares}

pub returns-in-Err-clause-fault : goal.returns-in-Err-clause-fault
returns-in-Err-clause-fault g c clean t rests =
    let all_there = ap has_tables rests.now.schema ∙ all_of_a_warehouse t.format in
    let reads = c.in-Err.ensures.reads in
    not_opened t (state g.S.Store c.args.conn) (state g.S.Store c.in-Err.conn) c.in-Err.fault (subst (λ b. IsRefusedWith Two b t (state g.S.Store c.args.conn) (state g.S.Store c.in-Err.conn) c.in-Err.fault) (ap has_second rests.now.schema ∙ second_of_a_warehouse t.format) (c.in-Err.ensures.refused clean t rests all_there)) (tables_left reads clean t rests) (tables_again reads clean t rests)

pub returns-in-Err-clause-refused : goal.returns-in-Err-clause-refused
returns-in-Err-clause-refused g c clean limits commands admitted rests =
    let accepted = admitted_sound limits commands admitted in
    let t = rests.tables in
    let new = state g.S.Store c.in-Err.conn in
    let all_there = ap has_tables rests.rests.now.schema ∙ all_of_a_warehouse t.format in
    let reads = c.in-Err.ensures.reads in
    opened_refused limits commands t accepted rests.are c.in-Err.fault new (not_opened t (state g.S.Store c.args.conn) new c.in-Err.fault (subst (λ b. IsRefusedWith Two b t (state g.S.Store c.args.conn) new c.in-Err.fault) (ap has_second rests.rests.now.schema ∙ second_of_a_warehouse t.format) (c.in-Err.ensures.refused clean t rests.rests all_there)) (tables_left reads clean t rests.rests) (tables_again reads clean t rests.rests))

pub returns-in-Ok-session_of-clause-found : goal.returns-in-Ok-session_of-clause-found
returns-in-Ok-session_of-clause-found g c clean t rests =
    let before = c.session_of.ensures.reads.clean clean in
    let taken = subst (λ b. IsTaken Two b t c.in-Ok.opened.1) (ap has_second rests.now.schema ∙ second_of_a_warehouse t.format) (c.in-Ok.ensures.taken before t rests) in
    let still = tables_again c.in-Ok.ensures.reads before t rests tt in
    let read = c.in-Ok-session_of.ensures.read clean t still in
    (format_known t c.in-Ok.opened.1 taken ∙ read.0, read.1)

pub returns-in-Ok-session_of-clause-ready : goal.returns-in-Ok-session_of-clause-ready
returns-in-Ok-session_of-clause-ready g c clean limits commands admitted rests =
    let accepted = admitted_sound limits commands admitted in
    let before = c.session_of.ensures.reads.clean clean in
    let taken = subst (λ b. IsTaken Two b rests.tables c.in-Ok.opened.1) (ap has_second rests.rests.now.schema ∙ second_of_a_warehouse rests.tables.format) (c.in-Ok.ensures.taken before rests.tables rests.rests) in
    let still = tables_again c.in-Ok.ensures.reads before rests.tables rests.rests tt in
    let read = c.in-Ok-session_of.ensures.read clean rests.tables still in
    opened_ready limits commands rests.tables accepted rests.are admitted c.in-Ok-session_of.session (state g.S.Store c.session_of.new.tables.conn) (format_known rests.tables c.in-Ok.opened.1 taken ∙ read.0) read.1

pub returns-in-Err-session_of-clause-fault : goal.returns-in-Err-session_of-clause-fault
returns-in-Err-session_of-clause-fault g c clean t rests =
    let here = rw c.close.ensures at clean in
    let taken = subst (λ b. IsTaken Two b t c.in-Ok.opened.1) (ap has_second rests.now.schema ∙ second_of_a_warehouse t.format) (c.in-Ok.ensures.taken (c.session_of.ensures.reads.clean here) t rests) in
    let still = tables_again c.in-Ok.ensures.reads (c.session_of.ensures.reads.clean here) t rests tt in
    let read = c.in-Err-session_of.ensures.read here t still in
    rw (c.close.ensures, format_known t c.in-Ok.opened.1 taken) read

pub returns-in-Err-session_of-clause-refused : goal.returns-in-Err-session_of-clause-refused
returns-in-Err-session_of-clause-refused g c clean limits commands admitted rests =
    let accepted = admitted_sound limits commands admitted in
    let t = rests.tables in
    let here = rw c.close.ensures at clean in
    let taken = subst (λ b. IsTaken Two b t c.in-Ok.opened.1) (ap has_second rests.rests.now.schema ∙ second_of_a_warehouse t.format) (c.in-Ok.ensures.taken (c.session_of.ensures.reads.clean here) t rests.rests) in
    let still = tables_again c.in-Ok.ensures.reads (c.session_of.ensures.reads.clean here) t rests.rests tt in
    let read = c.in-Err-session_of.ensures.read here t still in
    rw c.close.ensures (opened_refused limits commands t accepted rests.are c.in-Err-session_of.fault (state g.S.Store c.session_of.new.tables.conn) (rw (format_known t c.in-Ok.opened.1 taken) read))

-- ---- of any stored rows

pub returns-in-Err-clause-fault_stored : goal.returns-in-Err-clause-fault_stored
returns-in-Err-clause-fault_stored g c clean stored rests =
    let all_there = ap has_tables rests.now.schema ∙ all_of_a_warehouse stored.format in
    let reads = c.in-Err.ensures.reads in
    (format_refused stored c.in-Err.fault (subst (λ b. IsRefusedOn Two b stored c.in-Err.fault) (ap has_second rests.now.schema ∙ second_of_a_warehouse stored.format) (c.in-Err.ensures.refused_stored clean stored rests all_there)), stored_left reads clean stored rests, stored_again reads clean stored rests)

pub returns-in-Ok-session_of-clause-found_stored : goal.returns-in-Ok-session_of-clause-found_stored
returns-in-Ok-session_of-clause-found_stored g c clean stored rests =
    let before = c.session_of.ensures.reads.clean clean in
    let still = stored_again c.in-Ok.ensures.reads before stored rests tt in
    let taken = subst (λ b. FormatIs Two b stored (Ok c.in-Ok.opened.1)) (ap has_second rests.now.schema ∙ second_of_a_warehouse stored.format) (c.in-Ok.ensures.taken_stored before stored rests) in
    (c.in-Ok-session_of.ensures.stored clean stored still taken, stored_again c.in-Ok-session_of.ensures.reads clean stored still tt)

pub returns-in-Err-session_of-clause-fault_stored : goal.returns-in-Err-session_of-clause-fault_stored
returns-in-Err-session_of-clause-fault_stored g c clean stored rests =
    let here = rw c.close.ensures at clean in
    let before = c.session_of.ensures.reads.clean here in
    let still = stored_again c.in-Ok.ensures.reads before stored rests tt in
    let reads = c.in-Err-session_of.ensures.reads in
    let fault = session_refused stored (_, subst (λ b. FormatIs Two b stored (Ok c.in-Ok.opened.1)) (ap has_second rests.now.schema ∙ second_of_a_warehouse stored.format) (c.in-Ok.ensures.taken_stored before stored rests)) c.in-Err-session_of.fault (c.in-Err-session_of.ensures.sessionless here stored still) in
    rw c.close.ensures (fault, stored_left reads here stored still, stored_again reads here stored still)

-- ---- of any database

pub returns-in-Ok-session_of-clause-spares : goal.returns-in-Ok-session_of-clause-spares
returns-in-Ok-session_of-clause-spares g c = then_spares c.in-Ok.ensures.reads tt c.in-Ok-session_of.ensures.reads

pub returns-in-Err-session_of-clause-spares_left : goal.returns-in-Err-session_of-clause-spares_left
returns-in-Err-session_of-clause-spares_left g c = rw c.close.ensures (then_spares c.in-Ok.ensures.reads tt c.in-Err-session_of.ensures.reads)
