-- What a call that reads leaves of an engine, and its faults.
use Rattle.std.proofs.Common.{◌≡◌, Bool, false, ◌||◌, List, Result, Ok, Err, Some, IfErr, IsTrue, refl, sym, ap, subst}
use Rattle.std.specs.Prelude.{IsErr, IsErrAnd, IsOk, Option, ⊤}
use Rattle.sqlite_trees.specs.declared.store.Store.{Ghosts}
use Rattle.sqlite.specs.Order.{Row}
use Rattle.sqlite.specs.State.{State}
use Rattle.wh_history.specs.Accepted.{Accepted}
use Rattle.wh_history.specs.Tables.{Limits}
use Rattle.wh_rows.specs.AtRest.{IsAtRest, Leaves}
use Rattle.wh_rows.specs.Firsts.{Front}
use Rattle.wh_rows.specs.Holds.{Layout}
use Rattle.wh_rows.specs.Tables.{Tables}
use Rattle.wh_rows.specs.Raw.{Stored}
use Rattle.wh_rows.specs.declared.table.Table.{Table}
use Rattle.wh_sql.specs.Answers.{SparesRows, SparesStore, NamesDamage, IsOfAskedDamage, state_of, ReadsOnly, Spares}
use Rattle.wh_sql.specs.declared.at_rest.Tables.{Tables as HeldTables}
use Rattle.wh_sql.specs.declared.fault.ReadFault.{ReadFault}
use Rattle.wh_sql.specs.declared.fault.ReadFault.TheVariants as reading
use Rattle.wh_engine.specs.Answered.{IsReady}
use Rattle.wh_admission.specs.declared.command.Refusal.{Refusal}
use Rattle.wh_engine.specs.Faults.{of_reading, stops, IsServed, IsWorkedOut, BlamesDamage, Judges, TellsTaken, NamesTable}
use Rattle.wh_engine.specs.Outcome.{Outcome}
use Rattle.wh_engine.specs.Scanned.{noting, EngineReads, IsServing, IsWanting, Reads, ReadsThrough, WhenAtRest, WhenReady}
use Rattle.wh_engine.specs.declared.engine.Engine.{Engine}
use Rattle.wh_engine.specs.declared.fault.Fault.{Fault}
use Rattle.wh_engine.specs.declared.fault.Fault.TheVariants as faults
use Rattle.wh_engine.specs.declared.session.Session.{Session}
use Rattle.wh_engine.proofs.Outcomes.{anywhere, read_and_noted}
use Rattle.wh_history.proofs.Records.{or_false}
use Rattle.std.proofs.lemmas.Result.{err_from_is_err_and}
use Rattle.wh_sql.proofs.Sparing.{spares_itself, spares_where, stored_again, tables_again, tables_left, then_spares}

-- ---- faults of a reading

pub wanting : (fault : ReadFault) → SparesRows fault → IsWanting (of_reading fault)
wanting reading.Memory spares = tt
wanting (reading.Damaged table) spares = absurd spares
wanting (reading.Store cause) spares = tt

-- the table that is named is the one that was asked
pub names_it : {K V : Type 0} (front : Option Front) (layout : Layout K V) (table : Table) (stored : List Row) (why : ReadFault) → IsOfAskedDamage front layout table stored why → NamesTable table (of_reading why)
names_it front layout table stored reading.Memory of = tt
names_it front layout table stored (reading.Damaged which) of = of.0
names_it front layout table stored (reading.Store cause) of = tt

-- what was worked out isn't refused before any work
pub not_reopen : {A : Type 0} (result : Result A Fault) (said : Type 0) → IsWorkedOut result → result ≡ Err faults.Reopen → said
not_reopen result said work is = absurd (subst IsWorkedOut is work)

-- what spares the store as the engine tells it does as it was read
pub still_served : {A : Type 0} (result : Result A Fault) (why : ReadFault) → IsErr result × IsErrAnd result (λ fault. fault ≡ of_reading why) → IsServed result → SparesStore why
still_served (Ok x) why came served = let err = came.0 in absurd cc
still_served (Err fault) reading.Memory came served = tt
still_served (Err fault) (reading.Damaged table) came served = tt
still_served {A} (Err fault) (reading.Store cause) came served = subst (λ (f : Fault). IsServed {A = A} (Err f)) came.1 served

-- it names the same table, and is no answer that is given before any work
pub still_blames : {A : Type 0} (stored : Stored) (result : Result A Fault) (why : ReadFault) → IsErr result × IsErrAnd result (λ fault. fault ≡ of_reading why) → NamesDamage stored why → BlamesDamage stored result
still_blames stored (Ok x) why came named = tt
still_blames {A} stored (Err fault) reading.Memory came named = subst (λ (f : Fault). BlamesDamage {A = A} stored (Err f)) (sym came.1) tt
still_blames {A} stored (Err fault) (reading.Damaged table) came named = subst (λ (f : Fault). BlamesDamage {A = A} stored (Err f)) (sym came.1) named
still_blames {A} stored (Err fault) (reading.Store cause) came named = subst (λ (f : Fault). BlamesDamage {A = A} stored (Err f)) (sym came.1) tt

pub still_works : {A : Type 0} (result : Result A Fault) (why : ReadFault) → IsErr result × IsErrAnd result (λ fault. fault ≡ of_reading why) → IsWorkedOut result
still_works (Ok x) why came = tt
still_works {A} (Err fault) reading.Memory came = subst (λ (f : Fault). IsWorkedOut {A = A} (Err f)) (sym came.1) tt
still_works {A} (Err fault) (reading.Damaged table) came = subst (λ (f : Fault). IsWorkedOut {A = A} (Err f)) (sym came.1) tt
still_works {A} (Err fault) (reading.Store cause) came = subst (λ (f : Fault). IsWorkedOut {A = A} (Err f)) (sym came.1) tt

-- it tells no name as taken
pub still_tells : {A : Type 0} (taken : Bool) (result : Result A Fault) (why : ReadFault) → IsErr result × IsErrAnd result (λ fault. fault ≡ of_reading why) → TellsTaken taken result
still_tells taken (Ok x) why came = tt
still_tells {A} taken (Err fault) reading.Memory came = subst (λ (f : Fault). TellsTaken {A = A} taken (Err f)) (sym came.1) tt
still_tells {A} taken (Err fault) (reading.Damaged table) came = subst (λ (f : Fault). TellsTaken {A = A} taken (Err f)) (sym came.1) tt
still_tells {A} taken (Err fault) (reading.Store cause) came = subst (λ (f : Fault). TellsTaken {A = A} taken (Err f)) (sym came.1) tt

-- after a reading that was answered another failed: both leave of the tables what one reading leaves
pub failed_after : {S A B : Type 0} (g : Ghosts S) (old new : HeldTables S) (between : State) (why : ReadFault) (result : Result A Fault) → Spares (state_of g old) between ⊤ → ReadsOnly {A = B} between (state_of g new) (Err why)
    → IsErr result × IsErrAnd result (λ fault. fault ≡ of_reading why) → Reads g old new result
failed_after g old new between why result first last came = record {
  spares = spares_where (still_served result why came) (then_spares first tt last.spares);
  blames = λ clean stored rests. still_blames stored result why came (last.named clean stored (stored_again first (last.spares.clean clean) stored rests tt));
  work = still_works result why came;
  taken = still_tells _ result why came;
}

-- what keeps a call from answering, whatever it would have answered
pub fails_other : {S A B : Type 0} (g : Ghosts S) (old new : HeldTables S) (fault : Fault) → Reads {A = A} g old new (Err fault) → Reads {A = B} g old new (Err fault)
fails_other g old new fault it = record { spares = it.spares; blames = it.blames; work = it.work; taken = it.taken }

-- a reading of an engine's, after others that were answered
pub reads_after : {S A : Type 0} (g : Ghosts S) (old mid new : HeldTables S) (result : Result A Fault) → Spares (state_of g old) (state_of g mid) ⊤ → Reads g mid new result → Reads g old new result
reads_after g old mid new result first last = record {
  spares = then_spares first tt last.spares;
  blames = λ clean stored rests. last.blames clean stored (stored_again first (last.spares.clean clean) stored rests tt);
  work = last.work;
  taken = last.taken;
}

-- and it failed
pub fails_after : {S A B : Type 0} (g : Ghosts S) (old mid new : HeldTables S) (fault : Fault) (result : Result A Fault) → Spares (state_of g old) (state_of g mid) ⊤ → Reads {A = B} g mid new (Err fault)
    → IsErr result × IsErrAnd result (λ f. f ≡ fault) → Reads g old new result
fails_after {A} {B} g old mid new fault result first last came =
    let p = err_from_is_err_and result came.1 in
    rw (p.1, p.2) (fails_other {A = B} {B = A} g old new fault (reads_after g old mid new (Err fault) first last))

-- where memory ran out, or the database refused a call, nothing else is told
wants_judged : {X Y : Type 0} (fits : X → Y → Type 0) (fault : Fault) (judged : Result Y Refusal) → IsWanting fault → Judges fits (Err fault) judged
wants_judged fits (faults.Refused why) judged wants = absurd wants
wants_judged fits (faults.Damaged table) judged wants = wants
wants_judged fits faults.Memory judged wants = tt
wants_judged fits (faults.Store cause) judged wants = tt
wants_judged fits faults.Reopen judged wants = wants

pub unread_judged : {X Y : Type 0} (fits : X → Y → Type 0) (result : Result X Fault) (judged : Result Y Refusal) (why : ReadFault) → IsErr result × IsErrAnd result (λ fault. fault ≡ of_reading why) → SparesRows why → Judges fits result judged
unread_judged fits result judged why came undamaged =
    let p = err_from_is_err_and result came.1 in
    rw (p.1, p.2) (wants_judged fits (of_reading why) judged (wanting why undamaged))

-- ---- a row that was handed out, or refused

module _ (limits : Limits) (commands : List Accepted) (session : Session) (old new : State) (ready : IsReady limits commands session old) where
  abbrev tables : Tables
  tables = ready.rests.tables

  is_due : {A : Type 0} (result : Result A Fault) → IfErr result IsWanting → Outcome IsOk commands commands result anywhere
  is_due (Ok found) wants = (refl, tt)
  is_due (Err faults.Memory) wants = tt
  is_due (Err (faults.Store cause)) wants = tt
  is_due (Err (faults.Refused why)) wants = absurd wants
  is_due (Err (faults.Damaged table)) wants = wants
  is_due (Err faults.Reopen) wants = wants

  -- nothing had been noted before
  noting_is : {A : Type 0} (result : Result A Fault) → ◌≡◌ {A = Session} (record session { must_reopen = stops result }) (noting session result)
  noting_is result = ap (λ (m : Bool). record session { must_reopen = m || stops result }) (sym (ap (λ (q : Session). q.must_reopen) ready.session_is))

  pub serving : {A : Type 0} (result : Result A Fault) → IfErr result IsWanting → (IsServed result → IsAtRest (Some tables) new) → Leaves (Some tables) new → IsServing limits commands result (noting session result) new
  serving result wants rests left =
      subst (λ (after : Session). IsServing limits commands result after new) (noting_is result) (read_and_noted limits commands session old new ready IsOk left result (is_due result wants) rests)

-- ---- an engine

module _ {S A : Type 0} (g : Ghosts S) where
  -- it has to be opened again
  pub shut : (e : Engine S) → IsTrue e.session.must_reopen → EngineReads {A = A} g e e (Err faults.Reopen)
  shut e flagged = record {
    spares = spares_itself;
    blames = λ clean stored on. tt;
    noted = sym (ap (λ (m : Bool). record (e.session) { must_reopen = m }) (or_false e.session.must_reopen));
    shuts = record { same = λ is. (refl, refl, refl); only = λ is. flagged };
    writes = refl;
  }

  -- or it hadn't to, and its tables were read
  pub read : (old : Engine S) (tables : HeldTables S) (result : Result A Fault) → old.session.must_reopen ≡ false → Reads g old.tables tables result
      → EngineReads g old (record { tables = tables; session = record (old.session) { must_reopen = stops result }; writes = old.writes }) result
  read old tables result unflagged reads = record {
    spares = reads.spares;
    blames = reads.blames;
    noted = sym (ap (λ (m : Bool). record (old.session) { must_reopen = m || stops result }) unflagged);
    shuts = record { same = λ is. absurd (cc (is, unflagged)); only = not_reopen result _ reads.work };
    writes = refl;
  }

  -- or by a call of it
  pub read_through : (old new : Engine S) (result : Result A Fault) → old.session.must_reopen ≡ false → ReadsThrough old.session new.session (state_of g old.tables) (state_of g new.tables) result → new.writes ≡ old.writes
      → EngineReads g old new result
  read_through old new result unflagged reads writes = record {
    spares = reads.spares;
    blames = reads.blames;
    noted = reads.noted;
    shuts = record { same = λ is. absurd (cc (is, unflagged)); only = reads.only };
    writes = writes;
  }

  -- one that was ready is so still, if no other fault comes
  pub still_serves : (old new : Engine S) (result : Result A Fault) → EngineReads g old new result → WhenAtRest g old.tables new.tables (λ _. IfErr result IsWanting) → WhenReady g old new (λ limits commands. IsServing limits commands result)
  still_serves old new result reads wants clean limits commands ready =
      let t = ready.rests.tables in
      let rests = ready.rests.rests in
      subst (λ session. IsServing limits commands result session (state_of g new.tables)) (sym reads.noted)
      (serving limits commands old.session (state_of g old.tables) (state_of g new.tables) ready result (wants clean t rests) (tables_again reads.spares clean t rests) (tables_left reads.spares clean t rests))

-- ---- one of several readings

pub unserved : {A : Type 0} (s : Session) (st : State) → IsTrue s.must_reopen → ReadsThrough {A = A} s s st st (Err faults.Reopen)
unserved s st flagged = record {
  spares = spares_itself;
  serves = λ clean limits commands ready. absurd (cc (flagged, ap (λ (q : Session). q.must_reopen) ready.session_is));
  blames = λ clean stored on. tt;
  noted = sym (ap (λ (m : Bool). record s { must_reopen = m }) (or_false s.must_reopen));
  only = λ is. flagged;
}
