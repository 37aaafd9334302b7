-- Calls that read through an engine, one after another.
use Rattle.std.proofs.Common.{◌≡◌, ◌≢◌, true≢false, Bool, false, ◌||◌, Result, Ok, Err, IfErr, IsTrue, refl, sym, ap, ◌∙◌}
use Rattle.sqlite_trees.specs.declared.store.Store.{Ghosts}
use Rattle.sqlite.specs.State.{State}
use Rattle.wh_sql.specs.Answers.{state_of}
use Rattle.wh_engine.specs.Faults.{stops}
use Rattle.wh_engine.specs.Scanned.{noting, EngineReads, IsServing, ReadsThrough, WhenReady}
use Rattle.wh_engine.specs.declared.engine.Engine.{Engine}
use Rattle.wh_engine.specs.declared.fault.Fault.{Fault}
use Rattle.wh_engine.specs.declared.fault.Fault.TheVariants as faults
use Rattle.wh_engine.specs.declared.session.Session.{Session}
use Rattle.wh_policy.specs.declared.format.Format.{Format}
use Rattle.wh_report.specs.Output.{IsOfNoTable, of_warehouse}
use Rattle.wh_report.specs.Reported.{uncounted}
use Rattle.wh_report.specs.declared.column.LabelColumn.{LabelColumn}
use Rattle.wh_report.specs.declared.fact.FactFault.{FactFault}
use Rattle.wh_report.specs.declared.fact.FactFault.TheVariants as uncountable
use Rattle.wh_report.specs.declared.output.ReportFault.{ReportFault}
use Rattle.wh_report.specs.declared.output.ReportFault.TheVariants as report
use Rattle.wh_history.proofs.Records.{or_false}
use Rattle.wh_sql.proofs.Sparing.{spares_itself, stored_again, then_spares}

noted_twice : {A B : Type 0} (s : Session) (x : A) (result : Result B Fault) → noting (noting s (Ok x)) result ≡ noting s result
noted_twice s x result = ap (λ (m : Bool). record { limits = s.limits; policy = s.policy; format = s.format; must_reopen = m || stops result }) (or_false s.must_reopen)

-- an engine that has to be opened again after a call that was answered had to be before
pub flagged_before : {A : Type 0} (r s : Session) (x : A) → s ≡ noting r (Ok x) → IsTrue s.must_reopen → IsTrue r.must_reopen
flagged_before r s x noted flagged = sym (or_false r.must_reopen) ∙ ap (λ (q : Session). q.must_reopen) (sym noted) ∙ flagged

-- so another that had not to be never answers that
pub never_reopen : (r s : Session) (fault : Fault) → r.must_reopen ≡ false → s ≡ noting {A = Unit {0}} r (Ok tt) → (fault ≡ faults.Reopen → IsTrue s.must_reopen) → fault ≢ faults.Reopen
never_reopen r s fault unflagged noted only is = true≢false (sym (flagged_before {A = Unit {0}} r s tt noted (only is)) ∙ unflagged)

-- a call of an engine is a reading
module _ {S A : Type 0} (g : Ghosts S) where
  pub through : (old new : Engine S) (result : Result A Fault) → EngineReads g old new result → WhenReady g old new (λ limits commands. IsServing limits commands result)
      → ReadsThrough old.session new.session (state_of g old.tables) (state_of g new.tables) result
  through old new result reads serves = record { spares = reads.spares; serves = serves; blames = reads.blames; noted = reads.noted; only = reads.shuts.only }

-- and leaves the format as it was
pub format_kept : {A : Type 0} (before after : Session) (old new : State) (result : Result A Fault) → ReadsThrough before after old new result → after.format ≡ before.format
format_kept before after old new result reads = ap (λ (s : Session). s.format) reads.noted

-- nothing was read yet
pub unread : {A : Type 0} (s : Session) (st : State) (x : A) → ReadsThrough s s st st (Ok x)
unread s st x = record {
  spares = spares_itself;
  serves = λ clean limits commands ready. (refl, ready);
  blames = λ clean stored on. tt;
  noted = sym (ap (λ (m : Bool). record { limits = s.limits; policy = s.policy; format = s.format; must_reopen = m }) (or_false s.must_reopen));
  only = λ is. absurd (cc);
}

-- one call after another
pub and_then : {A B : Type 0} (r s t : Session) (old mid new : State) (x : A) (result : Result B Fault) → ReadsThrough r s old mid (Ok x) → ReadsThrough s t mid new result → ReadsThrough r t old new result
and_then r s t old mid new x result first second = record {
  spares = then_spares first.spares tt second.spares;
  serves = λ clean limits commands ready. second.serves clean limits commands ((first.serves (second.spares.clean clean) limits commands ready).1);
  blames = λ clean stored on. second.blames clean stored (stored_again first.spares (second.spares.clean clean) stored on tt);
  noted = second.noted ∙ ap (λ (q : Session). noting q result) first.noted ∙ noted_twice r x result;
  only = λ is. flagged_before r s x first.noted (second.only is);
}

-- what a call answered doesn't matter
pub answered : {A B : Type 0} (r s : Session) (old new : State) (x : A) (y : B) → ReadsThrough r s old new (Ok x) → ReadsThrough r s old new (Ok y)
answered r s old new x y reads = record { spares = reads.spares; serves = reads.serves; blames = reads.blames; noted = reads.noted; only = λ is. absurd (cc) }

-- nor of which type
pub faulted : {A B : Type 0} (r s : Session) (old new : State) (fault : Fault) → ReadsThrough {A = A} r s old new (Err fault) → ReadsThrough {A = B} r s old new (Err fault)
faulted r s old new (faults.Refused why) reads = record { spares = reads.spares; serves = reads.serves; blames = reads.blames; noted = reads.noted; only = λ is. absurd (cc) }
faulted r s old new (faults.Damaged table) reads = record { spares = reads.spares; serves = reads.serves; blames = reads.blames; noted = reads.noted; only = λ is. absurd (cc) }
faulted r s old new faults.Memory reads = record { spares = reads.spares; serves = reads.serves; blames = reads.blames; noted = reads.noted; only = λ is. absurd (cc) }
faulted r s old new (faults.Store cause) reads = record { spares = reads.spares; serves = reads.serves; blames = reads.blames; noted = reads.noted; only = λ is. absurd (cc) }
faulted r s old new faults.Reopen reads = record { spares = reads.spares; serves = reads.serves; blames = reads.blames; noted = reads.noted; only = λ is. reads.only refl }

-- memory ran out then
pub out_of_memory : {A B : Type 0} (r s : Session) (old new : State) (x : A) → ReadsThrough r s old new (Ok x) → ReadsThrough {A = B} r s old new (Err faults.Memory)
out_of_memory r s old new x reads = record { spares = reads.spares; serves = λ clean limits commands ready. (reads.serves clean limits commands ready).1; blames = reads.blames; noted = reads.noted; only = λ is. absurd (cc) }

-- or what was read can't be counted
pub read_not_counted : (B : Type 0) (r s : Session) (old new : State) (format : Format) (column : LabelColumn) (why : FactFault) → ReadsThrough {A = Unit {0}} r s old new (Ok tt) → ReadsThrough r s old new (of_warehouse {A = B} (Err (uncounted format column why)))
read_not_counted B r s old new format column uncountable.Memory reads = out_of_memory r s old new tt reads
read_not_counted B r s old new format column uncountable.NoLabel reads = reads
read_not_counted B r s old new format column uncountable.Damaged reads = reads

-- or it was all, or the writer failed
pub ended : {A B : Type 0} (r s : Session) (old new : State) (x : A) (result : Result B ReportFault) → IfErr result IsOfNoTable → ReadsThrough r s old new (Ok x) → ReadsThrough r s old new (of_warehouse result)
ended r s old new x (Ok done) none reads = answered r s old new x tt reads
ended r s old new x (Err report.Write) none reads = answered r s old new x tt reads
ended r s old new x (Err (report.Warehouse faults.Memory)) none reads = out_of_memory r s old new x reads
ended r s old new x (Err (report.Warehouse (faults.Refused why))) none reads = absurd none
ended r s old new x (Err (report.Warehouse (faults.Damaged table))) none reads = absurd none
ended r s old new x (Err (report.Warehouse (faults.Store cause))) none reads = absurd none
ended r s old new x (Err (report.Warehouse faults.Reopen)) none reads = absurd none
ended r s old new x (Err (report.Unwritten faults.Memory)) none reads = out_of_memory r s old new x reads
ended r s old new x (Err (report.Unwritten (faults.Refused why))) none reads = absurd none
ended r s old new x (Err (report.Unwritten (faults.Damaged table))) none reads = absurd none
ended r s old new x (Err (report.Unwritten (faults.Store cause))) none reads = absurd none
ended r s old new x (Err (report.Unwritten faults.Reopen)) none reads = absurd none
ended r s old new x (Err (report.Inconsistent table)) none reads = absurd none

-- a row was handed out
pub handed_out : {A : Type 0} (r s t : Session) (old mid new : State) (x : Unit {0}) (row : A) → ReadsThrough r s old mid (Ok x) → ReadsThrough s t mid new (Ok row) → ReadsThrough {A = Unit {0}} r t old new (Ok tt)
handed_out r s t old mid new x row first second = answered r t old new row tt (and_then r s t old mid new x (Ok row) first second)

-- what was answered before any work is answered by an engine that had to be opened again
pub only_flagged : {B : Type 0} (r s : Session) (old new : State) (result : Result B ReportFault) → ReadsThrough r s old new (of_warehouse result) → result ≡ Err (report.Warehouse faults.Reopen) → IsTrue r.must_reopen
only_flagged r s old new result reads is = reads.only (ap of_warehouse is)

-- nothing was read, since memory ran out or the writer failed
pub unread_memory : {B : Type 0} (s : Session) (st : State) (result : Result B ReportFault) → result ≡ Err (report.Warehouse faults.Memory) → ReadsThrough s s st st (of_warehouse result)
unread_memory s st result is =
    let done : Unit {0} = tt in
    rw is (out_of_memory s s st st done (unread s st done))

pub unread_unwritten : {B : Type 0} (s : Session) (st : State) (result : Result B ReportFault) (fault : ReportFault) → result ≡ Err fault → fault ≡ report.Write → ReadsThrough s s st st (of_warehouse result)
unread_unwritten s st result fault is write = rw (is, write) (unread s st tt)
