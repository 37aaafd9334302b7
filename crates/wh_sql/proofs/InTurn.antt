-- Readings in turn: what several leave, one leaves.
use Rattle.std.proofs.Common.{◌≡◌, Result, Ok, Err, sym, subst}
use Rattle.std.specs.Prelude.{IsErr, IsErrAnd}
use Rattle.sqlite.specs.State.{State}
use Rattle.wh_sql.specs.Reads.{ReadsOnly}
use Rattle.wh_sql.specs.declared.fault.ReadFault.{ReadFault}
use Rattle.wh_sql.specs.declared.fault.ReadFault.TheVariants.{Memory}
use Rattle.wh_sql.proofs.Sparing.{spares_itself, stored_again, tables_again, then_spares}
use Rattle.std.proofs.lemmas.Result.{err_from_is_err_and}

-- nothing was called
pub reads_nothing : {A : Type 0} {s : State} {x : A} → ReadsOnly s s (Ok x)
reads_nothing = record { spares = spares_itself; sound = λ clean t at. tt; named = λ clean stored at. tt }

-- what was answered is of no account
pub answers_other : {A B : Type 0} {old new : State} {x : A} {y : B} → ReadsOnly old new (Ok x) → ReadsOnly old new (Ok y)
answers_other it = record { spares = it.spares; sound = it.sound; named = it.named }

-- nor that memory ran out for it
pub runs_out : {A B : Type 0} {old new : State} {x : A} → ReadsOnly old new (Ok x) → ReadsOnly {A = B} old new (Err Memory)
runs_out it = record { spares = it.spares; sound = it.sound; named = it.named }

-- nor what would have been answered in place of a fault
pub fails_other : {A B : Type 0} {old new : State} {fault : ReadFault} → ReadsOnly {A = A} old new (Err fault) → ReadsOnly {A = B} old new (Err fault)
fails_other it = record { spares = it.spares; sound = it.sound; named = it.named }

-- the first answered
pub then_reads : {A B : Type 0} {old mid new : State} {x : A} {result : Result B ReadFault} → ReadsOnly old mid (Ok x) → ReadsOnly mid new result → ReadsOnly old new result
then_reads first second = record {
  spares = then_spares first.spares tt second.spares;
  sound = λ clean t at. second.sound clean t (tables_again first.spares (second.spares.clean clean) t at tt);
  named = λ clean stored at. second.named clean stored (stored_again first.spares (second.spares.clean clean) stored at tt);
}

-- and the second failed
pub then_failed : {A B C : Type 0} {old mid new : State} {x : A} {why : ReadFault} {result : Result C ReadFault} → ReadsOnly old mid (Ok x) → ReadsOnly {A = B} mid new (Err why) → IsErr result × IsErrAnd result (λ fault. fault ≡ why)
    → ReadsOnly old new result
then_failed {old} {new} {result} first second came =
    let p = err_from_is_err_and result came.1 in
    rw (p.1, p.2) (fails_other (then_reads first second))
