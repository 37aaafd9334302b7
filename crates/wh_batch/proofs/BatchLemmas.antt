-- Reading the records of a batch, one after the other.
use Rattle.std.proofs.Common.{◌≡◌, ℕ, ◌+◌, ◌≤◌, List, [], ◌∷◌, ◌++◌, Ok, Err, refl}
use Rattle.std.proofs.lemmas.Bool.{le-ltb}
use Rattle.wh_day.proofs.Loops.{with_front, with_front-cons, with_front-nil}
use Rattle.wh_batch.specs.declared.fault.FaultKind.{FaultKind}
use Rattle.wh_batch.specs.declared.fault.FaultKind.TheVariants.{TooLarge}
use Rattle.wh_batch.specs.Batch.{Key, Layout, at, next_record, records_after}
use Rattle.wh_batch.specs.Rows.{Table}

pub records-done : {R : Type 0} (layout : Layout R) (front : List R) (earlier : List Key) (number : ℕ) → with_front front (records_after layout earlier number []) ≡ Ok front
unfolding records_after
records-done layout front earlier number = with_front-nil front

pub records-next : {R : Type 0} (layout : Layout R) (front : List R) (earlier : List Key) (number : ℕ) (fields : List (List ℕ)) (rows : Table) (entry : R) → number ≤ 5000
    → next_record layout earlier fields ≡ Ok entry
    → with_front front (records_after layout earlier number (fields ∷ rows)) ≡ with_front (front ++ entry ∷ []) (records_after layout (earlier ++ layout.key entry ∷ []) (number + 1) rows)
unfolding records_after
records-next layout front earlier number fields rows entry le e =
    rw (le-ltb 5000 number le, e) (with_front-cons front entry (records_after layout (earlier ++ layout.key entry ∷ []) (number + 1) rows))

pub records-fault : {R : Type 0} (layout : Layout R) (front : List R) (earlier : List Key) (number : ℕ) (fields : List (List ℕ)) (rows : Table) (kind : FaultKind) → number ≤ 5000
    → next_record layout earlier fields ≡ Err kind
    → with_front front (records_after layout earlier number (fields ∷ rows)) ≡ Err (at number kind)
unfolding records_after
records-fault layout front earlier number fields rows kind le e = rw (le-ltb 5000 number le, e) refl

pub records-full : {R : Type 0} (layout : Layout R) (front : List R) (earlier : List Key) (number : ℕ) (fields : List (List ℕ)) (rows : Table) → number ≡ 5001
    → with_front front (records_after layout earlier number (fields ∷ rows)) ≡ Err (at 5001 TooLarge)
unfolding records_after
records-full layout front earlier number fields rows last = rw last refl
