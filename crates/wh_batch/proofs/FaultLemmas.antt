-- Listing the faults of a batch, one row after the other.
use Rattle.std.proofs.Common.{◌≡◌, ℕ, ◌+◌, ◌≤◌, Bool, true, false, ◌||◌, List, [], ◌∷◌, ◌++◌, Option, Result, Ok, Err, IfOk, refl, sym, ◌∙◌, append_assoc}
use Rattle.std.specs.Result.{result_err}
use Rattle.std.specs.List.{list_any}
use Rattle.std.proofs.lemmas.Bool.{le-ltb}
use Rattle.std.proofs.lemmas.List.{append-nil}
use Rattle.std.proofs.lemmas.List.Folds.{list_any-append}
use Rattle.wh_day.specs.declared.error.ParseError.{ParseError}
use Rattle.wh_day.specs.declared.error.ParseError.TheVariants as errors
use Rattle.wh_day.specs.Reading.{◌>>=◌, Gives}
use Rattle.wh_batch.specs.declared.fault.FaultKind.{FaultKind}
use Rattle.wh_batch.specs.declared.fault.FaultKind.TheVariants.{TooLarge}
use Rattle.wh_batch.specs.declared.listed.RecordFault.{RecordFault}
use Rattle.wh_batch.specs.Rows.{Table}
use Rattle.wh_batch.specs.Batch.{Key, Layout, is_same_key, admitted, next_record}
use Rattle.wh_batch.specs.Columns.{Tells}
use Rattle.wh_batch.specs.Keys.{AreSameKeys}
use Rattle.wh_batch.proofs.GoodLemmas.{is_same_key-Decides}
use Rattle.wh_batch.specs.Faults.{whole, fault_of_row, key_of_row, faults_after}

-- what a reading told is the fault of what the definition reads
pub told-fault : {X Y A : Type 0} (view : X → Y) (read : Result X (ParseError FaultKind)) (spec : Result Y FaultKind) (fault : Result (Option FaultKind) A)
    → Gives view read spec → IfOk fault (λ f. Tells read f) → IfOk fault (λ f. f ≡ result_err spec)
told-fault view read spec (Err e) gives told = tt
told-fault view (Ok x) spec (Ok f) gives told = rw gives told
told-fault view (Err (errors.Fault kind)) spec (Ok f) gives told = rw gives told
told-fault view (Err errors.Memory) spec (Ok f) gives told = absurd told

-- keys that are the same for each test give the same record
pub same-next : {R : Type 0} (layout : Layout R) (keys others : List Key) (fields : List (List ℕ)) → AreSameKeys keys others → next_record layout keys fields ≡ next_record layout others fields
unfolding next_record
same-next {R} layout keys others fields s = by_read (layout.read fields)
  where
    by_read : (read : Result R FaultKind) → (read >>= admitted layout keys) ≡ (read >>= admitted layout others)
    by_read (Err kind) = refl
    by_read (Ok entry) = rw (s.same (layout.key entry)) refl

pub same-append : (keys others more : List Key) → AreSameKeys keys others → AreSameKeys (keys ++ more) (others ++ more)
same-append keys others more s = record { same = λ key. rw (list_any-append (is_same_key key) keys more, list_any-append (is_same_key key) others more, s.same key) refl }

pub same-faults : {R : Type 0} (layout : Layout R) (keys others : List Key) (number : ℕ) (rows : Table) → AreSameKeys keys others → faults_after layout keys number rows ≡ faults_after layout others number rows
unfolding faults_after
same-faults layout keys others number [] s = refl
same-faults layout keys others number (fields ∷ rows) s =
    rw (
      same-next layout keys others fields s,
      same-faults layout (keys ++ key_of_row layout fields) (others ++ key_of_row layout fields) (number + 1) rows (same-append keys others (key_of_row layout fields) s),
    ) refl

-- what was listed and what is still to be listed are all faults: one row more, no row more, and one too many
pub faults-next : {R : Type 0} (layout : Layout R) (done all : List RecordFault) (keys left : List Key) (number : ℕ) (fields : List (List ℕ)) (rows : Table) → number ≤ 5000
    → AreSameKeys left (keys ++ key_of_row layout fields) → done ++ faults_after layout keys number (fields ∷ rows) ≡ all
    → (done ++ fault_of_row layout.columns number fields (next_record layout keys fields)) ++ faults_after layout left (number + 1) rows ≡ all
unfolding faults_after
faults-next layout done all keys left number fields rows le s complete =
    let here = fault_of_row layout.columns number fields (next_record layout keys fields) in
    rw (same-faults layout left (keys ++ key_of_row layout fields) (number + 1) rows s)
    (append_assoc done here (faults_after layout (keys ++ key_of_row layout fields) (number + 1) rows) ∙ rw (le-ltb 5000 number le) at complete)

pub faults-done : {R : Type 0} (layout : Layout R) (done all : List RecordFault) (keys : List Key) (number : ℕ) → done ++ faults_after layout keys number [] ≡ all → done ≡ all
unfolding faults_after
faults-done layout done all keys number complete = sym (append-nil done) ∙ complete

pub faults-full : {R : Type 0} (layout : Layout R) (done all : List RecordFault) (keys : List Key) (number : ℕ) (fields : List (List ℕ)) (rows : Table) → number ≡ 5001
    → done ++ faults_after layout keys number (fields ∷ rows) ≡ all → done ++ whole 5001 TooLarge ∷ [] ≡ all
unfolding faults_after
faults-full layout done all keys number fields rows last complete = rw last at complete

-- a key that an earlier record has adds nothing
pub twice-same : {R : Type 0} (layout : Layout R) (keys : List Key) (fields : List (List ℕ)) (entry : R) → layout.read fields ≡ Ok entry
    → list_any (is_same_key (layout.key entry)) keys ≡ true → AreSameKeys keys (keys ++ key_of_row layout fields)
twice-same layout keys fields entry read twice = rw read (record { same = λ key. rw (list_any-append (is_same_key key) keys (layout.key entry ∷ [])) (by_test key (is_same_key key (layout.key entry)) refl) })
  where
    or-false : (b : Bool) → b ≡ (b || (false || false))
    or-false true = refl
    or-false false = refl

    by_test : (key : Key) (b : Bool) → b ≡ is_same_key key (layout.key entry) → list_any (is_same_key key) keys ≡ (list_any (is_same_key key) keys || (b || false))
    by_test key true same = let e = (is_same_key-Decides key (layout.key entry)).0 (sym same) in rw (e, twice) refl
    by_test key false same = or-false (list_any (is_same_key key) keys)
