-- The field that a fault is told of is the one at fault.
use Rattle.std.proofs.Common.{◌≡◌, ℕ, suc, ◌+◌, Bool, true, false, cond, nat_le, List, [], ◌∷◌, length, get_or, Option, Some, None, Result, Ok, Err, refl, sym, ap, ◌∙◌, add-zero, arith}
use Rattle.std.specs.Prelude.{ok_or}
use Rattle.std.specs.Option.{is_some, option_and_then}
use Rattle.std.specs.Result.{result_err}
use Rattle.std.specs.List.{find, zip, position_from}
use Rattle.std.proofs.lemmas.Bool.Decides.{Decides-eqb}
use Rattle.std.proofs.lemmas.Iterator.Adapters.{position_from-zero}
use Rattle.wh_day.specs.Day.{read_day}
use Rattle.wh_day.specs.NaturalKey.{is_key}
use Rattle.wh_day.specs.Value.{read_value}
use Rattle.wh_day.specs.Reading.{◌>>=◌}
use Rattle.wh_batch.specs.declared.fault.FaultKind.{FaultKind}
use Rattle.wh_batch.specs.declared.fault.FaultKind.TheVariants.{BadKey, BadDay, BadValue, BadNumber}
use Rattle.wh_batch.specs.declared.holds.Holds.{Holds}
use Rattle.wh_batch.specs.declared.holds.Holds.TheVariants.{Ticket, Key, CustomerKey, Day, EffectiveDay, Value, Line, Quantity, Amount, Discount}
use Rattle.wh_batch.specs.Fields.{key_of, customer_of, day_of, last_effective_day, effective_day_of, value_of}
use Rattle.wh_batch.specs.Numbers.{read_line, read_quantity, read_amount, read_hundredths}
use Rattle.wh_batch.specs.Columns.{Column, fault_in, is_at_fault, first_fault, place_at_fault}
use Rattle.wh_batch.specs.Batch.{Layout}
use Rattle.wh_batch.specs.Faults.{place_of}
use Rattle.wh_batch.specs.Laws.{FaultsByColumns, PointsAtField}
use Rattle.wh_batch.proofs.ColumnLemmas.{same-fault}

-- the place of the first fault, and what is wrong there
first-place : (columns : List Column) (fields : List (List ℕ)) (i : ℕ) (other : Column) (kind : FaultKind) → first_fault columns fields ≡ Some kind
    → (n : ℕ) × (position_from is_at_fault i (zip columns fields) ≡ Some (i + n)) × (fault_in (get_or columns n other).holds (get_or fields n []) ≡ Some kind)
first-place [] fields i other kind h = absurd cc
first-place (column ∷ columns) [] i other kind h = absurd cc
first-place (column ∷ columns) (field ∷ fields) i other kind h = by_fault (fault_in column.holds field) refl h (λ rest. first-place columns fields (i + 1) other kind rest)
  where
    by_fault : (fault : Option FaultKind) → fault ≡ fault_in column.holds field
        → option_and_then (λ p. fault_in p.0.holds p.1) (cond (is_some fault) (Some (column, field)) (find is_at_fault (zip columns fields))) ≡ Some kind
        → (first_fault columns fields ≡ Some kind → (n : ℕ) × (position_from is_at_fault (i + 1) (zip columns fields) ≡ Some (i + 1 + n)) × (fault_in (get_or columns n other).holds (get_or fields n []) ≡ Some kind))
        → (n : ℕ) × (cond (is_some fault) (Some i) (position_from is_at_fault (i + 1) (zip columns fields)) ≡ Some (i + n)) × (fault_in (get_or (column ∷ columns) n other).holds (get_or (field ∷ fields) n []) ≡ Some kind)
    by_fault (Some found) same here rest = (0, rw add-zero refl, here)
    by_fault None same here rest =
        let (n, place, wrong) = rest here in
        let next : i + 1 + n ≡ i + suc n = omega arith in
        (suc n, place ∙ ap (λ (k : ℕ). Some k) next, wrong)

-- the only fault of a reading
only : {A : Type 0} (read : Option A) (bad kind : FaultKind) → result_err (ok_or read bad) ≡ Some kind → bad ≡ kind
only (Some x) bad kind h = absurd cc
only None bad kind h = cc

only-key : (most : ℕ) (text : List ℕ) (kind : FaultKind) → result_err (key_of most text) ≡ Some kind → BadKey ≡ kind
unfolding key_of
only-key most text kind h = by_test (is_key most text) h
  where
    by_test : (b : Bool) → result_err {T = List ℕ} (cond b (Ok text) (Err BadKey)) ≡ Some kind → BadKey ≡ kind
    by_test true h = absurd cc
    by_test false h = cc

only-customer : (text : List ℕ) (kind : FaultKind) → result_err (customer_of text) ≡ Some kind → BadKey ≡ kind
unfolding customer_of
only-customer [] kind h = absurd cc
only-customer (first ∷ rest) kind h = only-key 32 (first ∷ rest) kind (sym (same-fault (key_of 32 (first ∷ rest)) _) ∙ h)

only-day : (text : List ℕ) (kind : FaultKind) → result_err (day_of text) ≡ Some kind → BadDay ≡ kind
unfolding day_of
only-day text kind h = only (read_day text) BadDay kind h

only-effective : (text : List ℕ) (kind : FaultKind) → result_err (effective_day_of text) ≡ Some kind → BadDay ≡ kind
unfolding effective_day_of
only-effective text kind h = by_day (day_of text) refl h
  where
    by_test : (b : Bool) (day : ℕ) → result_err {T = ℕ} (cond b (Ok day) (Err BadDay)) ≡ Some kind → BadDay ≡ kind
    by_test true day h = absurd cc
    by_test false day h = cc

    by_day : (read : Result ℕ FaultKind) → read ≡ day_of text → result_err (read >>= λ day. cond (nat_le day last_effective_day) (Ok day) (Err BadDay)) ≡ Some kind → BadDay ≡ kind
    by_day (Ok day) same h = by_test (nat_le day last_effective_day) day h
    by_day (Err found) same h = only-day text kind (ap (λ (r : Result ℕ FaultKind). result_err r) (sym same) ∙ h)

only-value : (text : List ℕ) (kind : FaultKind) → result_err (value_of text) ≡ Some kind → BadValue ≡ kind
unfolding value_of
only-value text kind h = only (read_value text) BadValue kind h

-- a fault of a field has the place of the first field at fault
field-place : (holds : Holds) (text : List ℕ) (kind : FaultKind) (columns : List Column) (fields : List (List ℕ)) → fault_in holds text ≡ Some kind → place_of columns fields kind ≡ place_at_fault columns fields
field-place Ticket text kind columns fields h = rw (← only-key 20 text kind h) refl
field-place Key text kind columns fields h = rw (← only-key 32 text kind h) refl
field-place CustomerKey text kind columns fields h = rw (← only-customer text kind h) refl
field-place Day text kind columns fields h = rw (← only-day text kind h) refl
field-place EffectiveDay text kind columns fields h = rw (← only-effective text kind h) refl
field-place Value text kind columns fields h = rw (← only-value text kind h) refl
field-place Line text kind columns fields h = rw (← only (read_line text) BadNumber kind h) refl
field-place Quantity text kind columns fields h = rw (← only (read_quantity text) BadNumber kind h) refl
field-place Amount text kind columns fields h = rw (← only (read_amount text) BadNumber kind h) refl
field-place Discount text kind columns fields h = rw (← only (read_hundredths text) BadNumber kind h) refl

none-before : (n : ℕ) → 0 + n ≡ n
none-before n = omega arith

pub points-at-field : {R : Type 0} (layout : Layout R) → FaultsByColumns layout → PointsAtField layout
points-at-field layout by_columns fields kind other read right =
    let found = rw ((Decides-eqb (length fields) (length layout.columns)).1 right) at (by_columns fields) in
    let first : first_fault layout.columns fields ≡ Some kind = sym found ∙ ap result_err read in
    let (n, place, wrong) = first-place layout.columns fields 0 other kind first in
    (n, field-place (get_or layout.columns n other).holds (get_or fields n []) kind layout.columns fields wrong ∙ position_from-zero is_at_fault (zip layout.columns fields) ∙ place ∙ ap (λ (k : ℕ). Some k) (none-before n), wrong)
