-- Reading the entries of a list, one after the other.
use Rattle.std.proofs.Common.{◌≡◌, ℕ, ◌+◌, Bool, true, false, List, [], ◌∷◌, ◌++◌, Some, None, Ok, Err, refl}
use Rattle.std.specs.Prelude.{if◌then◌else◌}
use Rattle.wh_day.proofs.Loops.{with_front, with_front-cons, with_front-nil}
use Rattle.wh_batch.specs.Entries.{Writes, entries_from}
use Rattle.wh_batch.specs.Rows.{Table}

module _ {E : Type 0} (entry : Writes E) (front : List E) (number : ℕ) where
  pub entries-done : with_front front (entries_from entry number []) ≡ Ok front
  unfolding entries_from
  entries-done = with_front-nil front

  pub entries-next : (fields : List (List ℕ)) (rows : Table) (first : E) → entry fields ≡ Some first
      → with_front front (entries_from entry number (fields ∷ rows)) ≡ with_front (front ++ first ∷ []) (entries_from entry (number + 1) rows)
  unfolding entries_from
  entries-next fields rows first e = rw e (with_front-cons front first (entries_from entry (number + 1) rows))

  pub entries-bad : (fields : List (List ℕ)) (rows : Table) → entry fields ≡ None → with_front front (entries_from entry number (fields ∷ rows)) ≡ Err (record { number = number })
  unfolding entries_from
  entries-bad fields rows e = rw e refl

-- what is taken for a text is the field, which is one
pub field-text : (is_text : Bool) (field text : List ℕ) → Some text ≡ (if is_text then Some field else None) → (is_text ≡ true) × (text ≡ field)
field-text true field text e = (refl, cc)
field-text false field text e = absurd cc
