-- A value that is found, or put, under a name.
use Rattle.std.proofs.Common.{◌≡◌, ◌≢◌, ℕ, zero, suc, ◌<◌, Bool, true, false, if◌then◌else◌, List, [], ◌∷◌, ◌++◌, take, length, get_or, set, Option, Some, None, bytes_eq, refl, sym, ap, ◌∙◌, arith}
use Rattle.std.specs.String.{string_bytes}
use Rattle.std.proofs.lemmas.Slice.Eq.{bytes_eq-Decides}
use Rattle.wh_memory_host.specs.declared.named.NamedValue.{NamedValue}
use Rattle.wh_memory_host.specs.Named.{named}

not_true : (b : Bool) → b ≢ true → b ≡ false
not_true true not = absurd (not refl)
not_true false not = refl

module _ {T : Type 0} where
  -- the item has the name
  abbrev pub has_name : NamedValue T → List ℕ → Bool
  has_name item name = bytes_eq (string_bytes item.name) name

  abbrev first : Bool → T → Option T → Option T
  first b value rest = if b then Some value else rest

  -- none so far, and the next has it
  pub found : (items : List (NamedValue T)) (i : ℕ) (name : List ℕ) (d : NamedValue T) → i < length items → named (take i items) name ≡ None → has_name (get_or items i d) name ≡ true
      → named items name ≡ Some (get_or items i d).value
  found [] i name d lt none same = absurd (omega arith)
  found (x ∷ items) zero name d lt none same = rw same refl
  found (x ∷ items) (suc i) name d lt none same =
      elim (has_name x name) as (λ b. first b x.value (named (take i items) name) ≡ None → first b x.value (named items name) ≡ Some (get_or items i d).value) [
        | true ↦ λ h. absurd cc
        | false ↦ λ h. found items i name d (omega arith) h same
      ] none

  -- none so far, and another is put in the place of the next
  pub put_there : (items : List (NamedValue T)) (i : ℕ) (name : List ℕ) (y : NamedValue T) → i < length items → named (take i items) name ≡ None → has_name y name ≡ true
      → named (set items i y) name ≡ Some y.value
  put_there [] i name y lt none same = absurd (omega arith)
  put_there (x ∷ items) zero name y lt none same = rw same refl
  put_there (x ∷ items) (suc i) name y lt none same =
      elim (has_name x name) as (λ b. first b x.value (named (take i items) name) ≡ None → first b x.value (named (set items i y) name) ≡ Some y.value) [
        | true ↦ λ h. absurd cc
        | false ↦ λ h. put_there items i name y (omega arith) h same
      ] none

  -- an item of another name is put in the place of one of its own
  pub put_elsewhere : (items : List (NamedValue T)) (i : ℕ) (other : List ℕ) (y d : NamedValue T) → has_name (get_or items i d) other ≡ false → has_name y other ≡ false
      → named (set items i y) other ≡ named items other
  put_elsewhere [] i other y d was is = refl
  put_elsewhere (x ∷ items) zero other y d was is = rw was (rw is refl)
  put_elsewhere (x ∷ items) (suc i) other y d was is = ap (first (has_name x other) x.value) (put_elsewhere items i other y d was is)

  -- none so far, nor the next
  pub skipped : (items : List (NamedValue T)) (i : ℕ) (name : List ℕ) (d : NamedValue T) → i < length items → named (take i items) name ≡ None → has_name (get_or items i d) name ≡ false
      → named (take (suc i) items) name ≡ None
  skipped [] i name d lt none another = absurd (omega arith)
  skipped (x ∷ items) zero name d lt none another = rw another refl
  skipped (x ∷ items) (suc i) name d lt none another =
      elim (has_name x name) as (λ b. first b x.value (named (take i items) name) ≡ None → first b x.value (named (take (suc i) items) name) ≡ None) [
        | true ↦ λ h. absurd cc
        | false ↦ λ h. skipped items i name d (omega arith) h another
      ] none

  -- one is put after all, where none has its name
  pub put_last : (items : List (NamedValue T)) (name : List ℕ) (y : NamedValue T) → named items name ≡ None → has_name y name ≡ true → named (items ++ y ∷ []) name ≡ Some y.value
  put_last [] name y none same = rw same refl
  put_last (x ∷ items) name y none same =
      elim (has_name x name) as (λ b. first b x.value (named items name) ≡ None → first b x.value (named (items ++ y ∷ []) name) ≡ Some y.value) [
        | true ↦ λ h. absurd cc
        | false ↦ λ h. put_last items name y h same
      ] none

  pub others_last : (items : List (NamedValue T)) (other : List ℕ) (y : NamedValue T) → has_name y other ≡ false → named (items ++ y ∷ []) other ≡ named items other
  others_last [] other y is = rw is refl
  others_last (x ∷ items) other y is = ap (first (has_name x other) x.value) (others_last items other y is)

  -- an item of one name has no other
  pub is_another : (item : NamedValue T) (name other : List ℕ) → has_name item name ≡ true → other ≢ name → has_name item other ≡ false
  is_another item name other same apart =
      not_true (has_name item other) (λ yes. apart (sym ((bytes_eq-Decides (string_bytes item.name) other).0 yes) ∙ (bytes_eq-Decides (string_bytes item.name) name).0 same))

  -- what was made of a name has it
  pub of_name : (item : NamedValue T) (name : List ℕ) → string_bytes item.name ≡ name → has_name item name ≡ true
  of_name item name of = (bytes_eq-Decides (string_bytes item.name) name).1 of
