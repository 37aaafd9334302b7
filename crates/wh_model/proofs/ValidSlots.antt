-- Texts that a slot can hold.
use Rattle.std.proofs.Common.{◌≡◌, ℕ, zero, suc, ◌-◌, ◌≤◌, Bool, true, false, not, List, [], ◌∷◌, length, map, replicate, reverse, refl, arith, length-append}
use Rattle.std.specs.Prelude.{find, unwrap_or, bytes_eq}
use Rattle.std.specs.List.{AllByRecursion, list_all}
use Rattle.std.proofs.lemmas.Bool.{eq-eqb}
use Rattle.std.proofs.lemmas.List.{length-replicate, reverse-append}
use Rattle.wh_day.specs.Value.{none_text, unknown_text, no_card_text}
use Rattle.wh_policy.specs.declared.attribute.AttributeType.{AttributeType}
use Rattle.wh_history.specs.Slots.{slot, columns_from, six}
use Rattle.wh_history.proofs.Basics.{first_or}
use Rattle.wh_history.proofs.Joins.{all_append}
use Rattle.wh_rows.specs.Types.{is_slot, is_special, are_slots}

abbrev pub IsSlot : List ℕ → Type 0
IsSlot text = is_slot text ≡ true

pub no_text : IsSlot []
unfolding is_slot is_special
no_text = refl

pub none_slot : IsSlot none_text
unfolding is_slot is_special none_text
none_slot = refl

pub unknown_slot : IsSlot unknown_text
unfolding is_slot is_special none_text unknown_text
unknown_slot = refl

pub no_card_slot : IsSlot no_card_text
unfolding is_slot is_special none_text unknown_text no_card_text
no_card_slot = refl

-- ---- lists of them

all_hold : {X : Type 0} (p : X → Bool) (xs : List X) → AllByRecursion (λ x. p x ≡ true) xs → list_all p xs ≡ true
all_hold p [] all = refl
all_hold p (x ∷ xs) all = let here = all.0 in rw (here, all_hold p xs all.1) refl

pub all_copies : {X : Type 0} (P : X → Type 0) (n : ℕ) (x : X) → P x → AllByRecursion P (replicate n x)
all_copies P zero x here = tt
all_copies P (suc n) x here = (here, all_copies P n x here)

pub slot_in : (texts : List (List ℕ)) (place : ℕ) → AllByRecursion IsSlot texts → IsSlot (slot texts place)
slot_in [] place all = none_slot
slot_in (text ∷ texts) zero all = all.0
slot_in (text ∷ texts) (suc place) all = slot_in texts place all.1

pub columns_slots : (f : ℕ → AttributeType → List ℕ) → ((place : ℕ) (kind : AttributeType) → IsSlot (f place kind)) → (from : ℕ) (kinds : List AttributeType) → AllByRecursion IsSlot (columns_from f from kinds)
columns_slots f each from [] = tt
columns_slots f each from (kind ∷ kinds) = (each from kind, columns_slots f each (suc from) kinds)

pub columns_length : (f : ℕ → AttributeType → List ℕ) (from : ℕ) (kinds : List AttributeType) → length (columns_from f from kinds) ≡ length kinds
columns_length f from [] = refl
columns_length f from (kind ∷ kinds) = let rest = columns_length f (suc from) kinds in omega arith

six_length : (texts : List (List ℕ)) → length texts ≤ 6 → length (six texts) ≡ 6
six_length texts few =
    let both = length-append texts (replicate (6 - length texts) []) in
    let more = length-replicate {A = List ℕ} (6 - length texts) [] in
    omega arith

-- up to six of them are the texts of a row's slots
pub six_slots : (texts : List (List ℕ)) → length texts ≤ 6 → AllByRecursion IsSlot texts → are_slots (six texts) ≡ true
six_slots texts few all =
    let long = eq-eqb (length (six texts)) 6 (six_length texts few) in
    let each = all_hold is_slot (six texts) (all_append IsSlot texts (replicate (6 - length texts) []) all (all_copies IsSlot (6 - length texts) [] no_text)) in
    rw (long, each) refl

-- and so are those of columns
pub six_columns : (f : ℕ → AttributeType → List ℕ) (kinds : List AttributeType) → length kinds ≤ 6 → ((place : ℕ) (kind : AttributeType) → IsSlot (f place kind)) → are_slots (six (columns_from f 0 kinds)) ≡ true
six_columns f kinds few each =
    let same = columns_length f 0 kinds in
    six_slots (columns_from f 0 kinds) (omega arith) (columns_slots f each 0 kinds)

-- ---- the first that passes a test

found_slot : (p : List ℕ → Bool) (texts : List (List ℕ)) → AllByRecursion IsSlot texts → IsSlot (unwrap_or (find p texts) none_text)
found_slot p [] all = none_slot
found_slot p (text ∷ texts) all =
    elim (p text) as (λ b. IsSlot (unwrap_or (first_or b text (find p texts)) none_text)) [ true ↦ all.0 | false ↦ found_slot p texts all.1 ]

pub first_other : (text : List ℕ) (texts : List (List ℕ)) → AllByRecursion IsSlot texts → IsSlot (unwrap_or (find (λ t. not (bytes_eq t text)) texts) none_text)
first_other text texts all = found_slot (λ t. not (bytes_eq t text)) texts all

pub all_reversed : {X : Type 0} (P : X → Type 0) (xs : List X) → AllByRecursion P xs → AllByRecursion P (reverse xs)
all_reversed P [] all = tt
all_reversed P (x ∷ xs) all = rw (reverse-append (x ∷ []) xs) (all_append P (reverse xs) (x ∷ []) (all_reversed P xs all.1) (all.0, tt))

pub all_mapped : {X Y : Type 0} (P : X → Type 0) (Q : Y → Type 0) (f : X → Y) → ((x : X) → P x → Q (f x)) → (xs : List X) → AllByRecursion P xs → AllByRecursion Q (map f xs)
all_mapped P Q f each [] all = tt
all_mapped P Q f each (x ∷ xs) all = (each x all.0, all_mapped P Q f each xs all.1)
