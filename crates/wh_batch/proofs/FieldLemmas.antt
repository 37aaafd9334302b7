-- Reading the fields of a record, one after the other.
use Rattle.std.proofs.Common.{◌≡◌, ℕ, refl, zero, suc, ◌+◌, ◌<◌, ◌≤◌, List, [], ◌∷◌, ◌++◌, length, take, drop, get_or, map, Some, Ok, ap, arith, Bor}
use Rattle.std.proofs.lemmas.List.{drop_more, drop_all}
use Rattle.csv.specs.Records.{field_at}
use Rattle.wh_day.specs.declared.error.ParseError.{ParseError}
use Rattle.wh_day.specs.Reading.{Fails}
use Rattle.wh_day.proofs.Loops.{with_front, with_front-cons, with_front-nil, with_front-fails}
use Rattle.wh_batch.specs.declared.fault.FaultKind.{FaultKind}
use Rattle.wh_batch.specs.Fields.{value_of, values_of}

pub values-next : (front : List (List ℕ)) (field : List ℕ) (rest : List (List ℕ)) (value : List ℕ) → value_of field ≡ Ok value
    → with_front front (values_of (field ∷ rest)) ≡ with_front (front ++ value ∷ []) (values_of rest)
unfolding values_of
values-next front field rest value e = rw e (with_front-cons front value (values_of rest))

pub values-fail : (error : ParseError FaultKind) (front : List (List ℕ)) (field : List ℕ) (rest : List (List ℕ)) → Fails error (value_of field) → Fails error (with_front front (values_of (field ∷ rest)))
unfolding values_of
values-fail error front field rest h = with_front-fails error front (value_of field) _ h

pub values-done : (front : List (List ℕ)) → with_front front (values_of []) ≡ Ok front
unfolding values_of
values-done front = with_front-nil front

-- one more field
pub take-field : (fields : List (List ℕ)) (i : ℕ) (field : List ℕ) → field_at fields i ≡ Some field → take i fields ++ field ∷ [] ≡ take (suc i) fields
unfolding field_at
take-field [] i field e = absurd cc
take-field (f ∷ fs) zero field e = ap (λ (x : List ℕ). x ∷ []) (cc)
take-field (f ∷ fs) (suc i) field e = ap (λ (xs : List (List ℕ)). f ∷ xs) (take-field fs i field e)

-- the fields from a place on
pub fields-from : (fields : List (Bor (List ℕ))) (i : ℕ) (d : Bor (List ℕ)) → i < length fields → map (λ f. f.now) (drop i fields) ≡ (get_or fields i d).now ∷ map (λ f. f.now) (drop (i + 1) fields)
fields-from fields i d lt = ap (map (λ f. f.now)) (drop_more fields i d lt)

pub fields-past : (fields : List (Bor (List ℕ))) (i : ℕ) → length fields ≤ i → map (λ f. f.now) (drop i fields) ≡ []
fields-past fields i le = ap (map (λ f. f.now)) (drop_all i fields le)

-- no field
abbrev pub missing : Bor (List ℕ)
missing = record { ref_ptr = (0, 0); now = [] }

-- nine fields, each by its place
pub nine_fields : (fields : List (Bor (List ℕ))) → length fields ≡ 9 → map (λ f. f.now) fields
    ≡ (get_or fields 0 missing).now ∷ (get_or fields 1 missing).now ∷ (get_or fields 2 missing).now ∷ (get_or fields 3 missing).now ∷ (get_or fields 4 missing).now
    ∷ (get_or fields 5 missing).now ∷ (get_or fields 6 missing).now ∷ (get_or fields 7 missing).now ∷ (get_or fields 8 missing).now ∷ []
nine_fields (a ∷ b ∷ c ∷ d ∷ e ∷ f ∷ g ∷ h ∷ i ∷ []) nine = refl
nine_fields _ nine = absurd (omega arith)
