-- Looking for the field at fault, one place after the other.
use Rattle.std.proofs.Common.{◌≡◌, ℕ, zero, suc, ◌<◌, ◌≤◌, min, true, List, [], ◌∷◌, length, map, take, drop, get_or, Some, None, refl, arith, Bor}
use Rattle.std.specs.List.{position_from, zip}
use Rattle.std.specs.Option.{is_some}
use Rattle.std.proofs.lemmas.List.{drop_more}
use Rattle.wh_policy.specs.declared.format.Format.{Format}
use Rattle.wh_policy.specs.declared.format.Format.TheVariants.{One, Two}
use Rattle.wh_batch.specs.Columns.{Column, names, fault_in, is_at_fault}
use Rattle.wh_batch.specs.Faults.{first_difference}
use Rattle.wh_batch.specs.Layouts.{sales_columns, fields_of_a_sale}

abbrev texts : List (Bor (List ℕ)) → List (List ℕ)
texts fields = map (λ f. f.now) fields

-- the first field at fault is here
pub here-at-fault : (columns : List Column) (fields : List (Bor (List ℕ))) (i : ℕ) (column : Column) (f : Bor (List ℕ)) → i < length columns → i < length fields
    → column ≡ get_or columns i column → is_some (fault_in column.holds (get_or fields i f).now) ≡ true
    → position_from is_at_fault i (zip (drop i columns) (texts (drop i fields))) ≡ Some i
here-at-fault columns fields i column f in_columns in_fields same wrong = rw (drop_more columns i column in_columns, drop_more fields i f in_fields, ← same, wrong) refl

-- past the last one
pub none-at-fault : (columns : List Column) (fields : List (Bor (List ℕ))) (i n : ℕ) → min (length columns) (length fields) ≤ n → position_from is_at_fault i (zip (drop n columns) (texts (drop n fields))) ≡ None
none-at-fault [] fields i zero past = refl
none-at-fault [] fields i (suc n) past = refl
none-at-fault (c ∷ columns) [] i zero past = refl
none-at-fault (c ∷ columns) [] i (suc n) past = rw (zip-nil (drop n columns)) refl
  where
    zip-nil : (cs : List Column) → zip {K = Column} {X = List ℕ} cs [] ≡ []
    zip-nil [] = refl
    zip-nil (d ∷ cs) = refl
none-at-fault (c ∷ columns) (f ∷ fields) i zero past = absurd (omega arith)
none-at-fault (c ∷ columns) (f ∷ fields) i (suc n) past = none-at-fault columns fields i n (omega arith)

pub no-difference : (fields : List (Bor (List ℕ))) (columns : List Column) (n : ℕ) → min (length columns) (length fields) ≤ n → first_difference (texts (drop n fields)) (names (drop n columns)) ≡ 0
no-difference [] columns zero past = refl
no-difference [] columns (suc n) past = refl
no-difference (f ∷ fields) [] zero past = refl
no-difference (f ∷ fields) [] (suc n) past = of-nothing (texts (drop n fields))
  where
    of-nothing : (found : List (List ℕ)) → first_difference found [] ≡ 0
    of-nothing [] = refl
    of-nothing (name ∷ found) = refl
no-difference (f ∷ fields) (c ∷ columns) zero past = absurd (omega arith)
no-difference (f ∷ fields) (c ∷ columns) (suc n) past = no-difference fields columns n (omega arith)

-- the columns of a format
pub first-columns : (format : Format) (columns : List Column) → columns ≡ sales_columns Two → take (fields_of_a_sale format) columns ≡ sales_columns format
first-columns One columns ten = rw ten refl
first-columns Two columns ten = rw ten refl
