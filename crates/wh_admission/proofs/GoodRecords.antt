-- Each record of a batch that is read is good.
use Rattle.std.proofs.Common.{◌≡◌, ℕ, suc, ◌≤◌, ◌==◌, Bool, true, false, cond, not, leb, ◌&&◌, List, [], ◌∷◌, length, map, Option, Some, None, Result, Ok, Err, refl, sym, ap, ◌∙◌, subst, arith}
use Rattle.std.specs.Prelude.{ok_or}
use Rattle.std.specs.List.{AllByRecursion}
use Rattle.std.proofs.lemmas.Bool.{or_right, eqb-true, not-false}
use Rattle.std.proofs.lemmas.List.{length-map}
use Rattle.std.proofs.lemmas.Option.{cond_some}
use Rattle.wh_day.specs.Day.{is_day, read_day}
use Rattle.wh_day.specs.NaturalKey as day
use Rattle.wh_day.specs.Value.{is_plain, none_text, read_value}
use Rattle.wh_day.proofs.Texts.{text_is}
use Rattle.wh_policy.specs.Policy.{policy_attributes}
use Rattle.wh_policy.specs.declared.attribute.Dim.{Dim}
use Rattle.wh_policy.specs.declared.policy.Policy.{Policy}
use Rattle.wh_policy.specs.declared.record.DimensionRecord.{DimensionRecord}
use Rattle.wh_batch.specs.declared.fault.FaultKind.{FaultKind}
use Rattle.wh_batch.specs.declared.fault.FaultKind.TheVariants.{BadKey, BadDay, BadValue}
use Rattle.wh_batch.specs.Fields.{key_of, day_of, last_effective_day, effective_day_of, value_of, values_of}
use Rattle.wh_batch.specs.Layouts.{dimension_record, dimension_layout, dimension_records}
use Rattle.wh_batch.proofs.GoodLemmas.{bind_ok, cond_ok, reads_batches}
use Rattle.wh_rows.specs.Types.{is_key, is_special, is_given, is_slot}
use Rattle.wh_model.specs.Sound.{IsGivenValue, IsGoodRecord}

-- the keys of records are those of rows
pub same_key : (most : ℕ) (text : List ℕ) → day.is_key most text ≡ is_key most text
same_key most text = refl

pub read_ok : {A : Type 0} (kind : FaultKind) (o : Option A) (x : A) → ok_or o kind ≡ Ok x → o ≡ Some x
read_ok kind (Some y) x h = let e : y ≡ x = cc in ap Some e
read_ok kind None x h = absurd cc

test_ok : {A : Type 0} (b : Bool) (kind : FaultKind) (x y : A) → cond b (Ok x) (Err kind) ≡ Ok y → (b ≡ true) × (x ≡ y)
test_ok true kind x y h = (refl, cc)
test_ok false kind x y h = absurd cc

pub good_key : (most : ℕ) (field key : List ℕ) → key_of most field ≡ Ok key → is_key most key ≡ true
unfolding key_of
good_key most field key h =
    let (passed, same) = test_ok (day.is_key most field) BadKey field key h in
    subst (λ text. is_key most text ≡ true) same (sym (same_key most field) ∙ passed)

good_day : (field : List ℕ) (number : ℕ) → effective_day_of field ≡ Ok number → is_day number ≡ true
unfolding effective_day_of day_of
good_day field number h =
    let (read, found, more) = bind_ok (day_of field) _ number h in
    let (passed, same) = test_ok (leb read last_effective_day) BadDay read number more in
    subst (λ n. is_day n ≡ true) same (text_is field read (read_ok BadDay (read_day field) read found)).0

none_given : IsGivenValue none_text
unfolding none_text is_special is_slot
none_given = (refl, λ e. cc)

given : (field value : List ℕ) → read_value field ≡ Some value → IsGivenValue value
unfolding read_value is_slot
given [] value h = let e : none_text ≡ value = cc in subst IsGivenValue e none_given
given (first ∷ rest) value h =
    let (passed, same) = cond_some (not (first == 40) && is_plain (first ∷ rest)) (first ∷ rest) value h in
    subst IsGivenValue same (or_right (is_special (first ∷ rest)) (is_given (first ∷ rest)) passed, λ e. cc)

good_value : (field value : List ℕ) → value_of field ≡ Ok value → IsGivenValue value
unfolding value_of
good_value field value h = given field value (read_ok BadValue (read_value field) value h)

good_values : (fields values : List (List ℕ)) → values_of fields ≡ Ok values → (length values ≡ length fields) × AllByRecursion IsGivenValue values
unfolding values_of
good_values [] [] h = (refl, tt)
good_values [] (value ∷ values) h = absurd cc
good_values (field ∷ fields) values h =
    let (value, here, more) = bind_ok (value_of field) _ values h in
    let (others, rest, last) = bind_ok (values_of fields) _ values more in
    let e : value ∷ others ≡ values = cc in
    let next = good_values fields others rest in
    rw (← e) (ap suc next.0, (good_value field value here, next.1))

-- fields that write a record of up to six attributes
good_record : (attributes : ℕ) (fields : List (List ℕ)) (r : DimensionRecord) → attributes ≤ 6 → dimension_record attributes fields ≡ Ok r → IsGoodRecord r
unfolding dimension_record
good_record attributes [] r six h = absurd cc
good_record attributes (id ∷ []) r six h = absurd cc
good_record attributes (id ∷ day ∷ fields) r six h =
    let (counted, read) = cond_ok (not (length fields == attributes)) _ _ r h in
    let (natural, id_is, more) = bind_ok (key_of 32 id) _ r read in
    let (number, day_is, rest) = bind_ok (effective_day_of day) _ r more in
    let (values, values_are, last) = bind_ok (values_of fields) _ r rest in
    let made : DimensionRecord = record { natural = natural; day = number; values = values } in
    let e : made ≡ r = cc in
    let (as_many, all_given) = good_values fields values values_are in
    let count : length fields ≡ attributes = eqb-true (length fields) attributes (not-false (length fields == attributes) counted) in
    rw (← e) (record { natural = good_key 32 id natural id_is; day = good_day day number day_is; few = omega arith; values = all_given })

-- what holds of each record that rows write holds of all
pub all_read : {R : Type 0} (read : List (List ℕ) → Result R FaultKind) (P : R → Type 0) → ((fields : List (List ℕ)) (r : R) → read fields ≡ Ok r → P r)
    → (rows : List (List (List ℕ))) (entries : List R) → map read rows ≡ map (λ entry. Ok entry) entries → AllByRecursion P entries
all_read read P so rows [] each = tt
all_read read P so [] (entry ∷ entries) each = absurd cc
all_read {R} read P so (fields ∷ rows) (entry ∷ entries) each =
    let here : read fields ≡ Ok entry = cc in
    let rest : map read rows ≡ map (λ (e : R). Ok e) entries = cc in
    (so fields entry here, all_read read P so rows entries rest)

pub good_records : (dim : Dim) (policy : Policy) (bytes : List ℕ) (records : List DimensionRecord) → length (policy_attributes policy dim) ≤ 6
    → dimension_records dim policy bytes ≡ Ok records → AllByRecursion IsGoodRecord records
unfolding dimension_records
good_records dim policy bytes records six h =
    let batch = (reads_batches (dimension_layout (policy_attributes policy dim)) bytes records).0 h in
    all_read (dimension_record (length (policy_attributes policy dim))) IsGoodRecord (λ fields r. good_record _ fields r six) batch.rows records batch.each

-- and a batch has few
pub few_records : (dim : Dim) (policy : Policy) (bytes : List ℕ) (records : List DimensionRecord) → dimension_records dim policy bytes ≡ Ok records → length records ≤ 5000
unfolding dimension_records
few_records dim policy bytes records h =
    let layout = dimension_layout (policy_attributes policy dim) in
    let batch = (reads_batches layout bytes records).0 h in
    let as_many : length batch.rows ≡ length records =
    sym (length-map batch.rows layout.read) ∙ ap length batch.each ∙ length-map records (λ (r : DimensionRecord). Ok r) in
    omega (arith, as_many, batch.few)
