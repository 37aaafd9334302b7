-- A part that is filled from records that come a few at a time.
use Rattle.std.proofs.Common.{◌≡◌, ℕ, zero, suc, ◌+◌, ◌-◌, ◌<◌, ◌≤◌, true, false, ◌||◌, cond, nat_le, List, [], ◌∷◌, ◌++◌, length, take, drop, inl, inr, refl, sym, ap, ◌∙◌, arith, length-append, length-drop, append_assoc, append-nil}
use Rattle.std.specs.Prelude.{flat_map}
use Rattle.std.proofs.lemmas.Bool.{leb-true, leb-false, ltb-true, ltb-false, le-leb, lt-leb, cases_lt}
use Rattle.std.proofs.lemmas.List.{length-take-le, take_all, drop_all, take-append-le, drop-append-le}
use Rattle.std.proofs.Math.Seq.{take-append-add, drop-append-add}
use Rattle.std.proofs.lemmas.Grind.{flat_map-append}
use Rattle.wh_policy.specs.Policy.{policy_attributes}
use Rattle.wh_policy.specs.declared.attribute.Attribute.{Attribute}
use Rattle.wh_policy.specs.declared.attribute.Dim.{Dim}
use Rattle.wh_policy.specs.declared.policy.Policy.{Policy}
use Rattle.wh_policy.specs.declared.record.DimensionRecord.{DimensionRecord}
use Rattle.wh_history.specs.Accepted.{Accepted}
use Rattle.wh_records.specs.Carried.{firsts_of, records_of}
use Rattle.wh_records.specs.Texts.{record_line, header_line, records_text}
use Rattle.wh_records.specs.Parts.{fitting, part_length, part_of, part_from, part_at, IsPartAt}
use Rattle.wh_records.specs.Filled.{IsFilled, IsFurther, is_begun, room_for}
use Rattle.wh_records.specs.declared.part.Filling.{Filling}
use Rattle.wh_records.proofs.PartLemmas.{fits_few, fits_none, part_counted}

-- ---- how many of two lists, one after the other, fit

pub same_room : (most more room left : ℕ) (rs : List DimensionRecord) → most ≡ more → room ≡ left → fitting most room rs ≡ fitting more left rs
same_room most more room left rs count bytes = ap (λ n. fitting n room rs) count ∙ ap (λ n. fitting more n rs) bytes

-- all of the first fit: so many of the others as fit into what is left
fits_on : (most room : ℕ) (xs ys : List DimensionRecord) → fitting most room xs ≡ length xs → fitting most room (xs ++ ys) ≡ length xs + fitting (most - length xs) (room - length (flat_map record_line xs)) ys
fits_on most room [] ys all = same_room most (most - 0) room (room - 0) ys (omega arith) (omega arith) ∙ omega arith
fits_on zero room (x ∷ xs) ys all = absurd (omega (arith, all))
fits_on (suc n) room (x ∷ xs) ys all =
    let line : List ℕ = record_line x in
    let joined = length-append (record_line x) (flat_map record_line xs) in
    elim (nat_le (length (record_line x)) room) as (λ b. cond b (suc (fitting n (room - length (record_line x)) xs)) 0 ≡ suc (length xs)
    → cond b (suc (fitting n (room - length (record_line x)) (xs ++ ys))) 0 ≡ suc (length xs) + fitting (suc n - suc (length xs)) (room - length (flat_map record_line (x ∷ xs))) ys) [
      | true ↦ λ e.
          let rest = fits_on n (room - length (record_line x)) xs ys (omega (arith, e)) in
          let same = same_room (n - length xs) (suc n - suc (length xs)) (room - length (record_line x) - length (flat_map record_line xs)) (room - length (flat_map record_line (x ∷ xs))) ys (omega arith) (omega (arith, joined)) in
          omega (arith, rest, same)
      | false ↦ λ e. absurd (omega (arith, e))
    ] all

-- one of the first had no room: none of the others goes in
fits_no_more : (most room : ℕ) (xs ys : List DimensionRecord) → fitting most room xs < length xs → fitting most room (xs ++ ys) ≡ fitting most room xs
fits_no_more zero room xs ys lt = refl
fits_no_more (suc n) room [] ys lt = absurd (omega (arith, lt))
fits_no_more (suc n) room (x ∷ xs) ys lt =
    elim (nat_le (length (record_line x)) room) as (λ b. cond b (suc (fitting n (room - length (record_line x)) xs)) 0 < suc (length xs)
    → cond b (suc (fitting n (room - length (record_line x)) (xs ++ ys))) 0 ≡ cond b (suc (fitting n (room - length (record_line x)) xs)) 0) [
      | true ↦ λ e. ap suc (fits_no_more n (room - length (record_line x)) xs ys (omega (arith, e)))
      | false ↦ λ e. refl
    ] lt

-- ---- from a place on

drop_joined : {X : Type 0} (k : ℕ) (xs ys : List X) → drop k (xs ++ ys) ≡ drop k xs ++ drop (k - length xs) ys
drop_joined k xs ys = elim (cases_lt k (length xs)) [
  | inl within ↦
      let none : k - length xs ≡ 0 = omega (arith, within) in
      drop-append-le k xs ys (omega (arith, within)) ∙ ap (λ n. drop k xs ++ drop n ys) (sym none)
  | inr past ↦
      let further : k ≡ length xs + (k - length xs) = omega (arith, past) in
      ap (λ n. drop n (xs ++ ys)) further ∙ drop-append-add xs ys (k - length xs) ∙ sym (ap (λ zs. zs ++ drop (k - length xs) ys) (drop_all k xs past))
]

pub part_bounded : (attributes : List Attribute) (rs : List DimensionRecord) → part_length attributes rs ≤ length rs
unfolding part_length
part_bounded attributes rs = fits_few 5000 (1000000 - length (header_line attributes)) rs

-- ---- nothing so far

abbrev none_yet : List DimensionRecord
none_yet = []

pub none_of_none : (attributes : List Attribute) → part_of attributes none_yet ≡ none_yet
unfolding part_length
none_of_none attributes = ap (λ n. take n none_yet) (fits_none 5000 (1000000 - length (header_line attributes)))

pub none_filled : (attributes : List Attribute) (place : ℕ) (f : Filling) → f.part.text.items ≡ header_line attributes → f.part.records ≡ 0 → f.before ≡ place → f.is_full ≡ false → IsFilled attributes place [] f
none_filled attributes place f text counted before open_still =
    let nothing : drop place none_yet ≡ none_yet = drop_all place none_yet (omega arith) in
    let none : part_from attributes none_yet place ≡ none_yet = ap (part_of attributes) nothing ∙ none_of_none attributes in
    record {
      text = text ∙ sym (append-nil (header_line attributes)) ∙ sym (ap (records_text attributes) none);
      counted = counted ∙ sym (ap length none);
      before = omega (arith, before);
      full = λ yes. absurd (cc (yes, open_still));
      whole = λ no. ap length none ∙ sym (ap length nothing);
    }

module _ (attributes : List Attribute) (place : ℕ) (done more : List DimensionRecord) (f : Filling) (is : IsFilled attributes place done f) where
  abbrev before : List DimensionRecord
  before = drop place done

  abbrev after : List DimensionRecord
  after = drop (place - length done) more

  joined : drop place (done ++ more) ≡ before ++ after
  joined = drop_joined place done more

  -- a record had no room, so the part is what it was
  pub still_full : f.is_full ≡ true → IsFilled attributes place (done ++ more) f
  unfolding part_length
  still_full is_full =
      let lt = is.full is_full in
      let counted = part_counted attributes before in
      let short : fitting 5000 (1000000 - length (header_line attributes)) before < length before = omega (arith, lt, counted) in
      let same : part_from attributes (done ++ more) place ≡ part_from attributes done place =
      ap (part_of attributes) joined
      ∙ ap (λ n. take n (before ++ after)) (fits_no_more 5000 (1000000 - length (header_line attributes)) before after short)
      ∙ take-append-le (fitting 5000 (1000000 - length (header_line attributes)) before) before after (omega (arith, short)) in
      let both = length-append done more in
      let left = length-drop place done in
      let long = ap length joined ∙ length-append before after in
      let was = is.before in
      record {
        text = is.text ∙ sym (ap (records_text attributes) same);
        counted = is.counted ∙ sym (ap length same);
        before = omega (arith, was, both, left, lt);
        full = λ _. let one = ap length same in omega (arith, one, lt, long);
        whole = λ no. absurd (cc (is_full, no));
      }

  -- all had: further ones follow
  module _ (left : ℕ) (records : List DimensionRecord) (g : Filling) (open_still : f.is_full ≡ false) (left_is : left ≡ f.before - length more) (records_are : records ≡ drop f.before more)
      (further : IsFurther (record f { before = left }) records g) where
    all_before : length (part_from attributes done place) ≡ length before
    all_before = is.whole open_still

    these : records ≡ after
    these = records_are ∙ ap (λ n. drop n more) is.before

    whole_part : part_of attributes before ≡ before
    whole_part =
        let counted = part_counted attributes before in
        let all = all_before in
        take_all (part_length attributes before) before (omega (arith, counted, all))

    pub fits_all : part_from attributes (done ++ more) place ≡ before ++ take (room_for f records) records
    unfolding part_length
    fits_all =
        let room : ℕ = 1000000 - length (header_line attributes) in
        let counted = part_counted attributes before in
        let all = all_before in
        let in_it = is.counted in
        let text : length f.part.text.items ≡ length (header_line attributes) + length (flat_map record_line before) =
        ap length (is.text ∙ ap (records_text attributes) whole_part) ∙ length-append (header_line attributes) (flat_map record_line before) in
        let on = fits_on 5000 (1000000 - length (header_line attributes)) before after (omega (arith, counted, all)) in
        let same = same_room (5000 - length before) (5000 - f.part.records) (1000000 - length (header_line attributes) - length (flat_map record_line before)) (1000000 - length f.part.text.items) after
        (omega (arith, in_it, all)) (omega (arith, text)) in
        ap (part_of attributes) joined
        ∙ ap (λ n. take n (before ++ after)) (on ∙ ap (λ n. length before + n) same)
        ∙ take-append-add before after (fitting (5000 - f.part.records) (1000000 - length f.part.text.items) after)
        ∙ ap (λ rs. before ++ take (fitting (5000 - f.part.records) (1000000 - length f.part.text.items) rs) rs) (sym these)

    pub now_filled : IsFilled attributes place (done ++ more) g
    now_filled =
        let few = fits_few (5000 - f.part.records) (1000000 - length f.part.text.items) records in
        let taken = length-take-le (room_for f records) records few in
        let long = ap length fits_all ∙ length-append before (take (room_for f records) records) in
        let all = all_before in
        let was = is.counted in
        let is_now = further.counted in
        let both = length-append done more in
        let was_before = is.before in
        let is_before = further.before in
        let same_after = ap length these in
        let whole_length = ap length joined ∙ length-append before after in
        record {
          text = further.text
              ∙ ap (λ t. t ++ flat_map record_line (take (room_for f records) records)) (is.text ∙ ap (records_text attributes) whole_part)
              ∙ append_assoc (header_line attributes) (flat_map record_line before) (flat_map record_line (take (room_for f records) records))
              ∙ ap (λ t. header_line attributes ++ t) (sym (flat_map-append record_line before (take (room_for f records) records)))
              ∙ sym (ap (records_text attributes) fits_all);
          counted = omega (arith, is_now, was, all, long, taken);
          before = omega (arith, is_before, left_is, was_before, both);
          full = λ yes.
              let more_left = ltb-true (room_for f records) (length records) (sym further.full ∙ yes) in
              omega (arith, more_left, long, taken, same_after, whole_length);
          whole = λ no.
              let none_over = ltb-false (room_for f records) (length records) (sym further.full ∙ no) in
              omega (arith, none_over, few, long, taken, same_after, whole_length);
        }

-- ---- whether it is begun

module _ (attributes : List Attribute) (place : ℕ) (records : List DimensionRecord) (f : Filling) (is : IsFilled attributes place records f) where
  pub begun_within : is_begun f ≡ true → place < length records
  begun_within begun =
      let left = length-drop place records in
      elim f.is_full as (λ b. (f.is_full ≡ b) → (b || nat_le 1 f.part.records) ≡ true → place < length records) [
        | true ↦ λ e some. let lt = is.full e in omega (arith, lt, left)
        | false ↦ λ e some.
            let one = leb-true 1 f.part.records some in
            let all = is.whole e in
            let counted = is.counted in
            omega (arith, one, all, counted, left)
      ] refl begun

  pub not_begun_past : is_begun f ≡ false → length records ≤ place
  not_begun_past not_begun =
      let left = length-drop place records in
      elim f.is_full as (λ b. (f.is_full ≡ b) → (b || nat_le 1 f.part.records) ≡ false → length records ≤ place) [
        | true ↦ λ e none. absurd cc
        | false ↦ λ e none.
            let one = leb-false 1 f.part.records none in
            let all = is.whole e in
            let counted = is.counted in
            omega (arith, one, all, counted, left)
      ] refl not_begun

-- ---- the part that is asked for

module _ (policy : Policy) (commands : List Accepted) (dim : Dim) (place : ℕ) (f : Filling) (is : IsFilled (policy_attributes policy dim) place (firsts_of dim commands) f) where
  pub first_part : is_begun f ≡ true → IsPartAt policy commands dim place f.part
  first_part begun =
      let at : part_at policy commands dim place ≡ part_from (policy_attributes policy dim) (firsts_of dim commands) place =
      rw (le-leb (suc place) (length (firsts_of dim commands)) (begun_within (policy_attributes policy dim) place (firsts_of dim commands) f is begun)) refl in
      record { text = is.text ∙ sym (ap (records_text (policy_attributes policy dim)) at); records = is.counted ∙ sym (ap length at) }

  pub dated_part : (g : Filling) → is_begun f ≡ false → IsFilled (policy_attributes policy dim) f.before (records_of dim commands) g → IsPartAt policy commands dim place g.part
  dated_part g not_begun filled =
      let past = not_begun_past (policy_attributes policy dim) place (firsts_of dim commands) f is not_begun in
      let at : part_at policy commands dim place ≡ part_from (policy_attributes policy dim) (records_of dim commands) (place - length (firsts_of dim commands)) =
      rw (lt-leb (suc place) (length (firsts_of dim commands)) (omega (arith, past))) refl in
      let same = at ∙ ap (part_from (policy_attributes policy dim) (records_of dim commands)) (sym is.before) in
      record { text = filled.text ∙ sym (ap (records_text (policy_attributes policy dim)) same); records = filled.counted ∙ sym (ap length same) }
