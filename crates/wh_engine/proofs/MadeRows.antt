-- The rows of a making are valid.
use Rattle.std.proofs.Common.{◌≡◌, inl, inr, ℕ, zero, suc, ◌+◌, ◌-◌, ◌≤◌, Bool, true, false, leb, ◌&&◌, cond, List, [], ◌∷◌, length, replicate, Option, Some, None, refl, sym, ◌∙◌, ap, subst, arith, length-append, Ordering}
use Rattle.std.specs.Prelude.{IsTrue, filter_map, find, unwrap_or, option_map}
use Rattle.std.specs.FinMap.{empty, entries, len-entries, len-empty}
use Rattle.std.specs.List.{AllByRecursion, list_all, cons_option}
use Rattle.std.specs.Str.{is_utf8}
use Rattle.std.proofs.lemmas.Bool.{and_parts, cases_Bool}
use Rattle.std.proofs.lemmas.List.{length-replicate}
use Rattle.std.proofs.lemmas.List.Folds.{list_all-append}
use Rattle.wh_day.specs.Calendar.{date_row, weekday_of}
use Rattle.wh_day.specs.Day.{is_day, year_of, first_day, last_day}
use Rattle.wh_day.specs.Holidays.{is_on, holiday_text}
use Rattle.wh_day.specs.Value.{none_text, unknown_text, no_card_text}
use Rattle.wh_day.specs.declared.calendar.DateRow.{DateRow}
use Rattle.wh_day.specs.declared.holiday.Holiday.{Holiday}
use Rattle.wh_policy.specs.Policy.{policy_types}
use Rattle.wh_policy.specs.Types.{rule, is_profile}
use Rattle.wh_policy.specs.declared.attribute.AttributeType.{AttributeType}
use Rattle.wh_policy.specs.declared.type_rule.MainColumn.{MainColumn}
use Rattle.wh_policy.specs.declared.type_rule.MainColumn.TheVariants as main
use Rattle.wh_policy.specs.declared.type_rule.SecondColumn.{SecondColumn}
use Rattle.wh_policy.specs.declared.type_rule.SecondColumn.TheVariants as second
use Rattle.wh_policy.specs.declared.attribute.Dim.TheVariants.{Customer}
use Rattle.wh_policy.specs.declared.policy.Policy.{Policy}
use Rattle.wh_history.specs.Slots.{columns_from, six}
use Rattle.wh_history.specs.Tables.{no_card_in_main, no_card_main, no_card_in_second, no_card_second, no_card_row}
use Rattle.wh_history.proofs.Basics.{some_is}
use Rattle.wh_rows.specs.Rows as row
use Rattle.wh_rows.specs.Types.{is_special, is_slot, are_slots}
use Rattle.wh_model.specs.Defined.{day_at}
use Rattle.wh_plan.specs.FirstRows.{IsGoodPolicy, making_row, first_profiles, calendar_rows, MayBeFirst}
use Rattle.wh_model.proofs.ValidCalendar.{weekday_utf8, none_utf8, day_utf8}
use Rattle.wh_model.proofs.ValidSlots.{columns_length}

-- ---- any rows

all_found : {A B : Type 0} (P : B → Type 0) (f : A → Option B) → ((a : A) (b : B) → f a ≡ Some b → P b) → (xs : List A) → AllByRecursion P (filter_map f xs)
all_found P f each [] = tt
all_found P f each (x ∷ xs) =
    elim (f x) as (λ o. (f x ≡ o) → AllByRecursion P (cons_option o (filter_map f xs))) [
      | None ↦ λ none. all_found P f each xs
      | Some b ↦ λ some. (each x b some, all_found P f each xs)
    ] refl

-- an empty table has no row
no_entries : (K V : Type 0) (order : K → K → Ordering) → entries (empty {K = K} {X = V} {R = order}) ≡ []
no_entries K V order = none (entries (empty {K = K} {X = V} {R = order})) (sym (len-entries (empty {K = K} {X = V} {R = order})) ∙ len-empty order V)
  where
    none : (es : List (K × V)) → length es ≡ 0 → es ≡ []
    none [] is = refl
    none (e ∷ es) is = absurd (omega arith)

-- ---- slots

slots_columns : (column : ℕ → AttributeType → List ℕ) → ((place : ℕ) (kind : AttributeType) → is_slot (column place kind) ≡ true) → (place : ℕ) (kinds : List AttributeType) → list_all is_slot (columns_from column place kinds) ≡ true
slots_columns column each place [] = refl
slots_columns column each place (kind ∷ kinds) = rw (each place kind, slots_columns column each (suc place) kinds) refl

slot_empty : is_slot [] ≡ true
unfolding is_slot is_special
slot_empty = refl

slot_no_card : is_slot no_card_text ≡ true
unfolding is_slot is_special none_text unknown_text no_card_text
slot_no_card = refl

slot_unknown : is_slot unknown_text ≡ true
unfolding is_slot is_special none_text unknown_text no_card_text
slot_unknown = refl

slots_none : (n : ℕ) → list_all is_slot (replicate n []) ≡ true
slots_none zero = refl
slots_none (suc n) = rw (slot_empty, slots_none n) refl

-- up to six texts of slots fill the columns of a row
slots_filled : (texts : List (List ℕ)) → length texts ≤ 6 → list_all is_slot texts ≡ true → are_slots (six texts) ≡ true
slots_filled texts few slots =
    let long : length (six texts) ≡ 6 = length-append texts (replicate (6 - length texts) []) ∙ ap (λ n. length texts + n) (length-replicate (6 - length texts) []) ∙ omega arith in
    let all : list_all is_slot (six texts) ≡ true = rw (list_all-append is_slot texts (replicate (6 - length texts) []), slots, slots_none (6 - length texts)) refl in
    rw (long, all) refl

columns_filled : (column : ℕ → AttributeType → List ℕ) → ((place : ℕ) (kind : AttributeType) → is_slot (column place kind) ≡ true) → (kinds : List AttributeType) → length kinds ≤ 6 → are_slots (six (columns_from column 0 kinds)) ≡ true
columns_filled column each kinds few = slots_filled (columns_from column 0 kinds) (rw (columns_length column 0 kinds) few) (slots_columns column each 0 kinds)

slot_either : (b : Bool) (text other : List ℕ) → is_slot text ≡ true → is_slot other ≡ true → is_slot (cond b text other) ≡ true
slot_either true text other is other_is = is
slot_either false text other is other_is = other_is

slot_in_main : (column : MainColumn) → is_slot (no_card_in_main column) ≡ true
slot_in_main main.Original = slot_no_card
slot_in_main main.FirstDay = slot_no_card
slot_in_main main.Latest = slot_no_card
slot_in_main main.Nothing = slot_empty

slot_in_second : (column : SecondColumn) → is_slot (no_card_in_second column) ≡ true
slot_in_second second.Nothing = slot_empty
slot_in_second second.Prior = slot_no_card
slot_in_second second.Latest = slot_no_card

-- ---- profile and customer

profile_slots : (text : List ℕ) → is_slot text ≡ true → (kinds : List AttributeType) → length kinds ≤ 6 → are_slots (six (columns_from (λ _ kind. cond (is_profile kind) text []) 0 kinds)) ≡ true
profile_slots text is kinds few = columns_filled (λ _ kind. cond (is_profile kind) text []) (λ place kind. slot_either (is_profile kind) text [] is slot_empty) kinds few

profiles_valid : (kinds : List AttributeType) → length kinds ≤ 6 → AllByRecursion (λ v. IsTrue (row.profile.is_valid v)) (first_profiles kinds)
profiles_valid kinds few = (profile_slots no_card_text slot_no_card kinds few, (profile_slots unknown_text slot_unknown kinds few, tt))

card_frame : (a b : List (List ℕ)) → are_slots a ≡ true → are_slots b ≡ true
    → row.customer.is_valid (record { surrogate = 0; durable = 0; natural = no_card_text; from_day = first_day; to_day = last_day; is_current = true; a = a; b = b; profile_now = 0 }) ≡ true
unfolding no_card_text is_day
card_frame a b is_a is_b = rw (is_a, is_b) refl

no_card_valid : (kinds : List AttributeType) → length kinds ≤ 6 → row.customer.is_valid (no_card_row kinds) ≡ true
no_card_valid kinds few =
    card_frame (six (columns_from no_card_main 0 kinds)) (six (columns_from no_card_second 0 kinds))
    (columns_filled no_card_main (λ place kind. slot_in_main (rule kind).main) kinds few) (columns_filled no_card_second (λ place kind. slot_in_second (rule kind).second) kinds few)

-- ---- calendar

holiday_utf8 : (holidays : List Holiday) (day : ℕ) → AllByRecursion (λ (h : Holiday). is_utf8 h.name ≡ true) holidays → is_utf8 (holiday_text holidays day) ≡ true
holiday_utf8 [] day names = none_utf8
holiday_utf8 (h ∷ holidays) day names =
    elim (is_on day h) as (λ b. is_utf8 (unwrap_or (option_map (λ (h : Holiday). h.name) (cond b (Some h) (find (is_on day) holidays))) none_text) ≡ true) [
      | true ↦ names.0
      | false ↦ holiday_utf8 holidays day names.1
    ]

date_valid : (holidays : List Holiday) (day : ℕ) → is_day day ≡ true → AllByRecursion (λ (h : Holiday). is_utf8 h.name ≡ true) holidays → row.calendar.is_valid (date_row holidays day) ≡ true
unfolding date_row
date_valid holidays day is names = rw (is, day_utf8 day is, weekday_utf8 (weekday_of day), holiday_utf8 holidays day names) refl

day_valid : (policy : Policy) (day : ℕ) (found : DateRow) → AllByRecursion (λ (h : Holiday). is_utf8 h.name ≡ true) policy.holidays → day_at policy day ≡ Some found → IsTrue (row.calendar.is_valid found)
day_valid policy day found names is =
    elim (cases_Bool (is_day day && leb policy.years.first (year_of day) && leb (year_of day) policy.years.last)) [
      | inl all ↦
          let some : Some (date_row policy.holidays day) ≡ Some found = rw all at is in
          let a_day = (and_parts (is_day day) (leb policy.years.first (year_of day)) (and_parts (is_day day && leb policy.years.first (year_of day)) (leb (year_of day) policy.years.last) all).0).0 in
          subst (λ (r : DateRow). row.calendar.is_valid r ≡ true) (some_is (date_row policy.holidays day) found some) (date_valid policy.holidays day a_day names)
      | inr not_all ↦ let none : None ≡ Some found = rw not_all at is in absurd (cc)
    ]

calendar_valid : (policy : Policy) → AllByRecursion (λ (h : Holiday). is_utf8 h.name ≡ true) policy.holidays → AllByRecursion (λ v. IsTrue (row.calendar.is_valid v)) (calendar_rows policy)
calendar_valid policy names = all_found (λ v. IsTrue (row.calendar.is_valid v)) (day_at policy) (λ day found. day_valid policy day found names) _

-- ---- all of them

pub first_may : (policy : Policy) (bytes : List ℕ) → IsGoodPolicy policy
    → MayBeFirst (making_row bytes) (no_card_row (policy_types policy Customer)) (first_profiles (policy_types policy Customer)) (calendar_rows policy)
first_may policy bytes good = record {
  command = refl;
  customer = no_card_valid (policy_types policy Customer) (good.six Customer);
  profiles = profiles_valid (policy_types policy Customer) (good.six Customer);
  calendar = calendar_valid policy good.names;
}
