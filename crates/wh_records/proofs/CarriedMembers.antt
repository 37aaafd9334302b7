-- After the records that are carried the history says of each member what it said before.
use Rattle.std.proofs.Common.{◌≡◌, ℕ, zero, suc, ◌+◌, ◌-◌, ◌≤◌, true, false, cond, List, [], ◌∷◌, ◌++◌, map, length, take, replicate, Some, refl, sym, ap, ◌∙◌, subst, arith, append_assoc, length-append}
use Rattle.std.specs.Prelude.{filter, slice_get}
use Rattle.std.specs.List.{AllByRecursion}
use Rattle.std.proofs.lemmas.List.{map-append, take-replicate, replicate-append-replicate, length-replicate}
use Rattle.std.proofs.lemmas.List.Elements.{filter-append}
use Rattle.wh_day.specs.Day.{is_day}
use Rattle.wh_day.specs.Value.{none_text}
use Rattle.wh_policy.specs.Types.{is_profile}
use Rattle.wh_policy.specs.declared.attribute.AttributeType.{AttributeType}
use Rattle.wh_policy.specs.declared.attribute.Dim.{Dim}
use Rattle.wh_policy.specs.declared.record.DimensionRecord.{DimensionRecord}
use Rattle.wh_history.specs.Accepted.{Accepted, types_in, described, change_of, changes_of}
use Rattle.wh_history.specs.Dated.{dated, at, values_in, original, first_other_than}
use Rattle.wh_history.specs.Laws.{ChangesHaveDays, DaysRise}
use Rattle.wh_history.specs.Slots.{are_same, columns_from, padded, slot}
use Rattle.wh_history.specs.Tables.{Limits}
use Rattle.wh_history.specs.declared.member.Change.{Change}
use Rattle.wh_history.proofs.Basics.{texts_decide}
use Rattle.wh_history.proofs.DatedLists.{dated_lists_are_exact, changes_in_force}
use Rattle.wh_history.proofs.Joins.{all_dated}
use Rattle.wh_history.proofs.Owners.{all_filtered}
use Rattle.wh_history.proofs.Shown.{get_column}
use Rattle.wh_admission.specs.Admission.{AreAdmitted}
use Rattle.wh_admission.proofs.Admitted.{admitted_sound}
use Rattle.wh_records.specs.Carried.{record_as, dated_records, first_value, first_values, first_among, first_records, slots_in, records_of, firsts_of, carried}
use Rattle.wh_records.specs.Laws.{unnumbered, SaysTheSame, Carries, MembersAreCarried}
use Rattle.wh_records.proofs.AcceptedRecords.{IsWritten, records_written}
use Rattle.wh_records.proofs.DatedAgain.{dated_unnumbered, original_unnumbered, same_at, same_latest, same_prior, rise_unnumbered, again, with_first, led_by, HasNone, none_each, none_given}
use Rattle.wh_records.proofs.OneMember.{is_of_member, AreOf, of_member}

-- a record as a change without a number
abbrev pub plain : DimensionRecord → Change
plain r = record { day = r.day; anchor = 0; values = padded none_text r.values }

-- ---- values in slots

-- values that fit the slots, filled up to six, and those of the slots, filled up again
filled : (slots : ℕ) (values : List (List ℕ)) → length values ≤ slots → slots ≤ 6 → padded none_text (take slots (padded none_text values)) ≡ padded none_text values
filled slots values few six =
    let n : ℕ = length values in
    let cut : take slots (padded none_text values) ≡ values ++ replicate (slots - n) none_text = cut_behind slots values (6 - n) few (omega arith) in
    let count : length (values ++ replicate (slots - n) none_text) ≡ slots = length-append values (replicate (slots - n) none_text) ∙ ap (λ k. n + k) (length-replicate (slots - n) none_text) ∙ omega arith in
    ap (padded none_text) cut
    ∙ ap (λ k. (values ++ replicate (slots - n) none_text) ++ replicate (6 - k) none_text) count
    ∙ append_assoc values (replicate (slots - n) none_text) (replicate (6 - slots) none_text)
    ∙ ap (λ t. values ++ t) (replicate-append-replicate (slots - n) (6 - slots) none_text ∙ ap (λ k. replicate k none_text) (omega arith))
  where
    cut_behind : (slots : ℕ) (values : List (List ℕ)) (more : ℕ) → length values ≤ slots → slots - length values ≤ more → take slots (values ++ replicate more none_text) ≡ values ++ replicate (slots - length values) none_text
    cut_behind slots [] more few le = take-replicate slots more none_text (omega arith) ∙ ap (λ k. replicate k none_text) (omega arith)
    cut_behind zero (value ∷ values) more few le = absurd (omega arith)
    cut_behind (suc slots) (value ∷ values) more few le =
        ap (λ (t : List (List ℕ)). value ∷ t) (cut_behind slots values more (omega arith) (omega arith) ∙ ap (λ k. values ++ replicate k none_text) (omega arith))

pub slot_there : (values : List (List ℕ)) (place : ℕ) (v : List ℕ) → slice_get values place ≡ Some v → slot values place ≡ v
slot_there [] place v is = absurd cc
slot_there (w ∷ values) zero v is = cc
slot_there (w ∷ values) (suc place) v is = slot_there values place v is

module _ (column : ℕ → AttributeType → List ℕ) (kinds : List AttributeType) (place : ℕ) (kind : AttributeType) (is : slice_get kinds place ≡ Some kind) where
  counted : 0 + place ≡ place
  counted = omega arith

  pub column_there : (tail : List (List ℕ)) → slice_get (columns_from column 0 kinds ++ tail) place ≡ Some (column place kind)
  column_there tail = get_column column kinds 0 place kind tail is ∙ ap (λ n. Some (column n kind)) counted

  column_slot : slot (padded none_text (columns_from column 0 kinds)) place ≡ column place kind
  column_slot = slot_there (padded none_text (columns_from column 0 kinds)) place (column place kind) (column_there (replicate (6 - length (columns_from column 0 kinds)) none_text))

-- ---- what is said of one member

module _ (kinds : List AttributeType) (natural : List ℕ) (changes : List Change) where
  abbrev said : List Change → List Change
  said es = map plain (first_among kinds natural changes es) ++ map unnumbered es

  said_dated : (es : List Change) → DaysRise es → dated (said es) ≡ map unnumbered es
  said_dated [] up = refl
  said_dated (first ∷ later) up =
      let first_record : DimensionRecord = record { natural = natural; day = first.day; values = first_values kinds changes first } in
      let rises = rise_unnumbered (first ∷ later) up in
      elim (are_same (first_values kinds (first ∷ later) first) (first_values kinds changes first)) as (λ b. dated (map plain (cond b [] (first_record ∷ [])) ++ map unnumbered (first ∷ later)) ≡ map unnumbered (first ∷ later)) [
        | true ↦ again (map unnumbered (first ∷ later)) rises
        | false ↦ with_first (plain first_record) (unnumbered first) (map unnumbered later) refl rises
      ]

  module _ (place : ℕ) (kind : AttributeType) (is : slice_get kinds place ≡ Some kind) (outside : is_profile kind ≡ false) where
    value_is : (cs : List Change) (first : Change) → first_value cs first place kind ≡ original place cs
    value_is cs first = rw outside refl

    same_values : (cs ds : List Change) (first : Change) → first_values kinds cs first ≡ first_values kinds ds first → original place cs ≡ original place ds
    same_values cs ds first same =
        sym (value_is cs first)
        ∙ sym (column_slot (first_value cs first) kinds place kind is)
        ∙ ap (λ vs. slot (padded none_text vs) place) same
        ∙ column_slot (first_value ds first) kinds place kind is
        ∙ value_is ds first

    said_original : (es : List Change) → es ≡ dated changes → (es ≡ [] → changes ≡ []) → original place (said es) ≡ original place changes
    said_original [] are empty = ap (original place) (sym (empty refl))
    said_original (first ∷ later) are empty =
        let first_record : DimensionRecord = record { natural = natural; day = first.day; values = first_values kinds changes first } in
        elim (are_same (first_values kinds (first ∷ later) first) (first_values kinds changes first)) as (λ b. (are_same (first_values kinds (first ∷ later) first) (first_values kinds changes first) ≡ b) → original place (map plain (cond b [] (first_record ∷ [])) ++ map unnumbered (first ∷ later)) ≡ original place changes) [
          | true ↦ λ e.
              original_unnumbered place (first ∷ later)
              ∙ same_values (first ∷ later) changes first ((texts_decide (first_values kinds (first ∷ later) first) (first_values kinds changes first)).0 e)
          | false ↦ λ e.
              let v : List ℕ = original place changes in
              let leads : slot (plain first_record).values place ≡ v = column_slot (first_value changes first) kinds place kind is ∙ value_is changes first in
              let vs : List (List ℕ) = values_in place (map unnumbered (first ∷ later)) in
              let nothing : v ≡ none_text → AllByRecursion (λ w. w ≡ none_text) vs = λ none.
              none_each place (map unnumbered (first ∷ later)) (unnumbered_none (first ∷ later) (subst (AllByRecursion (HasNone place)) (sym are) (all_dated (HasNone place) changes (none_given place changes none)))) in
              ap (λ w. first_other_than none_text (w ∷ vs)) leads ∙ led_by v vs nothing
        ] refl
      where
        unnumbered_none : (cs : List Change) → AllByRecursion (HasNone place) cs → AllByRecursion (HasNone place) (map unnumbered cs)
        unnumbered_none [] all = tt
        unnumbered_none (c ∷ cs) all = (all.0, unnumbered_none cs all.1)

-- ---- the records of a member

pub first_owned : (kinds : List AttributeType) (natural : List ℕ) (changes es : List Change) → AreOf natural (first_among kinds natural changes es)
first_owned kinds natural changes [] = tt
first_owned kinds natural changes (first ∷ later) =
    let first_record : DimensionRecord = record { natural = natural; day = first.day; values = first_values kinds changes first } in
    elim (are_same (first_values kinds (first ∷ later) first) (first_values kinds changes first)) as (λ b. AreOf natural (cond b [] (first_record ∷ []))) [ true ↦ tt | false ↦ (refl, tt) ]

pub dated_owned : (slots : ℕ) (natural : List ℕ) (es : List Change) → AreOf natural (map (record_as slots natural) es)
dated_owned slots natural [] = tt
dated_owned slots natural (c ∷ cs) = (refl, dated_owned slots natural cs)

-- a change whose values fill six slots, and none of them past those of the policy
abbrev pub IsFilled : ℕ → Change → Type 0
IsFilled slots c = padded none_text (take slots c.values) ≡ c.values

plain_again : (slots : ℕ) (natural : List ℕ) (es : List Change) → AllByRecursion (IsFilled slots) es → map plain (map (record_as slots natural) es) ≡ map unnumbered es
plain_again slots natural [] all = refl
plain_again slots natural (c ∷ cs) all =
    let here : plain (record_as slots natural c) ≡ unnumbered c = ap (λ (vs : List (List ℕ)). record { day = c.day; anchor = 0; values = vs }) all.0 in
    let rest = plain_again slots natural cs all.1 in
    cc

pub plain_changes : (dim : Dim) (commands : List Accepted) (rs : List DimensionRecord) → map unnumbered (map (change_of dim commands) rs) ≡ map plain rs
plain_changes dim commands [] = refl
plain_changes dim commands (r ∷ rs) = ap (λ (t : List Change). plain r ∷ t) (plain_changes dim commands rs)

module _ (limits : Limits) (commands : List Accepted) (it : AreAdmitted limits commands) (dim : Dim) (natural : List ℕ) where
  changes : List Change
  changes = changes_of dim commands natural

  kinds : List AttributeType
  kinds = types_in dim commands

  six : slots_in dim commands ≤ 6
  six = (admitted_sound limits commands it).six dim

  of_records : (P : Change → Type 0) → ((r : DimensionRecord) → IsWritten (slots_in dim commands) r → P (change_of dim commands r)) → AllByRecursion P (changes_of dim commands natural)
  of_records P so = mapped (filter (is_of_member natural) (described dim commands)) (all_filtered (IsWritten (slots_in dim commands)) (is_of_member natural) (described dim commands) (records_written limits commands dim it))
    where
      mapped : (rs : List DimensionRecord) → AllByRecursion (IsWritten (slots_in dim commands)) rs → AllByRecursion P (map (change_of dim commands) rs)
      mapped [] all = tt
      mapped (r ∷ rs) all = (so r all.0, mapped rs all.1)

  pub have_days : ChangesHaveDays (changes_of dim commands natural)
  have_days = of_records (λ c. is_day c.day ≡ true) (λ r is. is.day)

  are_filled : AllByRecursion (IsFilled (slots_in dim commands)) (changes_of dim commands natural)
  are_filled = of_records (IsFilled (slots_in dim commands)) (λ r is. filled (slots_in dim commands) r.values is.few six)

  pub rises : DaysRise (dated (changes_of dim commands natural))
  rises = (dated_lists_are_exact (changes_of dim commands natural) have_days).0

  pub nothing_dated : dated (changes_of dim commands natural) ≡ [] → changes_of dim commands natural ≡ []
  nothing_dated empty = (changes_in_force 0 (changes_of dim commands natural) have_days).1 (ap (at 0) empty)

  firsts : List ℕ → List DimensionRecord
  firsts n = first_records (types_in dim commands) n (changes_of dim commands n)

  dated_ones : List ℕ → List DimensionRecord
  dated_ones n = dated_records (slots_in dim commands) n (changes_of dim commands n)

  -- what of the member is carried
  carried_of : filter (is_of_member natural) (carried dim commands) ≡ first_records (types_in dim commands) natural (changes_of dim commands natural) ++ dated_records (slots_in dim commands) natural (changes_of dim commands natural)
  unfolding firsts dated_ones
  carried_of =
      let of_firsts : filter (is_of_member natural) (firsts_of dim commands) ≡ firsts natural =
      of_member dim natural commands firsts (λ n. first_owned (types_in dim commands) n (changes_of dim commands n) (dated (changes_of dim commands n)))
      (λ empty. ap (λ cs. first_records (types_in dim commands) natural cs) empty) in
      let of_dated : filter (is_of_member natural) (records_of dim commands) ≡ dated_ones natural =
      of_member dim natural commands dated_ones (λ n. dated_owned (slots_in dim commands) n (dated (changes_of dim commands n)))
      (λ empty. ap (λ cs. dated_records (slots_in dim commands) natural cs) empty) in
      filter-append (is_of_member natural) (firsts_of dim commands) (records_of dim commands)
      ∙ ap (λ t. t ++ filter (is_of_member natural) (records_of dim commands)) of_firsts
      ∙ ap (λ t. firsts natural ++ t) of_dated

  module _ (next : List Accepted) (carries : Carries commands next) where
    said_next : map unnumbered (changes_of dim next natural) ≡ said (types_in dim commands) natural (changes_of dim commands natural) (dated (changes_of dim commands natural))
    said_next =
        plain_changes dim next (filter (is_of_member natural) (described dim next))
        ∙ ap (λ rs. map plain (filter (is_of_member natural) rs)) (carries.records dim)
        ∙ ap (map plain) carried_of
        ∙ map-append plain (first_records (types_in dim commands) natural (changes_of dim commands natural)) (dated_records (slots_in dim commands) natural (changes_of dim commands natural))
        ∙ ap (λ t. map plain (first_records (types_in dim commands) natural (changes_of dim commands natural)) ++ t)
        (plain_again (slots_in dim commands) natural (dated (changes_of dim commands natural)) (all_dated (IsFilled (slots_in dim commands)) (changes_of dim commands natural) are_filled))

    by_day : map unnumbered (dated (changes_of dim next natural)) ≡ map unnumbered (dated (changes_of dim commands natural))
    by_day =
        dated_unnumbered (changes_of dim next natural)
        ∙ ap dated said_next
        ∙ said_dated (types_in dim commands) natural (changes_of dim commands natural) (dated (changes_of dim commands natural)) rises

    first : (place : ℕ) (kind : AttributeType) → slice_get (types_in dim commands) place ≡ Some kind → is_profile kind ≡ false → original place (changes_of dim next natural) ≡ original place (changes_of dim commands natural)
    first place kind is outside =
        sym (original_unnumbered place (changes_of dim next natural))
        ∙ ap (original place) said_next
        ∙ said_original (types_in dim commands) natural (changes_of dim commands natural) place kind is outside (dated (changes_of dim commands natural)) refl nothing_dated

    pub says_the_same : SaysTheSame (types_in dim commands) (changes_of dim next natural) (changes_of dim commands natural)
    says_the_same = record {
      by_day = by_day;
      at_day = same_at (changes_of dim next natural) (changes_of dim commands natural) by_day;
      newest = same_latest (changes_of dim next natural) (changes_of dim commands natural) by_day;
      before = same_prior (changes_of dim next natural) (changes_of dim commands natural) by_day;
      first = first;
    }

pub members_are_carried : MembersAreCarried
members_are_carried limits commands next it carries dim natural = says_the_same limits commands it dim natural next carries
