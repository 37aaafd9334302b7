-- The rows of a member are valid.
use Rattle.std.proofs.Common.{◌≡◌, ◌≢◌, inl, inr, ℕ, zero, suc, ◌-◌, ◌<◌, ◌≤◌, ◌==◌, true, false, cond, List, [], ◌∷◌, length, Option, Some, None, refl, ap, ◌∙◌, arith}
use Rattle.std.specs.Prelude.{filter, find, unwrap_or, bytes_eq, replicate, reverse}
use Rattle.std.specs.List.{AllByRecursion, list_any}
use Rattle.std.proofs.lemmas.Bool.{eqb-true}
use Rattle.wh_day.specs.Day.{is_day, first_day, last_day, day_before}
use Rattle.wh_day.specs.Value.{none_text}
use Rattle.wh_day.proofs.Days.{parts, is_day-parts, follows}
use Rattle.wh_policy.specs.Types.{rule, is_outrigger, is_profile}
use Rattle.wh_policy.specs.declared.attribute.Dim.{Dim}
use Rattle.wh_policy.specs.declared.attribute.Dim.TheVariants.{Product, Store, Customer}
use Rattle.wh_policy.specs.declared.attribute.AttributeType.{AttributeType}
use Rattle.wh_policy.specs.declared.type_rule.MainColumn.{MainColumn}
use Rattle.wh_policy.specs.declared.type_rule.MainColumn.TheVariants as main
use Rattle.wh_policy.specs.declared.type_rule.SecondColumn.{SecondColumn}
use Rattle.wh_policy.specs.declared.type_rule.SecondColumn.TheVariants as second
use Rattle.wh_policy.specs.declared.record.DimensionRecord.{DimensionRecord}
use Rattle.wh_history.specs.Keys.{place}
use Rattle.wh_history.specs.Slots.{slot, picks, are_same}
use Rattle.wh_history.specs.Dated.{dated, at, said, values_in, value_at, latest, original, prior, newest}
use Rattle.wh_history.specs.Rows.{starts, later_starts, same_tracked, row, rows, main_text, main_column, second_text, second_column}
use Rattle.wh_history.specs.Profiles.{after_unknown, current_profile, profile_now}
use Rattle.wh_history.specs.Accepted.{Accepted, described, change_of, changes_of}
use Rattle.wh_history.specs.declared.member.Change.{Change}
use Rattle.wh_history.specs.declared.member.Member.{Member}
use Rattle.wh_history.specs.declared.rows.DimRow.{DimRow}
use Rattle.wh_history.proofs.Joins.{InSpans, all_append, all_weaker, all_dated, all_in_force}
use Rattle.wh_history.proofs.Members.{place_within}
use Rattle.wh_history.proofs.Owners.{all_filtered}
use Rattle.wh_history.proofs.Shown.{span_found}
use Rattle.wh_history.proofs.Spans.{Rises, InOrder-dated, Rises-starts}
use Rattle.wh_history.proofs.Stays.{IfThere, all_newest}
use Rattle.wh_rows.specs.Types.{is_number, is_key, are_slots}
use Rattle.wh_rows.specs.Rows.{is_natural, is_dimension}
use Rattle.wh_model.specs.Sound.{IsGivenValue, IsGoodRecord}
use Rattle.wh_model.proofs.ValidSlots.{IsSlot, no_text, none_slot, unknown_slot, slot_in, six_columns, first_other, all_reversed, all_mapped, all_copies}

-- ---- what a record's change says

pub record IsGoodChange (c : Change) : Type 0 where
  pub day : is_day c.day ≡ true
  pub values : AllByRecursion IsSlot c.values

pub slots_of_values : (texts : List (List ℕ)) → AllByRecursion IsGivenValue texts → AllByRecursion IsSlot texts
slots_of_values texts all = all_weaker IsGivenValue IsSlot (λ text given. given.0) texts all

module _ (dim : Dim) (commands : List Accepted) (good : AllByRecursion IsGoodRecord (described dim commands)) where
  good_change : (r : DimensionRecord) → IsGoodRecord r → IsGoodChange (change_of dim commands r)
  good_change r is = record {
    day = is.day;
    values = all_append IsSlot r.values (replicate (6 - length r.values) none_text) (slots_of_values r.values is.values) (all_copies IsSlot (6 - length r.values) none_text none_slot);
  }

  pub good_changes : (natural : List ℕ) → AllByRecursion IsGoodChange (changes_of dim commands natural)
  good_changes natural =
      all_mapped IsGoodRecord IsGoodChange (change_of dim commands) good_change (filter (λ r. bytes_eq r.natural natural) (described dim commands))
      (all_filtered IsGoodRecord (λ (r : DimensionRecord). bytes_eq r.natural natural) (described dim commands) good)

-- ---- what rows show

said_slot : (place : ℕ) (o : Option Change) → IfThere IsGoodChange o → IsSlot (said place o)
said_slot place None good = unknown_slot
said_slot place (Some c) good = slot_in c.values place good.values

at_good : (day : ℕ) (cs : List Change) → AllByRecursion IsGoodChange cs → IfThere IsGoodChange (at day cs)
at_good day [] all = tt
at_good day (c ∷ cs) all = all_in_force IsGoodChange day c cs all.0 all.1

values_slots : (place : ℕ) (cs : List Change) → AllByRecursion IsGoodChange cs → AllByRecursion IsSlot (values_in place cs)
values_slots place cs all = all_mapped IsGoodChange IsSlot (λ (c : Change). slot c.values place) (λ c good. slot_in c.values place good.values) cs all

module _ (changes : List Change) (good : AllByRecursion IsGoodChange changes) where
  in_order : AllByRecursion IsGoodChange (dated changes)
  in_order = all_dated IsGoodChange changes good

  value_slot : (day place : ℕ) → IsSlot (value_at day place changes)
  value_slot day place = said_slot place (at day (dated changes)) (at_good day (dated changes) in_order)

  latest_slot : (place : ℕ) → IsSlot (latest place changes)
  latest_slot place = said_slot place (newest (dated changes)) (all_newest IsGoodChange (dated changes) in_order)

  prior_slot : (place : ℕ) → IsSlot (prior place changes)
  prior_slot place = first_other (latest place changes) (reverse (values_in place (dated changes))) (all_reversed IsSlot (values_in place (dated changes)) (values_slots place (dated changes) in_order))

  second_in : (place : ℕ) (column : SecondColumn) → IsSlot (second_text changes place column)
  second_in place second.Nothing = no_text
  second_in place second.Prior = prior_slot place
  second_in place second.Latest = latest_slot place

  second_slot : (place : ℕ) (kind : AttributeType) → IsSlot (second_column changes place kind)
  second_slot place kind = second_in place (rule kind).second

original_slot : (place : ℕ) (changes : List Change) → AllByRecursion IsGoodChange changes → IsSlot (original place changes)
original_slot place [] all = unknown_slot
original_slot place (c ∷ cs) all = first_other none_text (values_in place (c ∷ cs)) (values_slots place (c ∷ cs) all)

main_in : (changes : List Change) → AllByRecursion IsGoodChange changes → (day place : ℕ) (column : MainColumn) → IsSlot (main_text changes day place column)
main_in changes good day place main.Original = original_slot place changes good
main_in changes good day place main.FirstDay = value_slot changes good day place
main_in changes good day place main.Latest = latest_slot changes good place
main_in changes good day place main.Nothing = no_text

main_slot : (changes : List Change) → AllByRecursion IsGoodChange changes → (day place : ℕ) (kind : AttributeType) → IsSlot (main_column changes day place kind)
main_slot changes good day place kind = main_in changes good day place (rule kind).main

-- ---- the days of rows

pub first_is_day : is_day first_day ≡ true
unfolding is_day
first_is_day = refl

pub last_is_day : is_day last_day ≡ true
unfolding is_day
last_is_day = refl

abbrev IsDay : ℕ → Type 0
IsDay day = is_day day ≡ true

later_days : (kinds : List AttributeType) (c : Change) (cs : List Change) → AllByRecursion IsGoodChange cs → AllByRecursion IsDay (later_starts kinds c cs)
later_days kinds c [] all = tt
later_days kinds c (d ∷ ds) all =
    let rest = later_days kinds d ds all.1 in
    elim (same_tracked kinds c d) as (λ b. AllByRecursion IsDay (cond b (later_starts kinds d ds) (d.day ∷ later_starts kinds d ds))) [ true ↦ rest | false ↦ (all.0.day, rest) ]

start_days : (kinds : List AttributeType) (cs : List Change) → AllByRecursion IsGoodChange cs → AllByRecursion IsDay (starts kinds cs)
start_days kinds [] all = tt
start_days kinds (c ∷ cs) all = later_days kinds c cs all.1

ends_at_day : (from next : ℕ) → first_day ≤ from → from < next → is_day next ≡ true → is_day (day_before next) ≡ true
ends_at_day from next low less is =
    let later : next ≢ first_day = λ same. omega (arith, low, less, same) in
    is_day-parts (day_before next) (follows next (parts next is) later).before_parts

span_days : (s : ℕ × ℕ) (from : ℕ) (more : List ℕ) → is_day from ≡ true → first_day ≤ from → AllByRecursion IsDay more → Rises from more → InSpans s from more → (is_day s.0 ≡ true) × (is_day s.1 ≡ true)
span_days s from [] is low all up here = rw (here, is, last_is_day) (refl, refl)
span_days s from (next ∷ more) is low all up here =
    elim here [
      | inl first ↦ let ends = ends_at_day from next low up.0 all.0 in rw (first, is, ends) (refl, refl)
      | inr later ↦ span_days s next more all.0 (let less = up.0 in omega arith) all.1 up.3 later
    ]

-- ---- the profile that rows show

behind_small : (n : ℕ) → unwrap_or (after_unknown n) 0 ≤ suc n
behind_small zero = omega arith
behind_small (suc n) = omega arith

pub current_small : (kinds : List AttributeType) (combinations : List (List (List ℕ))) (o : Option Change) → current_profile kinds combinations o ≤ suc (length combinations)
current_small kinds combinations None = omega arith
current_small kinds combinations (Some c) =
    let texts = picks is_profile kinds c.values in
    let number = behind_small (place are_same texts combinations) in
    let within = place_within are_same texts combinations in
    omega arith

pub shown_small : (kinds : List AttributeType) (combinations : List (List (List ℕ))) (m : Member) → profile_now kinds combinations m ≤ suc (length combinations)
shown_small kinds combinations m =
    elim (list_any is_outrigger kinds) as (λ b. cond b (current_profile kinds combinations (newest (dated m.changes))) 0 ≤ suc (length combinations)) [
      | true ↦ current_small kinds combinations (newest (dated m.changes))
      | false ↦ omega arith
    ]

-- ---- a row

named_row : (dim : Dim) (surrogate : ℕ) (text : List ℕ) → is_key 32 text ≡ true → is_natural dim surrogate text ≡ true
named_row Product surrogate text is = is
named_row Store surrogate text is = is
named_row Customer surrogate text is = rw is refl

pub valid_row : (dim : Dim) (r : DimRow) → is_number r.surrogate ≡ true → is_number r.durable ≡ true → is_natural dim r.surrogate r.natural ≡ true → is_day r.from_day ≡ true → is_day r.to_day ≡ true
    → are_slots r.a ≡ true → are_slots r.b ≡ true → is_number r.profile_now ≡ true → is_dimension dim r ≡ true
valid_row dim r surrogate durable natural from to a b shown = rw (surrogate, durable, natural, from, to, a, b, shown) refl

module _ (dim : Dim) (kinds : List AttributeType) (combinations : List (List (List ℕ))) (m : Member) where
  -- what makes a member's rows valid
  pub record IsGoodMember : Type 0 where
    pub few : length kinds ≤ 6
    pub changes : AllByRecursion IsGoodChange m.changes
    pub durable : is_number m.durable ≡ true
    pub natural : is_key 32 m.natural ≡ true
    pub shown : is_number (profile_now kinds combinations m) ≡ true

  -- what is found under a small number among a good member's rows is valid
  pub valid_found : IsGoodMember → (key : ℕ) (r : DimRow) → is_number key ≡ true → find (λ (q : DimRow). q.surrogate == key) (rows kinds combinations m) ≡ Some r → is_dimension dim r ≡ true
  valid_found good key r small found =
      let number = profile_now kinds combinations m in
      let begins = starts kinds (dated m.changes) in
      let span = span_found kinds number m (λ (q : DimRow). q.surrogate == key) r first_day begins found in
      let s : ℕ × ℕ = span.0 in
      let is : r ≡ row kinds number m s = span.2 in
      let same : r.surrogate ≡ key = eqb-true r.surrogate key span.3 in
      let ordered = InOrder-dated m.changes (all_weaker IsGoodChange (λ (c : Change). is_day c.day ≡ true) (λ c g. g.day) m.changes good.changes) in
      let days = span_days s first_day begins first_is_day (omega arith) (start_days kinds (dated m.changes) (all_dated IsGoodChange m.changes good.changes)) (Rises-starts kinds (dated m.changes) ordered) span.1 in
      let a : are_slots (row kinds number m s).a ≡ true = six_columns (main_column m.changes s.0) kinds good.few (main_slot m.changes good.changes s.0) in
      let b : are_slots (row kinds number m s).b ≡ true = six_columns (second_column m.changes) kinds good.few (second_slot m.changes good.changes) in
      valid_row dim r
      (ap is_number same ∙ small)
      (ap (λ (q : DimRow). is_number q.durable) is ∙ good.durable)
      (named_row dim r.surrogate r.natural (ap (λ (q : DimRow). is_key 32 q.natural) is ∙ good.natural))
      (ap (λ (q : DimRow). is_day q.from_day) is ∙ days.0)
      (ap (λ (q : DimRow). is_day q.to_day) is ∙ days.1)
      (ap (λ (q : DimRow). are_slots q.a) is ∙ a)
      (ap (λ (q : DimRow). are_slots q.b) is ∙ b)
      (ap (λ (q : DimRow). is_number q.profile_now) is ∙ good.shown)
