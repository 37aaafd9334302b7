-- The records that are carried can be written, and none of a list has a key that another has.
use Rattle.std.proofs.Common.{◌≡◌, ℕ, zero, suc, ◌-◌, ◌<◌, ◌≤◌, ◌==◌, Bool, true, false, cond, not, ◌&&◌, List, [], ◌∷◌, ◌++◌, length, map, take, drop, replicate, Some, refl, sym, ap, ◌∙◌, subst, arith, inl, length-append}
use Rattle.std.specs.Prelude.{filter, flat_map, bytes_eq, find, unwrap_or}
use Rattle.std.specs.List.{AllByRecursion, IsDistinct, list_any}
use Rattle.std.proofs.lemmas.Bool.{ne_eqb}
use Rattle.std.proofs.lemmas.List.{map-append, length-take-le, length-replicate}
use Rattle.std.proofs.lemmas.Slice.Eq.{bytes_eq-Decides}
use Rattle.wh_day.specs.Day.{is_day}
use Rattle.wh_day.specs.NaturalKey.{is_key}
use Rattle.wh_day.specs.Value.{none_text}
use Rattle.wh_policy.specs.Types.{is_profile}
use Rattle.wh_policy.specs.declared.attribute.AttributeType.{AttributeType}
use Rattle.wh_policy.specs.declared.attribute.Dim.{Dim}
use Rattle.wh_policy.specs.declared.record.DimensionRecord.{DimensionRecord}
use Rattle.wh_batch.specs.Batch.{is_same_key}
use Rattle.wh_batch.specs.Fields.{last_effective_day}
use Rattle.wh_batch.specs.Layouts.{dimension_key}
use Rattle.wh_history.specs.Accepted.{Accepted, Anchor, types_in, described, mentions, members, change_of, changes_of}
use Rattle.wh_history.specs.Dated.{dated, values_in, original, first_other_than}
use Rattle.wh_history.specs.Laws.{RisesFrom, DaysRise}
use Rattle.wh_history.specs.Slots.{are_same, columns_from, padded, slot}
use Rattle.wh_history.specs.Tables.{Limits}
use Rattle.wh_history.specs.declared.member.Change.{Change}
use Rattle.wh_history.proofs.Basics.{or_none}
use Rattle.wh_history.proofs.Joins.{all_append, all_dated}
use Rattle.wh_history.proofs.Once.{IsOnce, once_distinct, apart}
use Rattle.wh_admission.specs.Admission.{AreAdmitted}
use Rattle.wh_admission.proofs.Admitted.{admitted_sound}
use Rattle.wh_records.specs.Carried.{record_as, dated_records, first_value, first_values, first_among, first_records, slots_in, records_of, firsts_of, members_between}
use Rattle.wh_records.specs.Laws.{IsReadValue, IsWritable}
use Rattle.wh_records.proofs.AcceptedRecords.{IsWritten, records_written}
use Rattle.wh_records.proofs.CarriedMembers.{first_owned, dated_owned, rises}
use Rattle.wh_records.proofs.OneMember.{is_of_member, AreOf}
use Rattle.wh_records.proofs.PartLemmas.{AreApart}

-- ---- values

all_taken : {X : Type 0} (P : X → Type 0) (n : ℕ) (xs : List X) → AllByRecursion P xs → AllByRecursion P (take n xs)
all_taken P zero xs all = tt
all_taken P (suc n) [] all = tt
all_taken P (suc n) (x ∷ xs) all = (all.0, all_taken P n xs all.1)

all_nones : (n : ℕ) → AllByRecursion IsReadValue (replicate n none_text)
all_nones zero = tt
all_nones (suc n) = (inl refl, all_nones n)

all_padded : (values : List (List ℕ)) → AllByRecursion IsReadValue values → AllByRecursion IsReadValue (padded none_text values)
all_padded values all = all_append IsReadValue values (replicate (6 - length values) none_text) all (all_nones (6 - length values))

slot_read : (values : List (List ℕ)) (place : ℕ) → AllByRecursion IsReadValue values → IsReadValue (slot values place)
slot_read [] place all = inl refl
slot_read (value ∷ values) zero all = all.0
slot_read (value ∷ values) (suc place) all = slot_read values place all.1

-- ---- changes of which records can be written

pub record IsRecordable (slots : ℕ) (natural : List ℕ) (c : Change) : Type 0 where
  pub natural_is : is_key 32 natural ≡ true
  pub day : is_day c.day ≡ true
  pub early : c.day ≤ last_effective_day
  pub six : length c.values ≡ 6
  pub values : AllByRecursion IsReadValue c.values

recordable_of : (slots : ℕ) (natural : List ℕ) (dim : Dim) (commands : List Accepted) (r : DimensionRecord) → slots ≤ 6 → IsWritten slots r → r.natural ≡ natural → IsRecordable slots natural (change_of dim commands r)
recordable_of slots natural dim commands r few is same =
    let short = is.few in
    let filled = length-append r.values (replicate (6 - length r.values) none_text) in
    let rest = length-replicate (6 - length r.values) none_text in
    record {
      natural_is = subst (λ n. is_key 32 n ≡ true) same is.natural;
      day = is.day;
      early = is.early;
      six = omega (arith, few, short, filled, rest);
      values = all_padded r.values is.values;
    }

all_recordable : (slots : ℕ) (natural : List ℕ) (dim : Dim) (commands : List Accepted) (rs : List DimensionRecord) → slots ≤ 6 → AllByRecursion (IsWritten slots) rs
    → AllByRecursion (IsRecordable slots natural) (map (change_of dim commands) (filter (is_of_member natural) rs))
all_recordable slots natural dim commands [] few all = tt
all_recordable slots natural dim commands (r ∷ rs) few all =
    let rest = all_recordable slots natural dim commands rs few all.1 in
    elim (bytes_eq r.natural natural) as (λ b. (bytes_eq r.natural natural ≡ b) → AllByRecursion (IsRecordable slots natural) (map (change_of dim commands) (cond b (r ∷ filter (is_of_member natural) rs) (filter (is_of_member natural) rs)))) [
      | true ↦ λ e. (recordable_of slots natural dim commands r few all.0 ((bytes_eq-Decides r.natural natural).0 e), rest)
      | false ↦ λ e. rest
    ] refl

-- ---- the dated records

dated_one : (slots : ℕ) (natural : List ℕ) (c : Change) → slots ≤ 6 → IsRecordable slots natural c → IsWritable slots (record_as slots natural c)
dated_one slots natural c few is =
    let six = is.six in
    record {
      natural = is.natural_is;
      day = is.day;
      early = is.early;
      whole = length-take-le slots c.values (omega (arith, few, six));
      values = all_taken IsReadValue slots c.values is.values;
    }

dated_all : (slots : ℕ) (natural : List ℕ) (cs : List Change) → slots ≤ 6 → AllByRecursion (IsRecordable slots natural) cs → AllByRecursion (IsWritable slots) (map (record_as slots natural) cs)
dated_all slots natural [] few all = tt
dated_all slots natural (c ∷ cs) few all = (dated_one slots natural c few all.0, dated_all slots natural cs few all.1)

-- ---- the first record

first_read : (vs : List (List ℕ)) → AllByRecursion IsReadValue vs → IsReadValue (first_other_than none_text vs)
first_read [] all = inl refl
first_read (v ∷ vs) all =
    let rest = first_read vs all.1 in
    elim (bytes_eq v none_text) as (λ b. IsReadValue (unwrap_or (cond (not b) (Some v) (find (λ t. not (bytes_eq t none_text)) vs)) none_text)) [ true ↦ rest | false ↦ all.0 ]

values_read : (slots : ℕ) (natural : List ℕ) (place : ℕ) (cs : List Change) → AllByRecursion (IsRecordable slots natural) cs → AllByRecursion IsReadValue (values_in place cs)
values_read slots natural place [] all = tt
values_read slots natural place (c ∷ cs) all = (slot_read c.values place all.0.values, values_read slots natural place cs all.1)

original_read : (slots : ℕ) (natural : List ℕ) (place : ℕ) (cs : List Change) → (cs ≡ [] → ⊥) → AllByRecursion (IsRecordable slots natural) cs → IsReadValue (original place cs)
original_read slots natural place [] some all = absurd (some refl)
original_read slots natural place (c ∷ cs) some all = first_read (values_in place (c ∷ cs)) (values_read slots natural place (c ∷ cs) all)

columns_long : (column : ℕ → AttributeType → List ℕ) (place : ℕ) (kinds : List AttributeType) → length (columns_from column place kinds) ≡ length kinds
columns_long column place [] = refl
columns_long column place (kind ∷ kinds) = ap suc (columns_long column (suc place) kinds)

columns_read : (column : ℕ → AttributeType → List ℕ) → ((place : ℕ) (kind : AttributeType) → IsReadValue (column place kind)) → (place : ℕ) (kinds : List AttributeType) → AllByRecursion IsReadValue (columns_from column place kinds)
columns_read column each place [] = tt
columns_read column each place (kind ∷ kinds) = (each place kind, columns_read column each (suc place) kinds)

module _ (kinds : List AttributeType) (natural : List ℕ) (changes : List Change) (some : changes ≡ [] → ⊥) (all : AllByRecursion (IsRecordable (length kinds) natural) changes) where
  value_read : (first : Change) → IsRecordable (length kinds) natural first → (place : ℕ) (kind : AttributeType) → IsReadValue (first_value changes first place kind)
  value_read first is place kind =
      elim (is_profile kind) as (λ b. IsReadValue (cond b (slot first.values place) (original place changes))) [
        | true ↦ slot_read first.values place is.values
        | false ↦ original_read (length kinds) natural place changes some all
      ]

  first_one : (first : Change) → IsRecordable (length kinds) natural first → IsWritable (length kinds) (record { natural = natural; day = first.day; values = first_values kinds changes first })
  first_one first is = record {
    natural = is.natural_is;
    day = is.day;
    early = is.early;
    whole = columns_long (first_value changes first) 0 kinds;
    values = columns_read (first_value changes first) (value_read first is) 0 kinds;
  }

first_all : (kinds : List AttributeType) (natural : List ℕ) (changes es : List Change) → (changes ≡ [] → es ≡ []) → AllByRecursion (IsRecordable (length kinds) natural) changes → AllByRecursion (IsRecordable (length kinds) natural) es
    → AllByRecursion (IsWritable (length kinds)) (first_among kinds natural changes es)
first_all kinds natural changes [] empty all among = tt
first_all kinds natural changes (first ∷ later) empty all among =
    let first_record : DimensionRecord = record { natural = natural; day = first.day; values = first_values kinds changes first } in
    let some : changes ≡ [] → ⊥ = λ none. let e = empty none in cc in
    elim (are_same (first_values kinds (first ∷ later) first) (first_values kinds changes first)) as (λ b. AllByRecursion (IsWritable (length kinds)) (cond b [] (first_record ∷ []))) [
      | true ↦ tt
      | false ↦ (first_one kinds natural changes some all first among.0, tt)
    ]

-- ---- apart

-- a record and a later one
abbrev IsApartFrom : DimensionRecord → DimensionRecord → Type 0
IsApartFrom r s = is_same_key (dimension_key r) (dimension_key s) ≡ false

later_apart : (slots : ℕ) (natural : List ℕ) (c : Change) (low : ℕ) (cs : List Change) → c.day ≤ low → RisesFrom low cs → AllByRecursion (λ k. is_same_key (dimension_key (record_as slots natural c)) k ≡ false) (map dimension_key (map (record_as slots natural) cs))
later_apart slots natural c low [] le up = tt
later_apart slots natural c low (d ∷ ds) le up =
    let before : low < d.day = up.0 in
    let other : (c.day == d.day) ≡ false = ne_eqb c.day d.day (λ same. omega (arith, le, before, same)) in
    (and_false (bytes_eq natural natural) (c.day == d.day) other, later_apart slots natural c d.day ds (omega (arith, le, before)) up.1)
  where
    and_false : (a b : Bool) → b ≡ false → (a && b) ≡ false
    and_false true b e = e
    and_false false b e = refl

rising_apart : (slots : ℕ) (natural : List ℕ) (c : Change) (cs : List Change) → RisesFrom c.day cs → AreApart (map (record_as slots natural) (c ∷ cs))
unfolding IsDistinct
rising_apart slots natural c [] up = (tt, tt)
rising_apart slots natural c (d ∷ ds) up = (later_apart slots natural c c.day (d ∷ ds) (omega arith) up, rising_apart slots natural d ds up.1)

dated_apart : (slots : ℕ) (natural : List ℕ) (cs : List Change) → DaysRise cs → AreApart (map (record_as slots natural) cs)
unfolding IsDistinct
dated_apart slots natural [] up = tt
dated_apart slots natural (c ∷ cs) up = rising_apart slots natural c cs up

first_apart : (kinds : List AttributeType) (natural : List ℕ) (changes es : List Change) → AreApart (first_among kinds natural changes es)
unfolding IsDistinct
first_apart kinds natural changes [] = tt
first_apart kinds natural changes (first ∷ later) =
    let first_record : DimensionRecord = record { natural = natural; day = first.day; values = first_values kinds changes first } in
    elim (are_same (first_values kinds (first ∷ later) first) (first_values kinds changes first)) as (λ b. AreApart (cond b [] (first_record ∷ []))) [ true ↦ tt | false ↦ (tt, tt) ]

-- lists of which each is apart, and the one from the other
joined_apart : (rs ss : List DimensionRecord) → AreApart rs → AreApart ss → AllByRecursion (λ r. AllByRecursion (λ k. is_same_key (dimension_key r) k ≡ false) (map dimension_key ss)) rs → AreApart (rs ++ ss)
unfolding IsDistinct
joined_apart [] ss one two across = two
joined_apart (r ∷ rs) ss one two across = (
  subst (AllByRecursion (λ k. is_same_key (dimension_key r) k ≡ false)) (sym (map-append dimension_key rs ss)) (all_append (λ k. is_same_key (dimension_key r) k ≡ false) (map dimension_key rs) (map dimension_key ss) one.0 across.0),
  joined_apart rs ss one.1 two across.1,
)

module _ (records : List ℕ → List DimensionRecord) (owned : (natural : List ℕ) → AreOf natural (records natural)) where
  -- records of another member have other keys
  of_another : (natural other : List ℕ) (r : DimensionRecord) (ss : List DimensionRecord) → r.natural ≡ natural → AreOf other ss → bytes_eq natural other ≡ false → AllByRecursion (λ k. is_same_key (dimension_key r) k ≡ false) (map dimension_key ss)
  of_another natural other r [] is all no_one = tt
  of_another natural other r (s ∷ ss) is all no_one =
      let texts : bytes_eq r.natural s.natural ≡ false = ap (λ n. bytes_eq n s.natural) is ∙ ap (bytes_eq natural) all.0 ∙ no_one in
      (rw texts refl, of_another natural other r ss is all.1 no_one)

  of_others : (natural : List ℕ) (r : DimensionRecord) (ms : List (List ℕ)) → r.natural ≡ natural → list_any (λ m. bytes_eq m natural) ms ≡ false → AllByRecursion (λ k. is_same_key (dimension_key r) k ≡ false) (map dimension_key (flat_map records ms))
  of_others natural r [] is none = tt
  of_others natural r (m ∷ ms) is none =
      let split = or_none (bytes_eq m natural) (list_any (λ m. bytes_eq m natural) ms) none in
      let other : bytes_eq natural m ≡ false = apart bytes_eq bytes_eq-Decides m natural split.0 in
      subst (AllByRecursion (λ k. is_same_key (dimension_key r) k ≡ false)) (sym (map-append dimension_key (records m) (flat_map records ms)))
      (all_append (λ k. is_same_key (dimension_key r) k ≡ false) (map dimension_key (records m)) (map dimension_key (flat_map records ms))
      (of_another natural m r (records m) is (owned m) other) (of_others natural r ms is split.1))

  each_of_others : (natural : List ℕ) (rs : List DimensionRecord) (ms : List (List ℕ)) → AreOf natural rs → list_any (λ m. bytes_eq m natural) ms ≡ false → AllByRecursion (λ r. AllByRecursion (λ k. is_same_key (dimension_key r) k ≡ false) (map dimension_key (flat_map records ms))) rs
  each_of_others natural [] ms all none = tt
  each_of_others natural (r ∷ rs) ms all none = (of_others natural r ms all.0 none, each_of_others natural rs ms all.1 none)

  pub members_apart : ((natural : List ℕ) → AreApart (records natural)) → (ms : List (List ℕ)) → IsOnce bytes_eq bytes_eq-Decides ms → AreApart (flat_map records ms)
  unfolding IsDistinct
  members_apart each [] once = tt
  members_apart each (m ∷ ms) once = joined_apart (records m) (flat_map records ms) (each m) (members_apart each ms once.1) (each_of_others m (records m) ms (owned m) once.0)

-- ---- of a dimension

pub all_of_members : (P : DimensionRecord → Type 0) (records : List ℕ → List DimensionRecord) → ((natural : List ℕ) → AllByRecursion P (records natural)) → (ms : List (List ℕ)) → AllByRecursion P (flat_map records ms)
all_of_members P records each [] = tt
all_of_members P records each (m ∷ ms) = all_append P (records m) (flat_map records ms) (each m) (all_of_members P records each ms)

module _ (limits : Limits) (commands : List Accepted) (it : AreAdmitted limits commands) (dim : Dim) where
  six : slots_in dim commands ≤ 6
  six = (admitted_sound limits commands it).six dim

  pub are_recordable : (natural : List ℕ) → AllByRecursion (IsRecordable (slots_in dim commands) natural) (changes_of dim commands natural)
  are_recordable natural = all_recordable (slots_in dim commands) natural dim commands (described dim commands) six (records_written limits commands dim it)

  once : IsOnce bytes_eq bytes_eq-Decides (members dim commands)
  once = once_distinct bytes_eq bytes_eq-Decides (map (λ (a : Anchor). a.natural) (mentions dim commands))

  module _ (ms : List (List ℕ)) where
    pub dated_writable : AllByRecursion (IsWritable (slots_in dim commands)) (flat_map (λ n. dated_records (slots_in dim commands) n (changes_of dim commands n)) ms)
    dated_writable = all_of_members (IsWritable (slots_in dim commands)) (λ n. dated_records (slots_in dim commands) n (changes_of dim commands n))
        (λ n. dated_all (slots_in dim commands) n (dated (changes_of dim commands n)) six (all_dated (IsRecordable (slots_in dim commands) n) (changes_of dim commands n) (are_recordable n))) ms

    pub first_writable : AllByRecursion (IsWritable (slots_in dim commands)) (flat_map (λ n. first_records (types_in dim commands) n (changes_of dim commands n)) ms)
    first_writable = all_of_members (IsWritable (slots_in dim commands)) (λ n. first_records (types_in dim commands) n (changes_of dim commands n))
        (λ n. first_all (types_in dim commands) n (changes_of dim commands n) (dated (changes_of dim commands n)) (λ empty. ap dated empty) (are_recordable n) (all_dated (IsRecordable (slots_in dim commands) n) (changes_of dim commands n) (are_recordable n))) ms

    pub dated_ones_apart : IsOnce bytes_eq bytes_eq-Decides ms → AreApart (flat_map (λ n. dated_records (slots_in dim commands) n (changes_of dim commands n)) ms)
    dated_ones_apart each_once = members_apart (λ n. dated_records (slots_in dim commands) n (changes_of dim commands n)) (λ n. dated_owned (slots_in dim commands) n (dated (changes_of dim commands n)))
        (λ n. dated_apart (slots_in dim commands) n (dated (changes_of dim commands n)) (rises limits commands it dim n)) ms each_once

    pub first_ones_apart : IsOnce bytes_eq bytes_eq-Decides ms → AreApart (flat_map (λ n. first_records (types_in dim commands) n (changes_of dim commands n)) ms)
    first_ones_apart each_once = members_apart (λ n. first_records (types_in dim commands) n (changes_of dim commands n)) (λ n. first_owned (types_in dim commands) n (changes_of dim commands n) (dated (changes_of dim commands n)))
        (λ n. first_apart (types_in dim commands) n (changes_of dim commands n) (dated (changes_of dim commands n))) ms each_once

  -- of all members
  pub records_writable : AllByRecursion (IsWritable (slots_in dim commands)) (records_of dim commands)
  records_writable = dated_writable (members dim commands)

  pub firsts_writable : AllByRecursion (IsWritable (slots_in dim commands)) (firsts_of dim commands)
  firsts_writable = first_writable (members dim commands)

  pub records_apart : AreApart (records_of dim commands)
  records_apart = dated_ones_apart (members dim commands) once

  pub firsts_apart : AreApart (firsts_of dim commands)
  firsts_apart = first_ones_apart (members dim commands) once

  -- of a range
  pub once_between : (after last : ℕ) → IsOnce bytes_eq bytes_eq-Decides (members_between dim commands after last)
  once_between after last = once_left after (take last (members dim commands)) (once_taken last (members dim commands) once)
    where
      none_taken : (p : List ℕ → Bool) (n : ℕ) (xs : List (List ℕ)) → list_any p xs ≡ false → list_any p (take n xs) ≡ false
      none_taken p zero xs none = refl
      none_taken p (suc n) [] none = refl
      none_taken p (suc n) (x ∷ xs) none = let split = or_none (p x) (list_any p xs) none in rw (split.0, none_taken p n xs split.1) refl

      once_taken : (n : ℕ) (xs : List (List ℕ)) → IsOnce bytes_eq bytes_eq-Decides xs → IsOnce bytes_eq bytes_eq-Decides (take n xs)
      once_taken zero xs each_once = tt
      once_taken (suc n) [] each_once = tt
      once_taken (suc n) (x ∷ xs) each_once = (none_taken (λ y. bytes_eq y x) n xs each_once.0, once_taken n xs each_once.1)

      once_left : (n : ℕ) (xs : List (List ℕ)) → IsOnce bytes_eq bytes_eq-Decides xs → IsOnce bytes_eq bytes_eq-Decides (drop n xs)
      once_left zero xs each_once = each_once
      once_left (suc n) [] each_once = tt
      once_left (suc n) (x ∷ xs) each_once = once_left n xs each_once.1
