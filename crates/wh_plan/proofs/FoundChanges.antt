-- What the rows of table change tell of one member.
use Rattle.std.proofs.Common.{◌≡◌, ◌≢◌, ℕ, zero, suc, ◌-◌, ◌<◌, Bool, true, false, cond, ◌&&◌, List, [], ◌∷◌, ◌++◌, map, filter, length, replicate, refl, sym, ◌∙◌, ap, subst, arith}
use Rattle.std.specs.Prelude.{bytes_eq}
use Rattle.std.specs.List.{AllByRecursion}
use Rattle.std.specs.Ordering.{eq_by_cmp, nat_cmp}
use Rattle.std.specs.FinMap.{values}
use Rattle.std.proofs.lemmas.List.{map-append}
use Rattle.std.proofs.lemmas.List.Elements.{filter-append, filter_agree}
use Rattle.std.proofs.lemmas.Slice.Eq.{bytes_eq-Decides}
use Rattle.wh_day.specs.Value.{none_text}
use Rattle.wh_policy.specs.declared.attribute.Dim.{Dim}
use Rattle.wh_policy.specs.declared.attribute.Dim.TheVariants.{Product, Store, Customer}
use Rattle.wh_policy.specs.declared.record.DimensionRecord.{DimensionRecord}
use Rattle.wh_history.specs.Slots.{padded}
use Rattle.wh_history.specs.Accepted.{Accepted, Content, Governs, Describes, Sells, Upgrades, Withdraws, described, described_by, members, durable_key, surrogate_key, day_of, change_of, changes_of}
use Rattle.wh_history.specs.Accepted as accepted
use Rattle.wh_history.specs.Tables.{Limits}
use Rattle.wh_history.specs.declared.member.Change.{Change}
use Rattle.wh_history.proofs.Places.{one_place}
use Rattle.wh_history.proofs.Joins.{all_weaker}
use Rattle.wh_history.proofs.Lists.{all_front, all_back}
use Rattle.wh_rows.specs.declared.rows.ChangeRow.{ChangeRow}
use Rattle.wh_rows.specs.Tables.{Tables}
use Rattle.wh_model.specs.Defined.{AreOf}
use Rattle.wh_plan.specs.Reading.{HaveNoEmptyValue, given_text, change_in}
use Rattle.wh_model.proofs.FoundPlaces.{same_number_is, number_itself}
use Rattle.wh_plan.proofs.FoundMembers.{same_dim, same_dim_is, dim_itself}
use Rattle.wh_model.proofs.ListedChanges.{made, record_rows, content_rows, change_rows, changes_listed}
use Rattle.wh_rows.proofs.Edits.{filter_all}
use Rattle.wh_rows.proofs.Keys.{and-true}

-- ---- the texts of the slots

abbrev pub HasNoEmptyValue : DimensionRecord → Type 0
HasNoEmptyValue r = AllByRecursion (λ text. text ≢ []) r.values

given_one : (text : List ℕ) → text ≢ [] → given_text text ≡ text
given_one [] given = absurd (given refl)
given_one (byte ∷ bytes) given = refl

given_all : (texts : List (List ℕ)) → AllByRecursion (λ text. text ≢ []) texts → map given_text texts ≡ texts
given_all [] all = refl
given_all (text ∷ texts) all = let here = given_one text all.0 in let rest = given_all texts all.1 in cc

given_none : (n : ℕ) → map given_text (replicate n []) ≡ replicate n none_text
given_none zero = refl
given_none (suc n) = ap (λ texts. none_text ∷ texts) (given_none n)

-- read back, a record's values are padded with the text for none
pub read_back : (texts : List (List ℕ)) → AllByRecursion (λ text. text ≢ []) texts → map given_text (padded [] texts) ≡ padded none_text texts
read_back texts all =
    map-append given_text texts (replicate (6 - length texts) [])
    ∙ ap (λ ts. ts ++ map given_text (replicate (6 - length texts) [])) (given_all texts all)
    ∙ ap (λ ts. texts ++ ts) (given_none (6 - length texts))

tests_agree : (a b : Dim) → same_dim a b ≡ accepted.same_dim a b
tests_agree Product Product = refl
tests_agree Product Store = refl
tests_agree Product Customer = refl
tests_agree Store Product = refl
tests_agree Store Store = refl
tests_agree Store Customer = refl
tests_agree Customer Product = refl
tests_agree Customer Store = refl
tests_agree Customer Customer = refl

-- ---- the rows of a dimension, where what is read of a row is what its record says

module _ {X : Type 0} (dim : Dim) (commands : List Accepted) (read : ChangeRow → X) (tell : DimensionRecord → X) (p : ChangeRow → Bool) (q : DimensionRecord → Bool) where
  -- so it is of each row of the record, and so is whether it passes
  abbrev pub Tells : DimensionRecord → Type 0
  Tells r = (number place : ℕ) → (read (made commands number place dim r) ≡ tell r) × (p (made commands number place dim r) ≡ q r)

  abbrev passes : ChangeRow → Bool
  passes v = same_dim dim v.dim && p v

  abbrev read_all : List ChangeRow → List X
  read_all vs = map read (filter passes vs)

  abbrev tell_all : List DimensionRecord → List X
  tell_all rs = map tell (filter q rs)

  records_told : (number place : ℕ) (rs : List DimensionRecord) → AllByRecursion Tells rs → read_all (record_rows commands number place dim rs) ≡ tell_all rs
  records_told number place [] told = refl
  records_told number place (r ∷ rs) told =
      let v = made commands number place dim r in
      let rest = record_rows commands number (suc place) dim rs in
      let here = (told.0 number place).0 in
      let more = records_told number (suc place) rs told.1 in
      let test : passes v ≡ q r = ap (λ b. b && p v) (dim_itself dim) ∙ (told.0 number place).1 in
      ap (λ b. map read (cond b (v ∷ filter passes rest) (filter passes rest))) test
      ∙ elim (q r) as (λ b. map read (cond b (v ∷ filter passes rest) (filter passes rest)) ≡ map tell (cond b (r ∷ filter q rs) (filter q rs))) [
        | true ↦ cc
        | false ↦ more
      ]

  -- rows of another dimension do not pass
  others_told : (other : Dim) → same_dim dim other ≡ false → (number place : ℕ) (rs : List DimensionRecord) → read_all (record_rows commands number place other rs) ≡ []
  others_told other apart number place [] = refl
  others_told other apart number place (r ∷ rs) =
      let v = made commands number place other r in
      let rest = record_rows commands number (suc place) other rs in
      ap (λ b. map read (cond (b && p v) (v ∷ filter passes rest) (filter passes rest))) apart ∙ others_told other apart number (suc place) rs

  content_told : (number : ℕ) (content : Content) → AllByRecursion Tells (described_by dim content) → read_all (content_rows commands number content) ≡ tell_all (described_by dim content)
  content_told number (Governs policy) told = refl
  content_told number (Describes other records) told =
      elim (accepted.same_dim dim other) as (λ b. accepted.same_dim dim other ≡ b → AllByRecursion Tells (cond b records []) → read_all (record_rows commands number 1 other records) ≡ tell_all (cond b records [])) [
        | true ↦ λ e each. subst (λ (d : Dim). read_all (record_rows commands number 1 d records) ≡ tell_all records) (same_dim_is dim other (tests_agree dim other ∙ e)) (records_told number 1 records each)
        | false ↦ λ e _. others_told other (tests_agree dim other ∙ e) number 1 records
      ] refl told
  content_told number (Sells sales) told = refl
  content_told number Upgrades told = refl
  content_told number (Withdraws lines) told = refl

  changes_told : (number : ℕ) (cs : List Accepted) → AllByRecursion Tells (described dim cs) → read_all (change_rows commands number cs) ≡ tell_all (described dim cs)
  changes_told number [] told = refl
  changes_told number (c ∷ cs) told =
      let rs = described_by dim c.content in
      let here = content_told number c.content (all_front Tells rs (described dim cs) told) in
      let rest = changes_told (suc number) cs (all_back Tells rs (described dim cs) told) in
      ap (map read) (filter-append passes (content_rows commands number c.content) (change_rows commands (suc number) cs))
      ∙ map-append read (filter passes (content_rows commands number c.content)) (filter passes (change_rows commands (suc number) cs))
      ∙ ap (λ xs. xs ++ read_all (change_rows commands (suc number) cs)) here
      ∙ ap (λ ys. tell_all rs ++ ys) rest
      ∙ sym (ap (map tell) (filter-append q rs (described dim cs)) ∙ map-append tell (filter q rs) (filter q (described dim cs)))

  pub read_told : (limits : Limits) (t : Tables) → AreOf limits commands t → AllByRecursion Tells (described dim commands) → map read (filter (λ v. same_dim dim v.dim && p v) (values t.change)) ≡ map tell (filter q (described dim commands))
  read_told limits t are told = ap (λ (vs : List ChangeRow). map read (filter passes vs)) (changes_listed limits commands t are) ∙ changes_told 1 commands told

-- ---- the rows of a member

module _ (dim : Dim) (commands : List Accepted) (natural : List ℕ) (durable : ℕ) (given : 0 < durable) (is : durable ≡ durable_key dim commands natural) where
  same_test : (r : DimensionRecord) → eq_by_cmp nat_cmp durable (durable_key dim commands r.natural) ≡ bytes_eq r.natural natural
  same_test r =
      elim (bytes_eq r.natural natural) as (λ b. bytes_eq r.natural natural ≡ b → eq_by_cmp nat_cmp durable (durable_key dim commands r.natural) ≡ b) [
        | true ↦ λ e. let one : durable_key dim commands r.natural ≡ durable = ap (durable_key dim commands) ((bytes_eq-Decides r.natural natural).0 e) ∙ sym is in ap (eq_by_cmp nat_cmp durable) one ∙ number_itself durable
        | false ↦ λ e.
            elim (eq_by_cmp nat_cmp durable (durable_key dim commands r.natural)) as (λ b. eq_by_cmp nat_cmp durable (durable_key dim commands r.natural) ≡ b → b ≡ false) [
              | true ↦ λ t.
                  let number : durable ≡ durable_key dim commands r.natural = same_number_is _ _ t in
                  let first : 0 < durable_key dim commands natural = omega (arith, is, given) in
                  let one = one_place bytes_eq bytes_eq-Decides natural r.natural (members dim commands) first (sym is ∙ number) in
                  absurd (let here = (bytes_eq-Decides r.natural natural).1 (sym one) in cc)
              | false ↦ λ _. refl
            ] refl
      ] refl

  -- the row of a record, read as a change
  change_is : (r : DimensionRecord) → HasNoEmptyValue r → (number place : ℕ) → change_in (made commands number place dim r) ≡ change_of dim commands r
  change_is r full number place =
      let with_values : List (List ℕ) → Change = λ values. record { day = r.day; anchor = surrogate_key dim commands (day_of r.natural r.day); values = values } in
      ap with_values (read_back r.values full)

  abbrev Told : DimensionRecord → Type 0
  Told = Tells dim commands change_in (change_of dim commands) (λ v. eq_by_cmp nat_cmp durable v.durable) (λ r. bytes_eq r.natural natural)

  changes_are : (limits : Limits) (t : Tables) → AreOf limits commands t → HaveNoEmptyValue commands → map change_in (filter (λ r. same_dim dim r.dim && eq_by_cmp nat_cmp durable r.durable) (values t.change)) ≡ changes_of dim commands natural
  changes_are limits t are full =
      read_told dim commands change_in (change_of dim commands) (λ v. eq_by_cmp nat_cmp durable v.durable) (λ r. bytes_eq r.natural natural) limits t are
      (all_weaker HasNoEmptyValue Told (λ r each number place. (change_is r each number place, same_test r)) (described dim commands) (full dim))

-- a search by the durable key of a member finds all that was accepted of it, in order of acceptance
pub changes_found : (limits : Limits) (commands : List Accepted) (t : Tables) → AreOf limits commands t → HaveNoEmptyValue commands → (dim : Dim) (natural : List ℕ) (durable : ℕ) → 0 < durable → durable ≡ durable_key dim commands natural
    → map change_in (filter (λ r. same_dim dim r.dim && eq_by_cmp nat_cmp durable r.durable) (values t.change)) ≡ changes_of dim commands natural
changes_found limits commands t are full dim natural durable given is = changes_are dim commands natural durable given is limits t are full

-- ---- the anchors of a dimension's records

pub anchors_read : (limits : Limits) (commands : List Accepted) (t : Tables) → AreOf limits commands t → (dim : Dim) → map (λ r. r.anchor) (filter (λ r. same_dim dim r.dim) (values t.change)) ≡ map (λ r. surrogate_key dim commands (day_of r.natural r.day)) (described dim commands)
anchors_read limits commands t are dim =
    let tell = λ (r : DimensionRecord). surrogate_key dim commands (day_of r.natural r.day) in
    let all = λ (r : DimensionRecord). true in
    ap (map (λ (r : ChangeRow). r.anchor)) (filter_agree (λ (r : ChangeRow). same_dim dim r.dim) (λ (r : ChangeRow). same_dim dim r.dim && true) (λ r. sym (and-true (same_dim dim r.dim))) (values t.change))
    ∙ read_told dim commands (λ (r : ChangeRow). r.anchor) tell (λ (r : ChangeRow). true) all limits t are (each (described dim commands))
    ∙ ap (map tell) (filter_all (described dim commands))
  where
    each : (rs : List DimensionRecord) → AllByRecursion (Tells dim commands (λ (r : ChangeRow). r.anchor) (λ (r : DimensionRecord). surrogate_key dim commands (day_of r.natural r.day)) (λ (r : ChangeRow). true) (λ (r : DimensionRecord). true)) rs
    each [] = tt
    each (r ∷ rs) = ((λ number place. (refl, refl)), each rs)
