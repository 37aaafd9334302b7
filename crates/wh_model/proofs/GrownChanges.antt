-- The change table grows by the records of a batch.
use Rattle.std.proofs.Common.{◌≡◌, inl, inr, ℕ, zero, suc, ◌<◌, ◌≤◌, true, false, ◌&&◌, ◌||◌, List, [], ◌∷◌, ◌++◌, length, map, Option, Some, None, refl, sym, ◌∙◌, ap, subst, arith, length-append}
use Rattle.std.specs.Prelude.{option_map, flat_map, bytes_eq}
use Rattle.std.specs.Option.{option_and_then}
use Rattle.std.specs.List.{list_any, AllByRecursion}
use Rattle.std.proofs.lemmas.Bool.{cases_eq, cases_lt}
use Rattle.std.proofs.lemmas.Slice.Eq.{bytes_eq-Decides}
use Rattle.wh_policy.specs.declared.attribute.Dim.{Dim}
use Rattle.wh_policy.specs.declared.record.DimensionRecord.{DimensionRecord}
use Rattle.wh_history.specs.Keys.{at_place}
use Rattle.wh_history.specs.Accepted.{Accepted, Content, Governs, Describes, Sells, Upgrades, Withdraws, Anchor, same_anchor, same_day, day_of, described_by, mentions, durable_key, surrogate_key, records_by}
use Rattle.wh_history.specs.Tables.{change_row, change_row_of, change_row_in}
use Rattle.wh_history.specs.Tables as history
use Rattle.wh_history.proofs.Batches.{same_dimension}
use Rattle.wh_history.proofs.Growth.{durable_stays, surrogate_stays}
use Rattle.wh_history.proofs.Joins.{Told, told_in_all}
use Rattle.wh_history.proofs.Places.{anchors_decide, place-distinct_given}
use Rattle.wh_history.proofs.Lists.{all_apart}
use Rattle.wh_rows.specs.declared.rows.ChangeRow.{ChangeRow}
use Rattle.wh_rows.specs.declared.key.ChangeKey.{ChangeKey}
use Rattle.wh_rows.specs.Rows as row
use Rattle.wh_model.specs.Defined.{change_at}
use Rattle.wh_model.proofs.Growing.{Grows}
use Rattle.wh_model.proofs.GrownKeys.{at_front, at_past, at_last, all_at, map_same, then_same, keyed_map, grows_behind}

abbrev keyed_row : ChangeKey → history.ChangeRow → ChangeRow
keyed_row key c = record { command = key.command; place = key.place; dim = c.dim; durable = c.durable; day = c.day; anchor = c.anchor; values = c.texts }

pub change_keyed : (commands : List Accepted) (k : ChangeKey) (v : ChangeRow) → change_at commands k ≡ Some v → row.change.key v ≡ k
change_keyed commands k v is = keyed_map row.change.key k (keyed_row k) (λ _. refl) (change_row commands k.command k.place) v is

all_parts : {X Y : Type 0} (P : Y → Type 0) (f : X → List Y) (xs : List X) → AllByRecursion P (flat_map f xs) → AllByRecursion (λ x. AllByRecursion P (f x)) xs
all_parts P f [] all = tt
all_parts P f (x ∷ xs) all = let parts = all_apart P (f x) (flat_map f xs) all in (parts.0, all_parts P f xs parts.1)

-- whose anchor is mentioned is mentioned
pub natural_among : (x : Anchor) (ms : List Anchor) → list_any (λ a. same_anchor a x) ms ≡ true → list_any (λ n. bytes_eq n x.natural) (map (λ (a : Anchor). a.natural) ms) ≡ true
natural_among x [] h = cc
natural_among x (a ∷ ms) h =
    elim (bytes_eq a.natural x.natural) as (λ b. (b && same_day a.day x.day || list_any (λ a. same_anchor a x) ms) ≡ true → (b || list_any (λ n. bytes_eq n x.natural) (map (λ (a : Anchor). a.natural) ms)) ≡ true) [
      | true ↦ λ _. refl
      | false ↦ λ later. natural_among x ms later
    ] h

module _ (commands : List Accepted) (c : Accepted) where
  abbrev after : List Accepted
  after = commands ++ c ∷ []

  row_stays : (dim : Dim) (r : DimensionRecord) → Told (mentions dim commands) r → change_row_of after dim r ≡ change_row_of commands dim r
  row_stays dim r told =
      let day : Anchor = day_of r.natural r.day in
      let owned : 0 < durable_key dim commands r.natural = place-distinct_given bytes_eq bytes_eq-Decides r.natural (map (λ (a : Anchor). a.natural) (mentions dim commands)) (natural_among day (mentions dim commands) told) in
      let given : 0 < surrogate_key dim commands day = place-distinct_given same_anchor anchors_decide day (mentions dim commands) told in
      rw (durable_stays dim commands (c ∷ []) r.natural owned, surrogate_stays dim commands (c ∷ []) day given) refl

  told_by : (n : ℕ) (d : Accepted) → at_place n commands ≡ Some d → (dim : Dim) → AllByRecursion (Told (mentions dim commands)) (described_by dim d.content)
  told_by n d there dim =
      let P = Told (mentions dim commands) in
      all_at (λ (e : Accepted). AllByRecursion P (described_by dim e.content)) n commands d (all_parts P (λ (e : Accepted). described_by dim e.content) commands (told_in_all dim commands)) there

  content_stays : (content : Content) → ((dim : Dim) → AllByRecursion (Told (mentions dim commands)) (described_by dim content)) → (place : ℕ) → change_row_in after place content ≡ change_row_in commands place content
  content_stays (Governs policy) told place = refl
  content_stays (Describes dim rs) told place =
      let all : AllByRecursion (Told (mentions dim commands)) rs = subst (AllByRecursion (Told (mentions dim commands))) (same_dimension dim rs) (told dim) in
      map_same (change_row_of after dim) (change_row_of commands dim) (at_place place rs) (λ r there. row_stays dim r (all_at (Told (mentions dim commands)) place rs r all there))
  content_stays (Sells sales) told place = refl
  content_stays Upgrades told place = refl
  content_stays (Withdraws lines) told place = refl

  abbrev row_in : List Accepted → ℕ → Accepted → Option history.ChangeRow
  row_in list place d = change_row_in list place d.content

  older_stay : (number place : ℕ) → number ≤ length commands → change_row after number place ≡ change_row commands number place
  older_stay number place h =
      ap (option_and_then (row_in after place)) (at_front number commands (c ∷ []) h)
      ∙ then_same (row_in after place) (row_in commands place) (at_place number commands) (λ d there. content_stays d.content (told_by number d there) place)

  none_past : (list : List Accepted) (number place : ℕ) → length list < number → change_row list number place ≡ None
  none_past list number place h = ap (option_and_then (row_in list place)) (at_past number list h)

  abbrev pub key_of : ℕ → ChangeKey
  key_of place = record { command = length after; place = place }

  longer : length after ≡ suc (length commands)
  longer = length-append commands (c ∷ []) ∙ omega arith

  pub none_yet : (place : ℕ) → change_at commands (key_of place) ≡ None
  none_yet place = ap (option_map (keyed_row (key_of place))) (none_past commands (length after) place (omega (arith, longer)))

  module _ (dim : Dim) (rs : List DimensionRecord) (is : c.content ≡ Describes dim rs) where
    pub new_row : (place : ℕ) → change_row after (length after) place ≡ option_map (change_row_of after dim) (at_place place rs)
    new_row place = ap (option_and_then (row_in after place)) (at_last commands c) ∙ ap (change_row_in after place) is

    no_row : (place : ℕ) → at_place place rs ≡ None → change_at after (key_of place) ≡ None
    no_row place none = ap (option_map (keyed_row (key_of place))) (new_row place ∙ ap (option_map (change_row_of after dim)) none)

    before_first : (place : ℕ) → place ≤ 0 → at_place place rs ≡ None
    before_first zero h = refl
    before_first (suc n) h = absurd (omega arith)

    of_command : (place : ℕ) → Grows key_of 0 (length rs) (change_at commands) (change_at after) (key_of place)
    of_command place = grows_behind key_of 0 (length rs) (change_at commands) (change_at after) place
        (λ front. no_row place (before_first place front) ∙ sym (none_yet place)) (λ _. none_yet place) (λ past. no_row place (at_past place rs past))

    -- the rows of the older commands stay, and the new command has those of its records
    pub change_grows : (key : ChangeKey) → Grows key_of 0 (length rs) (change_at commands) (change_at after) key
    change_grows key =
        elim (cases_lt (length commands) key.command) [
          | inr older ↦ inl (record { same = ap (option_map (keyed_row key)) (older_stay key.command key.place older) })
          | inl later ↦ elim (cases_eq key.command (length after)) [
            | inl new ↦
                let here : key_of key.place ≡ key = ap (λ n. record { command = n; place = key.place }) (sym new) in
                subst (Grows key_of 0 (length rs) (change_at commands) (change_at after)) here (of_command key.place)
            | inr other ↦ inl (record {
              same = ap (option_map (keyed_row key)) (none_past after key.command key.place (omega (arith, longer)) ∙ sym (none_past commands key.command key.place later));
            })
          ]
        ]

  -- a command without records brings no change
  pub brings_none : (content : Content) → c.content ≡ content → ((place : ℕ) → change_row_in after place content ≡ None) → (key : ChangeKey) → change_at after key ≡ change_at commands key
  brings_none content is without key =
      elim (cases_lt (length commands) key.command) [
        | inr older ↦ ap (option_map (keyed_row key)) (older_stay key.command key.place older)
        | inl later ↦ elim (cases_eq key.command (length after)) [
          | inl new ↦
              let none : change_row after key.command key.place ≡ None =
              ap (λ n. change_row after n key.place) new ∙ ap (option_and_then (row_in after key.place)) (at_last commands c) ∙ ap (change_row_in after key.place) is ∙ without key.place in
              ap (option_map (keyed_row key)) (none ∙ sym (none_past commands key.command key.place later))
          | inr other ↦ ap (option_map (keyed_row key)) (none_past after key.command key.place (omega (arith, longer)) ∙ sym (none_past commands key.command key.place later))
        ]
      ]

  -- whatever a command holds
  pub changes_grow : (content : Content) → c.content ≡ content → (key : ChangeKey) → Grows key_of 0 (records_by content) (change_at commands) (change_at after) key
  changes_grow (Governs policy) is key = inl (record { same = brings_none (Governs policy) is (λ _. refl) key })
  changes_grow (Describes dim rs) is key = change_grows dim rs is key
  changes_grow (Sells sales) is key = inl (record { same = brings_none (Sells sales) is (λ _. refl) key })
  changes_grow Upgrades is key = inl (record { same = brings_none Upgrades is (λ _. refl) key })
  changes_grow (Withdraws lines) is key = inl (record { same = brings_none (Withdraws lines) is (λ _. refl) key })
