-- What one record more makes of its member.
use Rattle.std.proofs.Common.{◌≡◌, ℕ, suc, ◌==◌, Bool, true, false, cond, ◌||◌, ◌&&◌, List, [], ◌∷◌, ◌++◌, length, map, refl, sym, ◌∙◌, ap, Option, Some, None}
use Rattle.std.specs.Prelude.{filter, bytes_eq, find, option_map, unwrap_or, flat_map, option_to_list}
use Rattle.std.specs.List.{list_any, AllByRecursion}
use Rattle.std.proofs.lemmas.Bool.{eqb-true}
use Rattle.std.proofs.lemmas.Slice.Eq.{bytes_eq-Decides}
use Rattle.std.proofs.lemmas.List.{map-append, append_assoc}
use Rattle.std.proofs.lemmas.List.Elements.{filter-append}
use Rattle.wh_day.specs.Value.{none_text}
use Rattle.wh_history.specs.Slots.{padded}
use Rattle.wh_history.specs.Keys.{distinct, place}
use Rattle.wh_history.specs.Accepted.{Accepted, Content, Describes, Anchor, same_anchor, opening_of, day_of, mentions, described, described_by, anchors, members, durable_key, surrogate_key, change_of, changes_of, member_of, anchors_of_record, anchors_of_sale, anchors_by, sold_by, member_of_sale}
use Rattle.wh_policy.specs.declared.record.DimensionRecord.{DimensionRecord}
use Rattle.wh_policy.specs.declared.attribute.Dim.{Dim}
use Rattle.wh_history.specs.declared.member.Change.{Change}
use Rattle.wh_history.proofs.Places.{anchors_decide, place-distinct_given}
use Rattle.wh_history.proofs.Numbers.{place-distinct_without, place-distinct_none}
use Rattle.wh_history.proofs.Growth.{surrogate_stays}
use Rattle.wh_history.proofs.Joins.{told_in_all, Told}
use Rattle.wh_history.proofs.Untouched.{mentions-last, described-last}
use Rattle.wh_history.specs.Touched.{given_or, grown, anchor_of_day, change_with, with_record}
use Rattle.std.proofs.lemmas.List.Folds.{list_any-append}
use Rattle.wh_policy.specs.declared.record.SaleRecord.{SaleRecord}
use Rattle.wh_history.proofs.Lasts.{place-last, length-last, place-twice, length-twice, not_among}

-- two functions that agree on each
map_filter_each : {X Y : Type 0} (f g : X → Y) (p : X → Bool) (xs : List X) → AllByRecursion (λ x. f x ≡ g x) xs → map f (filter p xs) ≡ map g (filter p xs)
map_filter_each f g p [] all = refl
map_filter_each f g p (x ∷ xs) all =
    let rest = map_filter_each f g p xs all.1 in
    let here = all.0 in
    elim (p x) as (λ b. map f (cond b (x ∷ filter p xs) (filter p xs)) ≡ map g (cond b (x ∷ filter p xs) (filter p xs))) [
      | true ↦ cc
      | false ↦ rest
    ]

pub and_false : (b : Bool) → (b && false) ≡ false
and_false true = refl
and_false false = refl

module _ (dim : Dim) (old new : List Accepted) where
  pub change_stays : (r : DimensionRecord) → Told (mentions dim old) r → change_of dim (old ++ new) r ≡ change_of dim old r
  change_stays r told =
      let with_anchor : ℕ → Change = λ n. record { day = r.day; anchor = n; values = padded none_text r.values } in
      ap with_anchor (surrogate_stays dim old new (day_of r.natural r.day) (place-distinct_given same_anchor anchors_decide (day_of r.natural r.day) (mentions dim old) told))

  all_stay : (rs : List DimensionRecord) → AllByRecursion (Told (mentions dim old)) rs → AllByRecursion (λ r. change_of dim (old ++ new) r ≡ change_of dim old r) rs
  all_stay [] all = tt
  all_stay (r ∷ rs) all = (change_stays r all.0, all_stay rs all.1)

  -- the changes that were accepted stay
  pub changes_stay : (natural : List ℕ) → map (change_of dim (old ++ new)) (filter (λ r. bytes_eq r.natural natural) (described dim old)) ≡ changes_of dim old natural
  changes_stay natural = map_filter_each (change_of dim (old ++ new)) (change_of dim old) (λ (r : DimensionRecord). bytes_eq r.natural natural) (described dim old) (all_stay (described dim old) (told_in_all dim old))

module _ (dim : Dim) (commands : List Accepted) where
  abbrev found_anchor : Option Change → ℕ
  found_anchor o = unwrap_or (option_map (λ (c : Change). c.anchor) o) 0

  -- the number of a member's day is that of its changes
  anchor_in : (natural : List ℕ) (day : ℕ) (rs : List DimensionRecord) → list_any (λ (r : DimensionRecord). bytes_eq r.natural natural && (r.day == day)) rs ≡ true → anchor_of_day day (map (change_of dim commands) (filter (λ r. bytes_eq r.natural natural) rs)) ≡ surrogate_key dim commands (day_of natural day)
  anchor_in natural day [] h = cc
  anchor_in natural day (r ∷ rs) h =
      let rest = filter (λ (r : DimensionRecord). bytes_eq r.natural natural) rs in
      elim (bytes_eq r.natural natural) as (λ b. (bytes_eq r.natural natural ≡ b) → (b && (r.day == day) || list_any (λ (r : DimensionRecord). bytes_eq r.natural natural && (r.day == day)) rs) ≡ true → anchor_of_day day (map (change_of dim commands) (cond b (r ∷ rest) rest)) ≡ surrogate_key dim commands (day_of natural day)) [
        | false ↦ λ e t. anchor_in natural day rs t
        | true ↦ λ e t.
            let is = (bytes_eq-Decides r.natural natural).0 e in
            elim (r.day == day) as (λ b. ((r.day == day) ≡ b) → (b || list_any (λ (r : DimensionRecord). bytes_eq r.natural natural && (r.day == day)) rs) ≡ true → found_anchor (cond b (Some (change_of dim commands r)) (find (λ (c : Change). c.day == day) (map (change_of dim commands) rest))) ≡ surrogate_key dim commands (day_of natural day)) [
              | true ↦ λ d _. let same = eqb-true r.day day d in ap (λ (n : List ℕ). surrogate_key dim commands (day_of n r.day)) is ∙ ap (λ (n : ℕ). surrogate_key dim commands (day_of natural n)) same
              | false ↦ λ d u. anchor_in natural day rs u
            ] refl t
      ] refl h

  anchor_out : (natural : List ℕ) (day : ℕ) (rs : List DimensionRecord) → list_any (λ (r : DimensionRecord). bytes_eq r.natural natural && (r.day == day)) rs ≡ false → anchor_of_day day (map (change_of dim commands) (filter (λ r. bytes_eq r.natural natural) rs)) ≡ 0
  anchor_out natural day [] h = refl
  anchor_out natural day (r ∷ rs) h =
      let rest = filter (λ (r : DimensionRecord). bytes_eq r.natural natural) rs in
      elim (bytes_eq r.natural natural) as (λ b. (b && (r.day == day) || list_any (λ (r : DimensionRecord). bytes_eq r.natural natural && (r.day == day)) rs) ≡ false → anchor_of_day day (map (change_of dim commands) (cond b (r ∷ rest) rest)) ≡ 0) [
        | false ↦ λ t. anchor_out natural day rs t
        | true ↦ λ t.
            elim (r.day == day) as (λ b. (b || list_any (λ (r : DimensionRecord). bytes_eq r.natural natural && (r.day == day)) rs) ≡ false → found_anchor (cond b (Some (change_of dim commands r)) (find (λ (c : Change). c.day == day) (map (change_of dim commands) rest))) ≡ 0) [
              | true ↦ λ u. cc
              | false ↦ λ u. anchor_out natural day rs u
            ] t
      ] h

  no_day_of_one : (natural : List ℕ) (day : ℕ) (o : Option (List ℕ)) → list_any (λ a. same_anchor a (day_of natural day)) (map opening_of (option_to_list o)) ≡ false
  no_day_of_one natural day None = refl
  no_day_of_one natural day (Some n) = rw (and_false (bytes_eq n natural)) refl

  no_day_of_sales : (natural : List ℕ) (day : ℕ) (sales : List SaleRecord) → list_any (λ a. same_anchor a (day_of natural day)) (flat_map (anchors_of_sale dim) sales) ≡ false
  no_day_of_sales natural day [] = refl
  no_day_of_sales natural day (s ∷ sales) =
      list_any-append (λ (a : Anchor). same_anchor a (day_of natural day)) (anchors_of_sale dim s) (flat_map (anchors_of_sale dim) sales)
      ∙ rw (no_day_of_one natural day (member_of_sale dim s), no_day_of_sales natural day sales) refl

  day_of_records : (natural : List ℕ) (day : ℕ) (rs : List DimensionRecord) → list_any (λ a. same_anchor a (day_of natural day)) (flat_map anchors_of_record rs) ≡ list_any (λ (r : DimensionRecord). bytes_eq r.natural natural && (r.day == day)) rs
  day_of_records natural day [] = refl
  day_of_records natural day (r ∷ rs) = rw (and_false (bytes_eq r.natural natural), day_of_records natural day rs) refl

pub or_false : (b : Bool) → (b || false) ≡ b
or_false true = refl
or_false false = refl

module _ (dim : Dim) where
  day_by : (natural : List ℕ) (day : ℕ) (content : Content) → list_any (λ a. same_anchor a (day_of natural day)) (anchors_by dim content) ≡ list_any (λ (r : DimensionRecord). bytes_eq r.natural natural && (r.day == day)) (described_by dim content)
  day_by natural day content =
      list_any-append (λ (a : Anchor). same_anchor a (day_of natural day)) (flat_map anchors_of_record (described_by dim content)) (flat_map (anchors_of_sale dim) (sold_by content))
      ∙ rw (no_day_of_sales dim [] natural day (sold_by content), day_of_records dim [] natural day (described_by dim content)) (or_false _)

  -- a member's day is mentioned where a record has it
  pub day_mentioned : (natural : List ℕ) (day : ℕ) (commands : List Accepted) → list_any (λ a. same_anchor a (day_of natural day)) (mentions dim commands) ≡ list_any (λ (r : DimensionRecord). bytes_eq r.natural natural && (r.day == day)) (described dim commands)
  day_mentioned natural day [] = refl
  day_mentioned natural day (c ∷ cs) =
      list_any-append (λ (a : Anchor). same_anchor a (day_of natural day)) (anchors_by dim c.content) (mentions dim cs)
      ∙ rw (day_by natural day c.content, day_mentioned natural day cs) (sym (list_any-append (λ (r : DimensionRecord). bytes_eq r.natural natural && (r.day == day)) (described_by dim c.content) (described dim cs)))

  no_place : (commands : List Accepted) (anchor : Anchor) → list_any (λ a. same_anchor a anchor) (mentions dim commands) ≡ false → surrogate_key dim commands anchor ≡ 0
  no_place commands anchor h = place-distinct_none same_anchor anchor (mentions dim commands) (not_among same_anchor anchors_decide anchor (mentions dim commands) h)

  -- the number of a member's day is that of its changes of that day
  pub anchor_is : (commands : List Accepted) (natural : List ℕ) (day : ℕ) → anchor_of_day day (changes_of dim commands natural) ≡ surrogate_key dim commands (day_of natural day)
  anchor_is commands natural day =
      elim (list_any (λ (r : DimensionRecord). bytes_eq r.natural natural && (r.day == day)) (described dim commands)) as (λ b. (list_any (λ (r : DimensionRecord). bytes_eq r.natural natural && (r.day == day)) (described dim commands) ≡ b) → anchor_of_day day (changes_of dim commands natural) ≡ surrogate_key dim commands (day_of natural day)) [
        | true ↦ λ e. anchor_in dim commands natural day (described dim commands) e
        | false ↦ λ e. anchor_out dim commands natural day (described dim commands) e ∙ sym (no_place commands (day_of natural day) (day_mentioned natural day commands ∙ e))
      ] refl

-- one record more
module _ (dim : Dim) (commands : List Accepted) (id kind bytes : List ℕ) (r : DimensionRecord) where
  abbrev pub one : Accepted
  one = record { id = id; kind = kind; bytes = bytes; content = Describes dim (r ∷ []) }

  abbrev opening : Anchor
  opening = opening_of r.natural

  abbrev itself : Anchor
  itself = day_of r.natural r.day

  same_dimension : described_by dim (Describes dim (r ∷ [])) ≡ r ∷ []
  same_dimension = elim dim as (λ d. described_by d (Describes d (r ∷ [])) ≡ r ∷ []) [ Dim.Product ↦ refl | Dim.Store ↦ refl | Dim.Customer ↦ refl ]

  mentions_one : mentions dim (commands ++ one ∷ []) ≡ (mentions dim commands ++ opening ∷ []) ++ itself ∷ []
  mentions_one =
      mentions-last dim commands one
      ∙ ap (λ (rs : List DimensionRecord). mentions dim commands ++ (flat_map anchors_of_record rs ++ [])) same_dimension
      ∙ sym (append_assoc (mentions dim commands) (opening ∷ []) (itself ∷ []))

  -- the numbers of its opening and of its day
  opening_after : surrogate_key dim (commands ++ one ∷ []) opening ≡ given_or (surrogate_key dim commands opening) (suc (length (anchors dim commands)))
  opening_after =
      ap (λ ms. place same_anchor opening (distinct same_anchor ms)) mentions_one
      ∙ place-distinct_without same_anchor opening (mentions dim commands ++ opening ∷ []) (itself ∷ []) (rw (and_false (bytes_eq r.natural r.natural)) refl)
      ∙ place-last same_anchor anchors_decide opening (mentions dim commands)

  itself_before : place same_anchor itself (distinct same_anchor (mentions dim commands ++ opening ∷ [])) ≡ anchor_of_day r.day (changes_of dim commands r.natural)
  itself_before =
      place-distinct_without same_anchor itself (mentions dim commands) (opening ∷ []) (rw (and_false (bytes_eq r.natural r.natural)) refl)
      ∙ sym (anchor_is dim commands r.natural r.day)

  opened : length (distinct same_anchor (mentions dim commands ++ opening ∷ [])) ≡ grown (surrogate_key dim commands opening) (length (anchors dim commands))
  opened = length-last same_anchor anchors_decide opening (mentions dim commands)

  itself_after : surrogate_key dim (commands ++ one ∷ []) itself ≡ given_or (anchor_of_day r.day (changes_of dim commands r.natural)) (suc (grown (surrogate_key dim commands opening) (length (anchors dim commands))))
  itself_after =
      ap (λ ms. place same_anchor itself (distinct same_anchor ms)) mentions_one
      ∙ place-last same_anchor anchors_decide itself (mentions dim commands ++ opening ∷ [])
      ∙ ap (λ n. given_or n (suc (length (distinct same_anchor (mentions dim commands ++ opening ∷ []))))) itself_before
      ∙ ap (λ n. given_or (anchor_of_day r.day (changes_of dim commands r.natural)) (suc n)) opened

  -- how many anchors have numbers then
  pub anchors_after : length (anchors dim (commands ++ one ∷ [])) ≡ grown (anchor_of_day r.day (changes_of dim commands r.natural)) (grown (surrogate_key dim commands opening) (length (anchors dim commands)))
  anchors_after =
      ap (λ ms. length (distinct same_anchor ms)) mentions_one
      ∙ length-last same_anchor anchors_decide itself (mentions dim commands ++ opening ∷ [])
      ∙ ap (λ n. grown n (length (distinct same_anchor (mentions dim commands ++ opening ∷ [])))) itself_before
      ∙ ap (grown (anchor_of_day r.day (changes_of dim commands r.natural))) opened

  -- its member is mentioned twice, by the opening and the day
  naturals_one : map (λ (a : Anchor). a.natural) (mentions dim (commands ++ one ∷ [])) ≡ (map (λ (a : Anchor). a.natural) (mentions dim commands) ++ r.natural ∷ []) ++ r.natural ∷ []
  naturals_one =
      ap (map (λ (a : Anchor). a.natural)) (mentions_one ∙ append_assoc (mentions dim commands) (opening ∷ []) (itself ∷ []))
      ∙ map-append (λ (a : Anchor). a.natural) (mentions dim commands) (opening ∷ itself ∷ [])
      ∙ sym (append_assoc (map (λ (a : Anchor). a.natural) (mentions dim commands)) (r.natural ∷ []) (r.natural ∷ []))

  pub durable_after : durable_key dim (commands ++ one ∷ []) r.natural ≡ given_or (durable_key dim commands r.natural) (suc (length (members dim commands)))
  durable_after = ap (λ ns. place bytes_eq r.natural (distinct bytes_eq ns)) naturals_one ∙ place-twice bytes_eq bytes_eq-Decides r.natural (map (λ (a : Anchor). a.natural) (mentions dim commands))

  pub members_after : length (members dim (commands ++ one ∷ [])) ≡ grown (durable_key dim commands r.natural) (length (members dim commands))
  members_after = ap (λ ns. length (distinct bytes_eq ns)) naturals_one ∙ length-twice bytes_eq bytes_eq-Decides r.natural (map (λ (a : Anchor). a.natural) (mentions dim commands))

  -- the member's changes, and the whole member
  changes_after : changes_of dim (commands ++ one ∷ []) r.natural ≡ changes_of dim commands r.natural ++ change_with (grown (surrogate_key dim commands opening) (length (anchors dim commands))) (changes_of dim commands r.natural) r ∷ []
  changes_after =
      let test = λ (q : DimensionRecord). bytes_eq q.natural r.natural in
      let itself_passes : bytes_eq r.natural r.natural ≡ true = (bytes_eq-Decides r.natural r.natural).1 refl in
      let kept : filter test (described dim (commands ++ one ∷ [])) ≡ filter test (described dim commands) ++ r ∷ [] =
      ap (filter test) (described-last dim commands one) ∙ ap (λ rs. filter test (described dim commands ++ rs)) same_dimension
      ∙ filter-append test (described dim commands) (r ∷ []) ∙ ap (λ b. filter test (described dim commands) ++ cond b (r ∷ []) []) itself_passes in
      let with_anchor : ℕ → Change = λ n. record { day = r.day; anchor = n; values = padded none_text r.values } in
      ap (map (change_of dim (commands ++ one ∷ []))) kept
      ∙ map-append (change_of dim (commands ++ one ∷ [])) (filter test (described dim commands)) (r ∷ [])
      ∙ ap (λ cs. cs ++ change_of dim (commands ++ one ∷ []) r ∷ []) (changes_stay dim commands (one ∷ []) r.natural)
      ∙ ap (λ n. changes_of dim commands r.natural ++ with_anchor n ∷ []) itself_after

  pub member_after : member_of dim (commands ++ one ∷ []) r.natural ≡ with_record (length (members dim commands)) (length (anchors dim commands)) (member_of dim commands r.natural) r
  member_after = rw (durable_after, opening_after, changes_after) refl
