-- The member table grows by the members that a batch mentions first.
use Rattle.std.proofs.Common.{◌≡◌, inl, ℕ, ◌<◌, ◌≤◌, true, false, List, [], ◌∷◌, ◌++◌, length, map, Option, Some, None, refl, ◌∙◌, sym, ap, subst}
use Rattle.std.specs.Prelude.{option_map, option_to_list, flat_map, bytes_eq}
use Rattle.std.specs.List.{list_any, AllByRecursion}
use Rattle.wh_policy.specs.declared.attribute.Dim.{Dim}
use Rattle.wh_policy.specs.declared.record.DimensionRecord.{DimensionRecord}
use Rattle.wh_policy.specs.declared.record.SaleRecord.{SaleRecord}
use Rattle.wh_history.specs.Keys.{at_place, distinct, place}
use Rattle.wh_history.specs.Accepted.{Accepted, Content, Describes, Anchor, same_anchor, same_dim, opening_of, anchors_of_record, anchors_of_sale, anchors_by, described_by, sold_by, member_of_sale, mentions, members, surrogate_key}
use Rattle.wh_history.specs.Tables.{member_row}
use Rattle.wh_history.specs.Tables as history
use Rattle.wh_history.proofs.Growth.{members-append, surrogate_stays}
use Rattle.wh_history.proofs.Joins.{all_append, all_weaker, any_left, any_right}
use Rattle.wh_history.proofs.Owners.{all_distinct}
use Rattle.wh_history.proofs.Places.{anchors_decide, place-distinct_given}
use Rattle.wh_rows.specs.declared.rows.MemberRow.{MemberRow}
use Rattle.wh_rows.specs.declared.key.MemberKey.{MemberKey}
use Rattle.wh_rows.specs.Rows as row
use Rattle.wh_model.specs.Defined.{member_at}
use Rattle.wh_model.proofs.Growing.{Grows}
use Rattle.wh_model.proofs.GrownKeys.{at_front, at_past, all_at, map_same, keyed_map, grows_behind}
use Rattle.wh_model.proofs.GrownOthers.{same_dim_is, mentions_stay}

-- ---- each member's opening is mentioned

abbrev pub Opened : List Anchor → Anchor → Type 0
Opened mentioned a = list_any (λ b. same_anchor b (opening_of a.natural)) mentioned ≡ true

opened_both : (here rest : List Anchor) → AllByRecursion (Opened here) here → AllByRecursion (Opened rest) rest → AllByRecursion (Opened (here ++ rest)) (here ++ rest)
opened_both here rest front back =
    all_append (Opened (here ++ rest)) here rest
    (all_weaker (Opened here) (Opened (here ++ rest)) (λ a t. any_left (λ b. same_anchor b (opening_of a.natural)) here rest t) here front)
    (all_weaker (Opened rest) (Opened (here ++ rest)) (λ a t. any_right (λ b. same_anchor b (opening_of a.natural)) here rest t) rest back)

pub opens_itself : (natural : List ℕ) → same_anchor (opening_of natural) (opening_of natural) ≡ true
opens_itself natural = (anchors_decide (opening_of natural) (opening_of natural)).1 refl

opened_by_records : (rs : List DimensionRecord) → AllByRecursion (Opened (flat_map anchors_of_record rs)) (flat_map anchors_of_record rs)
opened_by_records [] = tt
opened_by_records (r ∷ rs) =
    let here = opens_itself r.natural in
    opened_both (anchors_of_record r) (flat_map anchors_of_record rs) (rw here refl, (rw here refl, tt)) (opened_by_records rs)

opened_by_one : (o : Option (List ℕ)) → AllByRecursion (Opened (map opening_of (option_to_list o))) (map opening_of (option_to_list o))
opened_by_one None = tt
opened_by_one (Some natural) = (rw (opens_itself natural) refl, tt)

pub all_mapped : (P : List ℕ → Type 0) (ms : List Anchor) → AllByRecursion (λ (a : Anchor). P a.natural) ms → AllByRecursion P (map (λ (a : Anchor). a.natural) ms)
all_mapped P [] all = tt
all_mapped P (m ∷ ms) all = (all.0, all_mapped P ms all.1)

module _ (dim : Dim) where
  opened_by_sales : (sales : List SaleRecord) → AllByRecursion (Opened (flat_map (anchors_of_sale dim) sales)) (flat_map (anchors_of_sale dim) sales)
  opened_by_sales [] = tt
  opened_by_sales (s ∷ sales) = opened_both (anchors_of_sale dim s) (flat_map (anchors_of_sale dim) sales) (opened_by_one (member_of_sale dim s)) (opened_by_sales sales)

  opened_by : (content : Content) → AllByRecursion (Opened (anchors_by dim content)) (anchors_by dim content)
  opened_by content =
      opened_both (flat_map anchors_of_record (described_by dim content)) (flat_map (anchors_of_sale dim) (sold_by content)) (opened_by_records (described_by dim content)) (opened_by_sales (sold_by content))

  pub opened_in_all : (commands : List Accepted) → AllByRecursion (Opened (mentions dim commands)) (mentions dim commands)
  opened_in_all [] = tt
  opened_in_all (c ∷ commands) = opened_both (anchors_by dim c.content) (mentions dim commands) (opened_by c.content) (opened_in_all commands)

  -- so it has a number
  pub opening_given : (commands : List Accepted) (durable : ℕ) (natural : List ℕ) → at_place durable (members dim commands) ≡ Some natural → 0 < surrogate_key dim commands (opening_of natural)
  opening_given commands durable natural is =
      let mentioned = mentions dim commands in
      let P = λ (n : List ℕ). list_any (λ b. same_anchor b (opening_of n)) mentioned ≡ true in
      let all = all_distinct P bytes_eq (map (λ (a : Anchor). a.natural) mentioned) (all_mapped P mentioned (opened_in_all commands)) in
      place-distinct_given same_anchor anchors_decide (opening_of natural) mentioned (all_at P durable (members dim commands) natural all is)

-- ---- the table

abbrev member_with : List Anchor → List ℕ → history.MemberRow
member_with mentioned natural = record { natural = natural; opening = place same_anchor (opening_of natural) (distinct same_anchor mentioned) }

abbrev keyed_row : MemberKey → history.MemberRow → MemberRow
keyed_row key m = record { dim = key.dim; durable = key.durable; natural = m.natural; opening = m.opening }

-- a member's row, by the mentions of its dimension
abbrev member_by : List Anchor → MemberKey → Option MemberRow
member_by mentioned key = option_map (keyed_row key) (option_map (member_with mentioned) (at_place key.durable (distinct bytes_eq (map (λ (a : Anchor). a.natural) mentioned))))

pub member_keyed : (commands : List Accepted) (k : MemberKey) (v : MemberRow) → member_at commands k ≡ Some v → row.member.key v ≡ k
member_keyed commands k v is = keyed_map row.member.key k (keyed_row k) (λ _. refl) (member_row commands k.dim k.durable) v is

abbrev pub key_of : Dim → ℕ → MemberKey
key_of dim durable = record { dim = dim; durable = durable }

module _ (dim : Dim) (commands : List Accepted) (c : Accepted) where
  abbrev after : List Accepted
  after = commands ++ c ∷ []

  row_stays : (n : ℕ) → n ≤ length (members dim commands) → member_row after dim n ≡ member_row commands dim n
  row_stays n h =
      ap (λ ns. option_map (member_with (mentions dim after)) (at_place n ns)) (members-append dim commands (c ∷ []))
      ∙ ap (option_map (member_with (mentions dim after))) (at_front n (members dim commands) _ h)
      ∙ map_same (member_with (mentions dim after)) (member_with (mentions dim commands)) (at_place n (members dim commands)) (λ natural there.
      let stays = surrogate_stays dim commands (c ∷ []) (opening_of natural) (opening_given dim commands n natural there) in
      ap (λ k. record { natural = natural; opening = k }) stays)

  pub none_past : (list : List Accepted) (n : ℕ) → length (members dim list) < n → member_at list (key_of dim n) ≡ None
  none_past list n h = ap (λ o. option_map (keyed_row (key_of dim n)) (option_map (member_with (mentions dim list)) o)) (at_past n (members dim list) h)

  pub of_dimension : (n : ℕ) → Grows (key_of dim) (length (members dim commands)) (length (members dim after)) (member_at commands) (member_at after) (key_of dim n)
  of_dimension n = grows_behind (key_of dim) (length (members dim commands)) (length (members dim after)) (member_at commands) (member_at after) n
      (λ front. ap (option_map (keyed_row (key_of dim n))) (row_stays n front)) (none_past commands n) (none_past after n)

  -- the members that were there keep their rows, and so do those of other dimensions
  pub member_grows : (rs : List DimensionRecord) → c.content ≡ Describes dim rs → (key : MemberKey) → Grows (key_of dim) (length (members dim commands)) (length (members dim after)) (member_at commands) (member_at after) key
  member_grows rs is key =
      elim (same_dim key.dim dim) as (λ b. (same_dim key.dim dim ≡ b) → Grows (key_of dim) (length (members dim commands)) (length (members dim after)) (member_at commands) (member_at after) key) [
        | true ↦ λ same. subst (Grows (key_of dim) (length (members dim commands)) (length (members dim after)) (member_at commands) (member_at after)) (sym (ap (λ d. key_of d key.durable) (same_dim_is key.dim dim same))) (of_dimension key.durable)
        | false ↦ λ other. inl (record { same = ap (λ ms. member_by ms key) (mentions_stay dim commands c rs is key.dim other) })
      ] refl
