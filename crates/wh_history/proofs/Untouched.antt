-- A command leaves each member that it does not mention.
use Rattle.std.proofs.Common.{◌≡◌, ℕ, Bool, true, false, cond, List, [], ◌∷◌, ◌++◌, map, refl, sym, ◌∙◌, ap, subst, Option, append-nil}
use Rattle.std.specs.Prelude.{flat_map, bytes_eq, filter}
use Rattle.std.specs.List.{list_any}
use Rattle.std.proofs.lemmas.Slice.Eq.{bytes_eq-Decides}
use Rattle.std.proofs.lemmas.Grind.{flat_map-append}
use Rattle.std.proofs.lemmas.List.{map-append}
use Rattle.std.proofs.lemmas.List.Elements.{filter-append}
use Rattle.wh_history.specs.Keys.{distinct, place}
use Rattle.wh_history.specs.Accepted.{Accepted, Anchor, same_anchor, anchors_of_record, anchors_of_sale, anchors_by, described_by, described, sold_by, mentions, durable_key, surrogate_key, change_of, changes_of, member_of}
use Rattle.wh_policy.specs.declared.record.DimensionRecord.{DimensionRecord}
use Rattle.wh_day.specs.Value.{none_text}
use Rattle.wh_history.specs.Slots.{padded}
use Rattle.wh_history.specs.declared.member.Change.{Change}
use Rattle.wh_history.specs.Laws.{mentions_member}
use Rattle.wh_policy.specs.declared.attribute.Dim.{Dim}
use Rattle.wh_history.proofs.Basics.{or_none}
use Rattle.wh_history.proofs.Numbers.{place-distinct_without}
use Rattle.wh_history.proofs.Growth.{mentions-append}

-- what holds of none of two lists holds of none of each
pub any_none : {X : Type 0} (p : X → Bool) (xs ys : List X) → list_any p (xs ++ ys) ≡ false → (list_any p xs ≡ false) × (list_any p ys ≡ false)
any_none p [] ys h = (refl, h)
any_none p (x ∷ xs) ys h =
    let split = or_none (p x) (list_any p (xs ++ ys)) h in
    let rest = any_none p xs ys split.1 in
    (rw (split.0, rest.0) refl, rest.1)

pub no_natural : (natural : List ℕ) (as' : List Anchor) → list_any (λ a. bytes_eq a.natural natural) as' ≡ false → place bytes_eq natural (map (λ (a : Anchor). a.natural) as') ≡ 0
no_natural natural [] h = refl
no_natural natural (a ∷ as') h =
    let split = or_none (bytes_eq a.natural natural) _ h in
    rw (split.0, no_natural natural as' split.1) refl

pub no_anchor : (natural : List ℕ) (day : Option ℕ) (as' : List Anchor) → list_any (λ a. bytes_eq a.natural natural) as' ≡ false → place same_anchor (record { natural = natural; day = day }) as' ≡ 0
no_anchor natural day [] h = refl
no_anchor natural day (a ∷ as') h =
    let split = or_none (bytes_eq a.natural natural) _ h in
    rw (split.0, no_anchor natural day as' split.1) refl

pub no_record : (natural : List ℕ) (rs : List DimensionRecord) → list_any (λ a. bytes_eq a.natural natural) (flat_map anchors_of_record rs) ≡ false → filter (λ r. bytes_eq r.natural natural) rs ≡ []
no_record natural [] h = refl
no_record natural (r ∷ rs) h =
    let split = or_none (bytes_eq r.natural natural) _ h in
    let more = or_none (bytes_eq r.natural natural) _ split.1 in
    rw split.0 (no_record natural rs more.1)

-- two functions that agree where the test passes
map_filter_agree : {X Y : Type 0} (f g : X → Y) (p : X → Bool) → ((x : X) → p x ≡ true → f x ≡ g x) → (xs : List X) → map f (filter p xs) ≡ map g (filter p xs)
map_filter_agree f g p agree [] = refl
map_filter_agree f g p agree (x ∷ xs) =
    elim (p x) as (λ b. (p x ≡ b) → map f (cond b (x ∷ filter p xs) (filter p xs)) ≡ map g (cond b (x ∷ filter p xs) (filter p xs))) [
      | true ↦ λ e. let here = agree x e in let rest = map_filter_agree f g p agree xs in cc
      | false ↦ λ e. map_filter_agree f g p agree xs
    ] refl

module _ (dim : Dim) (commands : List Accepted) (c : Accepted) where
  pub mentions-last : mentions dim (commands ++ c ∷ []) ≡ mentions dim commands ++ anchors_by dim c.content
  mentions-last = mentions-append dim commands (c ∷ []) ∙ ap (λ ms. mentions dim commands ++ ms) (append-nil (anchors_by dim c.content))

  pub described-last : described dim (commands ++ c ∷ []) ≡ described dim commands ++ described_by dim c.content
  described-last = flat_map-append (λ (c : Accepted). described_by dim c.content) commands (c ∷ []) ∙ ap (λ rs. described dim commands ++ rs) (append-nil (described_by dim c.content))

  surrogate-last : (natural : List ℕ) (day : Option ℕ) → mentions_member dim c natural ≡ false → surrogate_key dim (commands ++ c ∷ []) (record { natural = natural; day = day }) ≡ surrogate_key dim commands (record { natural = natural; day = day })
  surrogate-last natural day other =
      let anchor : Anchor = record { natural = natural; day = day } in
      ap (λ ms. place same_anchor anchor (distinct same_anchor ms)) mentions-last ∙ place-distinct_without same_anchor anchor (mentions dim commands) (anchors_by dim c.content) (no_anchor natural day (anchors_by dim c.content) other)

  durable-last : (natural : List ℕ) → mentions_member dim c natural ≡ false → durable_key dim (commands ++ c ∷ []) natural ≡ durable_key dim commands natural
  durable-last natural other =
      let view = λ (a : Anchor). a.natural in
      ap (λ (ms : List Anchor). place bytes_eq natural (distinct bytes_eq (map view ms))) mentions-last ∙ ap (λ ns. place bytes_eq natural (distinct bytes_eq ns)) (map-append view (mentions dim commands) (anchors_by dim c.content)) ∙ place-distinct_without bytes_eq natural (map view (mentions dim commands)) (map view (anchors_by dim c.content)) (no_natural natural (anchors_by dim c.content) other)

  changes-last : (natural : List ℕ) → mentions_member dim c natural ≡ false → changes_of dim (commands ++ c ∷ []) natural ≡ changes_of dim commands natural
  changes-last natural other =
      let test = λ (r : DimensionRecord). bytes_eq r.natural natural in
      let apart = any_none (λ (a : Anchor). bytes_eq a.natural natural) (flat_map anchors_of_record (described_by dim c.content)) (flat_map (anchors_of_sale dim) (sold_by c.content)) other in
      let none = no_record natural (described_by dim c.content) apart.0 in
      let kept : filter test (described dim (commands ++ c ∷ [])) ≡ filter test (described dim commands) =
      ap (filter test) described-last ∙ filter-append test (described dim commands) (described_by dim c.content) ∙ ap (λ rs. filter test (described dim commands) ++ rs) none ∙ append-nil (filter test (described dim commands)) in
      let agree : (r : DimensionRecord) → test r ≡ true → change_of dim (commands ++ c ∷ []) r ≡ change_of dim commands r = λ r same.
      let is = (bytes_eq-Decides r.natural natural).0 same in
      let with_anchor : ℕ → Change = λ n. record { day = r.day; anchor = n; values = padded none_text r.values } in
      ap with_anchor (surrogate-last r.natural (Option.Some r.day) (subst (λ (n : List ℕ). mentions_member dim c n ≡ false) (sym is) other)) in
      ap (map (change_of dim (commands ++ c ∷ []))) kept ∙ map_filter_agree (change_of dim (commands ++ c ∷ [])) (change_of dim commands) test agree (described dim commands)

  pub member-last : (natural : List ℕ) → mentions_member dim c natural ≡ false → member_of dim (commands ++ c ∷ []) natural ≡ member_of dim commands natural
  member-last natural other =
      let durable = durable-last natural other in
      let opening = surrogate-last natural Option.None other in
      let changes = changes-last natural other in
      rw (durable, opening, changes) refl
