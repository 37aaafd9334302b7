-- The natural keys that sales mention, one sale after the other.
use Rattle.std.proofs.Common.{◌≡◌, ℕ, zero, suc, ◌+◌, ◌<◌, ◌≤◌, cond, List, [], ◌∷◌, ◌++◌, length, map, take, drop, get_or, Some, None, sym, ◌∙◌, ap, arith, append-nil}
use Rattle.std.specs.Prelude.{bytes_eq, filter_map}
use Rattle.std.specs.List.{cons_option}
use Rattle.std.proofs.lemmas.List.{append_assoc, at_drop_more}
use Rattle.std.proofs.lemmas.List.Elements.{filter_map-append}
use Rattle.std.proofs.lemmas.Slice.Eq.{bytes_eq-Decides}
use Rattle.wh_policy.specs.declared.attribute.Dim.{Dim}
use Rattle.wh_policy.specs.declared.record.SaleRecord.{SaleRecord}
use Rattle.wh_history.specs.Accepted.{member_of_sale}
use Rattle.wh_history.specs.Keys.{distinct}
use Rattle.wh_history.specs.Touched.{grown, with_numbers}
use Rattle.wh_history.specs.declared.member.Member.{Member}
use Rattle.wh_history.proofs.Once.{among_distinct}
use Rattle.wh_plan.specs.SoldMembers.{naturals_sold, with_natural, numbered}
use Rattle.wh_plan.proofs.PlanNaturals.{distinct_last, tests_turned, next_taken}

module _ (dim : Dim) (sales : List SaleRecord) (i : ℕ) (s : SaleRecord) (ns : List (List ℕ)) (within : i < length sales) (is : s ≡ get_or sales i s) (so_far : ns ≡ naturals_sold dim (take i sales)) where
  abbrev before : List (List ℕ)
  before = filter_map (member_of_sale dim) (take i sales)

  mentioned_now : filter_map (member_of_sale dim) (take (i + 1) sales) ≡ before ++ cons_option (member_of_sale dim s) []
  mentioned_now = ap (filter_map (member_of_sale dim)) (next_taken sales i s within is) ∙ filter_map-append (member_of_sale dim) (take i sales) (s ∷ [])

  -- a sale that mentions a member
  pub sold_more : (n : List ℕ) → member_of_sale dim s ≡ Some n → with_natural n ns ≡ naturals_sold dim (take (i + 1) sales)
  sold_more n mentions =
      ap (λ ms. with_natural n ms) so_far
      ∙ ap (λ b. cond b (distinct bytes_eq before) (distinct bytes_eq before ++ n ∷ [])) (tests_turned n (distinct bytes_eq before) ∙ among_distinct bytes_eq bytes_eq-Decides n before)
      ∙ sym (distinct_last bytes_eq bytes_eq-Decides n before)
      ∙ sym (ap (distinct bytes_eq) (mentioned_now ∙ ap (λ o. before ++ cons_option o []) mentions))

  -- and one that mentions none
  pub sold_none : member_of_sale dim s ≡ None → ns ≡ naturals_sold dim (take (i + 1) sales)
  sold_none mentions = so_far ∙ sym (ap (distinct bytes_eq) (mentioned_now ∙ ap (λ o. before ++ cons_option o []) mentions ∙ append-nil before))

-- ---- members with their numbers, one after the other

pub grown_few : (number count : ℕ) → grown number count ≤ count + 1
grown_few zero count = omega arith
grown_few (suc n) count = omega arith

pub numbered_more : (f : List ℕ → Member) (naturals : List (List ℕ)) (i : ℕ) (n : List ℕ) (found new whole : List Member) (stored member : Member) (members anchors members_now anchors_now : ℕ)
    → i < length naturals → n ≡ get_or naturals i n → stored ≡ f n → new ≡ found ++ member ∷ [] → member ≡ with_numbers members anchors stored → members_now ≡ grown stored.durable members → anchors_now ≡ grown stored.opening anchors
    → found ++ numbered members anchors (map f (drop i naturals)) ≡ whole → new ++ numbered members_now anchors_now (map f (drop (i + 1) naturals)) ≡ whole
numbered_more f naturals i n found new whole stored member members anchors members_now anchors_now within is stored_is made member_is members_are anchors_are so_far =
    let left = map f (drop (i + 1) naturals) in
    ap (λ ms. ms ++ numbered members_now anchors_now left) made
    ∙ append_assoc found (member ∷ []) (numbered members_now anchors_now left)
    ∙ ap (λ m. found ++ m ∷ numbered members_now anchors_now left) member_is
    ∙ ap (λ k. found ++ with_numbers members anchors stored ∷ numbered k anchors_now left) members_are
    ∙ ap (λ k. found ++ with_numbers members anchors stored ∷ numbered (grown stored.durable members) k left) anchors_are
    ∙ ap (λ m. found ++ numbered members anchors (m ∷ left)) (stored_is ∙ ap f is)
    ∙ sym (at_drop_more (λ ns. found ++ numbered members anchors (map f ns)) naturals i n within)
    ∙ so_far
