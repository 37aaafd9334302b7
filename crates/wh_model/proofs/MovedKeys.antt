-- The keys that a batch of records gives to stored facts.
use Rattle.std.proofs.Common.{◌≡◌, ℕ, suc, ◌<◌, ◌==◌, Bool, true, false, cond, ◌&&◌, List, [], ◌∷◌, ◌++◌, Some, None, refl, sym, ◌∙◌, ap, arith, append-nil}
use Rattle.std.specs.Prelude.{bytes_eq, option_map, unwrap_or, slice_get, find}
use Rattle.std.specs.List.{list_any}
use Rattle.std.specs.Option.{option_or}
use Rattle.std.proofs.lemmas.Bool.{and_parts, eqb-true, eq-eqb}
use Rattle.std.proofs.lemmas.Grind.{flat_map-append}
use Rattle.std.proofs.lemmas.Slice.Eq.{bytes_eq-Decides}
use Rattle.wh_policy.specs.declared.attribute.Dim.{Dim}
use Rattle.wh_policy.specs.declared.attribute.Dim.TheVariants.{Product, Store, Customer}
use Rattle.wh_policy.specs.declared.record.DimensionRecord.{DimensionRecord}
use Rattle.wh_policy.specs.declared.record.SaleRecord.{SaleRecord}
use Rattle.wh_history.specs.Accepted.{Accepted, Describes, same_dim, sold_by, sold, member_of_sale, members, durable_key, member_of, types_in, profiles_of, anchors_by}
use Rattle.wh_history.specs.Dated.{at, dated}
use Rattle.wh_history.specs.Facts.{key_in, same_keys, new_keys, rekeyed_to}
use Rattle.wh_history.specs.Shapes.{shape_after, rendered_in}
use Rattle.wh_history.specs.Keys.{at_place}
use Rattle.wh_history.specs.Laws.{governs, mentions_member}
use Rattle.wh_history.specs.Profiles.{current_profile}
use Rattle.wh_history.specs.Rows.{rows}
use Rattle.wh_history.specs.Tables.{member_rows, fact_of, profile_at}
use Rattle.wh_history.specs.declared.facts.Fact.{Fact}
use Rattle.wh_history.specs.declared.facts.FactKeys.{FactKeys}
use Rattle.wh_history.specs.declared.member.Member.{Member}
use Rattle.wh_history.specs.declared.rows.DimRow.{DimRow}
use Rattle.wh_history.proofs.Basics.{some_is}
use Rattle.wh_history.proofs.Batches as batches
use Rattle.wh_history.proofs.Places.{one_place}
use Rattle.wh_history.proofs.Stays.{types-last, customer_rows_stay, profile_of_day_stays}
use Rattle.wh_history.proofs.Untouched.{member-last}
use Rattle.wh_rows.specs.Questions.{durable_of}
use Rattle.wh_model.specs.Laws.{followed}
use Rattle.wh_model.proofs.GrownOthers.{profiles_stay}

-- ---- a fact with other keys

abbrev pub with_keys : Fact → FactKeys → Fact
with_keys f keys = record f { keys = keys }

abbrev made_keys : ℕ → ℕ → ℕ → ℕ → FactKeys
made_keys store product customer profile = record { store_key = store; product_key = product; customer_key = customer; profile = profile }

same_keys_are : (a b : FactKeys) → same_keys a b ≡ true → a ≡ b
same_keys_are a b h =
    let three = and_parts ((a.store_key == b.store_key) && (a.product_key == b.product_key) && (a.customer_key == b.customer_key)) (a.profile == b.profile) h in
    let two = and_parts ((a.store_key == b.store_key) && (a.product_key == b.product_key)) (a.customer_key == b.customer_key) three.0 in
    let one = and_parts (a.store_key == b.store_key) (a.product_key == b.product_key) two.0 in
    let store = eqb-true a.store_key b.store_key one.0 in
    let product = eqb-true a.product_key b.product_key one.1 in
    let customer = eqb-true a.customer_key b.customer_key two.1 in
    let profile = eqb-true a.profile b.profile three.1 in
    let same : made_keys a.store_key a.product_key a.customer_key a.profile ≡ made_keys b.store_key b.product_key b.customer_key b.profile = cc in
    same

pub same_as_itself : (a : FactKeys) → same_keys a a ≡ true
same_as_itself a = rw (eq-eqb a.store_key a.store_key refl, eq-eqb a.product_key a.product_key refl, eq-eqb a.customer_key a.customer_key refl, eq-eqb a.profile a.profile refl) refl

-- what moves, and else the fact itself, has the keys
pub moved_gives : (f : Fact) (keys : FactKeys) → option_or (rekeyed_to f keys) (Some f) ≡ Some (with_keys f keys)
moved_gives f keys =
    elim (same_keys keys f.keys) as (λ b. (same_keys keys f.keys ≡ b) → option_or (cond b None (Some (with_keys f keys))) (Some f) ≡ Some (with_keys f keys)) [
      | true ↦ λ same. ap (λ k. Some (with_keys f k)) (sym (same_keys_are keys f.keys same))
      | false ↦ λ _. refl
    ] refl

-- what moved has the keys
pub moved_has : (f g : Fact) (keys : FactKeys) → rekeyed_to f keys ≡ Some g → with_keys f keys ≡ g
moved_has f g keys h =
    elim (same_keys keys f.keys) as (λ b. cond b None (Some (with_keys f keys)) ≡ Some g → with_keys f keys ≡ g) [
      | true ↦ λ none. absurd cc
      | false ↦ λ some. some_is (with_keys f keys) g some
    ] h

-- and no fact moves to where it is
pub moved_is_other : (f : Fact) (keys : FactKeys) → rekeyed_to f keys ≡ Some f → ⊥
moved_is_other f keys h =
    elim (same_keys keys f.keys) as (λ b. (same_keys keys f.keys ≡ b) → cond b None (Some (with_keys f keys)) ≡ Some f → ⊥) [
      | true ↦ λ _ none. absurd cc
      | false ↦ λ apart some.
          let is : keys ≡ f.keys = ap (λ (g : Fact). g.keys) (some_is (with_keys f keys) f some) in
          let same = ap (λ k. same_keys k f.keys) is ∙ same_as_itself f.keys in
          absurd cc
    ] refl h

-- ---- the keys by a member's rows

abbrev pub keys_for : List Accepted → Dim → List ℕ → Fact → FactKeys
keys_for commands dim natural f = new_keys (shape_after dim commands) (rendered_in (shape_after dim commands) (member_of dim commands natural)) f

-- a fact has the keys by its own members' rows
pub own_keys : (dim : Dim) (commands : List Accepted) (s : SaleRecord) (natural : List ℕ) → member_of_sale dim s ≡ Some natural → keys_for commands dim natural (fact_of commands s) ≡ (fact_of commands s).keys
own_keys Product commands s natural is = ap (λ n. keys_for commands Product n (fact_of commands s)) (sym (some_is s.product natural is))
own_keys Store commands s natural is = ap (λ n. keys_for commands Store n (fact_of commands s)) (sym (some_is s.store natural is))
own_keys Customer commands s natural is = rw is refl

module _ (commands : List Accepted) (c : Accepted) (rs : List DimensionRecord) where
  abbrev after : List Accepted
  after = commands ++ c ∷ []

  module _ (dim : Dim) (is : c.content ≡ Describes dim rs) (natural : List ℕ) (other : mentions_member dim c natural ≡ false) where
    plain_rows_kept : same_dim Customer dim ≡ false → member_rows after dim natural ≡ member_rows commands dim natural
    plain_rows_kept apart =
        ap (λ kinds. rows kinds (profiles_of after) (member_of dim after natural)) (types-last dim commands c (ap governs is))
        ∙ ap (λ combinations. rows (types_in dim commands) combinations (member_of dim after natural)) (profiles_stay dim commands c rs is apart)
        ∙ ap (rows (types_in dim commands) (profiles_of commands)) (member-last dim commands c natural other)

  profile_kept : (is : c.content ≡ Describes Customer rs) (natural : List ℕ) → mentions_member Customer c natural ≡ false → (day : ℕ) → profile_at after day natural ≡ profile_at commands day natural
  profile_kept is natural other day =
      ap (λ kinds. current_profile kinds (profiles_of after) (at day (dated (member_of Customer after natural).changes))) (types-last Customer commands c (ap governs is))
      ∙ ap (λ (m : Member). current_profile (types_in Customer commands) (profiles_of after) (at day (dated m.changes))) (member-last Customer commands c natural other)
      ∙ profile_of_day_stays commands c (ap governs is) natural day

  -- a member that the batch does not mention gives a fact the keys that it gave
  pub keys_kept : (dim : Dim) → c.content ≡ Describes dim rs → (natural : List ℕ) → mentions_member dim c natural ≡ false → (f : Fact) → keys_for after dim natural f ≡ keys_for commands dim natural f
  keys_kept Product is natural other f = ap (λ (found : List DimRow). record f.keys { product_key = key_in found f.day }) (plain_rows_kept Product is natural other refl)
  keys_kept Store is natural other f = ap (λ (found : List DimRow). record f.keys { store_key = key_in found f.day }) (plain_rows_kept Store is natural other refl)
  keys_kept Customer is natural other f =
      ap (λ (found : List DimRow). record f.keys { customer_key = key_in found f.day; profile = profile_at after f.day natural }) (customer_rows_stay commands c (ap governs is) natural other)
      ∙ ap (λ number. record f.keys { customer_key = key_in (member_rows commands Customer natural) f.day; profile = number }) (profile_kept is natural other f.day)

  module _ (dim : Dim) (is : c.content ≡ Describes dim rs) where
    pub sold_same : sold after ≡ sold commands
    sold_same =
        flat_map-append (λ (d : Accepted). sold_by d.content) commands (c ∷ [])
        ∙ ap (λ content. sold commands ++ (sold_by content ++ [])) is
        ∙ append-nil (sold commands)

    unmentioned : (natural : List ℕ) → list_any (λ n. bytes_eq n natural) (batches.naturals dim commands c.id c.kind c.bytes rs) ≡ false → mentions_member dim c natural ≡ false
    unmentioned natural none = ap (λ content. list_any (λ a. bytes_eq a.natural natural) (anchors_by dim content)) is ∙ batches.unmentioned dim commands c.id c.kind c.bytes natural rs none

    -- ---- what follows

    abbrev stored : SaleRecord → Fact
    stored s = fact_of commands s

    pub follows_member : (s : SaleRecord) (natural : List ℕ) → member_of_sale dim s ≡ Some natural → followed after dim s (stored s) ≡ with_keys (stored s) (keys_for after dim natural (stored s))
    follows_member s natural named = ap (λ o. unwrap_or (option_map (λ n. with_keys (stored s) (keys_for after dim n (stored s))) o) (stored s)) named

    pub follows_none : (s : SaleRecord) → member_of_sale dim s ≡ None → followed after dim s (stored s) ≡ stored s
    follows_none s none = ap (λ o. unwrap_or (option_map (λ n. with_keys (stored s) (keys_for after dim n (stored s))) o) (stored s)) none

    -- a fact of a member that the batch does not mention stays
    pub follows_unmentioned : (s : SaleRecord) (natural : List ℕ) → member_of_sale dim s ≡ Some natural → list_any (λ n. bytes_eq n natural) (batches.naturals dim commands c.id c.kind c.bytes rs) ≡ false → followed after dim s (stored s) ≡ stored s
    follows_unmentioned s natural named none =
        follows_member s natural named
        ∙ ap (with_keys (stored s)) (keys_kept dim is natural (unmentioned natural none) (stored s) ∙ own_keys dim commands s natural named)

-- ---- the member by a fact's durable key

pub owner_is : (dim : Dim) (commands : List Accepted) (s : SaleRecord) (natural : List ℕ) → 0 < durable_key dim commands natural → durable_key dim commands natural ≡ durable_of dim (fact_of commands s) → member_of_sale dim s ≡ Some natural
owner_is Product commands s natural given same = ap Some (sym (one_place bytes_eq bytes_eq-Decides natural s.product (members Product commands) given same))
owner_is Store commands s natural given same = ap Some (sym (one_place bytes_eq bytes_eq-Decides natural s.store (members Store commands) given same))
owner_is Customer commands s natural given same =
    elim s.customer as (λ o. (durable_key Customer commands natural ≡ unwrap_or (option_map (durable_key Customer commands) o) 0) → o ≡ Some natural) [
      | None ↦ λ none. absurd (omega (arith, none, given))
      | Some named ↦ λ one. ap Some (sym (one_place bytes_eq bytes_eq-Decides natural named (members Customer commands) given one))
    ] same

pub durable_is : (dim : Dim) (commands : List Accepted) (s : SaleRecord) (natural : List ℕ) → member_of_sale dim s ≡ Some natural → durable_key dim commands natural ≡ durable_of dim (fact_of commands s)
durable_is Product commands s natural is = ap (durable_key Product commands) (sym (some_is s.product natural is))
durable_is Store commands s natural is = ap (durable_key Store commands) (sym (some_is s.store natural is))
durable_is Customer commands s natural is = sym (ap (λ o. unwrap_or (option_map (durable_key Customer commands) o) 0) is)

-- ---- what is found stands at a place

get_found : (p : SaleRecord → Bool) (ss : List SaleRecord) (s : SaleRecord) → find p ss ≡ Some s → (n : ℕ) × (slice_get ss n ≡ Some s)
get_found p [] s h = absurd cc
get_found p (q ∷ ss) s h =
    elim (p q) as (λ b. cond b (Some q) (find p ss) ≡ Some s → (n : ℕ) × (slice_get (q ∷ ss) n ≡ Some s)) [
      | true ↦ λ first. (0, first)
      | false ↦ λ later. let rest = get_found p ss s later in (suc rest.0, rest.1)
    ] h

pub at_found : (p : SaleRecord → Bool) (ss : List SaleRecord) (s : SaleRecord) → find p ss ≡ Some s → (n : ℕ) × (at_place n ss ≡ Some s)
at_found p ss s h = let there = get_found p ss s h in (suc there.0, there.1)
