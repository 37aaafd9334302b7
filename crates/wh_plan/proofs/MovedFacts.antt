-- The facts that a batch of records moves, out of the table.
use Rattle.std.proofs.Common.{◌≡◌, ℕ, ◌<◌, Bool, true, false, cond, nat_lt, List, [], ◌∷◌, ◌++◌, Option, Some, None, refl, sym, ◌∙◌, ap, subst}
use Rattle.std.specs.Prelude.{◌≢◌, bytes_eq, find, filter, filter_map, flat_map, map, option_map}
use Rattle.std.specs.FinMap.{values, get}
use Rattle.std.specs.List.{AllByRecursion, list_any}
use Rattle.std.specs.Option.{option_or, option_and_then, option_to_list}
use Rattle.std.specs.Ordering.{eq_by_cmp, nat_cmp}
use Rattle.std.proofs.lemmas.Slice.Eq.{bytes_eq-Decides}
use Rattle.wh_policy.specs.declared.attribute.Dim.{Dim}
use Rattle.wh_policy.specs.declared.attribute.Dim.TheVariants.{Product, Store, Customer}
use Rattle.wh_policy.specs.declared.record.DimensionRecord.{DimensionRecord}
use Rattle.wh_policy.specs.declared.record.SaleRecord.{SaleRecord}
use Rattle.wh_history.specs.Accepted.{Accepted, Anchor, Describes, opening_of, member_of_sale, mentions, sold_by, sold, withdrawn_by, withdrawn, standing, members, durable_key}
use Rattle.wh_history.specs.Keys.{at_place}
use Rattle.wh_history.specs.Tables.{Limits, fact_of}
use Rattle.wh_history.specs.declared.facts.Fact.{Fact}
use Rattle.wh_history.proofs.Basics.{find_passes, some_is}
use Rattle.wh_history.proofs.Joins.{all_weaker}
use Rattle.wh_history.proofs.Once.{IsOnce, among_distinct, once_distinct, once_filtered}
use Rattle.wh_history.proofs.Places.{one_place, place-distinct_given}
use Rattle.wh_history.proofs.Standing.{stands_sold, standing-kept}
use Rattle.wh_rows.proofs.Orders.{line_cmp_total, line_cmp-IsAntisymmetric}
use Rattle.wh_rows.specs.Facts.{facts_of}
use Rattle.wh_rows.specs.Rows as row
use Rattle.wh_rows.specs.Tables.{Tables}
use Rattle.wh_rows.specs.declared.key.LineKey.{LineKey}
use Rattle.wh_rows.specs.Questions.{durable_of}
use Rattle.wh_model.specs.Defined.{AreOf, fact_at}
use Rattle.wh_model.specs.Laws.{ShowsNoProfile, followed}
use Rattle.wh_plan.specs.MovedFacts.{moved_for, moves_of_member, moves_of_members, MovedFactsAreExact}
use Rattle.wh_plan.specs.BatchRows.{AreRekeyed, has_line}
use Rattle.wh_plan.specs.NewRows.{members_among, naturals_told}
use Rattle.wh_model.proofs.Formatted.{facts_are}
use Rattle.wh_model.proofs.Following.{Named, all_named, late_records_move_facts}
use Rattle.wh_model.proofs.FoundPlaces.{same_number_is, number_itself}
use Rattle.wh_model.proofs.GrownChanges.{natural_among}
use Rattle.wh_plan.proofs.GrownFacts.{own_line, line_is, Once, found_each}
use Rattle.wh_model.proofs.GrownKeys.{all_at, found_is}
use Rattle.wh_model.proofs.Listed.{passes_at}
use Rattle.wh_model.proofs.MovedKeys.{with_keys, keys_for, moved_gives, moved_has, moved_is_other, follows_member, follows_none, follows_unmentioned, owner_is, durable_is, at_found}
use Rattle.wh_model.proofs.WholeFacts.{on_line}
use Rattle.wh_plan.proofs.MovedLists.{find_by_filter, distinct_by_filter, filter_flat, flat_none, filter_moves, moves_of_some, moves_of_one, owner_gives, not_found}
use Rattle.wh_plan.proofs.PlanningMembers.{naturals}
use Rattle.wh_plan.proofs.PlanningOwners.{any_kept, above_none, none_above}
use Rattle.wh_plan.proofs.PlanRows.{flat_map_same}

-- a sale's fact stands on its line
pub fact_keyed : (commands : List Accepted) (key : LineKey) (f : Fact) → fact_at commands key ≡ Some f → row.fact.key f ≡ key
fact_keyed commands key f is = by_sale (find (on_line key) (standing commands)) refl is
  where
    by_sale : (o : Option SaleRecord) → find (on_line key) (standing commands) ≡ o → option_map (fact_of commands) o ≡ Some f → row.fact.key f ≡ key
    by_sale None found h = absurd cc
    by_sale (Some s) found h =
        let one = some_is (fact_of commands s) f h in
        let on : has_line key (fact_of commands s) ≡ true = find_passes (on_line key) s (standing commands) found in
        line_is key f (ap (has_line key) (sym one) ∙ on)

-- the facts of a line are up to one
pub facts_of_line : (limits : Limits) (commands : List Accepted) (t : Tables) → AreOf limits commands t → (key : LineKey) → filter (has_line key) (values (facts_of t)) ≡ option_to_list (fact_at commands key)
facts_of_line limits commands t are key =
    let keyed : (j : LineKey) (f : Fact) → get (facts_of t) j ≡ Some f → row.fact.key f ≡ j = λ j f here. fact_keyed commands j f (sym (facts_are limits commands t are j) ∙ here) in
    passes_at row.line_cmp line_cmp_total line_cmp-IsAntisymmetric row.fact.key (has_line key) (facts_of t) key
    (λ f here. let at = keyed key f here in (at, ap (λ k. has_line k f) (sym at) ∙ own_line f))
    (λ j f here on. sym (keyed j f here) ∙ line_is key f on)
    ∙ ap option_to_list (facts_are limits commands t are key)

module _ (limits : Limits) (commands : List Accepted) (c : Accepted) (dim : Dim) (rs : List DimensionRecord) (t : Tables) (is : c.content ≡ Describes dim rs)
    (shown : dim ≡ Customer → ShowsNoProfile commands Product × ShowsNoProfile commands Store) (are : AreOf limits commands t) where
  abbrev after : List Accepted
  after = commands ++ c ∷ []

  -- the touched members that were there
  abbrev touched : List (List ℕ)
  touched = members_among commands dim (naturals_told rs)

  abbrev moves : List Fact
  moves = moves_of_members commands after (facts_of t) dim touched

  abbrev owns : Fact → List ℕ → Bool
  owns f natural = eq_by_cmp nat_cmp (durable_key dim commands natural) (durable_of dim f)

  abbrev Given : List ℕ → Type 0
  Given natural = 0 < durable_key dim commands natural

  given_each : (ns : List (List ℕ)) → AllByRecursion Given (members_among commands dim ns)
  given_each [] = tt
  given_each (n ∷ ns) =
      elim (nat_lt 0 (durable_key dim commands n)) as (λ b. (nat_lt 0 (durable_key dim commands n) ≡ b) → AllByRecursion Given (cond b (n ∷ members_among commands dim ns) (members_among commands dim ns))) [
        | true ↦ λ e. (above_none (durable_key dim commands n) e, given_each ns)
        | false ↦ λ _. given_each ns
      ] refl

  touched_once : IsOnce bytes_eq bytes_eq-Decides touched
  touched_once = once_filtered bytes_eq bytes_eq-Decides (λ n. nat_lt 0 (durable_key dim commands n)) (naturals_told rs) (once_distinct bytes_eq bytes_eq-Decides (naturals rs))

  one_owner : (f : Fact) (n m : List ℕ) → Given n → Given m → owns f n ≡ true → owns f m ≡ true → n ≡ m
  one_owner f n m given _ mine its =
      let left : durable_key dim commands n ≡ durable_of dim f = same_number_is (durable_key dim commands n) (durable_of dim f) mine in
      let right : durable_key dim commands m ≡ durable_of dim f = same_number_is (durable_key dim commands m) (durable_of dim f) its in
      one_place bytes_eq bytes_eq-Decides n m (members dim commands) given (left ∙ sym right)

  -- what a member gives for a fact
  abbrev gives : List ℕ → Fact → Option Fact
  gives natural f = cond (owns f natural) (moved_for after dim natural f) None

  keeps_line : (key : LineKey) (natural : List ℕ) (f g : Fact) → gives natural f ≡ Some g → has_line key g ≡ has_line key f
  keeps_line key natural f g h =
      elim (owns f natural) as (λ b. cond b (moved_for after dim natural f) None ≡ Some g → has_line key g ≡ has_line key f) [
        | true ↦ λ some. ap (has_line key) (sym (moved_has f g (keys_for after dim natural f) some))
        | false ↦ λ none. absurd cc
      ] h

  -- what moves of a line: what its fact's owner among the touched gives
  abbrev move_of : Fact → Option Fact
  move_of f = option_and_then (λ n. moved_for after dim n f) (find (owns f) touched)

  -- what moves of a line by one member
  pub moves_by_member : (key : LineKey) (n : List ℕ) → filter (has_line key) (moves_of_member commands after (facts_of t) dim n) ≡ option_to_list (option_and_then (gives n) (fact_at commands key))
  moves_by_member key n =
      ap (filter (has_line key)) (moves_of_some (λ f. owns f n) (moved_for after dim n) (values (facts_of t)))
      ∙ filter_moves (has_line key) (gives n) (keeps_line key n) (values (facts_of t))
      ∙ ap (filter_map (gives n)) (facts_of_line limits commands t are key)
      ∙ moves_of_one (gives n) (fact_at commands key)

  moves_of_line : (key : LineKey) → filter (has_line key) moves ≡ option_to_list (option_and_then move_of (fact_at commands key))
  moves_of_line key =
      filter_flat (has_line key) (moves_of_member commands after (facts_of t) dim) touched
      ∙ flat_map_same (λ n. filter (has_line key) (moves_of_member commands after (facts_of t) dim n)) (λ n. option_to_list (option_and_then (gives n) (fact_at commands key))) (moves_by_member key) touched
      ∙ by_fact (fact_at commands key)
    where
      by_fact : (o : Option Fact) → flat_map (λ n. option_to_list (option_and_then (gives n) o)) touched ≡ option_to_list (option_and_then move_of o)
      by_fact None = flat_none touched
      by_fact (Some f) = owner_gives bytes_eq bytes_eq-Decides (owns f) Given (one_owner f) (λ n. moved_for after dim n f) touched (given_each (naturals_told rs)) touched_once

  moves_once : Once moves
  moves_once = distinct_by_filter (λ f. has_line (row.fact.key f)) own_line moves (λ f. (option_and_then move_of (fact_at commands (row.fact.key f)), moves_of_line (row.fact.key f)))

  -- ---- the fact of a stored sale

  module _ (number : ℕ) (s : SaleRecord) (there : at_place number (sold commands) ≡ Some s) where
    abbrev stored : Fact
    stored = fact_of commands s

    follows : fact_of after s ≡ followed after dim s stored
    follows = late_records_move_facts commands c dim rs number s is shown there

    -- the member that a sale names was given a durable key
    named_given : (natural : List ℕ) → member_of_sale dim s ≡ Some natural → Given natural
    named_given natural named =
        place-distinct_given bytes_eq bytes_eq-Decides natural (map (λ (a : Anchor). a.natural) (mentions dim commands))
        (natural_among (opening_of natural) (mentions dim commands) (all_at (Named commands) number (sold commands) s (all_named commands) there dim natural named))

    owned : (natural : List ℕ) → find (owns stored) touched ≡ Some natural → fact_of after s ≡ with_keys stored (keys_for after dim natural stored)
    owned natural found =
        let given = found_is Given (owns stored) touched natural (given_each (naturals_told rs)) found in
        let same = same_number_is (durable_key dim commands natural) (durable_of dim stored) (find_passes (owns stored) natural touched found) in
        follows ∙ follows_member commands c rs dim is s natural (owner_is dim commands s natural given same)

    -- where none of the touched members is its own, it stays
    left_alone : find (owns stored) touched ≡ None → (o : Option (List ℕ)) → member_of_sale dim s ≡ o → fact_of after s ≡ stored
    left_alone none None named = follows ∙ follows_none commands c rs dim is s named
    left_alone none (Some natural) named =
        elim (list_any (λ n. bytes_eq n natural) (naturals rs)) as (λ b. (list_any (λ n. bytes_eq n natural) (naturals rs) ≡ b) → fact_of after s ≡ stored) [
          | true ↦ λ among.
              let passes : (n : List ℕ) → bytes_eq n natural ≡ true → owns stored n ≡ true = λ n e.
              ap (λ k. eq_by_cmp nat_cmp k (durable_of dim stored)) (ap (durable_key dim commands) ((bytes_eq-Decides n natural).0 e) ∙ durable_is dim commands s natural named)
              ∙ number_itself (durable_of dim stored) in
              let kept : list_any (λ n. bytes_eq n natural) touched ≡ true =
              any_kept (λ n. nat_lt 0 (durable_key dim commands n)) (λ n. bytes_eq n natural)
              (λ n e. none_above (durable_key dim commands n) (subst Given (sym ((bytes_eq-Decides n natural).0 e)) (named_given natural named))) (naturals_told rs)
              ∙ among_distinct bytes_eq bytes_eq-Decides natural (naturals rs) ∙ among in
              absurd (not_found (owns stored) (λ n. bytes_eq n natural) passes touched kept none)
          | false ↦ λ apart. follows ∙ follows_unmentioned commands c rs dim is s natural named apart
        ] refl

    stored_leads : option_or (move_of stored) (Some stored) ≡ Some (fact_of after s)
    stored_leads =
        elim (find (owns stored) touched) as (λ o. (find (owns stored) touched ≡ o) → option_or (option_and_then (λ n. moved_for after dim n stored) o) (Some stored) ≡ Some (fact_of after s)) [
          | None ↦ λ none. ap Some (sym (left_alone none (member_of_sale dim s) refl))
          | Some natural ↦ λ found. moved_gives stored (keys_for after dim natural stored) ∙ ap Some (sym (owned natural found))
        ] refl

  moves_lead : (key : LineKey) → option_or (find (has_line key) moves) (fact_at commands key) ≡ fact_at after key
  moves_lead key =
      ap (λ o. option_or o (fact_at commands key)) (find_by_filter (has_line key) moves (option_and_then move_of (fact_at commands key)) (moves_of_line key))
      ∙ elim (find (on_line key) (standing commands)) as (λ o. (find (on_line key) (standing commands) ≡ o) → option_or (option_and_then move_of (option_map (fact_of commands) o)) (option_map (fact_of commands) o) ≡ option_map (fact_of after) o) [
        | None ↦ λ _. refl
        | Some s ↦ λ found. let there = at_found (on_line key) (sold commands) s (stands_sold (withdrawn commands) key.ticket key.line (sold commands) s found).0 in stored_leads there.0 s there.1
      ] refl
      ∙ sym (ap (λ ss. option_map (fact_of after) (find (on_line key) ss)) (standing-kept commands c (ap withdrawn_by is) (ap sold_by is)))

  -- each differs from what stood there
  moved_needed : (f : Fact) → find (has_line (row.fact.key f)) moves ≡ Some f → fact_at commands (row.fact.key f) ≢ Some f
  moved_needed f found there =
      let key = row.fact.key f in
      let moved : move_of f ≡ Some f =
      sym (ap (option_and_then move_of) there) ∙ sym (find_by_filter (has_line key) moves (option_and_then move_of (fact_at commands key)) (moves_of_line key)) ∙ found in
      by_owner (find (owns f) touched) moved
    where
      by_owner : (o : Option (List ℕ)) → option_and_then (λ n. moved_for after dim n f) o ≡ Some f → ⊥
      by_owner None h = absurd cc
      by_owner (Some natural) h = moved_is_other f (keys_for after dim natural f) h

  moves_needed : AllByRecursion (λ f. fact_at commands (row.fact.key f) ≢ Some f) moves
  moves_needed = all_weaker (λ f. find (has_line (row.fact.key f)) moves ≡ Some f) (λ f. fact_at commands (row.fact.key f) ≢ Some f) moved_needed moves (found_each moves moves_once)

  -- each is one that stood there, with other keys
  moved_stood : (f : Fact) → find (has_line (row.fact.key f)) moves ≡ Some f → (old : Fact) × (fact_at commands (row.fact.key f) ≡ Some old) × (f ≡ with_keys old f.keys)
  moved_stood f found =
      let key = row.fact.key f in
      by_row (fact_at commands key) refl (sym (find_by_filter (has_line key) moves (option_and_then move_of (fact_at commands key)) (moves_of_line key)) ∙ found)
    where
      by_owner : (old : Fact) (o : Option (List ℕ)) → option_and_then (λ n. moved_for after dim n old) o ≡ Some f → f ≡ with_keys old f.keys
      by_owner old None h = absurd cc
      by_owner old (Some natural) h = let same = moved_has old f (keys_for after dim natural old) h in sym same ∙ ap (λ (g : Fact). with_keys old g.keys) same

      by_row : (o : Option Fact) → fact_at commands (row.fact.key f) ≡ o → option_and_then move_of o ≡ Some f → (old : Fact) × (fact_at commands (row.fact.key f) ≡ Some old) × (f ≡ with_keys old f.keys)
      by_row None is h = absurd cc
      by_row (Some old) is h = (old, is, by_owner old (find (owns old) touched) h)

  moves_rekeyed : AreRekeyed (fact_at commands) moves
  moves_rekeyed = all_weaker (λ f. find (has_line (row.fact.key f)) moves ≡ Some f) (λ f. (old : Fact) × (fact_at commands (row.fact.key f) ≡ Some old) × (f ≡ record old { keys = f.keys })) moved_stood moves (found_each moves moves_once)

pub moved_facts_are_exact : MovedFactsAreExact
moved_facts_are_exact limits commands c dim rs t is shown are = (
  record {
    lead = moves_lead limits commands c dim rs t is shown are;
    needed = moves_needed limits commands c dim rs t is shown are;
    once = moves_once limits commands c dim rs t is shown are;
  },
  moves_rekeyed limits commands c dim rs t is shown are,
)
