-- The facts that a plan of one member moves.
use Rattle.std.proofs.Common.{◌≡◌, ℕ, ◌<◌, Bool, true, false, cond, List, [], ◌∷◌, ◌++◌, Option, Some, None, refl, sym, ◌∙◌, ap, subst}
use Rattle.std.specs.Prelude.{◌≢◌, filter, find, option_map, unwrap_or}
use Rattle.std.specs.List.Sorted.{IsPermutation}
use Rattle.std.specs.Option.{option_or, option_and_then, option_to_list}
use Rattle.std.specs.Ordering.{eq_by_cmp, nat_cmp}
use Rattle.wh_policy.specs.Written.{IsSound}
use Rattle.wh_policy.specs.declared.attribute.AttributeType.{AttributeType}
use Rattle.wh_policy.specs.declared.attribute.Dim.{Dim}
use Rattle.wh_policy.specs.declared.attribute.Dim.TheVariants.{Product, Store, Customer}
use Rattle.wh_policy.specs.declared.policy.Policy.{Policy}
use Rattle.wh_policy.specs.declared.record.DimensionRecord.{DimensionRecord}
use Rattle.wh_policy.specs.declared.record.SaleRecord.{SaleRecord}
use Rattle.wh_history.specs.Accepted.{Accepted, Describes, durable_key, member_of, member_of_sale, profiles_of, types_in}
use Rattle.wh_history.specs.Profiles.{profile_number}
use Rattle.wh_history.specs.Tables.{Limits, fact_of}
use Rattle.wh_history.specs.declared.facts.Fact.{Fact}
use Rattle.wh_history.specs.declared.facts.FactKeys.{FactKeys}
use Rattle.wh_history.proofs.Basics.{some_is}
use Rattle.wh_history.proofs.Growth.{durable_stays}
use Rattle.wh_history.proofs.Joins.{all_weaker}
use Rattle.wh_rows.specs.Facts.{facts_of}
use Rattle.wh_rows.specs.Questions.{durable_of}
use Rattle.wh_rows.specs.Rows as row
use Rattle.wh_rows.specs.Tables.{Tables}
use Rattle.wh_rows.specs.declared.key.LineKey.{LineKey}
use Rattle.wh_model.specs.Defined.{AreOf, fact_at}
use Rattle.wh_model.specs.Laws.{ShowsNoProfile, followed, standing_at}
use Rattle.wh_model.proofs.FoundPlaces.{same_number_is}
use Rattle.wh_model.proofs.GrownPlain.{sound_policies_show_none}
use Rattle.wh_model.proofs.MovedKeys.{with_keys, keys_for, moved_gives, moved_has, moved_is_other, follows_member, owner_is}
use Rattle.wh_model.proofs.StandingMoves.{late_records_move_standing_facts}
use Rattle.wh_plan.specs.BatchRows.{AreFacts, AreRekeyed, has_line}
use Rattle.wh_plan.specs.MovedFacts.{moved_for, facts_with, rekeyed_facts, moves_of_member, with_durable, fact_of_member, PlannedFactsAreExact}
use Rattle.wh_plan.proofs.GrownFacts.{own_line, Once, found_each}
use Rattle.wh_plan.proofs.MovedFacts.{moves_by_member}
use Rattle.wh_plan.proofs.MovedLists.{find_by_filter, distinct_by_filter}
use Rattle.wh_plan.proofs.MovedTouched.{rekeyed_known}
use Rattle.wh_plan.proofs.OnePass.{facts_again, rekeyed_again, reordered}
use Rattle.wh_plan.proofs.PlanRows.{types_after}

-- other keys leave a fact's durable keys
durable_with : (dim : Dim) (f : Fact) (keys : FactKeys) → durable_of dim (with_keys f keys) ≡ durable_of dim f
durable_with Product f keys = refl
durable_with Store f keys = refl
durable_with Customer f keys = refl

module _ (limits : Limits) (commands : List Accepted) (c : Accepted) (dim : Dim) (rs : List DimensionRecord) (t : Tables) (is : c.content ≡ Describes dim rs)
    (shown : dim ≡ Customer → ShowsNoProfile commands Product × ShowsNoProfile commands Store) (are : AreOf limits commands t) (natural : List ℕ) (given : 0 < durable_key dim commands natural) where
  abbrev after : List Accepted
  after = commands ++ c ∷ []

  abbrev owns : Fact → Bool
  owns f = eq_by_cmp nat_cmp (durable_key dim commands natural) (durable_of dim f)

  -- what the member gives for a fact
  abbrev gives : Fact → Option Fact
  gives f = cond (owns f) (moved_for after dim natural f) None

  abbrev own : Option Fact → Option Fact
  own = with_durable dim (durable_key dim commands natural)

  abbrev moves : List Fact
  moves = moves_of_member commands after (facts_of t) dim natural

  of_line : (key : LineKey) → filter (has_line key) moves ≡ option_to_list (option_and_then gives (fact_at commands key))
  of_line key = moves_by_member limits commands c dim rs t is shown are key natural

  found : (key : LineKey) → find (has_line key) moves ≡ option_and_then gives (fact_at commands key)
  found key = find_by_filter (has_line key) moves (option_and_then gives (fact_at commands key)) (of_line key)

  once : Once moves
  once = distinct_by_filter (λ f. has_line (row.fact.key f)) own_line moves (λ f. (option_and_then gives (fact_at commands (row.fact.key f)), of_line (row.fact.key f)))

  -- ---- they lead to the facts with the batch

  keeps_durable : (s : SaleRecord) (f : Fact) → durable_of dim (followed after dim s f) ≡ durable_of dim f
  keeps_durable s f =
      elim (member_of_sale dim s) as (λ o. durable_of dim (unwrap_or (option_map (λ n. with_keys f (keys_for after dim n f)) o) f) ≡ durable_of dim f) [
        | None ↦ refl
        | Some n ↦ durable_with dim f (keys_for after dim n f)
      ]

  sale_leads : (s : SaleRecord) → option_or (gives (fact_of commands s)) (own (Some (fact_of commands s))) ≡ own (Some (followed after dim s (fact_of commands s)))
  sale_leads s =
      let stored = fact_of commands s in
      let moved = followed after dim s stored in
      let same : owns moved ≡ owns stored = ap (eq_by_cmp nat_cmp (durable_key dim commands natural)) (keeps_durable s stored) in
      elim (owns stored) as (λ b. (owns stored ≡ b) → option_or (cond b (moved_for after dim natural stored) None) (cond b (Some stored) None) ≡ cond (owns moved) (Some moved) None) [
        | true ↦ λ mine.
            let named = owner_is dim commands s natural given (same_number_is (durable_key dim commands natural) (durable_of dim stored) mine) in
            moved_gives stored (keys_for after dim natural stored)
            ∙ ap Some (sym (follows_member commands c rs dim is s natural named))
            ∙ sym (ap (λ b. cond b (Some moved) None) (same ∙ mine))
        | false ↦ λ other. sym (ap (λ b. cond b (Some moved) None) (same ∙ other))
      ] refl

  leads : (key : LineKey) → option_or (find (has_line key) moves) (fact_of_member commands dim natural key) ≡ fact_of_member after dim natural key
  leads key =
      ap (λ o. option_or o (own (fact_at commands key))) (found key)
      ∙ elim (standing_at commands key) as (λ o. option_or (option_and_then gives (option_map (fact_of commands) o)) (own (option_map (fact_of commands) o)) ≡ own (option_map (λ s. followed after dim s (fact_of commands s)) o)) [
        | None ↦ refl
        | Some s ↦ sale_leads s
      ]
      ∙ sym (ap own (late_records_move_standing_facts commands c dim rs key is shown).moved)
      ∙ sym (ap (λ durable. with_durable dim durable (fact_at after key)) (durable_stays dim commands (c ∷ []) natural given))

  -- ---- each is a fact of the member with other keys

  stood : (f : Fact) → find (has_line (row.fact.key f)) moves ≡ Some f → (old : Fact) × (own (fact_at commands (row.fact.key f)) ≡ Some old) × (moved_for after dim natural old ≡ Some f)
  stood f h = by_row (fact_at commands (row.fact.key f)) (sym (found (row.fact.key f)) ∙ h)
    where
      by_row : (o : Option Fact) → option_and_then gives o ≡ Some f → (old : Fact) × (own o ≡ Some old) × (moved_for after dim natural old ≡ Some f)
      by_row None none = absurd cc
      by_row (Some old) some =
          elim (owns old) as (λ b. cond b (moved_for after dim natural old) None ≡ Some f → (g : Fact) × (cond b (Some old) None ≡ Some g) × (moved_for after dim natural g ≡ Some f)) [
            | true ↦ λ moved. (old, refl, moved)
            | false ↦ λ none. absurd cc
          ] some

  is_needed : (f : Fact) → find (has_line (row.fact.key f)) moves ≡ Some f → fact_of_member commands dim natural (row.fact.key f) ≢ Some f
  is_needed f h stands =
      let before = stood f h in
      let same : before.0 ≡ f = some_is before.0 f (sym before.1 ∙ stands) in
      moved_is_other f (keys_for after dim natural f) (subst (λ g. moved_for after dim natural g ≡ Some f) same before.2)

  is_rekeyed : (f : Fact) → find (has_line (row.fact.key f)) moves ≡ Some f → (old : Fact) × (fact_of_member commands dim natural (row.fact.key f) ≡ Some old) × (f ≡ with_keys old f.keys)
  is_rekeyed f h =
      let before = stood f h in
      let same = moved_has before.0 f (keys_for after dim natural before.0) before.2 in
      (before.0, before.1, sym same ∙ ap (λ (g : Fact). with_keys before.0 g.keys) same)

  pub member_moves_are_exact : AreFacts (fact_of_member commands dim natural) (fact_of_member (commands ++ c ∷ []) dim natural) (moves_of_member commands (commands ++ c ∷ []) (facts_of t) dim natural)
      × AreRekeyed (fact_of_member commands dim natural) (moves_of_member commands (commands ++ c ∷ []) (facts_of t) dim natural)
  member_moves_are_exact = (
    record {
      lead = leads;
      needed = all_weaker (λ f. find (has_line (row.fact.key f)) moves ≡ Some f) (λ f. fact_of_member commands dim natural (row.fact.key f) ≢ Some f) is_needed moves (found_each moves once);
      once = once;
    },
    all_weaker (λ f. find (has_line (row.fact.key f)) moves ≡ Some f) (λ f. (old : Fact) × (fact_of_member commands dim natural (row.fact.key f) ≡ Some old) × (f ≡ record old { keys = f.keys })) is_rekeyed moves (found_each moves once),
  )

pub planned_facts_are_exact : PlannedFactsAreExact
planned_facts_are_exact limits commands c rs shape natural t facts is typed enough are given same =
    let after = commands ++ c ∷ [] in
    let dim = shape.dim in
    let m = member_of dim after natural in
    let plain = sound_policies_show_none commands (λ (p : Policy) governed. subst IsSound (some_is typed.policy p (sym typed.governed ∙ governed)) typed.sound) in
    let exact = member_moves_are_exact limits commands c dim rs t is (λ _. plain) are natural given in
    let moves = moves_of_member commands after (facts_of t) dim natural in
    let planned = rekeyed_facts shape m facts in
    let known : planned ≡ rekeyed_facts (record { dim = dim; kinds = types_in dim after; number = profile_number (profiles_of after) }) m facts =
    rekeyed_known dim shape.kinds shape.number (profiles_of after) m enough facts
    ∙ ap (λ (ks : List AttributeType). rekeyed_facts (record { dim = dim; kinds = ks; number = profile_number (profiles_of after) }) m facts) (sym (types_after commands c dim rs shape.kinds is typed)) in
    let permuted : IsPermutation moves planned = subst (IsPermutation moves) (sym known) (reordered (moved_for after dim natural) (facts_with (facts_of t) dim (durable_key dim commands natural)) facts same) in
    (facts_again (fact_of_member commands dim natural) (fact_of_member after dim natural) moves planned permuted exact.0, rekeyed_again (fact_of_member commands dim natural) moves planned permuted exact.1)
