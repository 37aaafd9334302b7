-- What a batch of sales leaves as it was, and the facts that it brings.
use Rattle.std.proofs.Common.{◌≡◌, ℕ, ◌<◌, ◌==◌, true, false, cond, List, [], ◌∷◌, ◌++◌, map, Some, None, refl, sym, ◌∙◌, ap, subst, append-nil}
use Rattle.std.specs.Prelude.{◌≢◌, bytes_eq, find, filter, is_some, option_map}
use Rattle.std.specs.List.{AllByRecursion, list_any}
use Rattle.std.specs.Option.{option_or}
use Rattle.std.proofs.lemmas.Bool.{and_parts, eqb-true}
use Rattle.std.proofs.lemmas.Grind.{flat_map-append}
use Rattle.std.proofs.lemmas.List.Folds.{find-append}
use Rattle.std.proofs.lemmas.Slice.Eq.{bytes_eq-Decides}
use Rattle.wh_policy.proofs.Options.{option_or-none}
use Rattle.wh_policy.specs.declared.attribute.Dim.{Dim}
use Rattle.wh_policy.specs.declared.attribute.Dim.TheVariants.{Product, Store, Customer}
use Rattle.wh_policy.specs.declared.record.DimensionRecord.{DimensionRecord}
use Rattle.wh_policy.specs.declared.record.SaleRecord.{SaleRecord}
use Rattle.wh_history.specs.Accepted.{Accepted, Anchor, Sells, same_anchor, opening_of, day_of, described_by, described, sold_by, sold, withdrawn_by, withdrawn, withdraws_line, standing_but, standing, mentions, durable_key, surrogate_key, change_of, changes_of, member_of, types_in, profiles_of}
use Rattle.wh_history.specs.Dated.{at, dated}
use Rattle.wh_history.specs.Facts.{key_in}
use Rattle.wh_history.specs.Laws.{governs}
use Rattle.wh_history.specs.Profiles.{combinations_of, current_profile}
use Rattle.wh_history.specs.Rows.{rows}
use Rattle.wh_history.specs.Tables.{member_rows, key_at, profile_at, fact_of}
use Rattle.wh_history.proofs.Growth.{durable_stays, surrogate_stays}
use Rattle.wh_history.proofs.Joins.{Told, told_in_all}
use Rattle.wh_history.proofs.Places.{place-distinct_given, anchors_decide}
use Rattle.wh_history.proofs.Standing.{all_stand, all_standing, standing-last}
use Rattle.wh_history.proofs.Stays.{types-last}
use Rattle.wh_history.proofs.Untouched.{described-last}
use Rattle.wh_rows.specs.Rows as row
use Rattle.wh_rows.specs.declared.key.LineKey.{LineKey}
use Rattle.wh_model.specs.Defined.{fact_at}
use Rattle.wh_plan.specs.Laws.{SalesAreFacts}
use Rattle.wh_plan.specs.BatchRows.{IsNewLine, has_line}
use Rattle.wh_model.proofs.Following.{Named, all_named, durable_kept, customer_kept}
use Rattle.wh_model.proofs.GrownChanges.{natural_among}
use Rattle.wh_plan.proofs.GrownFacts.{found_mapped, facts_once}
use Rattle.wh_model.proofs.GrownKeys.{found_is, map_same}
use Rattle.wh_model.proofs.SameLines.{void_stored}
use Rattle.wh_model.proofs.WholeFacts.{on_line}

module _ (commands : List Accepted) (c : Accepted) (sales : List SaleRecord) (is : c.content ≡ Sells sales) where
  abbrev after : List Accepted
  after = commands ++ c ∷ []

  pub batch : governs c.content ≡ false
  batch = ap governs is

  pub sold_more : sold after ≡ sold commands ++ sales
  sold_more =
      flat_map-append (λ (d : Accepted). sold_by d.content) commands (c ∷ [])
      ∙ ap (λ ss. sold commands ++ ss) (append-nil (sold_by c.content))
      ∙ ap (λ content. sold commands ++ sold_by content) is

  unvoided : withdrawn_by c.content ≡ []
  unvoided = ap withdrawn_by is

  described_kept : (dim : Dim) → described dim after ≡ described dim commands
  described_kept dim = described-last dim commands c ∙ ap (λ content. described dim commands ++ described_by dim content) is ∙ append-nil (described dim commands)

  pub profiles_kept : profiles_of after ≡ profiles_of commands
  profiles_kept = ap (λ kinds. combinations_of kinds (described Customer after)) (types-last Customer commands c batch) ∙ ap (combinations_of (types_in Customer commands)) (described_kept Customer)

  -- ---- a member that was mentioned is as it was

  change_kept : (dim : Dim) (r : DimensionRecord) → Told (mentions dim commands) r → change_of dim after r ≡ change_of dim commands r
  change_kept dim r told =
      let given : 0 < surrogate_key dim commands (day_of r.natural r.day) = place-distinct_given same_anchor anchors_decide (day_of r.natural r.day) (mentions dim commands) told in
      rw (surrogate_stays dim commands (c ∷ []) (day_of r.natural r.day) given) refl

  each_kept : (dim : Dim) (natural : List ℕ) (rs : List DimensionRecord) → AllByRecursion (Told (mentions dim commands)) rs
      → map (change_of dim after) (filter (λ r. bytes_eq r.natural natural) rs) ≡ map (change_of dim commands) (filter (λ r. bytes_eq r.natural natural) rs)
  each_kept dim natural [] told = refl
  each_kept dim natural (r ∷ rs) told =
      let rest = each_kept dim natural rs told.1 in
      let others = filter (λ (q : DimensionRecord). bytes_eq q.natural natural) rs in
      elim (bytes_eq r.natural natural) as (λ b. map (change_of dim after) (cond b (r ∷ others) others) ≡ map (change_of dim commands) (cond b (r ∷ others) others)) [
        | true ↦ ap (λ q. q ∷ map (change_of dim after) others) (change_kept dim r told.0) ∙ ap (λ qs. change_of dim commands r ∷ qs) rest
        | false ↦ rest
      ]

  pub changes_kept : (dim : Dim) (natural : List ℕ) → changes_of dim after natural ≡ changes_of dim commands natural
  changes_kept dim natural =
      ap (λ rs. map (change_of dim after) (filter (λ r. bytes_eq r.natural natural) rs)) (described_kept dim)
      ∙ each_kept dim natural (described dim commands) (told_in_all dim commands)

  member_kept : (dim : Dim) (natural : List ℕ) → list_any (λ a. same_anchor a (opening_of natural)) (mentions dim commands) ≡ true → member_of dim after natural ≡ member_of dim commands natural
  member_kept dim natural named =
      let owned : 0 < durable_key dim commands natural =
      place-distinct_given bytes_eq bytes_eq-Decides natural (map (λ (a : Anchor). a.natural) (mentions dim commands)) (natural_among (opening_of natural) (mentions dim commands) named) in
      let given : 0 < surrogate_key dim commands (opening_of natural) = place-distinct_given same_anchor anchors_decide (opening_of natural) (mentions dim commands) named in
      rw (durable_stays dim commands (c ∷ []) natural owned, surrogate_stays dim commands (c ∷ []) (opening_of natural) given, changes_kept dim natural) refl

  pub rows_kept : (dim : Dim) (natural : List ℕ) → list_any (λ a. same_anchor a (opening_of natural)) (mentions dim commands) ≡ true → member_rows after dim natural ≡ member_rows commands dim natural
  rows_kept dim natural named =
      ap (λ kinds. rows kinds (profiles_of after) (member_of dim after natural)) (types-last dim commands c batch)
      ∙ ap (λ combinations. rows (types_in dim commands) combinations (member_of dim after natural)) profiles_kept
      ∙ ap (rows (types_in dim commands) (profiles_of commands)) (member_kept dim natural named)

  profile_kept : (day : ℕ) (natural : List ℕ) → profile_at after day natural ≡ profile_at commands day natural
  profile_kept day natural =
      ap (λ kinds. current_profile kinds (profiles_of after) (at day (dated (changes_of Customer after natural)))) (types-last Customer commands c batch)
      ∙ ap (λ combinations. current_profile (types_in Customer commands) combinations (at day (dated (changes_of Customer after natural)))) profiles_kept
      ∙ ap (λ changes. current_profile (types_in Customer commands) (profiles_of commands) (at day (dated changes))) (changes_kept Customer natural)

  -- so each stored fact is

  fact_kept : (s : SaleRecord) → Named commands s → fact_of after s ≡ fact_of commands s
  fact_kept s named =
      rw (
        ap (λ rs. key_in rs s.day) (rows_kept Product s.product (named Product s.product refl)),
        ap (λ rs. key_in rs s.day) (rows_kept Store s.store (named Store s.store refl)),
        map_same (key_at after Customer s.day) (key_at commands Customer s.day) s.customer (λ natural here. ap (λ rs. key_in rs s.day) (rows_kept Customer natural (named Customer natural here))),
        map_same (profile_at after s.day) (profile_at commands s.day) s.customer (λ natural _. profile_kept s.day natural),
        durable_kept commands c s named Product s.product refl,
        durable_kept commands c s named Store s.store refl,
        customer_kept commands c s named,
      ) refl

  -- ---- the facts of the batch

  abbrev line_of : SaleRecord → LineKey
  line_of s = record { ticket = s.ticket; line = s.line }

  line_is : (key : LineKey) (s : SaleRecord) → on_line key s ≡ true → line_of s ≡ key
  line_is key s h =
      let parts = and_parts (bytes_eq s.ticket key.ticket) (s.line == key.line) h in
      rw ((bytes_eq-Decides s.ticket key.ticket).0 parts.0, eqb-true s.line key.line parts.1) refl

  none_new : (key : LineKey) (old : SaleRecord) (ss : List SaleRecord) → find (on_line key) (standing commands) ≡ Some old → AllByRecursion (IsNewLine commands) ss → find (on_line key) ss ≡ None
  none_new key old [] found new = refl
  none_new key old (s ∷ ss) found new =
      elim (on_line key s) as (λ b. (on_line key s ≡ b) → cond b (Some s) (find (on_line key) ss) ≡ None) [
        | true ↦ λ h.
            let none : fact_at commands key ≡ None = subst (λ k. fact_at commands k ≡ None) (line_is key s h) new.0.0 in
            let some : fact_at commands key ≡ Some (fact_of commands old) = ap (option_map (fact_of commands)) found in
            absurd cc
        | false ↦ λ _. none_new key old ss found new.1
      ] refl

  -- a line that is new was not withdrawn
  each_stands : (ss : List SaleRecord) → AllByRecursion (IsNewLine commands) ss → AllByRecursion (λ s. withdraws_line s.ticket s.line (withdrawn commands) ≡ false) ss
  each_stands [] new = tt
  each_stands (s ∷ ss) new = (sym (void_stored commands (line_of s)) ∙ ap is_some new.0.1, each_stands ss new.1)

  standing_more : AllByRecursion (IsNewLine commands) sales → standing after ≡ standing commands ++ sales
  standing_more new =
      standing-last commands c unvoided
      ∙ ap (λ content. standing commands ++ standing_but (withdrawn commands) (sold_by content)) is
      ∙ ap (λ ss. standing commands ++ ss) (all_stand (withdrawn commands) sales (each_stands sales new))

  facts_lead : AllByRecursion (IsNewLine commands) sales → (key : LineKey) → option_or (find (has_line key) (map (fact_of after) sales)) (fact_at commands key) ≡ fact_at after key
  facts_lead new key =
      let whole : fact_at after key ≡ option_map (fact_of after) (option_or (find (on_line key) (standing commands)) (find (on_line key) sales)) =
      ap (λ ss. option_map (fact_of after) (find (on_line key) ss)) (standing_more new) ∙ ap (option_map (fact_of after)) (find-append (on_line key) (standing commands) sales) in
      ap (λ o. option_or o (fact_at commands key)) (found_mapped after key sales)
      ∙ elim (find (on_line key) (standing commands)) as (λ o. (find (on_line key) (standing commands) ≡ o) → option_or (option_map (fact_of after) (find (on_line key) sales)) (option_map (fact_of commands) o) ≡ option_map (fact_of after) (option_or o (find (on_line key) sales))) [
        | None ↦ λ none. option_or-none (option_map (fact_of after) (find (on_line key) sales))
        | Some old ↦ λ some.
            let named = all_standing (Named commands) (withdrawn commands) (sold commands) (all_named commands) in
            let kept = fact_kept old (found_is (Named commands) (on_line key) (standing commands) old named some) in
            ap (λ o. option_or (option_map (fact_of after) o) (Some (fact_of commands old))) (none_new key old sales some new) ∙ ap Some (sym kept)
      ] refl
      ∙ sym whole

  pub facts_new : (ss : List SaleRecord) → AllByRecursion (IsNewLine commands) ss → AllByRecursion (λ f. fact_at commands (row.fact.key f) ≡ None) (map (fact_of (commands ++ c ∷ [])) ss)
  facts_new [] new = tt
  facts_new (s ∷ ss) new = (new.0.0, facts_new ss new.1)

  facts_needed : (ss : List SaleRecord) → AllByRecursion (IsNewLine commands) ss → AllByRecursion (λ f. fact_at commands (row.fact.key f) ≢ Some f) (map (fact_of after) ss)
  facts_needed [] new = tt
  facts_needed (s ∷ ss) new = (λ there. let none : fact_at commands (line_of s) ≡ None = new.0.0 in absurd cc, facts_needed ss new.1)

pub sales_are_facts : SalesAreFacts
sales_are_facts commands c sales is new distinct = record {
  lead = facts_lead commands c sales is new;
  needed = facts_needed commands c sales is sales new;
  once = facts_once (commands ++ c ∷ []) sales distinct;
}
