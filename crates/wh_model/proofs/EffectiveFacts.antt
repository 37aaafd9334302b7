-- Each fact names the rows of its sale's members that hold the sale's day.
use Rattle.std.proofs.Common.{◌≡◌, ℕ, ◌==◌, ◌&&◌, Option, Some, None, List, refl, ap, subst, sym}
use Rattle.std.specs.Prelude.{bytes_eq, find, option_map, unwrap_or}
use Rattle.std.proofs.lemmas.Bool.{and_parts, eqb-true}
use Rattle.std.proofs.lemmas.Slice.Eq.{bytes_eq-Decides}
use Rattle.wh_policy.specs.declared.attribute.Dim.{Dim}
use Rattle.wh_policy.specs.declared.attribute.Dim.TheVariants.{Product, Store, Customer}
use Rattle.wh_policy.specs.declared.record.SaleRecord.{SaleRecord}
use Rattle.wh_history.specs.Accepted.{Accepted, durable_key, member_of_sale, sold, withdrawn, standing}
use Rattle.wh_history.specs.Tables.{Limits, key_at, profile_at, fact_of}
use Rattle.wh_history.proofs.Basics.{find_passes}
use Rattle.wh_history.proofs.Effective.{effective}
use Rattle.wh_history.proofs.Standing.{stands_sold}
use Rattle.wh_model.specs.Laws.{NamesMember, NamesCustomer, NamesItsMembers, IsSoldAt, FactsAreEffective}
use Rattle.wh_model.specs.Sound.{IsGoodSale, IsAccepted}
use Rattle.wh_model.proofs.Following.{Named, owned, all_named}
use Rattle.wh_model.proofs.GrownKeys.{found_is}
use Rattle.wh_model.proofs.MovedKeys.{at_found}
use Rattle.wh_model.proofs.ValidFacts.{days}
use Rattle.wh_model.proofs.ValidTables.{made_of}

module _ (limits : Limits) (commands : List Accepted) (ok : IsAccepted limits commands) (s : SaleRecord) (good : IsGoodSale s) (named : Named commands s) where
  member_named : (dim : Dim) (natural : List ℕ) → member_of_sale dim s ≡ Some natural → NamesMember commands dim natural s.day (durable_key dim commands natural) (key_at commands dim s.day natural)
  member_named dim natural is = record {
    member = refl;
    numbered = owned commands s named dim natural is;
    row = effective dim commands natural (days limits commands ok) (named dim natural is) s.day good.day;
  }

  -- the customer's row, by whether the sale has a card
  customer_named : NamesCustomer commands s.customer (fact_of commands s)
  customer_named = by_card s.customer refl
    where
      by_card : (o : Option (List ℕ)) → s.customer ≡ o → NamesCustomer commands o (fact_of commands s)
      by_card None none = (
        ap (λ o. unwrap_or (option_map (durable_key Customer commands) o) 0) none,
        ap (λ o. unwrap_or (option_map (key_at commands Customer s.day) o) 0) none,
        ap (λ o. unwrap_or (option_map (profile_at commands s.day) o) 0) none,
      )
      by_card (Some natural) card = (
        rw card (member_named Customer natural card),
        ap (λ o. unwrap_or (option_map (profile_at commands s.day) o) 0) card,
      )

  pub members_named : NamesItsMembers commands s (fact_of commands s)
  members_named = record {
    day = refl;
    product = member_named Product s.product refl;
    store = member_named Store s.store refl;
    customer = customer_named;
  }

pub facts_are_effective : FactsAreEffective
facts_are_effective limits commands key f ok is =
    let on = λ (t : SaleRecord). bytes_eq t.ticket key.ticket && (t.line == key.line) in
    let made = made_of (fact_of commands) (find on (standing commands)) f is in
    let s : SaleRecord = made.0 in
    let stands = stands_sold (withdrawn commands) key.ticket key.line (sold commands) s made.1 in
    let good = found_is IsGoodSale on (sold commands) s ok.sales stands.0 in
    let named = found_is (Named commands) on (sold commands) s (all_named commands) stands.0 in
    let at = at_found on (sold commands) s stands.0 in
    let same = and_parts (bytes_eq s.ticket key.ticket) (s.line == key.line) (find_passes on s (sold commands) stands.0) in
    let sale : IsSoldAt commands key s = record {
      number = at.0;
      there = at.1;
      ticket = (bytes_eq-Decides s.ticket key.ticket).0 same.0;
      line = eqb-true s.line key.line same.1;
      stands = stands.1;
    } in
    (s, sale, subst (NamesItsMembers commands s) (sym made.2) (members_named limits commands ok s good named))
