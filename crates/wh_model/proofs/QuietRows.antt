-- A command that describes nothing, mentions nothing and sells nothing, and gives no policy, leaves every row of members, changes and profiles, and what each sale becomes.
use Rattle.std.proofs.Common.{◌≡◌, inl, inr, ℕ, zero, suc, false, List, [], ◌∷◌, ◌++◌, length, Option, None, Some, refl, ap, sym, ◌∙◌, arith, ◌==◌}
use Rattle.std.specs.Prelude.{option_map, find, bytes_eq, unwrap_or}
use Rattle.std.specs.Option.{option_and_then}
use Rattle.wh_policy.specs.declared.attribute.Dim.{Dim}
use Rattle.wh_policy.specs.declared.attribute.Dim.TheVariants.{Product, Store, Customer}
use Rattle.wh_policy.specs.declared.attribute.AttributeType.{AttributeType}
use Rattle.wh_policy.specs.declared.record.SaleRecord.{SaleRecord}
use Rattle.wh_history.specs.Accepted.{Accepted, Anchor, types_in, anchors, members, profiles_of, durable_key}
use Rattle.wh_history.specs.Dated.{at, dated}
use Rattle.wh_history.specs.Facts.{key_in}
use Rattle.wh_history.specs.Keys.{at_place}
use Rattle.wh_history.specs.Laws.{governs}
use Rattle.wh_history.specs.Profiles.{current_profile}
use Rattle.wh_history.specs.Rows.{rows}
use Rattle.wh_history.specs.Tables.{member_rows, no_card_row, numbered_row, dimension_row, fact_of, key_at}
use Rattle.wh_history.specs.Tables as history
use Rattle.wh_history.specs.declared.facts.Fact.{Fact}
use Rattle.wh_history.specs.declared.rows.DimRow.{DimRow}
use Rattle.wh_history.proofs.Stays.{policy_last, types-last}
use Rattle.wh_rows.specs.declared.key.ChangeKey.{ChangeKey}
use Rattle.wh_rows.specs.declared.key.MemberKey.{MemberKey}
use Rattle.wh_model.specs.Defined.{member_at, change_at, profile_at, calendar_at, day_at}
use Rattle.wh_model.proofs.GrownChanges.{brings_none}
use Rattle.wh_model.proofs.GrownMembers as member
use Rattle.wh_model.proofs.QuietLists.{IsQuiet, unchanged, described_quiet, anchors_quiet, members_quiet, durable_quiet, member_quiet}

-- the fact of a sale with this customer
abbrev pub sold_to : List Accepted → SaleRecord → Option (List ℕ) → Fact
sold_to list s o = record {
  ticket = s.ticket;
  line = s.line;
  day = s.day;
  keys = record {
    store_key = key_at list Store s.day s.store;
    product_key = key_at list Product s.day s.product;
    customer_key = unwrap_or (option_map (key_at list Customer s.day) o) 0;
    profile = unwrap_or (option_map (history.profile_at list s.day) o) 0;
  };
  store_durable = durable_key Store list s.store;
  product_durable = durable_key Product list s.product;
  customer_durable = unwrap_or (option_map (durable_key Customer list) o) 0;
  quantity = s.quantity;
  amount = s.amount;
  cost = s.cost;
  discount = s.discount;
}

module _ (commands : List Accepted) (c : Accepted) (quiet : IsQuiet c.content) (no_policy : governs c.content ≡ false) where
  abbrev after : List Accepted
  after = commands ++ c ∷ []

  types_same : (dim : Dim) → types_in dim after ≡ types_in dim commands
  types_same dim = types-last dim commands c no_policy

  profiles_same : profiles_of after ≡ profiles_of commands
  profiles_same = rw (types_same Customer, described_quiet commands c quiet Customer) refl

  rows_same : (dim : Dim) (natural : List ℕ) → member_rows after dim natural ≡ member_rows commands dim natural
  rows_same dim natural = λ i. rows (types_same dim i) (profiles_same i) (member_quiet commands c quiet dim natural i)

  numbered_same : (dim : Dim) (key : ℕ) → numbered_row after dim key ≡ numbered_row commands dim key
  numbered_same dim key =
      ap (λ (as' : List Anchor). option_and_then (λ a. find (λ r. r.surrogate == key) (member_rows after dim a.natural)) (at_place key as')) (anchors_quiet commands c quiet dim)
      ∙ by_anchor (at_place key (anchors dim commands))
    where
      by_anchor : (o : Option Anchor) → option_and_then (λ a. find (λ r. r.surrogate == key) (member_rows after dim a.natural)) o ≡ option_and_then (λ a. find (λ r. r.surrogate == key) (member_rows commands dim a.natural)) o
      by_anchor None = refl
      by_anchor (Some a) = ap (find (λ (r : DimRow). r.surrogate == key)) (rows_same dim a.natural)

  pub dimension_same : (dim : Dim) (key : ℕ) → dimension_row (commands ++ c ∷ []) dim key ≡ dimension_row commands dim key
  dimension_same Product key = numbered_same Product key
  dimension_same Store key = numbered_same Store key
  dimension_same Customer zero = ap (λ (kinds : List AttributeType). Some (no_card_row kinds)) (types_same Customer)
  dimension_same Customer (suc n) = numbered_same Customer (suc n)

  pub member_same : (key : MemberKey) → member_at (commands ++ c ∷ []) key ≡ member_at commands key
  member_same key =
      let as_many : length (members key.dim after) ≡ length (members key.dim commands) = ap length (members_quiet commands c quiet key.dim) in
      elim (member.of_dimension key.dim commands c key.durable) [
        | inl kept ↦ kept.same
        | inr added ↦ let above = added.above in let within = added.within in absurd (omega (arith, as_many))
      ]

  pub change_same : (key : ChangeKey) → change_at (commands ++ c ∷ []) key ≡ change_at commands key
  change_same key = brings_none commands c c.content refl (unchanged commands c quiet) key

  pub profile_same : (number : ℕ) → profile_at (commands ++ c ∷ []) number ≡ profile_at commands number
  profile_same zero = rw (types_same Customer) refl
  profile_same (suc zero) = rw (types_same Customer) refl
  profile_same (suc (suc n)) = rw profiles_same refl

  pub calendar_same : (day : ℕ) → calendar_at (commands ++ c ∷ []) day ≡ calendar_at commands day
  calendar_same day = ap (option_and_then (λ policy. day_at policy day)) (policy_last None commands c no_policy)

  sale_same : (s : SaleRecord) (o : Option (List ℕ)) → sold_to after s o ≡ sold_to commands s o
  sale_same s None = λ i. record {
    ticket = s.ticket;
    line = s.line;
    day = s.day;
    keys = record {
      store_key = key_in (rows_same Store s.store i) s.day;
      product_key = key_in (rows_same Product s.product i) s.day;
      customer_key = 0;
      profile = 0;
    };
    store_durable = durable_quiet commands c quiet Store s.store i;
    product_durable = durable_quiet commands c quiet Product s.product i;
    customer_durable = 0;
    quantity = s.quantity;
    amount = s.amount;
    cost = s.cost;
    discount = s.discount;
  }
  sale_same s (Some natural) = λ i. record {
    ticket = s.ticket;
    line = s.line;
    day = s.day;
    keys = record {
      store_key = key_in (rows_same Store s.store i) s.day;
      product_key = key_in (rows_same Product s.product i) s.day;
      customer_key = key_in (rows_same Customer natural i) s.day;
      profile = current_profile (types_same Customer i) (profiles_same i) (at s.day (dated (member_quiet commands c quiet Customer natural i).changes));
    };
    store_durable = durable_quiet commands c quiet Store s.store i;
    product_durable = durable_quiet commands c quiet Product s.product i;
    customer_durable = durable_quiet commands c quiet Customer natural i;
    quantity = s.quantity;
    amount = s.amount;
    cost = s.cost;
    discount = s.discount;
  }

  -- a sale becomes the fact that it was
  pub fact_of_same : (s : SaleRecord) → fact_of (commands ++ c ∷ []) s ≡ fact_of commands s
  fact_of_same s = sale_same s s.customer
