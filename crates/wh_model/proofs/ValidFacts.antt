-- The facts that accepted commands define are valid.
use Rattle.std.proofs.Common.{◌≡◌, ℕ, zero, suc, ◌==◌, ◌&&◌, true, List, Option, Some, None, refl, ap, sym, subst, ◌∙◌, arith}
use Rattle.std.specs.Prelude.{bytes_eq, find, option_map, unwrap_or}
use Rattle.wh_day.specs.Day.{is_day}
use Rattle.wh_policy.specs.declared.attribute.Dim.{Dim}
use Rattle.wh_policy.specs.declared.attribute.Dim.TheVariants.{Product, Store, Customer}
use Rattle.wh_policy.specs.declared.format.Format.{Format}
use Rattle.wh_policy.specs.declared.format.Format.TheVariants.{One, Two}
use Rattle.wh_policy.specs.declared.record.SaleRecord.{SaleRecord}
use Rattle.wh_history.specs.Accepted.{Accepted, Anchor, format_of, anchors, member_of, durable_key, sold, standing, withdrawn, types_in, profiles_of}
use Rattle.wh_history.specs.Dated.{at, dated}
use Rattle.wh_history.specs.Keys.{at_place}
use Rattle.wh_history.specs.Laws.{RecordsHaveDays, IsMember}
use Rattle.wh_history.specs.Tables.{Limits, member_rows, numbered_row, dimension_row, key_at, profile_at, fact_of}
use Rattle.wh_history.specs.declared.facts.Fact.{Fact}
use Rattle.wh_history.specs.declared.rows.DimRow.{DimRow}
use Rattle.wh_history.proofs.Effective.{found_row}
use Rattle.wh_history.proofs.Joins.{all_weaker}
use Rattle.wh_history.proofs.Standing.{stands_sold}
use Rattle.wh_rows.specs.Facts.{fact_layout}
use Rattle.wh_rows.specs.Rows.{has_good_columns}
use Rattle.wh_rows.specs.Types.{is_number, is_discount}
use Rattle.wh_rows.specs.declared.key.LineKey.{LineKey}
use Rattle.wh_rows.proofs.ColumnLemmas.{both}
use Rattle.wh_model.specs.Defined.{fact_at}
use Rattle.wh_model.specs.Sound.{IsGoodRecord, IsGoodSale, IsAccepted}
use Rattle.wh_model.proofs.Following.{Named, all_named}
use Rattle.wh_model.proofs.GrownKeys.{found_is}
use Rattle.wh_model.proofs.SmallNumbers.{is_small, at_within, profiles_few}
use Rattle.wh_model.proofs.ValidRows.{current_small}
use Rattle.wh_model.proofs.ValidTables.{made_of, then_of, anchor_number, durable_number}

-- a number that stands in every case, and 0 without one
small_or_none : {X : Type 0} (number : X → ℕ) (o : Option X) → ((x : X) → o ≡ Some x → is_number (number x) ≡ true) → is_number (unwrap_or (option_map number o) 0) ≡ true
small_or_none number None each = is_small 0 (omega arith)
small_or_none number (Some x) each = each x refl

good_columns : (f : Fact) (s : SaleRecord) → IsGoodSale s → f.ticket ≡ s.ticket → f.line ≡ s.line → f.day ≡ s.day → f.quantity ≡ s.quantity → f.amount ≡ s.amount → f.cost ≡ s.cost
    → is_number f.keys.store_key ≡ true → is_number f.keys.product_key ≡ true → is_number f.keys.customer_key ≡ true → is_number f.store_durable ≡ true → is_number f.product_durable ≡ true → is_number f.customer_durable ≡ true → is_number f.keys.profile ≡ true
    → has_good_columns f ≡ true
good_columns f s good ticket line day quantity amount cost store product customer store_durable product_durable customer_durable profile =
    rw (ticket, line, day, quantity, amount, cost, good.ticket, good.line, good.day, store, product, customer, store_durable, product_durable, customer_durable, profile, good.quantity, good.amount, good.cost) refl

-- it has no discount in the first format, and one that can be kept in the second
valid_in : (format : Format) (f : Fact) → has_good_columns f ≡ true → is_discount f.discount ≡ true → (format ≡ One → f.discount ≡ 0) → (fact_layout format).is_valid f ≡ true
valid_in One f good few none = both good (subst (λ d. (d == 0) ≡ true) (sym (none refl)) refl)
valid_in Two f good few none = both good few

module _ (limits : Limits) (commands : List Accepted) (ok : IsAccepted limits commands) where
  pub days : RecordsHaveDays commands
  days dim = all_weaker IsGoodRecord (λ r. is_day r.day ≡ true) (λ r good. good.day) _ (ok.records dim)

  by_anchor : (dim : Dim) (key : ℕ) (r : DimRow) → numbered_row commands dim key ≡ Some r → is_number key ≡ true
  by_anchor dim key r is =
      let there = then_of (λ (a : Anchor). find (λ (q : DimRow). q.surrogate == key) (member_rows commands dim a.natural)) (at_place key (anchors dim commands)) r is in
      anchor_number limits commands ok dim key (at_within key (anchors dim commands) there.0 there.1)

  numbered : (dim : Dim) (key : ℕ) (r : DimRow) → dimension_row commands dim key ≡ Some r → is_number key ≡ true
  numbered Product key r is = by_anchor Product key r is
  numbered Store key r is = by_anchor Store key r is
  numbered Customer zero r is = is_small 0 (omega arith)
  numbered Customer (suc n) r is = by_anchor Customer (suc n) r is

  row_number : (dim : Dim) (natural : List ℕ) (day : ℕ) → IsMember dim commands natural → is_day day ≡ true → is_number (key_at commands dim day natural) ≡ true
  row_number dim natural day member is = let found = found_row dim commands natural days member day is in numbered dim (key_at commands dim day natural) found.0 found.2

  profile_number : (day : ℕ) (natural : List ℕ) → is_number (profile_at commands day natural) ≡ true
  profile_number day natural =
      let few = profiles_few limits commands ok in
      let small = current_small (types_in Customer commands) (profiles_of commands) (at day (dated (member_of Customer commands natural).changes)) in
      is_small (profile_at commands day natural) (omega arith)

  good_fact : (s : SaleRecord) → IsGoodSale s → Named commands s → has_good_columns (fact_of commands s) ≡ true
  good_fact s good named =
      good_columns (fact_of commands s) s good refl refl refl refl refl refl
      (row_number Store s.store s.day (named Store s.store refl) good.day)
      (row_number Product s.product s.day (named Product s.product refl) good.day)
      (small_or_none (key_at commands Customer s.day) s.customer (λ natural is. row_number Customer natural s.day (named Customer natural is) good.day))
      (durable_number limits commands ok Store s.store)
      (durable_number limits commands ok Product s.product)
      (small_or_none (durable_key Customer commands) s.customer (λ natural is. durable_number limits commands ok Customer natural))
      (small_or_none (profile_at commands s.day) s.customer (λ natural is. profile_number s.day natural))

  -- a fact is valid in the table of the list's format
  pub fact_valid : (key : LineKey) (f : Fact) → fact_at commands key ≡ Some f → (fact_layout (format_of commands)).is_valid f ≡ true
  fact_valid key f is =
      let on_line = λ (s : SaleRecord). bytes_eq s.ticket key.ticket && (s.line == key.line) in
      let made = made_of (fact_of commands) (find on_line (standing commands)) f is in
      let s : SaleRecord = made.0 in
      let sold_at = (stands_sold (withdrawn commands) key.ticket key.line (sold commands) s made.1).0 in
      let good = found_is IsGoodSale on_line (sold commands) s ok.sales sold_at in
      let named = found_is (Named commands) on_line (sold commands) s (all_named commands) sold_at in
      let none = λ (first : format_of commands ≡ One). found_is (λ (t : SaleRecord). t.discount ≡ 0) on_line (sold commands) s (ok.undiscounted first) sold_at in
      ap (fact_layout (format_of commands)).is_valid made.2 ∙ valid_in (format_of commands) (fact_of commands s) (good_fact s good named) good.discount none
