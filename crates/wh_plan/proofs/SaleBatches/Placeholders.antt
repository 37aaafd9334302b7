-- The rows that a batch of sales brings.
use Rattle.std.proofs.Common.{◌≡◌, ℕ, zero, suc, ◌≤◌, ◌==◌, List, [], ◌∷◌, ◌++◌, length, Some, ◌∙◌, ap}
use Rattle.std.specs.Prelude.{find}
use Rattle.std.specs.Option.{option_and_then}
use Rattle.std.proofs.lemmas.Cmp.{nat_cmp_total}
use Rattle.std.specs.FinMap.{nat_cmp-IsAntisymmetric}
use Rattle.wh_policy.specs.declared.attribute.Dim.{Dim}
use Rattle.wh_policy.specs.declared.attribute.Dim.TheVariants.{Product, Store, Customer}
use Rattle.wh_policy.specs.declared.record.SaleRecord.{SaleRecord}
use Rattle.wh_history.specs.Accepted.{Accepted, Anchor, Sells, same_anchor, mentions, anchors}
use Rattle.wh_history.specs.Keys.{at_place}
use Rattle.wh_history.specs.Tables.{numbered_row, dimension_row, no_card_row}
use Rattle.wh_history.specs.declared.rows.DimRow.{DimRow}
use Rattle.wh_history.proofs.Growth.{anchors-append}
use Rattle.wh_history.proofs.Owners.{all_distinct}
use Rattle.wh_history.proofs.Stays.{types-last}
use Rattle.wh_rows.specs.Rows as row
use Rattle.wh_plan.specs.Laws.{SalesPutPlaceholders}
use Rattle.wh_plan.proofs.FoundRows.{row_key, row_past}
use Rattle.wh_model.proofs.GrownKeys.{at_front, all_at, then_same, grows_behind}
use Rattle.wh_model.proofs.GrownMembers.{Opened, opened_in_all}
use Rattle.wh_model.proofs.Listed.{number_rises}
use Rattle.wh_model.proofs.GrownUntouched.{row_in}
use Rattle.wh_plan.proofs.Plans.{grown_plan}
use Rattle.wh_plan.proofs.SaleBatches.Selling.{batch, rows_kept}

-- ---- a batch of sales

module _ (commands : List Accepted) (c : Accepted) (dim : Dim) (sales : List SaleRecord) (is : c.content ≡ Sells sales) where
  abbrev after : List Accepted
  after = commands ++ c ∷ []

  opened : (key : ℕ) (a : Anchor) → at_place key (anchors dim commands) ≡ Some a → Opened (mentions dim commands) a
  opened key a there = all_at (Opened (mentions dim commands)) key (anchors dim commands) a (all_distinct (Opened (mentions dim commands)) same_anchor (mentions dim commands) (opened_in_all dim commands)) there

  numbered_stays : (key : ℕ) → key ≤ length (anchors dim commands) → numbered_row after dim key ≡ numbered_row commands dim key
  numbered_stays key front =
      ap (λ as'. option_and_then (row_in dim after key) (at_place key as')) (anchors-append dim commands (c ∷ []))
      ∙ ap (option_and_then (row_in dim after key)) (at_front key (anchors dim commands) _ front)
      ∙ then_same (row_in dim after key) (row_in dim commands key) (at_place key (anchors dim commands))
      (λ a there. ap (find (λ (r : DimRow). r.surrogate == key)) (rows_kept commands c sales is dim a.natural (opened key a there)))

row_stays : (dim : Dim) (commands : List Accepted) (c : Accepted) (sales : List SaleRecord) → c.content ≡ Sells sales → (key : ℕ) → key ≤ length (anchors dim commands) → dimension_row (commands ++ c ∷ []) dim key ≡ dimension_row commands dim key
row_stays Product commands c sales is key front = numbered_stays commands c Product sales is key front
row_stays Store commands c sales is key front = numbered_stays commands c Store sales is key front
row_stays Customer commands c sales is zero front = ap (λ kinds. Some (no_card_row kinds)) (types-last Customer commands c (batch commands c sales is))
row_stays Customer commands c sales is (suc n) front = numbered_stays commands c Customer sales is (suc n) front

pub sales_put_placeholders : SalesPutPlaceholders
sales_put_placeholders commands c dim sales is =
    let after = commands ++ c ∷ [] in
    let low = length (anchors dim commands) in
    let high = length (anchors dim after) in
    grown_plan row.product nat_cmp_total nat_cmp-IsAntisymmetric (dimension_row after dim) (row_key after dim) (λ n. n) number_rises (dimension_row commands dim) low high (row_past commands dim)
    (λ key. grows_behind (λ n. n) low high (dimension_row commands dim) (dimension_row after dim) key (row_stays dim commands c sales is key) (row_past commands dim key) (row_past after dim key))
