-- The edits of a batch of sales.
use Rattle.std.proofs.Common.{◌≡◌, ℕ, suc, ◌-◌, List, [], ◌∷◌, ◌++◌, length, map, take, Option, Some, None, refl, sym, ◌∙◌, ap, subst, arith, length-append}
use Rattle.std.specs.Prelude.{filter_map, option_map}
use Rattle.std.specs.Option.{option_and_then}
use Rattle.std.specs.List.{cons_option}
use Rattle.std.proofs.lemmas.List.Elements.{filter_map-append}
use Rattle.wh_policy.specs.declared.attribute.Dim.{Dim}
use Rattle.wh_policy.specs.declared.attribute.Dim.TheVariants.{Product, Store, Customer}
use Rattle.wh_policy.specs.declared.record.SaleRecord.{SaleRecord}
use Rattle.wh_history.specs.Accepted.{Accepted, Sells, anchors, members, members_after, placeholders_by, profiles_of, records_by}
use Rattle.wh_history.specs.Plan.{IsRowPlan}
use Rattle.wh_history.specs.Tables.{dimension_row, change_row_in}
use Rattle.wh_history.specs.Tables as history
use Rattle.wh_history.specs.declared.plan.Edit.{Edit}
use Rattle.wh_history.specs.declared.plan.Edit.TheVariants.{Put}
use Rattle.wh_history.specs.declared.rows.DimRow.{DimRow}
use Rattle.wh_rows.specs.declared.rows.ChangeRow.{ChangeRow}
use Rattle.wh_rows.specs.declared.rows.CommandRow.{CommandRow}
use Rattle.wh_rows.specs.declared.rows.MemberRow.{MemberRow}
use Rattle.wh_model.specs.Defined.{command_at, member_at, change_at, profile_at, fact_at}
use Rattle.wh_plan.specs.Edits.{IsFactPlan}
use Rattle.wh_plan.specs.BatchRows.{BatchRows, AreBatchRows, rows_brought, numbers_after, members_behind, new_members}
use Rattle.wh_model.proofs.GrownKeys.{at_last}
use Rattle.wh_plan.proofs.OneDimension.{none_behind}
use Rattle.wh_plan.proofs.Plans.{made_mapped}
use Rattle.wh_plan.proofs.SaleBatches.Placeholders.{sales_put_placeholders}
use Rattle.wh_plan.proofs.SaleBatches.SalesRows.{members_counted}
use Rattle.wh_plan.proofs.SaleBatches.Selling.{profiles_kept}
use Rattle.wh_history.proofs.Lists.{take_front}

-- ---- lists

take_last : {X : Type 0} (xs : List X) (x : X) → take (suc (length xs)) (xs ++ x ∷ []) ≡ xs ++ x ∷ []
take_last [] x = refl
take_last (y ∷ xs) x = ap (λ zs. y ∷ zs) (take_last xs x)

none_given : {X Y : Type 0} (f : X → Option Y) → ((x : X) → f x ≡ None) → (xs : List X) → filter_map f xs ≡ []
none_given f none [] = refl
none_given f none (x ∷ xs) = ap (λ o. cons_option o (filter_map f xs)) (none x) ∙ none_given f none xs

module _ (commands : List Accepted) (c : Accepted) (sales : List SaleRecord) (is : c.content ≡ Sells sales) where
  abbrev after : List Accepted
  after = commands ++ c ∷ []

  -- ---- the members of three dimensions

  abbrev pub rows_planned : Dim → List MemberRow
  rows_planned dim = filter_map (λ n. member_at (commands ++ c ∷ []) (record { dim = dim; durable = n })) (numbers_after (length (members dim commands)) (length (members dim (commands ++ c ∷ []))))

  of_dimension : (dim : Dim) → filter_map (member_at after) (members_behind commands after dim) ≡ rows_planned dim
  of_dimension dim = made_mapped (λ n. record { dim = dim; durable = n }) (member_at after) (numbers_after (length (members dim commands)) (length (members dim after)))

  pub members_joined : (rows_planned Product ++ rows_planned Store) ++ rows_planned Customer ≡ filter_map (member_at after) (new_members commands after)
  members_joined =
      let keys = members_behind commands after in
      sym (filter_map-append (member_at after) (keys Product ++ keys Store) (keys Customer)
      ∙ ap (λ rs. rs ++ filter_map (member_at after) (keys Customer)) (filter_map-append (member_at after) (keys Product) (keys Store))
      ∙ ap (λ rs. (rs ++ filter_map (member_at after) (keys Store)) ++ filter_map (member_at after) (keys Customer)) (of_dimension Product)
      ∙ ap (λ rs. (rows_planned Product ++ rs) ++ filter_map (member_at after) (keys Customer)) (of_dimension Store)
      ∙ ap (λ rs. (rows_planned Product ++ rows_planned Store) ++ rs) (of_dimension Customer))

  -- as many placeholders are counted
  pub all_counted : length ((rows_planned Product ++ rows_planned Store) ++ rows_planned Customer) ≡ placeholders_by after (suc (length commands)) c.content
  all_counted =
      let products = members_counted Product commands c sales is (rows_planned Product) refl in
      let stores = members_counted Store commands c sales is (rows_planned Store) refl in
      let customers = members_counted Customer commands c sales is (rows_planned Customer) refl in
      let two = length-append (rows_planned Product) (rows_planned Store) in
      let three = length-append (rows_planned Product ++ rows_planned Store) (rows_planned Customer) in
      let one_less : suc (length commands) - 1 ≡ length commands = omega arith in
      let counted : length ((rows_planned Product ++ rows_planned Store) ++ rows_planned Customer) ≡ members_after after - members_after commands = omega arith in
      counted
      ∙ sym (ap (placeholders_by after (suc (length commands))) is
      ∙ ap (λ k. members_after (take (suc (length commands)) after) - members_after (take k after)) one_less
      ∙ ap (λ cs. members_after cs - members_after (take (length commands) after)) (take_last commands c)
      ∙ ap (λ cs. members_after after - members_after cs) (take_front commands (c ∷ [])))

  -- ---- no change, and no profile

  no_change : (n : ℕ) → change_at after (record { command = length after; place = n }) ≡ None
  no_change n =
      let row : history.ChangeRow → ChangeRow = λ r. record { command = length after; place = n; dim = r.dim; durable = r.durable; day = r.day; anchor = r.anchor; values = r.texts } in
      ap (λ o. option_map row (option_and_then (λ (d : Accepted). change_row_in after n d.content) o)) (at_last commands c) ∙ ap (λ content. option_map row (change_row_in after n content)) is

  no_changes : filter_map (λ n. change_at after (record { command = length after; place = n })) (numbers_after 0 (records_by c.content)) ≡ []
  no_changes = none_given (λ n. change_at after (record { command = length after; place = n })) no_change (numbers_after 0 (records_by c.content))

  no_profiles : filter_map (profile_at after) (numbers_after (suc (length (profiles_of commands))) (suc (length (profiles_of after)))) ≡ []
  no_profiles = ap (filter_map (profile_at after)) (none_behind (suc (length (profiles_of commands))) (suc (length (profiles_of after))) (ap (λ ps. suc (length ps)) (profiles_kept commands c sales is)))

  -- ---- the edits

  abbrev pub table_planned : Dim → List (Edit DimRow ℕ)
  table_planned dim = map Put (filter_map (dimension_row (commands ++ c ∷ []) dim) (numbers_after (length (anchors dim commands)) (length (anchors dim (commands ++ c ∷ [])))))

  planned : (dim : Dim) (rows : List (Edit DimRow ℕ)) → rows ≡ table_planned dim → IsRowPlan (dimension_row commands dim) (dimension_row after dim) rows
  planned dim rows made = subst (IsRowPlan (dimension_row commands dim) (dimension_row after dim)) (sym made) (sales_put_placeholders commands c dim sales is)

  abbrev counted_as : CommandRow → ℕ → CommandRow
  counted_as command count = record command { placeholders = count }

  pub rows_sold : (brought : BatchRows) (command : CommandRow) (count : ℕ) (products stores customers : List MemberRow)
      → brought.command ≡ record command { placeholders = count } → count ≡ length ((products ++ stores) ++ customers) → brought.members ≡ (products ++ stores) ++ customers
      → brought.changes ≡ [] → brought.profiles ≡ [] → IsFactPlan (fact_at commands) (fact_at (commands ++ c ∷ [])) brought.facts
      → products ≡ rows_planned Product → stores ≡ rows_planned Store → customers ≡ rows_planned Customer
      → brought.products ≡ table_planned Product → brought.stores ≡ table_planned Store → brought.customers ≡ table_planned Customer
      → command_at (commands ++ c ∷ []) (suc (length commands)) ≡ Some (record command { placeholders = placeholders_by (commands ++ c ∷ []) (suc (length commands)) c.content })
      → AreBatchRows commands c brought
  rows_sold brought command count products stores customers command_is count_is members_are changes_are profiles_are facts products_are stores_are customers_are product_rows store_rows customer_rows at =
      let all : (products ++ stores) ++ customers ≡ (rows_planned Product ++ rows_planned Store) ++ rows_planned Customer =
      ap (λ rs. (rs ++ stores) ++ customers) products_are ∙ ap (λ rs. (rows_planned Product ++ rs) ++ customers) stores_are ∙ ap (λ rs. (rows_planned Product ++ rows_planned Store) ++ rs) customers_are in
      let placeholders = placeholders_by after (suc (length commands)) c.content in
      let count_all : count ≡ placeholders = count_is ∙ ap length all ∙ all_counted in
      record {
        command = at ∙ ap Some (sym (command_is ∙ ap (counted_as command) count_all));
        members = members_are ∙ all ∙ members_joined;
        changes = changes_are ∙ sym no_changes;
        rows = rows;
        profiles = profiles_are ∙ sym no_profiles;
        facts = facts;
      }
    where
      rows : (dim : Dim) → IsRowPlan (dimension_row commands dim) (dimension_row after dim) (rows_brought dim brought)
      rows Product = planned Product brought.products product_rows
      rows Store = planned Store brought.stores store_rows
      rows Customer = planned Customer brought.customers customer_rows
