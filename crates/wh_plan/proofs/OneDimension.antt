-- A batch of one dimension leaves the others' members and rows.
use Rattle.std.proofs.Common.{◌≡◌, ℕ, suc, ◌-◌, true, false, cond, List, [], ◌∷◌, ◌++◌, length, map, Some, None, refl, sym, ◌∙◌, ap, subst, append-nil, arith}
use Rattle.std.specs.Prelude.{bytes_eq, filter_map}
use Rattle.std.proofs.lemmas.Cmp.{nat_cmp_total}
use Rattle.std.specs.List.{range_with_len}
use Rattle.wh_policy.specs.declared.attribute.Dim.{Dim}
use Rattle.wh_policy.specs.declared.attribute.Dim.TheVariants.{Product, Store, Customer}
use Rattle.wh_policy.specs.declared.policy.Policy.{Policy}
use Rattle.wh_policy.specs.declared.record.DimensionRecord.{DimensionRecord}
use Rattle.wh_policy.specs.Written.{IsSound}
use Rattle.wh_history.specs.Keys.{distinct}
use Rattle.wh_history.specs.Accepted.{Accepted, Anchor, Describes, same_dim, members, policy_after}
use Rattle.wh_history.specs.Plan.{IsRowPlan}
use Rattle.wh_history.specs.Tables.{dimension_row}
use Rattle.wh_history.specs.declared.plan.Edit.{Edit}
use Rattle.wh_history.specs.declared.rows.DimRow.{DimRow}
use Rattle.wh_history.proofs.Basics.{some_is}
use Rattle.wh_rows.specs.declared.key.MemberKey.{MemberKey}
use Rattle.wh_rows.specs.Rows as row
use Rattle.wh_model.specs.Defined.{member_at}
use Rattle.wh_model.specs.Laws.{ShowsNoProfile}
use Rattle.wh_plan.specs.BatchRows.{BatchRows, rows_brought, with_rows, numbers_after, members_behind, new_members}
use Rattle.wh_plan.proofs.Plans.{empty_plan, made_mapped}
use Rattle.wh_model.proofs.GrownOthers.{same_dim_is, mentions_stay, table_stays, plain_table_stays}
use Rattle.wh_model.proofs.GrownPlain.{sound_policies_show_none}

-- ---- no member

pub none_behind : (low high : ℕ) → high ≡ low → numbers_after low high ≡ []
none_behind low high same = let none : high - low ≡ 0 = omega (arith, same) in ap (range_with_len (suc low)) none

alone : (xs ys zs : List MemberKey) → ys ≡ [] → zs ≡ [] → xs ++ ys ++ zs ≡ xs
alone xs [] [] first second = append-nil (xs ++ []) ∙ append-nil xs
alone xs [] (z ∷ zs) first second = absurd cc
alone xs (y ∷ ys) zs first second = absurd cc

joined : (dim : Dim) (keys : Dim → List MemberKey) → ((other : Dim) → same_dim other dim ≡ false → keys other ≡ []) → keys Product ++ keys Store ++ keys Customer ≡ keys dim
joined Product keys none = alone (keys Product) (keys Store) (keys Customer) (none Store refl) (none Customer refl)
joined Store keys none = rw (none Product refl, none Customer refl) (append-nil (keys Store))
joined Customer keys none = rw (none Product refl, none Store refl) refl

module _ (dim : Dim) (commands : List Accepted) (c : Accepted) (records : List DimensionRecord) (is : c.content ≡ Describes dim records) where
  abbrev after : List Accepted
  after = commands ++ c ∷ []

  no_members : (other : Dim) → same_dim other dim ≡ false → members_behind commands after other ≡ []
  no_members other apart =
      let as_many : length (members other after) ≡ length (members other commands) = ap (λ ms. length (distinct bytes_eq (map (λ (a : Anchor). a.natural) ms))) (mentions_stay dim commands c records is other apart) in
      ap (map (λ n. record { dim = other; durable = n })) (none_behind (length (members other commands)) (length (members other after)) as_many)

  -- the new members are those of the batch's dimension
  pub members_told : filter_map (member_at (commands ++ c ∷ [])) (new_members commands (commands ++ c ∷ []))
      ≡ filter_map (λ n. member_at (commands ++ c ∷ []) (record { dim = dim; durable = n })) (numbers_after (length (members dim commands)) (length (members dim (commands ++ c ∷ []))))
  members_told =
      ap (filter_map (member_at after)) (joined dim (members_behind commands after) no_members)
      ∙ made_mapped (λ n. record { dim = dim; durable = n }) (member_at after) (numbers_after (length (members dim commands)) (length (members dim after)))

  module _ (policy : Policy) (governed : policy_after None commands ≡ Some policy) (sound : IsSound policy) where
    plain : (other : Dim) → same_dim other dim ≡ false → same_dim Customer dim ≡ true → ShowsNoProfile commands other
    plain Product apart here = (sound_policies_show_none commands (λ p p_is. subst IsSound (some_is policy p (sym governed ∙ p_is)) sound)).0
    plain Store apart here = (sound_policies_show_none commands (λ p p_is. subst IsSound (some_is policy p (sym governed ∙ p_is)) sound)).1
    plain Customer apart here = absurd cc

    stays : (other : Dim) → same_dim other dim ≡ false → (key : ℕ) → dimension_row after other key ≡ dimension_row commands other key
    stays other apart key =
        elim (same_dim Customer dim) as (λ b. (same_dim Customer dim ≡ b) → dimension_row after other key ≡ dimension_row commands other key) [
          | true ↦ λ here. plain_table_stays dim commands c records is other apart (plain other apart here) key
          | false ↦ λ none. table_stays dim commands c records is other apart none key
        ] refl

    -- the plan of the batch's dimension, and none for the others
    planned_for : (rows : List (Edit DimRow ℕ)) → IsRowPlan (dimension_row commands dim) (dimension_row (commands ++ c ∷ []) dim) rows
        → (other : Dim) → IsRowPlan (dimension_row commands other) (dimension_row (commands ++ c ∷ []) other) (cond (same_dim other dim) rows [])
    planned_for rows plan other =
        elim (same_dim other dim) as (λ b. (same_dim other dim ≡ b) → IsRowPlan (dimension_row commands other) (dimension_row after other) (cond b rows [])) [
          | true ↦ λ same. subst (λ d. IsRowPlan (dimension_row commands d) (dimension_row after d) rows) (sym (same_dim_is other dim same)) plan
          | false ↦ λ apart. empty_plan row.product nat_cmp_total (dimension_row commands other) (dimension_row after other) (stays other apart)
        ] refl

    pub all_planned : (none : BatchRows) (rows : List (Edit DimRow ℕ)) → none.products ≡ [] → none.stores ≡ [] → none.customers ≡ []
        → IsRowPlan (dimension_row commands dim) (dimension_row (commands ++ c ∷ []) dim) rows
        → (other : Dim) → IsRowPlan (dimension_row commands other) (dimension_row (commands ++ c ∷ []) other) (rows_brought other (with_rows dim rows none))
    all_planned none rows products stores customers plan Product = subst (λ left. IsRowPlan (dimension_row commands Product) (dimension_row after Product) (cond (same_dim Product dim) rows left)) (sym products) (planned_for rows plan Product)
    all_planned none rows products stores customers plan Store = subst (λ left. IsRowPlan (dimension_row commands Store) (dimension_row after Store) (cond (same_dim Store dim) rows left)) (sym stores) (planned_for rows plan Store)
    all_planned none rows products stores customers plan Customer = subst (λ left. IsRowPlan (dimension_row commands Customer) (dimension_row after Customer) (cond (same_dim Customer dim) rows left)) (sym customers) (planned_for rows plan Customer)
