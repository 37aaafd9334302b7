-- The combinations of the records that table change has are those of the records that were accepted.
use Rattle.std.proofs.Common.{◌≡◌, ℕ, Bool, true, cond, ◌&&◌, List, [], ◌∷◌, ◌++◌, map, filter, refl, ◌∙◌, ap}
use Rattle.std.specs.Prelude.{flat_map}
use Rattle.std.specs.FinMap.{values}
use Rattle.wh_policy.specs.Types.{is_profile}
use Rattle.wh_policy.specs.declared.attribute.AttributeType.{AttributeType}
use Rattle.wh_policy.specs.declared.attribute.Dim.TheVariants.{Product, Store, Customer}
use Rattle.wh_policy.specs.declared.record.DimensionRecord.{DimensionRecord}
use Rattle.wh_history.specs.Accepted.{Accepted, described}
use Rattle.wh_history.specs.Profiles.{combinations_of}
use Rattle.wh_history.specs.Slots.{picks}
use Rattle.wh_history.specs.Tables.{Limits}
use Rattle.wh_history.proofs.Joins.{all_weaker}
use Rattle.wh_history.proofs.Stays.{picks_from}
use Rattle.wh_rows.specs.Tables.{Tables}
use Rattle.wh_rows.specs.declared.rows.ChangeRow.{ChangeRow}
use Rattle.wh_model.specs.Defined.{AreOf}
use Rattle.wh_migration.specs.Migration.{said_in, stored_by}
use Rattle.wh_plan.specs.Profiles.{with_combinations}
use Rattle.wh_plan.specs.Reading.{HaveNoEmptyValue, given_text}
use Rattle.wh_plan.proofs.FoundChanges.{HasNoEmptyValue, Tells, read_back, read_told}
use Rattle.wh_plan.proofs.FoundMembers.{same_dim}
use Rattle.wh_plan.proofs.Learning.{distinct_with}

module _ (kinds : List AttributeType) where
  abbrev read : ChangeRow → List (List ℕ)
  read v = picks is_profile kinds (map given_text v.values)

  abbrev tell : DimensionRecord → List (List ℕ)
  tell r = picks is_profile kinds r.values

  abbrev passes : ChangeRow → Bool
  passes v = same_dim Customer v.dim && true

  stored_read : (vs : List ChangeRow) → flat_map (stored_by kinds) vs ≡ map read (filter passes vs)
  stored_read [] = refl
  stored_read (v ∷ vs) =
      let rest = stored_read vs in
      elim v.dim as (λ d. said_in kinds d v.values ++ flat_map (stored_by kinds) vs ≡ map read (cond (same_dim Customer d && true) (v ∷ filter passes vs) (filter passes vs))) [
        | Product ↦ rest
        | Store ↦ rest
        | Customer ↦ ap (λ cs. read v ∷ cs) rest
      ]

  all_kept : (rs : List DimensionRecord) → filter (λ (r : DimensionRecord). true) rs ≡ rs
  all_kept [] = refl
  all_kept (r ∷ rs) = ap (λ qs. r ∷ qs) (all_kept rs)

  module _ (limits : Limits) (commands : List Accepted) (t : Tables) (are : AreOf limits commands t) (full : HaveNoEmptyValue commands) where
    abbrev Told : DimensionRecord → Type 0
    Told = Tells Customer commands read tell (λ (v : ChangeRow). true) (λ (r : DimensionRecord). true)

    told : (r : DimensionRecord) → HasNoEmptyValue r → Told r
    told r each number place = (ap (picks is_profile kinds) (read_back r.values each) ∙ picks_from is_profile r.values _ 0 kinds, refl)

    pub combinations_found : with_combinations [] (flat_map (stored_by kinds) (values t.change)) ≡ combinations_of kinds (described Customer commands)
    combinations_found =
        ap (with_combinations []) (stored_read (values t.change)
        ∙ read_told Customer commands read tell (λ (v : ChangeRow). true) (λ (r : DimensionRecord). true) limits t are (all_weaker HasNoEmptyValue Told told (described Customer commands) (full Customer))
        ∙ ap (map tell) (all_kept (described Customer commands)))
        ∙ distinct_with [] (map tell (described Customer commands))
