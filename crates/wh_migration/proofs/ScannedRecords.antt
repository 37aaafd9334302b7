-- The combinations of the stored records of customers, as the table is read a part at a time.
use Rattle.std.proofs.Common.{◌≡◌, List, [], ◌∷◌, ℕ, sym, ap, ◌∙◌}
use Rattle.std.specs.Prelude.{flat_map}
use Rattle.wh_policy.specs.declared.attribute.AttributeType.{AttributeType}
use Rattle.wh_rows.specs.declared.rows.ChangeRow.{ChangeRow}
use Rattle.wh_migration.specs.Migration.{stored_by}
use Rattle.wh_plan.specs.Profiles.{with_combinations}
use Rattle.wh_plan.proofs.Learning.{with_append}

-- one record more is read: with those of the records that are left, those so far are still those of all
pub combined_further : (kinds : List AttributeType) (before now : List (List (List ℕ))) (r : ChangeRow) (left rest : List ChangeRow) (all : List (List (List ℕ))) → now ≡ with_combinations before (stored_by kinds r) → left ≡ r ∷ rest
    → with_combinations before (flat_map (stored_by kinds) left) ≡ all → with_combinations now (flat_map (stored_by kinds) rest) ≡ all
combined_further kinds before now r left rest all made is so_far =
    ap (λ cs. with_combinations cs (flat_map (stored_by kinds) rest)) made
    ∙ sym (with_append before (stored_by kinds r) (flat_map (stored_by kinds) rest))
    ∙ ap (λ rs. with_combinations before (flat_map (stored_by kinds) rs)) (sym is)
    ∙ so_far

-- no record is left
pub combined_whole : (kinds : List AttributeType) (before : List (List (List ℕ))) (left : List ChangeRow) (all : List (List (List ℕ))) → left ≡ []
    → with_combinations before (flat_map (stored_by kinds) left) ≡ all → before ≡ all
combined_whole kinds before left all none so_far = ap (λ rs. with_combinations before (flat_map (stored_by kinds) rs)) (sym none) ∙ so_far
