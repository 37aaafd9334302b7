-- The rows that are made of the members that a batch touches.
use Rattle.std.proofs.Common.{◌≡◌, ℕ, List, [], ◌∷◌, ◌++◌, map, Option, refl, sym, ◌∙◌, ap}
use Rattle.std.specs.Prelude.{flat_map}
use Rattle.std.specs.List.{AllByRecursion}
use Rattle.wh_policy.specs.declared.attribute.AttributeType.{AttributeType}
use Rattle.wh_policy.specs.declared.attribute.Dim.{Dim}
use Rattle.wh_policy.specs.declared.record.DimensionRecord.{DimensionRecord}
use Rattle.wh_history.specs.Accepted.{Accepted, types_in, profiles_of, member_of}
use Rattle.wh_history.specs.Known.{KnowsEnough}
use Rattle.wh_history.specs.Rows.{rows_by, rows}
use Rattle.wh_history.specs.Touched.{touched_by}
use Rattle.wh_history.specs.declared.member.Member.{Member}
use Rattle.wh_history.specs.declared.rows.DimRow.{DimRow}
use Rattle.wh_history.proofs.Knowing.{rows_enough}
use Rattle.wh_plan.specs.NewRows.{naturals_told, rows_of_members}

pub through : {X Y Z : Type 0} (f : Y → List Z) (g : X → Y) (xs : List X) → flat_map f (map g xs) ≡ flat_map (λ x. f (g x)) xs
through f g [] = refl
through f g (x ∷ xs) = ap (λ zs. f (g x) ++ zs) (through f g xs)

-- the rows of members of which enough is known
pub rendered_enough : (dim : Dim) (kinds : List AttributeType) (number : List (List ℕ) → Option ℕ) (combinations : List (List (List ℕ))) (ms : List Member) → AllByRecursion (KnowsEnough dim kinds number combinations) ms
    → flat_map (rows_by kinds number) ms ≡ flat_map (rows kinds combinations) ms
rendered_enough dim kinds number combinations [] enough = refl
rendered_enough dim kinds number combinations (m ∷ ms) enough =
    ap (λ rs. rs ++ flat_map (rows_by kinds number) ms) (rows_enough kinds number combinations dim m enough.0) ∙ ap (λ rs. rows kinds combinations m ++ rs) (rendered_enough dim kinds number combinations ms enough.1)

pub rendered_planned : (dim : Dim) (kinds : List AttributeType) (number : List (List ℕ) → Option ℕ) (touched : List Member) (found : List DimRow) → found ≡ flat_map (rows_by kinds number) touched
    → (before commands : List Accepted) (records : List DimensionRecord) → touched ≡ (touched_by dim before commands records).list → types_in dim commands ≡ kinds
    → AllByRecursion (KnowsEnough dim kinds number (profiles_of commands)) touched
    → found ≡ rows_of_members commands dim (naturals_told records)
rendered_planned dim kinds number touched found made before commands records list types enough =
    made
    ∙ rendered_enough dim kinds number (profiles_of commands) touched enough
    ∙ ap (flat_map (rows kinds (profiles_of commands))) list
    ∙ ap (λ ks. flat_map (rows ks (profiles_of commands)) (touched_by dim before commands records).list) (sym types)
    ∙ through (rows (types_in dim commands) (profiles_of commands)) (member_of dim commands) (naturals_told records)
