-- The rows of the members that a batch touches, as they are read, and the edits between them and those after it.
use Rattle.std.proofs.Common.{◌≡◌, ℕ, zero, suc, ◌+◌, ◌<◌, ◌==◌, Bool, true, false, cond, nat_lt, List, [], ◌∷◌, ◌++◌, length, map, drop, get_or, Option, None, refl, sym, ◌∙◌, ap, arith, append-nil}
use Rattle.std.specs.Prelude.{◌≢◌, flat_map, option_map, unwrap_or}
use Rattle.std.specs.List.{list_any, AllByRecursion}
use Rattle.std.specs.Option.{option_or}
use Rattle.std.proofs.lemmas.Bool.{lt-ltb}
use Rattle.std.proofs.lemmas.List.{append_assoc}
use Rattle.std.proofs.lemmas.List.Folds.{find-append}
use Rattle.wh_policy.specs.Policy.{policy_types}
use Rattle.wh_policy.specs.Types.{is_outrigger}
use Rattle.wh_policy.specs.declared.attribute.AttributeType.{AttributeType}
use Rattle.wh_policy.specs.declared.attribute.Dim.{Dim}
use Rattle.wh_policy.specs.declared.attribute.Dim.TheVariants.{Customer}
use Rattle.wh_policy.specs.declared.policy.Policy.{Policy}
use Rattle.wh_policy.specs.declared.record.DimensionRecord.{DimensionRecord}
use Rattle.wh_history.specs.Accepted.{Accepted, Describes, types_in, durable_key, member_of, profiles_of}
use Rattle.wh_history.specs.Laws.{RecordsHaveDays, governs}
use Rattle.wh_history.specs.Plan.{IsRowPlan, row_of}
use Rattle.wh_history.specs.Known.{KnowsEnough}
use Rattle.wh_history.specs.Rows.{rows_by}
use Rattle.wh_history.specs.Shapes.{RenderedMember, Shape, rendered_in, shape_rows}
use Rattle.wh_history.specs.Tables.{member_rows, dimension_row}
use Rattle.wh_history.specs.Touched.{touched_by}
use Rattle.wh_history.specs.declared.member.Member.{Member}
use Rattle.wh_history.specs.declared.plan.Edit.{Edit}
use Rattle.wh_history.specs.declared.rows.DimRow.{DimRow}
use Rattle.wh_history.proofs.Stays.{policy_last}
use Rattle.wh_model.specs.Laws.{ShowsNoProfile}
use Rattle.wh_plan.specs.MovedFacts.{pair_of}
use Rattle.wh_plan.specs.NewRows.{naturals_told, rows_of_members, members_among}
use Rattle.wh_plan.specs.RecordPlan.{AreTouched}
use Rattle.wh_plan.specs.declared.records.touched.TouchedMember.{TouchedMember}
use Rattle.wh_model.specs.Sound.{AreTypes}
use Rattle.wh_model.proofs.GrownPlain.{none_of}
use Rattle.wh_plan.proofs.PlanningOwners.{touched_rows_before, touched_rows_after}
use Rattle.wh_plan.proofs.MovedLists.{pairs_through}
use Rattle.wh_plan.proofs.PlanningRendered.{rendered_planned, through}
use Rattle.wh_plan.proofs.PlanningTable.{touched_rows_are_the_plan}

-- ---- one member after the other

one_further : (i : ℕ) → suc i + 1 ≡ suc (i + 1)
one_further i = omega arith

-- the member at a place was made of the natural key at that place
pub next_made : (f : List ℕ → Member) (ns : List (List ℕ)) (i : ℕ) (m : Member) → i < length (map f ns) → m ≡ get_or (map f ns) i m → (n : List ℕ) × (drop i ns ≡ n ∷ drop (i + 1) ns) × (m ≡ f n)
next_made f [] i m within is = absurd (omega arith)
next_made f (n ∷ ns) zero m within is = (n, refl, is)
next_made f (n ∷ ns) (suc i) m within is =
    let rest = next_made f ns i m (omega arith) is in
    (rest.0, rest.1 ∙ ap (λ k. rest.0 ∷ drop k (n ∷ ns)) (sym (one_further i)), rest.2)

module _ (dim : Dim) (commands : List Accepted) where
  abbrev pub Left : List (List ℕ) → List DimRow
  Left ns = rows_of_members commands dim (members_among commands dim ns)

  abbrev first_of : Bool → List ℕ → List (List ℕ) → List DimRow
  first_of b n ns = rows_of_members commands dim (cond b (n ∷ members_among commands dim ns) (members_among commands dim ns))

  -- the rows of the first member, and those of the others
  pub left_split : (n : List ℕ) (ns : List (List ℕ)) → Left (n ∷ ns) ≡ Left (n ∷ []) ++ Left ns
  left_split n ns =
      elim (nat_lt 0 (durable_key dim commands n)) as (λ b. first_of b n ns ≡ first_of b n [] ++ Left ns) [
        | true ↦ ap (λ rs. rs ++ Left ns) (sym (append-nil (member_rows commands dim n)))
        | false ↦ refl
      ]

  -- a member with a durable key has its rows there
  pub left_with : (n : List ℕ) → 0 < durable_key dim commands n → Left (n ∷ []) ≡ member_rows commands dim n
  left_with n given = let test : nat_lt 0 (durable_key dim commands n) ≡ true = lt-ltb 0 (durable_key dim commands n) given in ap (λ b. first_of b n []) test ∙ append-nil (member_rows commands dim n)

  -- and another has none
  pub left_without : (n : List ℕ) → durable_key dim commands n ≡ 0 → Left (n ∷ []) ≡ []
  left_without n none = ap (λ k. first_of (nat_lt 0 k) n []) none

row_of-append : (key : ℕ) (xs ys : List DimRow) → row_of key (xs ++ ys) ≡ option_or (row_of key xs) (row_of key ys)
row_of-append key xs ys = find-append (λ (r : DimRow). r.surrogate == key) xs ys

-- rows that are the same under a key stand for one another
pub row_behind : (key : ℕ) (found some same left : List DimRow) → row_of key some ≡ row_of key same → row_of key ((found ++ some) ++ left) ≡ row_of key (found ++ (same ++ left))
row_behind key found some same left is =
    ap (row_of key) (append_assoc found some left)
    ∙ row_of-append key found (some ++ left)
    ∙ ap (option_or (row_of key found)) (row_of-append key some left ∙ ap (λ o. option_or o (row_of key left)) is ∙ sym (row_of-append key same left))
    ∙ sym (row_of-append key found (same ++ left))

pub flat_map_same : {X Y : Type 0} (f g : X → List Y) → ((x : X) → f x ≡ g x) → (xs : List X) → flat_map f xs ≡ flat_map g xs
flat_map_same f g same [] = refl
flat_map_same f g same (x ∷ xs) = ap (λ ys. ys ++ flat_map f xs) (same x) ∙ ap (λ ys. g x ++ ys) (flat_map_same f g same xs)

-- ---- the edits

module _ (commands : List Accepted) (c : Accepted) (dim : Dim) (records : List DimensionRecord) (kinds : List AttributeType)
    (is : c.content ≡ Describes dim records) (typed : AreTypes commands dim kinds) where
  abbrev after : List Accepted
  after = commands ++ c ∷ []

  batch : governs c.content ≡ false
  batch = ap governs is

  -- products and stores show none
  shows_none : dim ≢ Customer → ShowsNoProfile commands dim
  shows_none other = ap (λ (o : Option Policy). list_any is_outrigger (unwrap_or (option_map (λ (p : Policy). policy_types p dim) o) [])) typed.governed ∙ none_of dim typed.policy typed.sound other

  pub types_after : types_in dim after ≡ kinds
  types_after = ap (λ (o : Option Policy). unwrap_or (option_map (λ (p : Policy). policy_types p dim) o) []) (policy_last None commands c batch ∙ typed.governed) ∙ sym typed.are

  pub rows_planned : (number : List (List ℕ) → Option ℕ) (stored new : List DimRow) (edits : List (Edit DimRow ℕ)) → RecordsHaveDays commands → RecordsHaveDays after
      → ((key : ℕ) → row_of key stored ≡ row_of key (Left dim commands (naturals_told records)))
      → new ≡ flat_map (rows_by kinds number) (touched_by dim commands after records).list → AllByRecursion (KnowsEnough dim kinds number (profiles_of after)) (touched_by dim commands after records).list
      → IsRowPlan (λ key. row_of key stored) (λ key. row_of key new) edits
      → IsRowPlan (dimension_row commands dim) (dimension_row after dim) edits
  rows_planned number stored new edits days days_after stored_is new_is enough plan =
      let rendered = rendered_planned dim kinds number (touched_by dim commands after records).list new new_is commands after records refl types_after enough in
      touched_rows_are_the_plan commands c dim records stored new edits is shows_none
      (λ key. stored_is key ∙ touched_rows_before commands c dim records key is days)
      (λ key. ap (row_of key) rendered ∙ touched_rows_after commands c dim records key is days_after)
      plan

-- the rows of the touched members, out of the pairs
pub rows_of_pairs : (shape : Shape) (before after : List Accepted) (records : List DimensionRecord) (touched : List TouchedMember) → AreTouched shape before after records touched
    → flat_map (λ (t : TouchedMember). t.after.rows.items) touched ≡ flat_map (shape_rows shape) (touched_by shape.dim before after records).list
rows_of_pairs shape before after records touched are =
    let ns = naturals_told records in
    sym (through (λ (p : Member × RenderedMember). p.1.rows) pair_of touched)
    ∙ ap (flat_map (λ (p : Member × RenderedMember). p.1.rows)) are.pairs
    ∙ pairs_through (λ (p : Member × RenderedMember). p.1.rows) (rendered_in shape) (member_of shape.dim before) (member_of shape.dim after) ns
    ∙ sym (through (shape_rows shape) (member_of shape.dim after) ns)
