-- What the query of a statement answers.
use Rattle.std.proofs.Common.{◌≡◌, ℕ, List, [], ◌∷◌, ◌++◌, map, filter, Bool, true, false, cond, None, refl, ap, subst, ◌∙◌, nat_le, ◌-◌, ◌^◌}
use Rattle.std.specs.List.{list_all, flat_map}
use Rattle.std.specs.List.Sorted.{IsPermutation, IsSorted}
use Rattle.sqlite_value.specs.declared.value.Value.TheVariants.{Null}
use Rattle.sqlite_value.specs.declared.keys.Key.{Key}
use Rattle.sqlite.specs.Order.{Row}
use Rattle.sqlite.specs.Tree.{Trees}
use Rattle.sqlite.specs.Term.{Term}
use Rattle.sqlite.specs.Query.{Output, output, output_cmp, IsAnswerAs}
use Rattle.sqlite.specs.Program.{overlay, IsProgramAnswer}
use Rattle.wh_rows.specs.Statements.{reading}
use Rattle.wh_rows.specs.Meaning.{passes}

pub overlay_none : (db : Trees) (t : ℕ) → overlay db [] t ≡ db t
overlay_none db t = elim (nat_le (2 ^ 31) t) as (λ b. Rattle.std.specs.Prelude.unwrap_or (cond b (Rattle.std.specs.Prelude.slice_get [] (t - 2 ^ 31)) None) (db t) ≡ db t) [ true ↦ refl | false ↦ refl ]

pub one_each : {A B : Type 0} (p : A → Bool) (f : A → B) (xs : List A) → flat_map (λ x. cond (p x) (f x ∷ []) []) xs ≡ map f (filter p xs)
one_each p f [] = refl
one_each p f (x ∷ xs) = elim (p x) as (λ b. (cond b (f x ∷ []) [] ++ flat_map (λ x. cond (p x) (f x ∷ []) []) xs) ≡ map f (cond b (x ∷ filter p xs) (filter p xs))) [
  | true ↦ ap (λ l. f x ∷ l) (one_each p f xs)
  | false ↦ one_each p f xs
]

pub record IsRead (db : Trees) (params : Row) (tree : ℕ) (tests project : List Term) (order : List (Term × Key)) (rows : List Row) : Type 0 where
  pub ordered : List Output
  pub same : IsPermutation (map (λ row. output (reading tree tests project order) (params ∷ row ∷ [])) (filter (passes params tests) (db tree))) ordered
  pub sorted : IsSorted (output_cmp (reading tree tests project order)) ordered
  pub shown : rows ≡ map (λ (o : Output). o.1) ordered

pub map-map : {A B C : Type 0} (g : B → C) (f : A → B) (xs : List A) → map g (map f xs) ≡ map (λ x. g (f x)) xs
map-map g f [] = refl
map-map g f (x ∷ xs) = ap (λ l. g (f x) ∷ l) (map-map g f xs)

pub is_read : (db : Trees) (params : Row) (tree : ℕ) (tests project : List Term) (order : List (Term × Key)) (rows : List Row)
    → IsProgramAnswer [] (reading tree tests project order) db params rows → IsRead db params tree tests project order rows
is_read db params tree tests project order rows h =
    let q = reading tree tests project order in
    let a : IsAnswerAs Null q (overlay db []) params rows = h Null in
    let staged : a.staged ≡ map (λ row. params ∷ row ∷ []) (filter (passes params tests) (db tree)) =
    a.grouped ∙ rw overlay_none (one_each (passes params tests) (λ row. params ∷ row ∷ []) (db tree)) in
    let kept : a.kept ≡ map (λ row. output q (params ∷ row ∷ [])) (filter (passes params tests) (db tree)) =
    a.distinct ∙ ap (map (output q)) staged ∙ map-map (output q) (λ row. params ∷ row ∷ []) _ in
    record { ordered = a.ordered; same = subst (λ k. IsPermutation k a.ordered) kept a.same; sorted = a.sorted; shown = a.shown }
