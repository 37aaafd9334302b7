-- Lines under other labels in the same order, and lines of some labels alone.
use Rattle.std.proofs.Common.{◌≡◌, Bool, true, false, cond, List, [], ◌∷◌, map, refl, sym, ◌∙◌, ap}
use Rattle.std.specs.Prelude.{filter}
use Rattle.std.specs.Cmp.{IsTotalOrder}
use Rattle.std.specs.Ordering.{match_ordering, is_eq, eq_by_cmp}
use Rattle.std.specs.declared.cmp.Ordering.{Ordering}
use Rattle.std.specs.declared.cmp.Ordering.TheVariants.{Less, Equal, Greater}
use Rattle.std.specs.BTreeSet.{insert_key}
use Rattle.wh_report.specs.Sums.{Figures}
use Rattle.wh_report.specs.Lines.{Labelled, figures, sold_as, labels, lines}
use Rattle.wh_report.proofs.AddedLines.{Above, Up, of_label, lines_by, above_too, up-labels}

-- ---- under other labels

pub map-match : {A B : Type 0} (f : A → B) (o : Ordering) (x y z : List A) → map f (match_ordering o x y z) ≡ match_ordering o (map f x) (map f y) (map f z)
map-match f Less x y z = refl
map-match f Equal x y z = refl
map-match f Greater x y z = refl

module _ {L M : Type 0} (cmp : L → L → Ordering) (other : M → M → Ordering) (f : L → M) (same : (a b : L) → other (f a) (f b) ≡ cmp a b) where
  abbrev pub relabel : Labelled L → Labelled M
  relabel s = record { label = f s.label; measures = s.measures }

  insert-map : (ls : List L) (k : L) → insert_key other (map f ls) (f k) ≡ map f (insert_key cmp ls k)
  insert-map [] k = refl
  insert-map (l ∷ ls) k =
      ap (λ o. match_ordering o (f k ∷ f l ∷ map f ls) (f l ∷ map f ls) (f l ∷ insert_key other (map f ls) (f k))) (same k l)
      ∙ ap (λ ks. match_ordering (cmp k l) (f k ∷ f l ∷ map f ls) (f l ∷ map f ls) (f l ∷ ks)) (insert-map ls k)
      ∙ sym (map-match f (cmp k l) (k ∷ l ∷ ls) (l ∷ ls) (l ∷ insert_key cmp ls k))

  labels-map : (sales : List (Labelled L)) → labels other (map relabel sales) ≡ map f (labels cmp sales)
  labels-map [] = refl
  labels-map (s ∷ sales) = ap (λ ls. insert_key other ls (f s.label)) (labels-map sales) ∙ insert-map (labels cmp sales) s.label

  sold-map : (l : L) (sales : List (Labelled L)) → sold_as other (f l) (map relabel sales) ≡ sold_as cmp l sales
  sold-map l [] = refl
  sold-map l (s ∷ sales) =
      ap (λ o. map (λ (t : Labelled M). t.measures) (cond (is_eq o) (relabel s ∷ filter (λ (t : Labelled M). eq_by_cmp other t.label (f l)) (map relabel sales)) (filter (λ (t : Labelled M). eq_by_cmp other t.label (f l)) (map relabel sales)))) (same s.label l)
      ∙ elim (is_eq (cmp s.label l)) as (λ b. map (λ (t : Labelled M). t.measures) (cond b (relabel s ∷ filter (λ (t : Labelled M). eq_by_cmp other t.label (f l)) (map relabel sales)) (filter (λ (t : Labelled M). eq_by_cmp other t.label (f l)) (map relabel sales)))
      ≡ map (λ (t : Labelled L). t.measures) (cond b (s ∷ filter (λ (t : Labelled L). eq_by_cmp cmp t.label l) sales) (filter (λ (t : Labelled L). eq_by_cmp cmp t.label l) sales))) [
        | true ↦ ap (λ ms. s.measures ∷ ms) (sold-map l sales)
        | false ↦ sold-map l sales
      ]

  lines_under : (ls : List L) (of : M → Figures) (own : L → Figures) → ((l : L) → of (f l) ≡ own l) → lines_by of (map f ls) ≡ map (λ (e : L × Figures). (f e.0, e.1)) (lines_by own ls)
  lines_under [] of own is = refl
  lines_under (l ∷ ls) of own is =
      ap (λ t. (f l, t) ∷ lines_by of (map f ls)) (is l) ∙ ap (λ es. (f l, own l) ∷ es) (lines_under ls of own is)

  pub lines-map : (sales : List (Labelled L)) → lines other (map relabel sales) ≡ map (λ e. (f e.0, e.1)) (lines cmp sales)
  unfolding lines
  lines-map sales =
      ap (lines_by (of_label other (map relabel sales))) (labels-map sales)
      ∙ lines_under (labels cmp sales) (of_label other (map relabel sales)) (of_label cmp sales) (λ l. ap figures (sold-map l sales))

-- ---- of some labels alone

module _ {L : Type 0} (cmp : L → L → Ordering) (total : IsTotalOrder cmp) (exact : (x y : L) → cmp x y ≡ Equal → x ≡ y) (p : L → Bool) where
  abbrev pub has_such : Labelled L → Bool
  has_such s = p s.label

  above_filter : (k : L) (ls : List L) → Above cmp k ls → Above cmp k (filter p ls)
  above_filter k [] up = tt
  above_filter k (l ∷ ls) up = elim (p l) as (λ b. Above cmp k (cond b (l ∷ filter p ls) (filter p ls))) [ true ↦ (up.0, above_filter k ls up.1) | false ↦ above_filter k ls up.1 ]

  insert_first : (k : L) (ls : List L) → Above cmp k ls → insert_key cmp ls k ≡ k ∷ ls
  insert_first k [] up = refl
  insert_first k (l ∷ ls) up = ap (λ o. match_ordering o (k ∷ l ∷ ls) (l ∷ ls) (l ∷ insert_key cmp ls k)) up.0

  insert_such : (k : L) (ls : List L) → p k ≡ true → Up cmp ls → filter p (insert_key cmp ls k) ≡ insert_key cmp (filter p ls) k
  insert_such k [] such up = ap (λ b. cond b (k ∷ []) []) such
  insert_such k (l ∷ ls) such up =
      elim (cmp k l) as (λ o. (cmp k l ≡ o) → filter p (match_ordering o (k ∷ l ∷ ls) (l ∷ ls) (l ∷ insert_key cmp ls k)) ≡ insert_key cmp (filter p (l ∷ ls)) k) [
        | Less ↦ λ e.
            ap (λ b. cond b (k ∷ filter p (l ∷ ls)) (filter p (l ∷ ls))) such
            ∙ sym (insert_first k (filter p (l ∷ ls)) (above_filter k (l ∷ ls) (e, above_too cmp total exact k l ls e up.0)))
        | Equal ↦ λ e.
            let here : p l ≡ true = sym (ap p (exact k l e)) ∙ such in
            ap (λ b. cond b (l ∷ filter p ls) (filter p ls)) here
            ∙ sym (ap (λ b. insert_key cmp (cond b (l ∷ filter p ls) (filter p ls)) k) here ∙ ap (λ o. match_ordering o (k ∷ l ∷ filter p ls) (l ∷ filter p ls) (l ∷ insert_key cmp (filter p ls) k)) e)
        | Greater ↦ λ e.
            let rest = insert_such k ls such up.1 in
            elim (p l) as (λ b. cond b (l ∷ filter p (insert_key cmp ls k)) (filter p (insert_key cmp ls k)) ≡ insert_key cmp (cond b (l ∷ filter p ls) (filter p ls)) k) [
              | true ↦ ap (λ ks. l ∷ ks) rest ∙ sym (ap (λ o. match_ordering o (k ∷ l ∷ filter p ls) (l ∷ filter p ls) (l ∷ insert_key cmp (filter p ls) k)) e)
              | false ↦ rest
            ]
      ] refl

  insert_other : (k : L) (ls : List L) → p k ≡ false → filter p (insert_key cmp ls k) ≡ filter p ls
  insert_other k [] none = ap (λ b. cond b (k ∷ []) []) none
  insert_other k (l ∷ ls) none =
      elim (cmp k l) as (λ o. filter p (match_ordering o (k ∷ l ∷ ls) (l ∷ ls) (l ∷ insert_key cmp ls k)) ≡ filter p (l ∷ ls)) [
        | Less ↦ ap (λ b. cond b (k ∷ filter p (l ∷ ls)) (filter p (l ∷ ls))) none
        | Equal ↦ refl
        | Greater ↦ ap (λ ks. cond (p l) (l ∷ ks) ks) (insert_other k ls none)
      ]

  labels-filter : (sales : List (Labelled L)) → labels cmp (filter has_such sales) ≡ filter p (labels cmp sales)
  labels-filter [] = refl
  labels-filter (s ∷ sales) =
      elim (p s.label) as (λ b. (p s.label ≡ b) → labels cmp (cond b (s ∷ filter has_such sales) (filter has_such sales)) ≡ filter p (insert_key cmp (labels cmp sales) s.label)) [
        | true ↦ λ e. ap (λ ls. insert_key cmp ls s.label) (labels-filter sales) ∙ sym (insert_such s.label (labels cmp sales) e (up-labels cmp total exact sales))
        | false ↦ λ e. labels-filter sales ∙ sym (insert_other s.label (labels cmp sales) e)
      ] refl

  is_equal : (x y : L) → eq_by_cmp cmp x y ≡ true → x ≡ y
  is_equal x y e = elim (cmp x y) as (λ o. (cmp x y ≡ o) → is_eq o ≡ true → x ≡ y) [ Less ↦ λ is h. absurd cc | Equal ↦ λ is h. exact x y is | Greater ↦ λ is h. absurd cc ] refl e

  sold-filter : (l : L) → p l ≡ true → (sales : List (Labelled L)) → sold_as cmp l (filter has_such sales) ≡ sold_as cmp l sales
  sold-filter l such [] = refl
  sold-filter l such (s ∷ sales) =
      let rest = sold-filter l such sales in
      elim (p s.label) as (λ b. (p s.label ≡ b) → sold_as cmp l (cond b (s ∷ filter has_such sales) (filter has_such sales)) ≡ sold_as cmp l (s ∷ sales)) [
        | true ↦ λ e. elim (eq_by_cmp cmp s.label l) as (λ b. map (λ (t : Labelled L). t.measures) (cond b (s ∷ filter (λ (t : Labelled L). eq_by_cmp cmp t.label l) (filter has_such sales)) (filter (λ (t : Labelled L). eq_by_cmp cmp t.label l) (filter has_such sales)))
            ≡ map (λ (t : Labelled L). t.measures) (cond b (s ∷ filter (λ (t : Labelled L). eq_by_cmp cmp t.label l) sales) (filter (λ (t : Labelled L). eq_by_cmp cmp t.label l) sales))) [
              | true ↦ ap (λ ms. s.measures ∷ ms) rest
              | false ↦ rest
            ]
        | false ↦ λ e. rest ∙ elim (eq_by_cmp cmp s.label l) as (λ b. (eq_by_cmp cmp s.label l ≡ b) → sold_as cmp l sales ≡ map (λ (t : Labelled L). t.measures) (cond b (s ∷ filter (λ (t : Labelled L). eq_by_cmp cmp t.label l) sales) (filter (λ (t : Labelled L). eq_by_cmp cmp t.label l) sales))) [
          | true ↦ λ is. let here : p s.label ≡ true = ap p (is_equal s.label l is) ∙ such in absurd cc
          | false ↦ λ is. refl
        ] refl
      ] refl

  lines_such : (ls : List L) (of own : L → Figures) → ((l : L) → p l ≡ true → of l ≡ own l) → lines_by of (filter p ls) ≡ filter (λ (e : L × Figures). p e.0) (lines_by own ls)
  lines_such [] of own is = refl
  lines_such (l ∷ ls) of own is =
      let rest = lines_such ls of own is in
      elim (p l) as (λ b. (p l ≡ b) → lines_by of (cond b (l ∷ filter p ls) (filter p ls)) ≡ cond b ((l, own l) ∷ filter (λ (e : L × Figures). p e.0) (lines_by own ls)) (filter (λ (e : L × Figures). p e.0) (lines_by own ls))) [
        | true ↦ λ e. ap (λ t. (l, t) ∷ lines_by of (filter p ls)) (is l e) ∙ ap (λ es. (l, own l) ∷ es) rest
        | false ↦ λ e. rest
      ] refl

  pub lines-filter : (sales : List (Labelled L)) → lines cmp (filter has_such sales) ≡ filter (λ e. p e.0) (lines cmp sales)
  unfolding lines
  lines-filter sales =
      ap (lines_by (of_label cmp (filter has_such sales))) (labels-filter sales)
      ∙ lines_such (labels cmp sales) (of_label cmp (filter has_such sales)) (of_label cmp sales) (λ l such. ap figures (sold-filter l such sales))
