-- Where two neighbouring columns are exchanged, the lines have these two labels exchanged, and stand in another order.
use Rattle.std.proofs.Common.{◌≡◌, ℕ, zero, suc, Bool, true, false, cond, ◌||◌, List, [], ◌∷◌, map, refl, sym, ◌∙◌, ap, ap₂, subst}
use Rattle.std.specs.Prelude.{filter}
use Rattle.std.specs.List.{list_any}
use Rattle.std.specs.List.Sorted.{IsPermutation}
use Rattle.std.specs.Cmp.{IsTotalOrder}
use Rattle.std.specs.Ordering.{match_ordering, is_eq, eq_by_cmp, on}
use Rattle.std.specs.declared.cmp.Ordering.{Ordering}
use Rattle.std.specs.declared.cmp.Ordering.TheVariants.{Less, Equal, Greater}
use Rattle.std.specs.BTreeMap.{is_at}
use Rattle.std.specs.BTreeSet.{insert_key}
use Rattle.std.proofs.lemmas.Cmp.{tied_itself, on_total}
use Rattle.std.proofs.lemmas.List.Sorted.{IsPermutation-refl, IsPermutation-sym, IsPermutation-trans, IsPermutation-cons, IsPermutation-middle, IsPermutation-map}
use Rattle.wh_policy.specs.declared.record.SaleRecord.{SaleRecord}
use Rattle.wh_history.specs.Accepted.{Accepted, standing}
use Rattle.wh_report.specs.Sums.{Figures}
use Rattle.wh_report.specs.Lines.{Labelled, figures, sold_as, labels, lines}
use Rattle.wh_report.proofs.AddedLines.{Above, Up, of_label, lines_by, above_too, up-labels, members}
use Rattle.wh_report.proofs.MappedLines.{relabel, lines-map}
use Rattle.wh_query.specs.Answer.{label_in, labels_in, is_in, measures_of, sold_in, answer}
use Rattle.wh_query.specs.Asked.{ColumnAsked}
use Rattle.wh_query.specs.Laws.{exchanged, ColumnsOrderLines}
use Rattle.wh_query.specs.Words.{by_texts}
use Rattle.wh_query.proofs.Texts.{texts_total, same_texts}

any_same : {X : Type 0} (p q : X → Bool) (xs : List X) → ((x : X) → p x ≡ q x) → list_any p xs ≡ list_any q xs
any_same p q [] same = refl
any_same p q (x ∷ xs) same = ap₂ ◌||◌ (same x) (any_same p q xs same)

-- ---- a label more

module _ {L : Type 0} (cmp : L → L → Ordering) where
  -- one that isn't there comes to the others
  insert_new : (k : L) (ls : List L) → list_any (is_at (cmp k)) ls ≡ false → IsPermutation (k ∷ ls) (insert_key cmp ls k)
  insert_new k [] none = IsPermutation-refl (k ∷ [])
  insert_new k (l ∷ ls) none =
      elim (cmp k l) as (λ o. (is_eq o || list_any (is_at (cmp k)) ls) ≡ false → IsPermutation (k ∷ l ∷ ls) (match_ordering o (k ∷ l ∷ ls) (l ∷ ls) (l ∷ insert_key cmp ls k))) [
        | Less ↦ λ h. IsPermutation-refl (k ∷ l ∷ ls)
        | Equal ↦ λ h. absurd cc
        | Greater ↦ λ h. IsPermutation-trans (k ∷ l ∷ ls) (l ∷ k ∷ ls) (l ∷ insert_key cmp ls k) (IsPermutation-sym (l ∷ k ∷ ls) (k ∷ l ∷ ls) (IsPermutation-middle (l ∷ []) k ls)) (IsPermutation-cons l (k ∷ ls) (insert_key cmp ls k) (insert_new k ls h))
      ] none

  none_above : (k : L) (ls : List L) → Above cmp k ls → list_any (is_at (cmp k)) ls ≡ false
  none_above k [] up = refl
  none_above k (l ∷ ls) up = ap (λ o. is_eq o || list_any (is_at (cmp k)) ls) up.0 ∙ none_above k ls up.1

  -- one that is there changes nothing
  insert_there : (total : IsTotalOrder cmp) (exact : (x y : L) → cmp x y ≡ Equal → x ≡ y) (k : L) (ls : List L) → Up cmp ls → list_any (is_at (cmp k)) ls ≡ true → insert_key cmp ls k ≡ ls
  insert_there total exact k [] up there = absurd cc
  insert_there total exact k (l ∷ ls) up there =
      elim (cmp k l) as (λ o. (cmp k l ≡ o) → (is_eq o || list_any (is_at (cmp k)) ls) ≡ true → match_ordering o (k ∷ l ∷ ls) (l ∷ ls) (l ∷ insert_key cmp ls k) ≡ l ∷ ls) [
        | Less ↦ λ e h. let none = none_above k ls (above_too cmp total exact k l ls e up.0) in absurd cc
        | Equal ↦ λ e h. refl
        | Greater ↦ λ e h. ap (λ ks. l ∷ ks) (insert_there total exact k ls up.1 h)
      ] refl there

-- ---- in another order, by which the same labels are one

lines_same : {L : Type 0} (old new : L → Figures) (ls : List L) → ((l : L) → old l ≡ new l) → lines_by old ls ≡ lines_by new ls
lines_same old new [] same = refl
lines_same old new (l ∷ ls) same = ap₂ (λ t es. (l, t) ∷ es) (same l) (lines_same old new ls same)

module _ {L : Type 0} (cmp other : L → L → Ordering) (total : IsTotalOrder cmp) (exact : (x y : L) → cmp x y ≡ Equal → x ≡ y) (other_total : IsTotalOrder other) (other_exact : (x y : L) → other x y ≡ Equal → x ≡ y) (same : (x y : L) → is_eq (other x y) ≡ is_eq (cmp x y)) where
  there_too : (k : L) (sales : List (Labelled L)) → list_any (is_at (other k)) (labels other sales) ≡ list_any (is_at (cmp k)) (labels cmp sales)
  there_too k sales =
      members other other_total other_exact (is_at (other k)) sales
      ∙ any_same (λ (s : Labelled L). is_eq (other k s.label)) (λ (s : Labelled L). is_eq (cmp k s.label)) sales (λ s. same k s.label)
      ∙ sym (members cmp total exact (is_at (cmp k)) sales)

  labels_shuffled : (sales : List (Labelled L)) → IsPermutation (labels cmp sales) (labels other sales)
  labels_shuffled [] = IsPermutation-refl []
  labels_shuffled (s ∷ sales) =
      let k = s.label in
      let ls = labels cmp sales in
      let ks = labels other sales in
      let rest = labels_shuffled sales in
      elim (list_any (is_at (cmp k)) ls) as (λ b. (list_any (is_at (cmp k)) ls ≡ b) → IsPermutation (insert_key cmp ls k) (insert_key other ks k)) [
        | true ↦ λ e.
            subst (λ (xs : List L). IsPermutation xs (insert_key other ks k)) (sym (insert_there cmp total exact k ls (up-labels cmp total exact sales) e))
            (subst (λ (xs : List L). IsPermutation ls xs) (sym (insert_there other other_total other_exact k ks (up-labels other other_total other_exact sales) (there_too k sales ∙ e))) rest)
        | false ↦ λ e.
            IsPermutation-trans (insert_key cmp ls k) (k ∷ ls) (insert_key other ks k) (IsPermutation-sym (k ∷ ls) (insert_key cmp ls k) (insert_new cmp k ls e))
            (IsPermutation-trans (k ∷ ls) (k ∷ ks) (insert_key other ks k) (IsPermutation-cons k ls ks rest) (insert_new other k ks (there_too k sales ∙ e)))
      ] refl

  sold_same : (l : L) (sales : List (Labelled L)) → sold_as cmp l sales ≡ sold_as other l sales
  sold_same l [] = refl
  sold_same l (s ∷ sales) =
      let rest = sold_same l sales in
      let more : List (Labelled L) = filter (λ (t : Labelled L). eq_by_cmp other t.label l) sales in
      sym
      (ap (λ b. map (λ (t : Labelled L). t.measures) (cond b (s ∷ more) more)) (same s.label l)
      ∙ elim (is_eq (cmp s.label l)) as (λ b. map (λ (t : Labelled L). t.measures) (cond b (s ∷ more) more)
      ≡ map (λ (t : Labelled L). t.measures) (cond b (s ∷ filter (λ (t : Labelled L). eq_by_cmp cmp t.label l) sales) (filter (λ (t : Labelled L). eq_by_cmp cmp t.label l) sales))) [
        | true ↦ ap (λ ms. s.measures ∷ ms) (sym rest)
        | false ↦ sym rest
      ])

  lines_shuffled : (sales : List (Labelled L)) → IsPermutation (lines cmp sales) (lines other sales)
  unfolding lines
  lines_shuffled sales =
      subst (λ es. IsPermutation (lines_by (of_label cmp sales) (labels cmp sales)) es)
      (lines_same (of_label cmp sales) (of_label other sales) (labels other sales) (λ l. ap figures (sold_same l sales)))
      (IsPermutation-map (λ (l : L). (l, of_label cmp sales l)) (labels cmp sales) (labels other sales) (labels_shuffled sales))

-- ---- under other labels, of which no two are one

module _ {L : Type 0} (cmp : L → L → Ordering) (total : IsTotalOrder cmp) (exact : (x y : L) → cmp x y ≡ Equal → x ≡ y) (f : L → L) (apart : (x y : L) → f x ≡ f y → x ≡ y) where
  abbrev renamed : L → L → Ordering
  renamed = on f cmp

  renamed_exact : (x y : L) → cmp (f x) (f y) ≡ Equal → x ≡ y
  renamed_exact x y e = apart x y (exact (f x) (f y) e)

  same_equal : (x y : L) → is_eq (cmp (f x) (f y)) ≡ is_eq (cmp x y)
  same_equal x y =
      elim (cmp (f x) (f y)) as (λ o. (cmp (f x) (f y) ≡ o) → is_eq o ≡ is_eq (cmp x y)) [
        | Less ↦ λ e. differ (ap is_eq e)
        | Equal ↦ λ e. sym (ap (λ (z : L). is_eq (cmp x z)) (sym (renamed_exact x y e)) ∙ ap is_eq (tied_itself total x))
        | Greater ↦ λ e. differ (ap is_eq e)
      ] refl
    where
      differ : is_eq (cmp (f x) (f y)) ≡ false → false ≡ is_eq (cmp x y)
      differ e = elim (cmp x y) as (λ o. (cmp x y ≡ o) → false ≡ is_eq o) [
        | Less ↦ λ is. refl
        | Equal ↦ λ is. sym e ∙ ap (λ (z : L). is_eq (cmp (f x) (f z))) (sym (exact x y is)) ∙ ap is_eq (tied_itself total (f x))
        | Greater ↦ λ is. refl
      ] refl

  lines_renamed : (sales : List (Labelled L)) → IsPermutation (map (λ (e : L × Figures). (f e.0, e.1)) (lines cmp sales)) (lines cmp (map (relabel renamed cmp f (λ a b. refl)) sales))
  lines_renamed sales =
      subst (λ es. IsPermutation (map (λ (e : L × Figures). (f e.0, e.1)) (lines cmp sales)) es) (sym (lines-map renamed cmp f (λ a b. refl) sales))
      (IsPermutation-map (λ (e : L × Figures). (f e.0, e.1)) (lines cmp sales) (lines renamed sales)
      (lines_shuffled cmp renamed total exact (on_total f total) renamed_exact same_equal sales))

-- ---- two neighbours exchanged

exchanged_map : {X Y : Type 0} (g : X → Y) (n : ℕ) (xs : List X) → map g (exchanged n xs) ≡ exchanged n (map g xs)
exchanged_map g zero [] = refl
exchanged_map g zero (x ∷ []) = refl
exchanged_map g zero (x ∷ y ∷ xs) = refl
exchanged_map g (suc n) [] = refl
exchanged_map g (suc n) (x ∷ xs) = ap (λ ys. g x ∷ ys) (exchanged_map g n xs)

back_again : {X : Type 0} (n : ℕ) (xs : List X) → exchanged n (exchanged n xs) ≡ xs
back_again zero [] = refl
back_again zero (x ∷ []) = refl
back_again zero (x ∷ y ∷ xs) = refl
back_again (suc n) [] = refl
back_again (suc n) (x ∷ xs) = ap (λ ys. x ∷ ys) (back_again n xs)

exchanged_apart : {X : Type 0} (n : ℕ) (xs ys : List X) → exchanged n xs ≡ exchanged n ys → xs ≡ ys
exchanged_apart n xs ys e = sym (back_again n xs) ∙ ap (exchanged n) e ∙ back_again n ys

module _ (commands : List Accepted) (columns : List ColumnAsked) (n : ℕ) where
  sold_exchanged : (sales : List SaleRecord) → map (λ (s : SaleRecord). record { label = labels_in commands (exchanged n columns) s; measures = measures_of s }) sales
      ≡ map (relabel (on (exchanged n) by_texts) by_texts (exchanged n) (λ a b. refl)) (map (λ (s : SaleRecord). record { label = labels_in commands columns s; measures = measures_of s }) sales)
  sold_exchanged [] = refl
  sold_exchanged (s ∷ sales) =
      ap₂ ◌∷◌ (ap (λ (ls : List (List ℕ)). record { label = ls; measures = measures_of s }) (exchanged_map (λ c. label_in commands c s) n columns)) (sold_exchanged sales)

pub columns_order_lines : ColumnsOrderLines
columns_order_lines commands q n =
    subst (λ sales. IsPermutation (map (λ (l : List (List ℕ) × Figures). (exchanged n l.0, l.1)) (answer commands q)) (lines by_texts sales))
    (sym (sold_exchanged commands q.columns n (filter (is_in commands q) (standing commands))))
    (lines_renamed by_texts texts_total same_texts (exchanged n) (exchanged_apart n) (sold_in commands q))
