-- Lines by several texts, with one sale more.
use Rattle.std.proofs.Common.{◌≡◌, ℕ, ◌≤◌, List, [], ◌∷◌, ◌++◌, map, length, Some, unwrap_or, subst, refl, sym, ◌∙◌, ap, ap₂, arith}
use Rattle.std.specs.Cmp.{IsTotalOrder}
use Rattle.std.specs.Map.{lookup, set_value}
use Rattle.std.specs.BTreeMap.{is_at, insert_entry}
use Rattle.std.specs.Ordering.{ordering_then}
use Rattle.std.specs.declared.cmp.Ordering.TheVariants.{Less, Equal, Greater}
use Rattle.std.proofs.lemmas.Cmp.{nat_list_cmp_total, lists_total}
use Rattle.wh_report.specs.Summary.{by_bytes}
use Rattle.wh_report.specs.Sums.{Figures, nothing, with_line}
use Rattle.wh_report.proofs.TextMaps.{same_label}
use Rattle.wh_report.specs.Lines.{Labelled, lines, sold_as}
use Rattle.wh_report.proofs.AddedLines.{Up, few_sold, with_sale, one_behind, lines_figures, set_is_insert, up-lines}
use Rattle.wh_query.specs.Words.{by_texts}

pub texts_total : IsTotalOrder by_texts
texts_total = lists_total nat_list_cmp_total

pub same_texts : (xs ys : List (List ℕ)) → by_texts xs ys ≡ Equal → xs ≡ ys
same_texts [] [] e = refl
same_texts [] (y ∷ ys) e = absurd cc
same_texts (x ∷ xs) [] e = absurd cc
same_texts (x ∷ xs) (y ∷ ys) e =
    elim (by_bytes x y) as (λ o. (by_bytes x y ≡ o) → ordering_then o (by_texts xs ys) ≡ Equal → x ∷ xs ≡ y ∷ ys) [
      | Less ↦ λ is h. absurd cc
      | Equal ↦ λ is h. ap₂ ◌∷◌ (same_label x y is) (same_texts xs ys h)
      | Greater ↦ λ is h. absurd cc
    ] refl e

-- what a map has after a change
pub one_more : (old new : List (List (List ℕ) × Figures)) (line put : Figures) (sales : List (Labelled (List (List ℕ)))) (s : Labelled (List (List ℕ))) → old ≡ lines by_texts sales → line ≡ unwrap_or (lookup (is_at (by_texts s.label)) old) nothing → put ≡ with_line s.measures line
    → new ≡ insert_entry by_texts old s.label put → new ≡ lines by_texts (sales ++ s ∷ [])
one_more old new line put sales s is found made changed =
    changed ∙ ap (insert_entry by_texts old s.label) (made ∙ ap (with_line s.measures) found) ∙ ap (with_sale by_texts s) is ∙ sym (one_behind by_texts texts_total same_texts sales s)

-- a line has no more than all sales
pub line_full : (old : List (List (List ℕ) × Figures)) (line : Figures) (sales : List (Labelled (List (List ℕ)))) (label : List (List ℕ)) → old ≡ lines by_texts sales → line ≡ unwrap_or (lookup (is_at (by_texts label)) old) nothing → 4_294_967_295 ≤ line.lines → 4_294_967_295 ≤ length sales
line_full old line sales label is found full =
    let n : line.lines ≡ length (sold_as by_texts label sales) = ap (λ (t : Figures). t.lines) (found ∙ ap (λ es. unwrap_or (lookup (is_at (by_texts label)) es) nothing) is ∙ lines_figures by_texts texts_total same_texts label sales) in
    let few = few_sold by_texts texts_total same_texts label sales in
    omega (arith, n, few, full)

-- a sale was added to the line that there is
pub more_found : (old new : List (List (List ℕ) × Figures)) (sales : List (Labelled (List (List ℕ)))) (s : Labelled (List (List ℕ))) → old ≡ lines by_texts sales → (line : Figures) → lookup (is_at (by_texts s.label)) old ≡ Some line
    → new ≡ set_value (is_at (by_texts s.label)) old (with_line s.measures line) → new ≡ lines by_texts (sales ++ s ∷ [])
more_found old new sales s is line there changed =
    let up = subst (λ es. Up by_texts (map (λ (e : List (List ℕ) × Figures). e.0) es)) (sym is) (up-lines by_texts texts_total same_texts sales) in
    one_more old new line (with_line s.measures line) sales s is (sym (ap (λ o. unwrap_or o nothing) there)) refl
    (changed ∙ set_is_insert by_texts texts_total same_texts s.label (with_line s.measures line) line old up there)
