-- What the sales of a report come to, in any order and with more of a label.
use Rattle.std.proofs.Common.{◌≡◌, ℕ, ◌+◌, ◌<◌, ◌≤◌, true, false, List, ◌∷◌, ◌++◌, map, length, unwrap_or, sym, ◌∙◌, ap, ap₂, arith, inl, inr, length-append}
use Rattle.std.specs.List.Sorted.{IsPermutation}
use Rattle.std.specs.Map.{lookup}
use Rattle.std.specs.BTreeMap.{is_at, insert_entry}
use Rattle.std.proofs.lemmas.Bool.{cases_lt}
use Rattle.std.proofs.lemmas.Cmp.{nat_list_cmp_total}
use Rattle.std.proofs.lemmas.List.{length-map, map-append}
use Rattle.wh_report.specs.Lines.{figures, lines, sold_as}
use Rattle.wh_report.specs.Sums.{Figures, nothing, plus}
use Rattle.wh_report.specs.Summary.{Sold, Summed, AreSoldAs, by_bytes, summed}
use Rattle.wh_report.proofs.AddedLines.{figures-append, few_sold, lines_figures, same_figures, some_behind, moved as lines_moved, any_order as lines_in_any_order}
use Rattle.wh_report.proofs.TextMaps.{same_label}

abbrev summed_of : List (List ℕ × Figures) → Figures → Summed
summed_of lines total = record { lines = lines; total = total }

-- what has the same lines comes to the same
pub same_summed : (sales others : List Sold) → lines by_bytes sales ≡ lines by_bytes others → summed sales ≡ summed others
unfolding summed
same_summed sales others same = ap₂ summed_of same (same_figures by_bytes nat_list_cmp_total same_label sales others same)

pub moved : (before after : List Sold) (s : Sold) → summed (before ++ s ∷ after) ≡ summed (s ∷ before ++ after)
moved before after s = same_summed (before ++ s ∷ after) (s ∷ before ++ after) (lines_moved by_bytes nat_list_cmp_total same_label before after s)

pub any_order : (sales others : List Sold) → IsPermutation sales others → summed others ≡ summed sales
any_order sales others same = same_summed others sales (lines_in_any_order by_bytes nat_list_cmp_total same_label sales others same)

-- its lines, and its total

lines_are : (old : Summed) (sales : List Sold) → old ≡ summed sales → old.lines ≡ lines by_bytes sales
unfolding summed
lines_are old sales e = ap (λ (s : Summed). s.lines) e

total_is : (old : Summed) (sales : List Sold) → old ≡ summed sales → old.total ≡ figures (map (λ s. s.measures) sales)
unfolding summed
total_is old sales e = ap (λ (s : Summed). s.total) e

pub how_many : (old : Summed) (sales : List Sold) → old ≡ summed sales → old.total.lines ≡ length sales
how_many old sales e = ap (λ (t : Figures). t.lines) (total_is old sales e) ∙ length-map sales (λ (s : Sold). s.measures)

summed_parts : (new : Summed) (sales : List Sold) → new.lines ≡ lines by_bytes sales → new.total ≡ figures (map (λ s. s.measures) sales) → new ≡ summed sales
unfolding summed
summed_parts new sales lines total = ap₂ summed_of lines total

-- ---- some sales of one label more

module _ (label : List ℕ) (sum : Figures) (sales more : List Sold) (are : AreSoldAs label sum more) (old : Summed) (e : old ≡ summed sales) where
  abbrev found : List (List ℕ × Figures) → Figures
  found es = unwrap_or (lookup (is_at (by_bytes label)) es) nothing

  pub label_more : (new : Summed) (line : Figures) → line ≡ plus (found old.lines) sum → new.lines ≡ insert_entry by_bytes old.lines label line → new.total ≡ plus old.total sum → new ≡ summed (sales ++ more)
  label_more new line is put added =
      summed_parts new (sales ++ more)
      (put ∙ ap (insert_entry by_bytes old.lines label) (is ∙ ap (plus (found old.lines)) are.made)
      ∙ ap (λ es. insert_entry by_bytes es label (plus (found es) (figures (map (λ (s : Sold). s.measures) more)))) (lines_are old sales e)
      ∙ sym (some_behind by_bytes nat_list_cmp_total same_label label sales more are.some are.labelled))
      (added ∙ ap₂ plus (total_is old sales e) are.made ∙ sym (figures-append (map (λ (s : Sold). s.measures) sales) (map (λ (s : Sold). s.measures) more)) ∙ ap figures (sym (map-append (λ (s : Sold). s.measures) sales more)))

  all_of_them : length (sales ++ more) ≡ length sales + sum.lines
  all_of_them = length-append sales more ∙ ap (λ n. length sales + n) (sym (ap (λ (t : Figures). t.lines) are.made ∙ length-map more (λ (s : Sold). s.measures)))

  pub total_full : 4_294_967_295 < old.total.lines + sum.lines → 4_294_967_295 ≤ length (sales ++ more)
  total_full full = omega (arith, all_of_them, how_many old sales e, full)

  pub label_full : (line : Figures) → line ≡ found old.lines → 4_294_967_295 < line.lines + sum.lines → 4_294_967_295 ≤ length (sales ++ more)
  label_full line is full =
      let few = few_sold by_bytes nat_list_cmp_total same_label label sales in
      let n : line.lines ≡ length (sold_as by_bytes label sales) = ap (λ (t : Figures). t.lines) (is ∙ ap found (lines_are old sales e) ∙ lines_figures by_bytes nat_list_cmp_total same_label label sales) in
      omega (arith, all_of_them, n, few, full)

-- what isn't at most this many is more
pub more_than : (n : ℕ) → (n ≤ 4_294_967_295 → false ≡ true) → 4_294_967_295 < n
more_than n refused = elim (cases_lt 4_294_967_295 n) [
  | inl more ↦ more
  | inr most ↦ absurd (let none = refused most in cc)
]
