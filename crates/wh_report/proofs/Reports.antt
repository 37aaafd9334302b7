-- Laws of every report: its total, its labels, and that its lines add up.
use Rattle.std.proofs.Common.{◌≡◌, ℕ, ◌+◌, ℤ, pos, ◌+ℤ◌, List, [], ◌∷◌, ◌++◌, map, refl, sym, ◌∙◌, ap, arith, append_assoc}
use Rattle.std.specs.Prelude.{bytes_eq, codes, sum_by}
use Rattle.std.specs.List.{list_any}
use Rattle.std.specs.List.Sorted.{IsStrictlySortedBy}
use Rattle.std.proofs.lemmas.Cmp.{nat_list_cmp_total}
use Rattle.std.proofs.lemmas.Int.{ints}
use Rattle.std.proofs.lemmas.List.Sums.{sum_by-cons}
use Rattle.wh_report.specs.Laws.{EndsWith, total_line, over_lines, LinesAddUp}
use Rattle.wh_report.specs.Lines.{figures, labels, lines, added}
use Rattle.wh_report.specs.Sums.{Figures, nothing, plus, margin}
use Rattle.wh_report.specs.Summary.{Sold, by_bytes, summed}
use Rattle.wh_report.specs.Text.{line_text, lines_text, summary_text, heading, report_text}
use Rattle.wh_report.proofs.AddedLines.{as_sorted, up-labels, members as all_members, lines_add_up as add_up}
use Rattle.wh_report.proofs.TextMaps.{same_label}

pub ends_with_total : (attribute mode from to : List ℕ) (sales : List Sold) → EndsWith (report_text attribute mode from to sales) (total_line (map (λ s. s.measures) sales))
unfolding report_text summary_text summed total_line
ends_with_total attribute mode from to sales = record {
  front = heading attribute mode from to ++ lines_text (summed sales).lines;
  is = sym (append_assoc (heading attribute mode from to) (lines_text (summed sales).lines) (line_text (codes "total") (figures (map (λ (s : Sold). s.measures) sales))));
}

-- ---- the labels

pub labels_rise : (sales : List Sold) → IsStrictlySortedBy by_bytes (labels by_bytes sales)
labels_rise sales = as_sorted by_bytes nat_list_cmp_total same_label (labels by_bytes sales) (up-labels by_bytes nat_list_cmp_total same_label sales)

pub members : (sales : List Sold) (label : List ℕ) → list_any (bytes_eq label) (labels by_bytes sales) ≡ list_any (λ s. bytes_eq label s.label) sales
members sales label = all_members by_bytes nat_list_cmp_total same_label (bytes_eq label) sales

-- ---- the lines add up, figure by figure

by_figure : (figure : Figures → ℤ) → figure nothing ≡ pos 0 → ((t u : Figures) → figure (plus t u) ≡ figure t +ℤ figure u) → (ls : List (List ℕ × Figures)) → over_lines figure ls ≡ figure (added ls)
by_figure figure none both [] = sym none
by_figure figure none both (l ∷ ls) = ap (λ z. figure l.1 +ℤ z) (by_figure figure none both ls) ∙ sym (both l.1 (added ls))

by_lines : (ls : List (List ℕ × Figures)) → sum_by (λ (l : List ℕ × Figures). l.1.lines) ls ≡ (added ls).lines
by_lines [] = refl
by_lines (l ∷ ls) = sum_by-cons (λ (m : List ℕ × Figures). m.1.lines) l ls ∙ ap (λ n. l.1.lines + n) (by_lines ls)

margins : (t u : Figures) → margin (plus t u) ≡ margin t +ℤ margin u
margins t u = omega (arith, ints)

pub lines_add_up : LinesAddUp
unfolding summed
lines_add_up sales =
    let ls : List (List ℕ × Figures) = lines by_bytes sales in
    let total = add_up by_bytes nat_list_cmp_total same_label sales in
    record {
      lines = by_lines ls ∙ ap (λ (t : Figures). t.lines) total;
      quantity = by_figure (λ t. t.quantity) refl (λ t u. refl) ls ∙ ap (λ (t : Figures). t.quantity) total;
      amount = by_figure (λ t. t.amount) refl (λ t u. refl) ls ∙ ap (λ (t : Figures). t.amount) total;
      cost = by_figure (λ t. t.cost) refl (λ t u. refl) ls ∙ ap (λ (t : Figures). t.cost) total;
      margin = by_figure margin refl margins ls ∙ ap margin total;
    }
