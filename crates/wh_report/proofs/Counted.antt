-- The sales of the range, with the labels that their keys lead to.
use Rattle.std.proofs.Common.{◌≡◌, ℕ, ◌≤◌, true, false, cond, List, [], ◌∷◌, ◌++◌, length, Option, None, refl, ◌∙◌, ap, arith, suc}
use Rattle.std.specs.Prelude.{filter_map}
use Rattle.std.specs.List.{cons_option}
use Rattle.std.proofs.lemmas.List.{append-nil}
use Rattle.std.proofs.lemmas.List.Elements.{filter-append}
use Rattle.wh_rows.specs.declared.keyed_sale.KeyedSale.{KeyedSale}
use Rattle.wh_report.specs.Asked.{Asked}
use Rattle.wh_report.specs.Counting.{counted_sale, sales_asked, with_label}
use Rattle.wh_report.specs.Request.{is_asked_of}

-- of another day
pub passed_over : (r : Asked) (sales : List KeyedSale) (s : KeyedSale) → is_asked_of r s.day ≡ false → sales_asked r (sales ++ s ∷ []) ≡ sales_asked r sales
passed_over r sales s other = filter-append (λ (x : KeyedSale). is_asked_of r x.day) sales (s ∷ []) ∙ ap (λ b. sales_asked r sales ++ cond b (s ∷ []) []) other ∙ append-nil (sales_asked r sales)

-- of a day of the range
pub one_asked : (r : Asked) (sales : List KeyedSale) (s : KeyedSale) → is_asked_of r s.day ≡ true → sales_asked r (sales ++ s ∷ []) ≡ sales_asked r sales ++ s ∷ []
one_asked r sales s within = filter-append (λ (x : KeyedSale). is_asked_of r x.day) sales (s ∷ []) ∙ ap (λ b. sales_asked r sales ++ cond b (s ∷ []) []) within

pub few_asked : (r : Asked) (sales : List KeyedSale) → length (sales_asked r sales) ≤ length sales
few_asked r [] = omega arith
few_asked r (s ∷ sales) =
    let rest = few_asked r sales in
    elim (is_asked_of r s.day) as (λ b. length (cond b (s ∷ sales_asked r sales) (sales_asked r sales)) ≤ suc (length sales)) [ true ↦ omega (arith, rest) | false ↦ omega (arith, rest) ]

-- what is counted of sales is each of the range with its label
pub asked_counted : (r : Asked) (labels : ℕ → Option (List ℕ)) (sales : List KeyedSale) → filter_map (with_label labels) (sales_asked r sales) ≡ filter_map (counted_sale r labels) sales
asked_counted r labels [] = refl
asked_counted r labels (s ∷ sales) =
    let rest = asked_counted r labels sales in
    elim (is_asked_of r s.day) as (λ b. filter_map (with_label labels) (cond b (s ∷ sales_asked r sales) (sales_asked r sales)) ≡ cons_option (cond b (with_label labels s) None) (filter_map (counted_sale r labels) sales)) [
      | true ↦ ap (cons_option (with_label labels s)) rest
      | false ↦ rest
    ]
