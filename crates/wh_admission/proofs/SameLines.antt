-- The first of a list that passes.
use Rattle.std.proofs.Common.{◌≡◌, ℕ, suc, ◌+◌, Bool, true, false, not, cond, List, ◌∷◌, Some, ◌∙◌, ap, arith}
use Rattle.std.specs.List.{list_any}
use Rattle.wh_policy.specs.declared.record.SaleRecord.{SaleRecord}
use Rattle.wh_policy.specs.declared.record.VoidRecord.{VoidRecord}
use Rattle.wh_admission.specs.Admission.{first_number, first_line_there, first_line_missing}
use Rattle.wh_model.specs.Sound.{same_line, is_sold_line}

module _ {X : Type 0} (test : X → Bool) (number : ℕ) (x : X) (xs : List X) where
  not_first : test x ≡ false → first_number test number (x ∷ xs) ≡ first_number test (number + 1) xs
  not_first other = ap (λ b. cond b (Some number) (first_number test (suc number) xs)) other ∙ ap (λ n. first_number test n xs) (omega arith)

  is_first : test x ≡ true → first_number test number (x ∷ xs) ≡ Some number
  is_first here = ap (λ b. cond b (Some number) (first_number test (suc number) xs)) here

-- the first sale whose line is stored
module _ (before : List SaleRecord) (number : ℕ) (s : SaleRecord) (sales : List SaleRecord) where
  pub none_first : list_any (λ t. same_line t s) before ≡ false → first_line_there before number (s ∷ sales) ≡ first_line_there before (number + 1) sales
  none_first = not_first (λ s. list_any (λ t. same_line t s) before) number s sales

  pub this_first : list_any (λ t. same_line t s) before ≡ true → first_line_there before number (s ∷ sales) ≡ Some number
  this_first = is_first (λ s. list_any (λ t. same_line t s) before) number s sales

-- the first void whose line is missing
module _ (stand : List SaleRecord) (number : ℕ) (v : VoidRecord) (voids : List VoidRecord) where
  pub none_missing_first : not (is_sold_line stand v) ≡ false → first_line_missing stand number (v ∷ voids) ≡ first_line_missing stand (number + 1) voids
  none_missing_first = not_first (λ v. not (is_sold_line stand v)) number v voids

  pub this_missing_first : not (is_sold_line stand v) ≡ true → first_line_missing stand number (v ∷ voids) ≡ Some number
  this_missing_first = is_first (λ v. not (is_sold_line stand v)) number v voids
