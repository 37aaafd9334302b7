-- The text that is found among the rows of a table.
use Rattle.std.proofs.Common.{◌≡◌, ℕ, zero, suc, ◌<◌, ◌==◌, true, false, cond, List, [], ◌∷◌, length, Option, Some, None, refl, sym, ◌∙◌, ap, arith}
use Rattle.std.specs.Prelude.{filter_map, slice_index_or, Contains}
use Rattle.std.specs.List.{AllByRecursion, cons_option}
use Rattle.std.proofs.lemmas.Bool.{eqb-true, eq-eqb}
use Rattle.wh_history.proofs.Basics.{some_is}
use Rattle.wh_history.proofs.Joins.{all_weaker}
use Rattle.wh_report.specs.Defined.{AreRowsOf}
use Rattle.wh_report.specs.Labels.{entry, first_text}

module _ {R : Type 0} (f : R → Option (ℕ × List ℕ)) (key : ℕ) (text : List ℕ) where
  -- each entry of the key has the text
  abbrev Alike : R → Type 0
  Alike y = (t : List ℕ) → f y ≡ Some (key, t) → t ≡ text

  first_of : (x : R) (rows : List R) (o : Option (ℕ × List ℕ)) → o ≡ Some (key, text) → first_text key (cons_option o (filter_map f rows)) ≡ Some text
  first_of x rows None is = cc
  first_of x rows (Some e) is =
      let same = some_is _ _ is in
      let here : (e.0 == key) ≡ true = eq-eqb e.0 key (ap (λ (p : ℕ × List ℕ). p.0) same) in
      rw here (ap (λ (p : ℕ × List ℕ). Some p.1) same)

  passed : (y : R) (more : List (ℕ × List ℕ)) (o : Option (ℕ × List ℕ)) → f y ≡ o → Alike y → first_text key more ≡ Some text → first_text key (cons_option o more) ≡ Some text
  passed y more None is alike rest = rest
  passed y more (Some e) is alike rest =
      elim (e.0 == key) as (λ b. ((e.0 == key) ≡ b) → cond b (Some e.1) (first_text key more) ≡ Some text) [
        | true ↦ λ t. let same : e.0 ≡ key = eqb-true e.0 key t in ap Some (alike e.1 (is ∙ ap (λ n. Some (n, e.1)) same))
        | false ↦ λ t. rest
      ] refl

  found_at : (x : R) (rows : List R) (k : ℕ) → k < length rows → slice_index_or rows k x ≡ x → f x ≡ Some (key, text) → AllByRecursion Alike rows → first_text key (filter_map f rows) ≡ Some text
  found_at x [] k within at is all = absurd (omega arith)
  found_at x (y ∷ rows) zero within at is all = first_of x rows (f y) (ap f at ∙ is)
  found_at x (y ∷ rows) (suc k) within at is all = passed y (filter_map f rows) (f y) refl all.0 (found_at x rows k (omega arith) at is all.1)

  pub found_first : (x : R) (rows : List R) → Contains rows x → f x ≡ Some (key, text) → AllByRecursion Alike rows → first_text key (filter_map f rows) ≡ Some text
  found_first x rows there is all = found_at x rows there.0 there.1 there.2 is all

-- a row's entry has its key and its text
entry_key : (key n : ℕ) (text : Option (List ℕ)) (t : List ℕ) → entry (Some n) text ≡ Some (key, t) → (n ≡ key) × (text ≡ Some t)
entry_key key n None t is = cc
entry_key key n (Some u) t is = let same = some_is _ _ is in (ap (λ (p : ℕ × List ℕ). p.0) same, ap (λ (p : ℕ × List ℕ). Some p.1) same)

-- by the key of a table, under which one row stands
pub found_by_key : {R : Type 0} (key_of : R → ℕ) (row : ℕ → Option R) (text_of : R → Option (List ℕ)) (rows : List R) (key : ℕ) (x : R) (text : List ℕ) → AreRowsOf key_of row rows → row key ≡ Some x → key_of x ≡ key → text_of x ≡ Some text
    → first_text key (filter_map (λ r. entry (Some (key_of r)) (text_of r)) rows) ≡ Some text
found_by_key key_of row text_of rows key x text are there is shows =
    found_first (λ r. entry (Some (key_of r)) (text_of r)) key text x rows (are.whole key x there) (rw (shows, is) refl)
    (all_weaker (λ r. row (key_of r) ≡ Some r) (λ y. (t : List ℕ) → entry (Some (key_of y)) (text_of y) ≡ Some (key, t) → t ≡ text) (λ y stands t e.
    let parts = entry_key key (key_of y) (text_of y) t e in
    let same : y ≡ x = some_is _ _ (sym stands ∙ ap row parts.0 ∙ there) in
    some_is _ _ (sym parts.1 ∙ ap text_of same ∙ shows)) rows are.sound)
