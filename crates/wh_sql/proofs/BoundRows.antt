-- Rows as parameters, one after the other.
use Rattle.std.proofs.Common.{◌≡◌, ℕ, zero, suc, ◌+◌, ◌<◌, List, [], ◌∷◌, ◌++◌, map, drop, get_or, length, Bor, refl, sym, subst, ap, ◌∙◌, arith, inl, inr, false}
use Rattle.std.specs.List.{list_all}
use Rattle.std.proofs.lemmas.List.{at_drop_more, append_assoc}
use Rattle.sqlite.specs.Order.{Row}
use Rattle.sqlite_rules.specs.Lists.{Has}
use Rattle.sqlite_rules.proofs.ListLemmas.{fails_from}
use Rattle.std.specs.Prelude.{flat_map, Bool}

module _ {V : Type 0} (encode : V → Row) (is_valid : V → Bool) where
  abbrev rows_of : List (Bor V) → List V
  rows_of rows = map (λ (r : Bor V). r.now) rows

  -- one more is bound
  pub one_more : (done more all : Row) (rows : List (Bor V)) (i : ℕ) (row : Bor V) (new : Row) → i < length rows → row ≡ get_or rows i row → more ≡ encode row.now → new ≡ done ++ more
      → done ++ flat_map encode (rows_of (drop i rows)) ≡ all → new ++ flat_map encode (rows_of (drop (i + 1) rows)) ≡ all
  one_more done more all rows i row new within is added grown before =
      let rest = flat_map encode (rows_of (drop (i + 1) rows)) in
      ap (λ l. l ++ rest) (grown ∙ ap (λ l. done ++ l) added)
      ∙ append_assoc done (encode row.now) rest
      ∙ ap (λ (r : Bor V). done ++ (encode r.now ++ rest)) is
      ∙ ap (λ l. done ++ l) (sym (at_drop_more (λ rs. flat_map encode (rows_of rs)) rows i row within))
      ∙ before

  has_row : (rows : List (Bor V)) (i : ℕ) (none : Bor V) → i < length rows → Has (rows_of rows) (get_or rows i none).now
  has_row [] i none within = absurd (omega arith)
  has_row (r ∷ rows) zero none within = inl refl
  has_row (r ∷ rows) (suc i) none within = inr (has_row rows i none (omega arith))

  -- where one is not valid, not all are
  pub not_all : (rows : List (Bor V)) (i : ℕ) (row : Bor V) → i < length rows → row ≡ get_or rows i row → is_valid row.now ≡ false → list_all is_valid (rows_of rows) ≡ false
  not_all rows i row within is bad = fails_from is_valid (rows_of rows) row.now (subst (λ (r : Bor V). Has (rows_of rows) r.now) (sym is) (has_row rows i row within)) bad
