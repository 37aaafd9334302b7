-- Steps on one table, one after the other.
use Rattle.std.proofs.Common.{◌≡◌, Bool, ℕ, ◌+◌, ◌<◌, ◌≤◌, List, [], ◌∷◌, ◌++◌, length, drop, get_or, refl, sym, ap, subst, ◌∙◌, arith, drop-cons}
use Rattle.std.proofs.lemmas.Grind.{common_steps}
use Rattle.std.specs.List.{AllByRecursion}
use Rattle.std.specs.FinMap.{FinMap}
use Rattle.wh_policy.specs.declared.format.Format.{Format}
use Rattle.wh_rows.specs.Holds.{Layout}
use Rattle.wh_rows.specs.Place.{IsPlaced}
use Rattle.wh_rows.specs.Tables.{Tables}
use Rattle.wh_rows.specs.Steps.{after_all}
use Rattle.wh_history.proofs.Lists.{all_apart}

next : {X : Type 0} (xs : List X) (i : ℕ) (d : X) → i < length xs → drop i xs ≡ get_or xs i d ∷ drop (i + 1) xs
next xs i d within = grind (arith, common_steps, drop-cons)

pub next_is : {X : Type 0} (xs : List X) (i : ℕ) (x : X) → i < length xs → x ≡ get_or xs i x → drop i xs ≡ x ∷ drop (i + 1) xs
next_is xs i x within is = next xs i x within ∙ ap (λ y. y ∷ drop (i + 1) xs) (sym is)

none_left : {X : Type 0} (xs : List X) (i : ℕ) → length xs ≤ i → drop i xs ≡ []
none_left xs i over = grind (arith, common_steps)

-- a part of the steps, and then the rest
pub in_parts : {E M : Type 0} (step : E → M → M) (part rest : List E) (m : M) → after_all step (part ++ rest) m ≡ after_all step rest (after_all step part m)
in_parts step [] rest m = refl
in_parts step (e ∷ part) rest m = in_parts step part rest (step e m)

-- tables on the way to a whole: each step that is left may be taken, and they lead there
pub record IsOnTheWay {E M : Type 0} (step : E → M → M) (may : E → Type 0) (rows : Tables → M) (with_rows : M → Tables → Tables) (left : List E) (now whole : Tables) : Type 0 where
  pub may_all : AllByRecursion may left
  pub leads : with_rows (after_all step left (rows now)) now ≡ whole

module _ {K V E : Type 0} (layout : Layout K V) (step : E → FinMap layout.order V → FinMap layout.order V) (may : E → Type 0)
    (rows : Tables → FinMap layout.order V) (with_rows : FinMap layout.order V → Tables → Tables) {is_in : Format → Bool} (placed : IsPlaced layout rows with_rows is_in) where
  module _ (es : List E) (i : ℕ) (e : E) (now whole : Tables) (is : drop i es ≡ e ∷ drop (i + 1) es) (way : IsOnTheWay step may rows with_rows (drop i es) now whole) where
    here : IsOnTheWay step may rows with_rows (e ∷ drop (i + 1) es) now whole
    here = subst (λ left. IsOnTheWay step may rows with_rows left now whole) is way

    -- the next step may be taken
    pub next_may : may e
    next_may = here.may_all.0

    -- and leaves the rest
    pub next_way : IsOnTheWay step may rows with_rows (drop (i + 1) es) (with_rows (step e (rows now)) now) whole
    next_way =
        let m = step e (rows now) in
        record {
          may_all = here.may_all.1;
          leads = ap (λ n. with_rows (after_all step (drop (i + 1) es) n) (with_rows m now)) (placed.put_in m now) ∙ placed.put_again (after_all step (drop (i + 1) es) m) m now ∙ here.leads;
        }

  module _ (part rest : List E) (now whole : Tables) (way : IsOnTheWay step may rows with_rows (part ++ rest) now whole) where
    -- the next steps may be taken
    pub part_may : AllByRecursion may part
    part_may = (all_apart may part rest way.may_all).0

    -- and leave the rest
    pub part_way : IsOnTheWay step may rows with_rows rest (with_rows (after_all step part (rows now)) now) whole
    part_way =
        let m = after_all step part (rows now) in
        record {
          may_all = (all_apart may part rest way.may_all).1;
          leads = ap (λ n. with_rows (after_all step rest n) (with_rows m now)) (placed.put_in m now) ∙ placed.put_again (after_all step rest m) m now ∙ ap (λ n. with_rows n now) (sym (in_parts step part rest (rows now))) ∙ way.leads;
        }

  -- where none is left, the whole is there
  pub way_ends : (es : List E) (i : ℕ) (now whole : Tables) → length es ≤ i → IsOnTheWay step may rows with_rows (drop i es) now whole → now ≡ whole
  way_ends es i now whole over way =
      let last = subst (λ left. IsOnTheWay step may rows with_rows left now whole) (none_left es i over) way in
      sym (placed.put_back now) ∙ last.leads
