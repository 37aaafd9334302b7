-- What exact edits say, whatever orders their keys.
use Rattle.std.proofs.Common.{◌≡◌, ◌⊎◌, inl, inr, true, false, cond, List, [], ◌∷◌, Option, Some, None, refl, sym, ◌∙◌, ap, subst}
use Rattle.std.specs.Prelude.{find}
use Rattle.std.specs.Cmp.{IsTotalOrder, eq_by_cmp_equiv, Equal-is, tied_itself}
use Rattle.std.specs.List.{AllByRecursion}
use Rattle.std.specs.Ordering.{eq_by_cmp, is_eq, ordering_reverse}
use Rattle.std.specs.declared.cmp.Ordering.{Ordering}
use Rattle.std.specs.declared.cmp.Ordering.TheVariants.{Less, Equal}
use Rattle.wh_history.specs.Plan.{Above, Ascends, IsExact}
use Rattle.wh_history.proofs.Joins.{all_weaker}
use Rattle.wh_rows.specs.Steps.{after_all}

module _ {Key E : Type 0} (order : Key → Key → Ordering) (total : IsTotalOrder order) (key_of : E → Key) where
  -- ---- the edit of a key

  abbrev pub edit_of : Key → List E → Option E
  edit_of key es = find (λ e. eq_by_cmp order (key_of e) key) es

  -- a key is not the one that it comes before
  pub apart : (a b : Key) → order a b ≡ Less → eq_by_cmp order b a ≡ false
  apart a b less = ap is_eq (total.antisymm b a) ∙ ap (λ o. is_eq (ordering_reverse o)) less

  -- a key comes before all that another comes before
  abbrev UpTo : Key → Key → Type 0
  UpTo key low = (x : Key) → order low x ≡ Less → order key x ≡ Less

  up_to_tied : (key low : Key) → eq_by_cmp order low key ≡ true → UpTo key low
  up_to_tied key low tied x less = sym (total.congr low key x ((Equal-is (order low key)).0 tied)) ∙ less

  up_to_less : (key low : Key) → order key low ≡ Less → UpTo key low
  up_to_less key low below x less = total.trans key low x below less

  -- the edits above a key are of no key up to it
  none_above : (low key : Key) (es : List E) → UpTo key low → Above order key_of low es → edit_of key es ≡ None
  none_above low key [] up above = refl
  none_above low key (e ∷ es) up above =
      let before = up (key_of e) above.0 in
      rw (apart key (key_of e) before) (none_above (key_of e) key es (up_to_less key (key_of e) before) above.1)

  ascends_after : (low : Key) (es : List E) → Above order key_of low es → Ascends order key_of es
  ascends_after low [] above = tt
  ascends_after low (e ∷ es) above = above.1

  -- ---- what they lead to

  module _ {M Row : Type 0} (row_at : M → Key → Option Row) (step : E → M → M) (made : E → Option Row → Option Row)
      (elsewhere : (m : M) (e : E) (key : Key) → eq_by_cmp order (key_of e) key ≡ false → row_at (step e m) key ≡ row_at m key)
      (there : (m : M) (e : E) (key : Key) → eq_by_cmp order (key_of e) key ≡ true → row_at (step e m) key ≡ made e (row_at m key)) where
    -- what the edit of a key, if there is one, makes of its row
    abbrev pub applied : Option E → Option Row → Option Row
    applied None row = row
    applied (Some e) row = made e row

    stays_above : (low key : Key) (es : List E) (m : M) → UpTo key low → Above order key_of low es → row_at (after_all step es m) key ≡ row_at m key
    stays_above low key [] m up above = refl
    stays_above low key (e ∷ es) m up above =
        let before = up (key_of e) above.0 in
        stays_above (key_of e) key es (step e m) (up_to_less key (key_of e) before) above.1 ∙ elsewhere m e key (apart key (key_of e) before)

    -- in order, each key has the row of its one edit
    edits_at : (es : List E) (m : M) (key : Key) → Ascends order key_of es → row_at (after_all step es m) key ≡ applied (edit_of key es) (row_at m key)
    edits_at [] m key up = refl
    edits_at (e ∷ es) m key up =
        elim (eq_by_cmp order (key_of e) key) as (λ b. (eq_by_cmp order (key_of e) key ≡ b) → row_at (after_all step es (step e m)) key ≡ applied (cond b (Some e) (edit_of key es)) (row_at m key)) [
          | true ↦ λ is. stays_above (key_of e) key es (step e m) (up_to_tied key (key_of e) is) up ∙ there m e key is
          | false ↦ λ other. edits_at es (step e m) key (ascends_after (key_of e) es up) ∙ ap (applied (edit_of key es)) (elsewhere m e key other)
        ] refl

    -- exact edits lead from the rows before to those after
    pub exact_leads : (needs : Key → Option Row → Option Row → Option E → Type 0) → ((key : Key) (before after : Option Row) (e : Option E) → needs key before after e → applied e before ≡ after)
        → (before after : Key → Option Row) (es : List E) (m : M) (key : Key) → IsExact order key_of needs before after es → row_at m key ≡ before key → row_at (after_all step es m) key ≡ after key
    exact_leads needs lead before after es m key plan has =
        edits_at es m key plan.ordered ∙ ap (applied (edit_of key es)) has ∙ lead key (before key) (after key) (edit_of key es) (plan.exact key)

  -- ---- what holds of each

  -- an edit is the one of its key
  abbrev Own : List E → E → Type 0
  Own es e = edit_of (key_of e) es ≡ Some e

  own_first : (e : E) (es : List E) → Own (e ∷ es) e
  own_first e es = rw ((eq_by_cmp_equiv total).refl (key_of e)) refl

  own_later : (first : E) (es : List E) (e : E) → order (key_of first) (key_of e) ≡ Less → Own es e → Own (first ∷ es) e
  own_later first es e less own = let other : eq_by_cmp order (key_of first) (key_of e) ≡ false = ap is_eq less in rw other own

  abbrev Over : Key → List E → E → Type 0
  Over low es e = (order low (key_of e) ≡ Less) × Own es e

  own_above : (low : Key) (es : List E) → Above order key_of low es → AllByRecursion (Over low es) es
  own_above low [] up = tt
  own_above low (e ∷ es) up = (
    (up.0, own_first e es),
    all_weaker (Over (key_of e) es) (Over low (e ∷ es)) (λ f over. (total.trans low (key_of e) (key_of f) up.0 over.0, own_later e es f over.0 over.1)) es (own_above (key_of e) es up.1),
  )

  own_each : (es : List E) → Ascends order key_of es → AllByRecursion (Own es) es
  own_each [] up = tt
  own_each (e ∷ es) up = (own_first e es, all_weaker (Over (key_of e) es) (Own (e ∷ es)) (λ f over. own_later e es f over.0 over.1) es (own_above (key_of e) es up))

  -- what holds of each edit that a key needs holds of all
  pub exact_all : {Row : Type 0} (needs : Key → Option Row → Option Row → Option E → Type 0) (P : E → Type 0) (before after : Key → Option Row) (es : List E)
      → IsExact order key_of needs before after es → ((e : E) → needs (key_of e) (before (key_of e)) (after (key_of e)) (Some e) → P e) → AllByRecursion P es
  exact_all needs P before after es plan each = all_weaker (Own es) P (λ e own. each e (subst (needs (key_of e) (before (key_of e)) (after (key_of e))) own (plan.exact (key_of e)))) es (own_each es plan.ordered)

  -- ---- there is one

  found_above : (low key : Key) (es : List E) (x : E) → Above order key_of low es → edit_of key es ≡ Some x → order low (key_of x) ≡ Less
  found_above low key [] x up found = absurd cc
  found_above low key (e ∷ es) x up found =
      elim (eq_by_cmp order (key_of e) key) as (λ b. cond b (Some e) (edit_of key es) ≡ Some x → order low (key_of x) ≡ Less) [
        | true ↦ λ here. let same : e ≡ x = cc in subst (λ f. order low (key_of f) ≡ Less) same up.0
        | false ↦ λ later. total.trans low (key_of e) (key_of x) up.0 (found_above (key_of e) key es x up.1 later)
      ] found

  -- the first edit that another list has under its key is that list's first, or comes after it
  first_or_later : (e f : E) (fs : List E) → Above order key_of (key_of f) fs → edit_of (key_of e) (f ∷ fs) ≡ Some e → (f ≡ e) ⊎ (order (key_of f) (key_of e) ≡ Less)
  first_or_later e f fs up found =
      elim (eq_by_cmp order (key_of f) (key_of e)) as (λ b. cond b (Some f) (edit_of (key_of e) fs) ≡ Some e → (f ≡ e) ⊎ (order (key_of f) (key_of e) ≡ Less)) [
        | true ↦ λ here. inl (let same : f ≡ e = cc in same)
        | false ↦ λ later. inr (found_above (key_of f) (key_of e) fs e up later)
      ] found

  none_less : (x : Key) → order x x ≡ Less → ⊥
  none_less x less = let tied : order x x ≡ Equal = tied_itself total x in cc

  first_same : (e f : E) (es fs : List E) → Above order key_of (key_of e) es → Above order key_of (key_of f) fs → ((key : Key) → edit_of key (e ∷ es) ≡ edit_of key (f ∷ fs)) → f ≡ e
  first_same e f es fs up above same =
      elim (first_or_later e f fs above (sym (same (key_of e)) ∙ own_first e es)) [
        | inl here ↦ here
        | inr before ↦ elim (first_or_later f e es up (same (key_of f) ∙ own_first f fs)) [
          | inl here ↦ sym here
          | inr after ↦ absurd (none_less (key_of e) (total.trans (key_of e) (key_of f) (key_of e) after before))
        ]
      ]

  rest_same : (e : E) (es fs : List E) → Above order key_of (key_of e) es → Above order key_of (key_of e) fs → ((key : Key) → edit_of key (e ∷ es) ≡ edit_of key (e ∷ fs)) → (key : Key) → edit_of key es ≡ edit_of key fs
  rest_same e es fs up above same key =
      elim (eq_by_cmp order (key_of e) key) as (λ b. (eq_by_cmp order (key_of e) key ≡ b) → cond b (Some e) (edit_of key es) ≡ cond b (Some e) (edit_of key fs) → edit_of key es ≡ edit_of key fs) [
        | true ↦ λ tied _. none_above (key_of e) key es (up_to_tied key (key_of e) tied) up ∙ sym (none_above (key_of e) key fs (up_to_tied key (key_of e) tied) above)
        | false ↦ λ _ here. here
      ] refl (same key)

  -- edits that ascend are the same where each key has the same one
  pub one_list : (es fs : List E) → Ascends order key_of es → Ascends order key_of fs → ((key : Key) → edit_of key es ≡ edit_of key fs) → es ≡ fs
  one_list [] [] up above same = refl
  one_list [] (f ∷ fs) up above same = let here = same (key_of f) ∙ own_first f fs in absurd cc
  one_list (e ∷ es) [] up above same = let here = sym (same (key_of e)) ∙ own_first e es in absurd cc
  one_list (e ∷ es) (f ∷ fs) up above same =
      let first = first_same e f es fs up above same in
      let up_fs : Above order key_of (key_of e) fs = subst (λ g. Above order key_of (key_of g) fs) first above in
      let same_keys : (key : Key) → edit_of key (e ∷ es) ≡ edit_of key (e ∷ fs) = subst (λ g. (key : Key) → edit_of key (e ∷ es) ≡ edit_of key (g ∷ fs)) first same in
      ap (λ es. e ∷ es) (one_list es fs (ascends_after (key_of e) es up) (ascends_after (key_of e) fs up_fs) (rest_same e es fs up up_fs same_keys)) ∙ ap (λ g. g ∷ fs) (sym first)
