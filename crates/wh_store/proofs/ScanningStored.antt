-- What a part of a table leaves to be read, and what is handed out of it.
use Rattle.std.proofs.Common.{◌≡◌, ℕ, ◌-◌, ◌<◌, ◌≤◌, List, [], ◌∷◌, ◌++◌, map, filter, length, slice_get, Bool, true, false, Option, None, Some, option_map, refl, sym, ap, subst, ◌∙◌, arith, nat_lt}
use Rattle.std.specs.Option.{option_to_list}
use Rattle.std.proofs.lemmas.List.Sorted.{IsPermutation-refl}
use Rattle.sqlite.specs.Order.{Row}
use Rattle.wh_rows.specs.Holds.{Layout}
use Rattle.wh_rows.specs.Raw.{IsFrontOf}
use Rattle.wh_rows.specs.Parts.{forward, stands_behind, IsKeyed, IsArranged}
use Rattle.wh_rows.proofs.Edits.{filter_all}
use Rattle.wh_rows.proofs.Behind.{ends_in}
use Rattle.wh_rows.proofs.BehindStored.{short_part, part_then_rest, nil_after}
use Rattle.wh_store.specs.Scan.{AreUnread, AreAheadOf, HandsOutSo}

module _ {K V : Type 0} (layout : Layout K V) (bind : K → Row) (stands_at : K → Row → Bool) (keyed : IsKeyed layout bind stands_at) (stored : List Row) (once : (k : K) → length (filter (stands_at k) stored) ≤ 1) where
  -- a part that was read, and what is after its last row, are what was left
  pub part_left : (most : ℕ) → nat_lt 0 most ≡ true → (after next : Option K) (read : List V) (n : ℕ) → IsFrontOf (forward most) layout.table (filter (stands_behind layout bind after) stored) (map layout.encode read)
      → next ≡ option_map layout.key (slice_get read (length read - 1)) → n ≡ length read → (unread : List Row) → AreUnread layout bind stored next (nat_lt n most) unread
      → IsArranged layout.table (filter (stands_behind layout bind after) stored) (map layout.encode read ++ unread)
  part_left most some after next read n front last long unread are = go (nat_lt n most) refl read front last long are
    where
      go : (is_short : Bool) → nat_lt n most ≡ is_short → (vs : List V) → IsFrontOf (forward most) layout.table (filter (stands_behind layout bind after) stored) (map layout.encode vs)
          → next ≡ option_map layout.key (slice_get vs (length vs - 1)) → n ≡ length vs → AreUnread layout bind stored next is_short unread
          → IsArranged layout.table (filter (stands_behind layout bind after) stored) (map layout.encode vs ++ unread)
      go true is vs front last long are =
          let few : length vs < most = grind (arith, long, is) in
          subst (IsArranged layout.table (filter (stands_behind layout bind after) stored)) (sym (nil_after (map layout.encode vs)) ∙ ap (λ l. map layout.encode vs ++ l) (sym are))
          (short_part layout bind stands_at keyed stored once most after vs front few)
      go false is [] front last long are = absurd (let full : most ≤ n = grind (arith, is) in let one : 0 < most = grind (arith, some) in omega (arith, full, one, long))
      go false is (v ∷ vs) front last long are =
          let end = ends_in v vs in
          let next_is : next ≡ Some (layout.key end.last) = last ∙ ap (option_map layout.key) end.found in
          part_then_rest layout bind stands_at keyed stored once most after (v ∷ vs) front end.before end.last end.is unread
          (subst (λ (k : Option K). IsArranged layout.table (filter (stands_behind layout bind k) stored) unread) next_is are)

module _ {K V : Type 0} (layout : Layout K V) (bind : K → Row) (stored : List Row) (after : Option K) (is_over : Bool) where
  -- what was read ahead is handed out first
  pub first_left : (items rest : List V) (row : V) (left : List Row) → items ≡ row ∷ rest → AreAheadOf layout bind stored rest after is_over left → AreAheadOf layout bind stored items after is_over (layout.encode row ∷ left)
  first_left items rest row left is are = (are.0, are.1, ap (λ l. layout.encode row ∷ l) are.2 ∙ ap (λ vs. map layout.encode vs ++ are.0) (sym is))

  pub none_left : (items : List V) → items ≡ [] → is_over ≡ true → AreAheadOf layout bind stored items after is_over []
  none_left items is over = ([], rw over refl, ap (λ vs. map layout.encode vs ++ []) (sym is))

-- of no rows none is left
pub none_stored : {K V : Type 0} (layout : Layout K V) (bind : K → Row) (stored : List Row) (items : List V) (after : Option K) (is_over : Bool) → items ≡ [] → stored ≡ [] → AreAheadOf layout bind stored items after is_over []
none_stored layout bind stored items after is_over none nothing = ([], unread is_over, ap (λ vs. map layout.encode vs ++ []) (sym none))
  where
    unread : (b : Bool) → AreUnread layout bind stored after b []
    unread true = refl
    unread false = subst (λ rows. IsArranged layout.table (filter (stands_behind layout bind after) rows) []) (sym nothing) (record { same = IsPermutation-refl []; in_order = tt })

-- before the first row all are left
pub at_start : {K V : Type 0} (layout : Layout K V) (bind : K → Row) (stored : List Row) (items : List V) (after : Option K) (is_over : Bool) (left : List Row) → items ≡ [] → after ≡ None → is_over ≡ false → AreAheadOf layout bind stored items after is_over left → IsArranged layout.table stored left
at_start layout bind stored items after is_over left none all more are =
    let here : AreAheadOf layout bind stored [] None false left =
    subst (λ b. AreAheadOf layout bind stored [] None b left) more (subst (λ k. AreAheadOf layout bind stored [] k is_over left) all (subst (λ vs. AreAheadOf layout bind stored vs after is_over left) none are)) in
    subst (IsArranged layout.table stored) (sym here.2) (subst (λ rows. IsArranged layout.table rows here.0) (filter_all stored) here.1)

-- what is handed out of a part that was read ahead, where this is left of what was left before
pub handed_of : {K V : Type 0} (layout : Layout K V) (bind : K → Row) (stored : List Row) (after : Option K) (is_over : Bool) (found : Option V) (items rest : List V) (Before : List Row → Type 0)
    → items ≡ option_to_list found ++ rest → (items ≡ [] → is_over ≡ true) → (found ≡ None → rest ≡ []) → ((left : List Row) → AreAheadOf layout bind stored items after is_over left → Before left)
    → HandsOutSo layout bind stored rest after is_over found Before
handed_of layout bind stored after is_over None items rest Before is ends none back =
    let all : items ≡ [] = is ∙ none refl in
    back [] (none_left layout bind stored after is_over items all (ends all))
handed_of layout bind stored after is_over (Some row) items rest Before is ends none back = λ left are. back (layout.encode row ∷ left) (first_left layout bind stored after is_over items rest row left is are)
