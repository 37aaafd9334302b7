-- What a part of a table leaves to be read, and what is handed out of it.
use Rattle.std.proofs.Common.{◌≡◌, ℕ, zero, suc, ◌-◌, List, [], ◌∷◌, ◌++◌, filter, length, slice_get, Bool, true, false, if◌then◌else◌, Option, None, Some, option_map, refl, ap, ◌∙◌, arith, nat_lt}
use Rattle.std.specs.FinMap.{FinMap, values}
use Rattle.std.specs.Option.{option_to_list}
use Rattle.sqlite.specs.State.{State}
use Rattle.wh_policy.specs.declared.format.Format.{Format}
use Rattle.wh_rows.specs.Holds.{Layout}
use Rattle.wh_rows.specs.Place.{IsPlaced}
use Rattle.wh_rows.specs.Tables.{Tables}
use Rattle.wh_rows.specs.AtRest.{IsAtRest}
use Rattle.wh_rows.specs.Firsts.{part}
use Rattle.wh_rows.specs.Parts.{forward, is_behind}
use Rattle.wh_rows.proofs.Behind.{part_and_rest}
use Rattle.std.specs.List.{list_all}
use Rattle.std.proofs.lemmas.Bool.{and_parts}
use Rattle.wh_sql.specs.Page.{HasKey}
use Rattle.wh_store.specs.Scan.{HandsOut}

module _ {K V : Type 0} (layout : Layout K V) (rows : Tables → FinMap layout.order V) (with_rows : FinMap layout.order V → Tables → Tables) {is_in : Format → Bool} (placed : IsPlaced layout rows with_rows is_in) (s : State) (t : Tables) (at : IsAtRest (Some t) s) where
  -- a part that was read and what is after its last row are what was left
  pub part_read : (most : ℕ) → nat_lt 0 most ≡ true → (after next : Option K) (read : List V) (n : ℕ) → read ≡ part (Some (forward most)) (filter (is_behind layout after) (values (rows t))) → next ≡ option_map layout.key (slice_get read (length read - 1)) → n ≡ length read
      → read ++ (if nat_lt n most then [] else filter (is_behind layout next) (values (rows t))) ≡ filter (is_behind layout after) (values (rows t))
  part_read most some after next read n are last long =
      ap (λ (k : Option K). read ++ (if nat_lt n most then [] else filter (is_behind layout k) (values (rows t)))) last
      ∙ part_and_rest layout placed.total (rows t) (placed.keyed s.now t at.now.tables) after most (grind (arith, some)) read are (nat_lt n most) (λ short. grind (arith, long, short)) (λ full. grind (arith, long, full))

-- the first of the rows that were read ahead is handed out
pub handed : {V : Type 0} (found : Option V) (items rest unread : List V) (is_over : Bool) → items ≡ option_to_list found ++ rest → (items ≡ [] → is_over ≡ true) → (found ≡ None → rest ≡ [])
    → HandsOut (items ++ (if is_over then [] else unread)) found (rest ++ (if is_over then [] else unread))
handed None items rest unread is_over is ends none =
    let empty : rest ≡ [] = none refl in
    let all : items ≡ [] = is ∙ empty in
    let over : is_over ≡ true = ends all in
    (rw (all, over) refl, rw (empty, over) refl)
handed (Some row) items rest unread is_over is ends none = ap (λ l. l ++ (if is_over then [] else unread)) is

-- of no rows none is handed out
pub none_handed : {V : Type 0} (items rest unread : List V) (is_over : Bool) → items ≡ [] → rest ≡ [] → unread ≡ [] → HandsOut (items ++ (if is_over then [] else unread)) None (rest ++ (if is_over then [] else unread))
none_handed items rest unread true none left nothing = (rw none refl, rw left refl)
none_handed items rest unread false none left nothing = (rw (none, nothing) refl, rw (left, nothing) refl)

-- what is no element is none
pub none_is : {V : Type 0} (found : Option V) → ((x : V) → found ≡ Some x → ⊥) → found ≡ None
none_is None not = refl
none_is (Some x) not = absurd (not x refl)

pub no_items : {V : Type 0} (n : ℕ) (xs : List V) → n ≡ length xs → n ≡ 0 → xs ≡ []
no_items n [] long none = refl
no_items n (x ∷ xs) long none = absurd (omega (arith, long, none))

-- a row that was read has a key that a valid row has
pub key_found : {K V : Type 0} (layout : Layout K V) (read : List V) (n : ℕ) → list_all layout.is_valid read ≡ true → HasKey layout (option_map layout.key (slice_get read n))
key_found layout [] n valid = tt
key_found layout (v ∷ read) zero valid = (v, (and_parts _ _ valid).0, refl)
key_found layout (v ∷ read) (suc n) valid = key_found layout read n (and_parts _ _ valid).1
