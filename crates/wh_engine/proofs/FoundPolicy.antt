-- The last command that gives a policy, among the rows of table command.
use Rattle.std.proofs.Common.{◌≡◌, ◌⊎◌, inl, inr, ℕ, suc, ◌+◌, true, false, cond, List, [], ◌∷◌, ◌++◌, filter, length, take, reverse, slice_get, Option, Some, None, Ok, refl, sym, ap, ◌∙◌, arith, length-append, append_assoc}
use Rattle.std.specs.Prelude.{filter_map}
use Rattle.std.specs.List.{AllByRecursion, range_with_len}
use Rattle.std.proofs.lemmas.Grind.{reverse_onto}
use Rattle.wh_policy.specs.Policy.{read_policy}
use Rattle.wh_policy.specs.declared.policy.Policy.{Policy}
use Rattle.wh_history.specs.Accepted.{Accepted, Content, Governs, Describes, Sells, Upgrades, Withdraws, governed, policy_after}
use Rattle.wh_history.specs.Keys.{at_place}
use Rattle.wh_rows.specs.Questions.{gives_policy}
use Rattle.wh_rows.specs.declared.rows.CommandRow.{CommandRow}
use Rattle.wh_model.specs.Defined.{command_at}
use Rattle.wh_model.specs.Sound.{GivesPolicy}
use Rattle.wh_plan.proofs.FoundCommands.{stored, told}
use Rattle.wh_history.proofs.Trials.{get_middle}

pub first_taken : {X : Type 0} (xs : List X) → slice_get (take 1 xs) 0 ≡ slice_get xs 0
first_taken [] = refl
first_taken (x ∷ xs) = refl

get_more : {X : Type 0} (xs ys : List X) (x : X) → slice_get xs 0 ≡ Some x → slice_get (xs ++ ys) 0 ≡ Some x
get_more [] ys x is = cc
get_more (y ∷ xs) ys x is = is

abbrev givers : List CommandRow → List CommandRow
givers rows = filter (λ (r : CommandRow). gives_policy r.kind) rows

-- the last of these rows that gives a policy gives what is in force after them; or none gives one, and what was in force stays
abbrev pub LastGives : List CommandRow → Option Policy → Option Policy → Type 0
LastGives rows before after =
    ((givers rows ≡ []) × (after ≡ before)) ⊎ ((row : CommandRow) × (policy : Policy) × (slice_get (reverse (givers rows)) 0 ≡ Some row) × (read_policy row.bytes ≡ Ok policy) × (after ≡ Some policy))

-- a row in front of them is not the last
last_behind : (first : CommandRow) (rows : List CommandRow) (row : CommandRow) → slice_get (reverse (givers rows)) 0 ≡ Some row → slice_get (reverse (givers (first ∷ rows))) 0 ≡ Some row
last_behind first rows row is =
    elim (gives_policy first.kind) as (λ b. slice_get (reverse (cond b (first ∷ givers rows) (givers rows))) 0 ≡ Some row) [
      | true ↦ ap (λ xs. slice_get xs 0) (reverse_onto (givers rows) first []) ∙ get_more (reverse (givers rows)) (first ∷ []) row is
      | false ↦ is
    ]

one_more : (first : CommandRow) (rows : List CommandRow) (content : Content) (before after : Option Policy) → GivesPolicy first.kind first.bytes content → LastGives rows (governed before content) after → LastGives (first ∷ rows) before after
one_more first rows content before after given (inr found) = inr (found.0, found.1, last_behind first rows found.0 found.2, found.3, found.4)
one_more first rows (Governs policy) before after given (inl none) = inr (first, policy, rw (given.0, none.0) refl, given.1, none.1)
one_more first rows (Describes dim records) before after given (inl none) = inl (rw (given, none.0) refl, none.1)
one_more first rows (Sells sales) before after given (inl none) = inl (rw (given, none.0) refl, none.1)
one_more first rows Upgrades before after given (inl none) = inl (rw (given, none.0) refl, none.1)
one_more first rows (Withdraws lines) before after given (inl none) = inl (rw (given, none.0) refl, none.1)

module _ (commands : List Accepted) where
  last_from : (front back : List Accepted) (key : ℕ) (before : Option Policy) → front ++ back ≡ commands → key ≡ suc (length front) → AllByRecursion (λ c. GivesPolicy c.kind c.bytes c.content) back
      → LastGives (filter_map (command_at commands) (range_with_len key (length back))) before (policy_after before back)
  last_from front [] key before whole at given = inl (refl, refl)
  last_from front (c ∷ back) key before whole at given =
      let row = stored key (told commands key c) in
      let there : at_place key commands ≡ Some c = ap (λ n. at_place n commands) at ∙ ap (λ cs. slice_get cs (length front)) (sym whole) ∙ get_middle front back c in
      let is : command_at commands key ≡ Some row = rw there refl in
      let longer : key + 1 ≡ suc (length (front ++ c ∷ [])) = omega (arith, at, length-append front (c ∷ [])) in
      let rest = last_from (front ++ c ∷ []) back (key + 1) (governed before c.content) (append_assoc front (c ∷ []) back ∙ whole) longer given.1 in
      rw is (one_more row (filter_map (command_at commands) (range_with_len (key + 1) (length back))) c.content before (policy_after before (c ∷ back)) given.0 rest)

  -- so it is of the whole table
  pub last_gives : AllByRecursion (λ c. GivesPolicy c.kind c.bytes c.content) commands → LastGives (filter_map (command_at commands) (range_with_len 0 (suc (length commands)))) None (policy_after None commands)
  last_gives given = last_from [] commands 1 None refl refl given
