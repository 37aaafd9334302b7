-- Steps of the loops over dated changes.
use Rattle.std.proofs.Common.{◌≡◌, ℕ, ◌+◌, ◌<◌, ◌≤◌, List, [], ◌∷◌, ◌++◌, length, map, take, drop, get_or, refl, sym, ◌∙◌, ap, Option, Some, None, arith}
use Rattle.std.proofs.lemmas.List.{drop_more, map-append, take-append-drop}
use Rattle.std.proofs.lemmas.Bool.Decides.{nat_tests}
use Rattle.wh_history.specs.Dated.{keep, in_force, at}
use Rattle.wh_history.specs.Rows.{starts}
use Rattle.wh_policy.specs.declared.attribute.AttributeType.{AttributeType}
use Rattle.wh_history.specs.declared.member.Change.{Change}

-- what holds at a day by what was found so far and by the changes to come
abbrev pub goes_on : ℕ → Option Change → List Change → Option Change
goes_on day None rest = at day rest
goes_on day (Some c) rest = Some (in_force day c rest)

-- a change of that day stands at the place, so that no other is added
pub keep_there : {X : Type 0} (v : X → Change) (c : Change) (xs : List X) (p : ℕ) (x : X) → p < length xs → x ≡ get_or xs p x → (v x).day ≡ c.day → keep c (map v xs) ≡ map v (take p xs) ++ keep c (map v (drop p xs)) → map v xs ≡ keep c (map v xs)
keep_there v c xs p x within is same kept =
    let next : drop p xs ≡ x ∷ drop (p + 1) xs = drop_more xs p x within ∙ ap (λ y. y ∷ drop (p + 1) xs) (sym is) in
    let here : keep c (map v (drop p xs)) ≡ map v (drop p xs) = rw next (rw same (grind (arith, nat_tests))) in
    sym (kept ∙ ap (λ t. map v (take p xs) ++ t) here ∙ sym (map-append v (take p xs) (drop p xs)) ∙ ap (map v) (take-append-drop p xs))

-- one change has no start after it, and none has none
pub starts_end : (kinds : List AttributeType) (xs : List Change) → length xs ≤ 1 → starts kinds xs ≡ []
starts_end kinds [] h = refl
starts_end kinds (x ∷ []) h = refl
starts_end kinds (x ∷ y ∷ ys) h = absurd (omega arith)
