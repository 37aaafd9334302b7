-- A dated list accepted again, in order of its days, is the same dated list.
use Rattle.std.proofs.Common.{◌≡◌, ℕ, ◌-◌, ◌<◌, ◌==◌, true, false, cond, not, List, [], ◌∷◌, map, length, reverse, Option, Some, None, refl, sym, ap, ◌∙◌, arith, nat_lt, nat_le}
use Rattle.std.specs.Prelude.{option_map, slice_get, find, unwrap_or, bytes_eq}
use Rattle.std.specs.List.{AllByRecursion}
use Rattle.std.proofs.lemmas.Bool.{lt-ltb, eq-eqb, le-ltb}
use Rattle.std.proofs.lemmas.List.{length-map}
use Rattle.std.proofs.lemmas.Option.{slice_get-map}
use Rattle.std.proofs.lemmas.Slice.Eq.{bytes_eq-Decides}
use Rattle.wh_day.specs.Value.{none_text}
use Rattle.wh_history.specs.declared.member.Change.{Change}
use Rattle.wh_history.specs.Dated.{keep, dated, in_force, at, newest, said, value_at, latest, values_in, first_other_than, original, prior}
use Rattle.wh_history.specs.Laws.{RisesFrom, DaysRise}
use Rattle.wh_records.specs.Laws.{unnumbered}

-- ---- numbers of anchors are of no account

keep_unnumbered : (c : Change) (es : List Change) → map unnumbered (keep c es) ≡ keep (unnumbered c) (map unnumbered es)
keep_unnumbered c [] = refl
keep_unnumbered c (e ∷ es) =
    let rest = keep_unnumbered c es in
    elim (nat_lt c.day e.day) as (λ b. map unnumbered (cond b (c ∷ e ∷ es) (cond (c.day == e.day) (e ∷ es) (e ∷ keep c es)))
    ≡ cond b (unnumbered c ∷ unnumbered e ∷ map unnumbered es) (cond (c.day == e.day) (unnumbered e ∷ map unnumbered es) (unnumbered e ∷ keep (unnumbered c) (map unnumbered es)))) [
      | true ↦ refl
      | false ↦ elim (c.day == e.day) as (λ b. map unnumbered (cond b (e ∷ es) (e ∷ keep c es)) ≡ cond b (unnumbered e ∷ map unnumbered es) (unnumbered e ∷ keep (unnumbered c) (map unnumbered es))) [
        | true ↦ refl
        | false ↦ ap (λ (t : List Change). unnumbered e ∷ t) rest
      ]
    ]

pub dated_unnumbered : (cs : List Change) → map unnumbered (dated cs) ≡ dated (map unnumbered cs)
dated_unnumbered [] = refl
dated_unnumbered (c ∷ cs) = keep_unnumbered c (dated cs) ∙ ap (keep (unnumbered c)) (dated_unnumbered cs)

in_force_unnumbered : (day : ℕ) (first : Change) (cs : List Change) → in_force day (unnumbered first) (map unnumbered cs) ≡ unnumbered (in_force day first cs)
in_force_unnumbered day first [] = refl
in_force_unnumbered day first (c ∷ cs) =
    let rest = in_force_unnumbered day c cs in
    elim (nat_le c.day day) as (λ b. cond b (in_force day (unnumbered c) (map unnumbered cs)) (unnumbered first) ≡ unnumbered (cond b (in_force day c cs) first)) [ true ↦ rest | false ↦ refl ]

at_unnumbered : (day : ℕ) (cs : List Change) → at day (map unnumbered cs) ≡ option_map unnumbered (at day cs)
at_unnumbered day [] = refl
at_unnumbered day (c ∷ cs) = ap Some (in_force_unnumbered day c cs)

said_unnumbered : (place : ℕ) (o : Option Change) → said place (option_map unnumbered o) ≡ said place o
said_unnumbered place None = refl
said_unnumbered place (Some c) = refl

newest_unnumbered : (cs : List Change) → newest (map unnumbered cs) ≡ option_map unnumbered (newest cs)
newest_unnumbered cs = ap (λ n. slice_get (map unnumbered cs) (n - 1)) (length-map cs unnumbered) ∙ slice_get-map unnumbered cs (length cs - 1)

values_unnumbered : (place : ℕ) (cs : List Change) → values_in place (map unnumbered cs) ≡ values_in place cs
values_unnumbered place [] = refl
values_unnumbered place (c ∷ cs) = let rest = values_unnumbered place cs in cc

pub original_unnumbered : (place : ℕ) (cs : List Change) → original place (map unnumbered cs) ≡ original place cs
original_unnumbered place [] = refl
original_unnumbered place (c ∷ cs) = ap (first_other_than none_text) (values_unnumbered place (c ∷ cs))

-- lists that are one but for these say the same
module _ (changes others : List Change) (same : map unnumbered (dated changes) ≡ map unnumbered (dated others)) where
  pub same_at : (day place : ℕ) → value_at day place changes ≡ value_at day place others
  same_at day place =
      sym (ap (said place) (at_unnumbered day (dated changes)) ∙ said_unnumbered place (at day (dated changes)))
      ∙ ap (λ cs. said place (at day cs)) same
      ∙ ap (said place) (at_unnumbered day (dated others)) ∙ said_unnumbered place (at day (dated others))

  pub same_latest : (place : ℕ) → latest place changes ≡ latest place others
  same_latest place =
      sym (ap (said place) (newest_unnumbered (dated changes)) ∙ said_unnumbered place (newest (dated changes)))
      ∙ ap (λ cs. said place (newest cs)) same
      ∙ ap (said place) (newest_unnumbered (dated others)) ∙ said_unnumbered place (newest (dated others))

  pub same_prior : (place : ℕ) → prior place changes ≡ prior place others
  same_prior place =
      let values : values_in place (dated changes) ≡ values_in place (dated others) =
      sym (values_unnumbered place (dated changes)) ∙ ap (values_in place) same ∙ values_unnumbered place (dated others) in
      ap (λ t. first_other_than t (reverse (values_in place (dated changes)))) (same_latest place)
      ∙ ap (λ vs. first_other_than (latest place others) (reverse vs)) values

-- ---- changes in order of their days

rest_rises : (c : Change) (cs : List Change) → RisesFrom c.day cs → DaysRise cs
rest_rises c [] up = tt
rest_rises c (d ∷ ds) up = up.1

rises_unnumbered : (day : ℕ) (cs : List Change) → RisesFrom day cs → RisesFrom day (map unnumbered cs)
rises_unnumbered day [] up = tt
rises_unnumbered day (c ∷ cs) up = (up.0, rises_unnumbered c.day cs up.1)

pub rise_unnumbered : (cs : List Change) → DaysRise cs → DaysRise (map unnumbered cs)
rise_unnumbered [] up = tt
rise_unnumbered (c ∷ cs) up = rises_unnumbered c.day cs up

keep_earlier : (c : Change) (cs : List Change) → RisesFrom c.day cs → keep c cs ≡ c ∷ cs
keep_earlier c [] up = refl
keep_earlier c (e ∷ es) up = let before : c.day < e.day = up.0 in rw (lt-ltb c.day e.day before) refl

pub again : (cs : List Change) → DaysRise cs → dated cs ≡ cs
again [] up = refl
again (c ∷ cs) up = ap (keep c) (again cs (rest_rises c cs up)) ∙ keep_earlier c cs up

-- and one of the first day before them is of no account
pub with_first : (f e : Change) (es : List Change) → f.day ≡ e.day → DaysRise (e ∷ es) → dated (f ∷ e ∷ es) ≡ e ∷ es
with_first f e es same up =
    let kept : keep f (e ∷ es) ≡ e ∷ es = rw (le-ltb f.day e.day (omega (arith, same)), eq-eqb f.day e.day same) refl in
    ap (keep f) (again (e ∷ es) up) ∙ kept

-- ---- original values

-- the first one gives them, where it has each one
pub led_by : (v : List ℕ) (vs : List (List ℕ)) → (v ≡ none_text → AllByRecursion (λ w. w ≡ none_text) vs) → first_other_than none_text (v ∷ vs) ≡ v
led_by v vs all = elim (bytes_eq v none_text) as (λ b. (bytes_eq v none_text ≡ b) → unwrap_or (cond (not b) (Some v) (find (λ t. not (bytes_eq t none_text)) vs)) none_text ≡ v) [
  | true ↦ λ e. let none : v ≡ none_text = (bytes_eq-Decides v none_text).0 e in rw (none_found vs (all none)) (sym none)
  | false ↦ λ e. refl
] refl
  where
    none_found : (ws : List (List ℕ)) → AllByRecursion (λ w. w ≡ none_text) ws → find (λ t. not (bytes_eq t none_text)) ws ≡ None
    none_found [] none = refl
    none_found (w ∷ ws) none = let is : bytes_eq w none_text ≡ true = (bytes_eq-Decides w none_text).1 none.0 in rw is (none_found ws none.1)

others_none : (vs : List (List ℕ)) → first_other_than none_text vs ≡ none_text → AllByRecursion (λ w. w ≡ none_text) vs
others_none [] none = tt
others_none (v ∷ vs) none = elim (bytes_eq v none_text) as (λ b. (bytes_eq v none_text ≡ b) → unwrap_or (cond (not b) (Some v) (find (λ t. not (bytes_eq t none_text)) vs)) none_text ≡ none_text → AllByRecursion (λ w. w ≡ none_text) (v ∷ vs)) [
  | true ↦ λ e h. ((bytes_eq-Decides v none_text).0 e, others_none vs h)
  | false ↦ λ e h. let is : bytes_eq v none_text ≡ true = (bytes_eq-Decides v none_text).1 h in absurd cc
] refl none

-- a value in a slot is none
abbrev pub HasNone : ℕ → Change → Type 0
HasNone place c = (values_in place (c ∷ [])) ≡ none_text ∷ []

each_none : (place : ℕ) (cs : List Change) → AllByRecursion (λ w. w ≡ none_text) (values_in place cs) → AllByRecursion (HasNone place) cs
each_none place [] all = tt
each_none place (c ∷ cs) all = (ap (λ v. v ∷ []) all.0, each_none place cs all.1)

pub none_each : (place : ℕ) (cs : List Change) → AllByRecursion (HasNone place) cs → AllByRecursion (λ w. w ≡ none_text) (values_in place cs)
none_each place [] all = tt
none_each place (c ∷ cs) all = (let here = all.0 in cc, none_each place cs all.1)

pub none_given : (place : ℕ) (cs : List Change) → original place cs ≡ none_text → AllByRecursion (HasNone place) cs
none_given place [] none = tt
none_given place (c ∷ cs) none = each_none place (c ∷ cs) (others_none (values_in place (c ∷ cs)) none)
