-- What is accepted after the carried records makes of a member what it would make of it in the older file.
use Rattle.std.proofs.Common.{◌≡◌, ℕ, ◌<◌, ◌≤◌, ◌==◌, true, false, cond, not, List, [], ◌∷◌, ◌++◌, map, reverse, Some, None, refl, sym, ap, ◌∙◌, subst, arith, inl, inr}
use Rattle.std.specs.Prelude.{filter, find, slice_get, unwrap_or, bytes_eq}
use Rattle.std.specs.Option.{option_or}
use Rattle.std.proofs.lemmas.Bool.{cases_lt, cases_eq, eq-eqb, ne_eqb}
use Rattle.std.proofs.lemmas.Grind.{flat_map-append}
use Rattle.std.proofs.lemmas.List.{map-append, reverse-append}
use Rattle.std.proofs.lemmas.List.Elements.{filter-append}
use Rattle.std.proofs.lemmas.List.Folds.{find-append}
use Rattle.std.proofs.lemmas.Slice.Eq.{bytes_eq-Decides}
use Rattle.wh_day.specs.Day.{is_day}
use Rattle.wh_day.specs.Value.{none_text}
use Rattle.wh_policy.specs.Types.{is_profile}
use Rattle.wh_policy.specs.declared.attribute.AttributeType.{AttributeType}
use Rattle.wh_policy.specs.declared.attribute.Dim.{Dim}
use Rattle.wh_history.specs.Accepted.{Accepted, types_in, described, described_by, changes_of}
use Rattle.wh_history.specs.Dated.{dated, at, values_in, first_other_than, original}
use Rattle.wh_history.specs.Laws.{ChangesHaveDays, RisesFrom, DaysRise, is_of}
use Rattle.wh_history.specs.Tables.{Limits}
use Rattle.wh_history.specs.declared.member.Change.{Change}
use Rattle.wh_history.proofs.DatedLists.{dated_lists_are_exact, changes_in_force}
use Rattle.wh_history.proofs.Joins.{all_append, all_dated}
use Rattle.wh_history.proofs.Lists.{all_apart}
use Rattle.wh_admission.specs.Admission.{AreAdmitted}
use Rattle.wh_records.specs.Laws.{unnumbered, SaysTheSame, Carries, MembersGoOn}
use Rattle.wh_records.proofs.CarriedMembers.{plain, plain_changes, have_days, members_are_carried}
use Rattle.wh_records.proofs.DatedAgain.{dated_unnumbered, original_unnumbered, same_at, same_latest, same_prior, again}
use Rattle.wh_records.proofs.OneMember.{is_of_member}

-- ---- rising lists with the same change of each day are one

none_of : (low day : ℕ) (cs : List Change) → day ≤ low → RisesFrom low cs → find (is_of day) cs ≡ None
none_of low day [] le up = refl
none_of low day (c ∷ cs) le up =
    let later : low < c.day = up.0 in
    let other : (c.day == day) ≡ false = ne_eqb c.day day (λ same. omega (arith, le, later, same)) in
    rw other (none_of c.day day cs (omega (arith, le, later)) up.1)

found_later : (low day : ℕ) (cs : List Change) (c : Change) → RisesFrom low cs → find (is_of day) cs ≡ Some c → low < day
found_later low day cs c up is = elim (cases_lt low day) [
  | inl later ↦ later
  | inr early ↦ let none = none_of low day cs early up in absurd (cc)
]

rest : (c : Change) (cs : List Change) → RisesFrom c.day cs → DaysRise cs
rest c [] up = tt
rest c (d ∷ ds) up = up.1

own : (c : Change) (cs : List Change) → find (is_of c.day) (c ∷ cs) ≡ Some c
own c cs = rw (eq-eqb c.day c.day refl) refl

some_same : (x y : Change) → Some x ≡ Some y → x ≡ y
some_same x y e = cc

-- the first of each are one
first_same : (x y : Change) (xs ys : List Change) → RisesFrom x.day xs → RisesFrom y.day ys → ((day : ℕ) → find (is_of day) (x ∷ xs) ≡ find (is_of day) (y ∷ ys)) → x ≡ y
first_same x y xs ys up down same = elim (cases_eq y.day x.day) [
  | inl here ↦
      let there : find (is_of x.day) (y ∷ ys) ≡ Some y = rw (eq-eqb y.day x.day here) refl in
      some_same x y (sym (own x xs) ∙ same x.day ∙ there)
  | inr apart ↦
      let there : find (is_of x.day) (y ∷ ys) ≡ find (is_of x.day) ys = rw (ne_eqb y.day x.day apart) refl in
      let behind : y.day < x.day = found_later y.day x.day ys x down (sym there ∙ sym (same x.day) ∙ own x xs) in
      let early : find (is_of y.day) (x ∷ xs) ≡ None = rw (ne_eqb x.day y.day (λ e. omega (arith, behind, e))) (none_of x.day y.day xs (omega (arith, behind)) up) in
      let is = own y ys in
      let e = same y.day in
      absurd (cc)
]

one_list : (xs ys : List Change) → DaysRise xs → DaysRise ys → ((day : ℕ) → find (is_of day) xs ≡ find (is_of day) ys) → xs ≡ ys
one_list [] [] up down same = refl
one_list [] (y ∷ ys) up down same = let e = same y.day in let is = own y ys in absurd (cc)
one_list (x ∷ xs) [] up down same = let e = same x.day in let is = own x xs in absurd (cc)
one_list (x ∷ xs) (y ∷ ys) up down same =
    let one : x ≡ y = first_same x y xs ys up down same in
    let days : x.day ≡ y.day = ap (λ (c : Change). c.day) one in
    let tails : xs ≡ ys = one_list xs ys (rest x xs up) (rest y ys down) (tail days) in
    cc
  where
    tail : x.day ≡ y.day → (day : ℕ) → find (is_of day) xs ≡ find (is_of day) ys
    tail days day = elim (cases_eq x.day day) [
      | inl here ↦ none_of x.day day xs (omega (arith, here)) up ∙ sym (none_of y.day day ys (omega (arith, here, days)) down)
      | inr apart ↦
          let left : find (is_of day) (x ∷ xs) ≡ find (is_of day) xs = rw (ne_eqb x.day day apart) refl in
          let right : find (is_of day) (y ∷ ys) ≡ find (is_of day) ys = rw (ne_eqb y.day day (λ e. apart (days ∙ e))) refl in
          sym left ∙ same day ∙ right
    ]

-- ---- more changes after others

-- they make of them what they make of their dated list
module _ (cs ms : List Change) (days : ChangesHaveDays cs) (more : ChangesHaveDays ms) where
  rising : DaysRise (dated cs)
  rising = (dated_lists_are_exact cs days).0

  dated_days : ChangesHaveDays (dated cs)
  dated_days = all_dated (λ c. is_day c.day ≡ true) cs days

  found_in : (xs : List Change) → ChangesHaveDays xs → (day : ℕ) → find (is_of day) (dated (xs ++ ms)) ≡ option_or (find (is_of day) (reverse ms)) (find (is_of day) (reverse xs))
  found_in xs have day =
      (dated_lists_are_exact (xs ++ ms) (all_append (λ c. is_day c.day ≡ true) xs ms have more)).1 day
      ∙ ap (find (is_of day)) (reverse-append xs ms)
      ∙ find-append (is_of day) (reverse ms) (reverse xs)

  again_found : (day : ℕ) → find (is_of day) (reverse (dated cs)) ≡ find (is_of day) (reverse cs)
  again_found day =
      sym ((dated_lists_are_exact (dated cs) dated_days).1 day)
      ∙ ap (find (is_of day)) (again (dated cs) rising)
      ∙ (dated_lists_are_exact cs days).1 day

  pub by_dated : dated (cs ++ ms) ≡ dated (dated cs ++ ms)
  by_dated = one_list (dated (cs ++ ms)) (dated (dated cs ++ ms))
      (dated_lists_are_exact (cs ++ ms) (all_append (λ c. is_day c.day ≡ true) cs ms days more)).0
      (dated_lists_are_exact (dated cs ++ ms) (all_append (λ c. is_day c.day ≡ true) (dated cs) ms dated_days more)).0
      (λ day. found_in cs days day ∙ ap (option_or (find (is_of day) (reverse ms))) (sym (again_found day)) ∙ sym (found_in (dated cs) dated_days day))

-- ---- original values

-- the first that is given, among some and then among others
first_joined : (vs ws : List (List ℕ)) → first_other_than none_text (vs ++ ws) ≡ cond (bytes_eq (first_other_than none_text vs) none_text) (first_other_than none_text ws) (first_other_than none_text vs)
first_joined [] ws = let is : bytes_eq none_text none_text ≡ true = (bytes_eq-Decides none_text none_text).1 refl in rw is refl
first_joined (v ∷ vs) ws =
    let later = first_joined vs ws in
    elim (bytes_eq v none_text) as (λ b. (bytes_eq v none_text ≡ b) → unwrap_or (cond (not b) (Some v) (find (λ t. not (bytes_eq t none_text)) (vs ++ ws))) none_text
    ≡ cond (bytes_eq (unwrap_or (cond (not b) (Some v) (find (λ t. not (bytes_eq t none_text)) vs)) none_text) none_text) (first_other_than none_text ws) (unwrap_or (cond (not b) (Some v) (find (λ t. not (bytes_eq t none_text)) vs)) none_text)) [
      | true ↦ λ e. later
      | false ↦ λ e. rw e refl
    ] refl

values_joined : (place : ℕ) (cs ms : List Change) → values_in place (cs ++ ms) ≡ values_in place cs ++ values_in place ms
values_joined place [] ms = refl
values_joined place (c ∷ cs) ms = let later = values_joined place cs ms in cc

original_joined : (place : ℕ) (cs ds ms : List Change) → original place cs ≡ original place ds → (cs ≡ [] → ds ≡ []) → (ds ≡ [] → cs ≡ []) → original place (cs ++ ms) ≡ original place (ds ++ ms)
original_joined place [] [] ms same empty also = refl
original_joined place [] (d ∷ ds) ms same empty also = let e = empty refl in absurd (cc)
original_joined place (c ∷ cs) [] ms same empty also = let e = also refl in absurd (cc)
original_joined place (c ∷ cs) (d ∷ ds) ms same empty also =
    ap (first_other_than none_text) (values_joined place (c ∷ cs) ms)
    ∙ first_joined (values_in place (c ∷ cs)) (values_in place ms)
    ∙ ap (λ v. cond (bytes_eq v none_text) (first_other_than none_text (values_in place ms)) v) same
    ∙ sym (first_joined (values_in place (d ∷ ds)) (values_in place ms))
    ∙ sym (ap (first_other_than none_text) (values_joined place (d ∷ ds) ms))

-- ---- of a member

unnumbered_days : (cs : List Change) → ChangesHaveDays cs → ChangesHaveDays (map unnumbered cs)
unnumbered_days [] days = tt
unnumbered_days (c ∷ cs) days = (days.0, unnumbered_days cs days.1)

nothing_known : (cs : List Change) → map unnumbered cs ≡ [] → cs ≡ []
nothing_known [] none = refl
nothing_known (c ∷ cs) none = absurd (cc)

module _ (dim : Dim) (natural : List ℕ) where
  -- what more commands say of it
  abbrev later : List Accepted → List Change
  later more = map plain (filter (is_of_member natural) (described dim more))

  later_after : (commands more : List Accepted) → map unnumbered (changes_of dim (commands ++ more) natural) ≡ map unnumbered (changes_of dim commands natural) ++ later more
  later_after commands more =
      plain_changes dim (commands ++ more) (filter (is_of_member natural) (described dim (commands ++ more)))
      ∙ ap (λ rs. map plain (filter (is_of_member natural) rs)) (flat_map-append (λ (c : Accepted). described_by dim c.content) commands more)
      ∙ ap (map plain) (filter-append (is_of_member natural) (described dim commands) (described dim more))
      ∙ map-append plain (filter (is_of_member natural) (described dim commands)) (filter (is_of_member natural) (described dim more))
      ∙ ap (λ cs. cs ++ later more) (sym (plain_changes dim commands (filter (is_of_member natural) (described dim commands))))

module _ (limits others : Limits) (commands next more : List Accepted) (it : AreAdmitted limits commands) (carries : Carries commands next) (on : AreAdmitted others (next ++ more)) (dim : Dim) (natural : List ℕ) where
  abbrev before : List Change
  before = changes_of dim commands natural

  abbrev after : List Change
  after = changes_of dim next natural

  says : SaysTheSame (types_in dim commands) (changes_of dim next natural) (changes_of dim commands natural)
  says = members_are_carried limits commands next it carries dim natural

  days_before : ChangesHaveDays (map unnumbered (changes_of dim commands natural))
  days_before = unnumbered_days (changes_of dim commands natural) (have_days limits commands it dim natural)

  days_joined : ChangesHaveDays (map unnumbered (changes_of dim next natural) ++ later dim natural more)
  days_joined = subst ChangesHaveDays (later_after dim natural next more) (unnumbered_days (changes_of dim (next ++ more) natural) (have_days others (next ++ more) on dim natural))

  days_after : ChangesHaveDays (map unnumbered (changes_of dim next natural)) × ChangesHaveDays (later dim natural more)
  days_after = all_apart (λ c. is_day c.day ≡ true) (map unnumbered (changes_of dim next natural)) (later dim natural more) days_joined

  same_dated : dated (map unnumbered (changes_of dim next natural)) ≡ dated (map unnumbered (changes_of dim commands natural))
  same_dated = sym (dated_unnumbered (changes_of dim next natural)) ∙ says.by_day ∙ dated_unnumbered (changes_of dim commands natural)

  by_day : map unnumbered (dated (changes_of dim (next ++ more) natural)) ≡ map unnumbered (dated (changes_of dim (commands ++ more) natural))
  by_day =
      dated_unnumbered (changes_of dim (next ++ more) natural)
      ∙ ap dated (later_after dim natural next more)
      ∙ by_dated (map unnumbered (changes_of dim next natural)) (later dim natural more) days_after.0 days_after.1
      ∙ ap (λ cs. dated (cs ++ later dim natural more)) same_dated
      ∙ sym (by_dated (map unnumbered (changes_of dim commands natural)) (later dim natural more) days_before days_after.1)
      ∙ sym (ap dated (later_after dim natural commands more))
      ∙ sym (dated_unnumbered (changes_of dim (commands ++ more) natural))

  -- one list is empty where the other is
  empty_of : (cs ds : List Change) → ChangesHaveDays ds → dated cs ≡ dated ds → cs ≡ [] → ds ≡ []
  empty_of cs ds days same none = (changes_in_force 0 ds days).1 (ap (at 0) (sym same ∙ ap dated none))

  first : (place : ℕ) (kind : AttributeType) → slice_get (types_in dim commands) place ≡ Some kind → is_profile kind ≡ false → original place (changes_of dim (next ++ more) natural) ≡ original place (changes_of dim (commands ++ more) natural)
  first place kind is outside =
      sym (original_unnumbered place (changes_of dim (next ++ more) natural))
      ∙ ap (original place) (later_after dim natural next more)
      ∙ original_joined place (map unnumbered (changes_of dim next natural)) (map unnumbered (changes_of dim commands natural)) (later dim natural more)
      (original_unnumbered place (changes_of dim next natural) ∙ says.first place kind is outside ∙ sym (original_unnumbered place (changes_of dim commands natural)))
      (empty_of (map unnumbered (changes_of dim next natural)) (map unnumbered (changes_of dim commands natural)) days_before same_dated)
      (empty_of (map unnumbered (changes_of dim commands natural)) (map unnumbered (changes_of dim next natural)) days_after.0 (sym same_dated))
      ∙ sym (ap (original place) (later_after dim natural commands more))
      ∙ original_unnumbered place (changes_of dim (commands ++ more) natural)

  pub says_on : SaysTheSame (types_in dim commands) (changes_of dim (next ++ more) natural) (changes_of dim (commands ++ more) natural)
  says_on = record {
    by_day = by_day;
    at_day = same_at (changes_of dim (next ++ more) natural) (changes_of dim (commands ++ more) natural) by_day;
    newest = same_latest (changes_of dim (next ++ more) natural) (changes_of dim (commands ++ more) natural) by_day;
    before = same_prior (changes_of dim (next ++ more) natural) (changes_of dim (commands ++ more) natural) by_day;
    first = first;
  }

pub members_go_on : MembersGoOn
members_go_on limits others commands next more it carries on dim natural = says_on limits others commands next more it carries on dim natural
