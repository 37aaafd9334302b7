-- What is known of the numbers of combinations of profile values.
use Rattle.std.proofs.Common.{◌≡◌, ℕ, zero, suc, ◌+◌, Bool, true, false, cond, ◌||◌, List, [], ◌∷◌, ◌++◌, map, length, Option, Some, None, refl, sym, ◌∙◌, ap, arith}
use Rattle.std.specs.Prelude.{option_map, unwrap_or, find}
use Rattle.std.specs.List.{list_any, AllByRecursion}
use Rattle.wh_day.specs.Day.{first_day}
use Rattle.wh_policy.specs.Types.{is_profile, is_outrigger}
use Rattle.wh_policy.specs.declared.attribute.AttributeType.{AttributeType}
use Rattle.wh_policy.specs.declared.attribute.Dim.{Dim}
use Rattle.wh_policy.specs.declared.attribute.Dim.TheVariants.{Product, Store, Customer}
use Rattle.wh_history.specs.Keys.{place, after_one}
use Rattle.wh_history.specs.Slots.{picks, are_same}
use Rattle.wh_history.specs.Dated.{dated, newest, at}
use Rattle.wh_history.specs.Rows.{row, rows_by, rows, spans, starts}
use Rattle.wh_history.specs.Profiles.{after_unknown, profile_number, current_by, current_profile}
use Rattle.wh_history.specs.Facts.{key_in, rekeyed_to, rekeyed_fact}
use Rattle.wh_history.specs.Shapes.{Shape, RenderedMember}
use Rattle.wh_history.specs.Known.{number_in, numbered_from, all_numbered, KnowsChange, KnowsMember, KnowsEnough}
use Rattle.wh_history.specs.declared.member.Change.{Change}
use Rattle.wh_history.specs.declared.member.Member.{Member}
use Rattle.wh_history.specs.declared.rows.DimRow.{DimRow}
use Rattle.wh_history.specs.declared.facts.Fact.{Fact}
use Rattle.wh_history.specs.declared.profiles.NumberedProfile.{NumberedProfile}
use Rattle.wh_history.proofs.Joins.{all_dated}
use Rattle.wh_history.proofs.Stays.{IfThere, all_newest, all_at}

-- ---- all combinations with their numbers

-- the number of a place, where the first has the next one
abbrev counted : ℕ → ℕ → Option ℕ
counted next zero = None
counted next (suc n) = Some (n + next)

counted_after : (next place : ℕ) → counted (suc next) place ≡ counted next (after_one place)
counted_after next zero = refl
counted_after next (suc n) = ap Some (omega arith)

number_counted : (next : ℕ) (combinations : List (List (List ℕ))) (texts : List (List ℕ)) → number_in (numbered_from next combinations) texts ≡ counted next (place are_same texts combinations)
number_counted next [] texts = refl
number_counted next (c ∷ cs) texts =
    let rest : number_in (numbered_from (suc next) cs) texts ≡ counted next (after_one (place are_same texts cs)) = number_counted (suc next) cs texts ∙ counted_after next (place are_same texts cs) in
    elim (are_same c texts) as (λ b. option_map (λ k. k.number) (cond b (Some (record { texts = c; number = next })) (find (λ k. are_same k.texts texts) (numbered_from (suc next) cs))) ≡ counted next (cond b 1 (after_one (place are_same texts cs)))) [
      | true ↦ let same : next ≡ 0 + next = omega arith in ap Some same
      | false ↦ rest
    ]

counted_is : (place : ℕ) → counted 2 place ≡ after_unknown place
counted_is zero = refl
counted_is (suc n) = ap Some (omega arith)

-- where all are known, each has its number
pub number_all : (combinations : List (List (List ℕ))) (texts : List (List ℕ)) → number_in (all_numbered combinations) texts ≡ profile_number combinations texts
number_all combinations texts = number_counted 2 combinations texts ∙ counted_is (place are_same texts combinations)

abbrev pub is_there : Option ℕ → Bool
is_there None = false
is_there (Some n) = true

pub there_is : (next : ℕ) (combinations : List (List (List ℕ))) (texts : List (List ℕ)) → list_any (λ c. are_same c texts) combinations ≡ is_there (number_in (numbered_from next combinations) texts)
there_is next [] texts = refl
there_is next (c ∷ cs) texts =
    let rest = there_is (suc next) cs texts in
    elim (are_same c texts) as (λ b. (b || list_any (λ c. are_same c texts) cs) ≡ is_there (option_map (λ k. k.number) (cond b (Some (record { texts = c; number = next })) (find (λ k. are_same k.texts texts) (numbered_from (suc next) cs))))) [
      | true ↦ refl
      | false ↦ rest
    ]

numbered_last : (next : ℕ) (combinations : List (List (List ℕ))) (texts : List (List ℕ)) → numbered_from next (combinations ++ texts ∷ []) ≡ numbered_from next combinations ++ record { texts = texts; number = length combinations + next } ∷ []
numbered_last next [] texts = let same : next ≡ 0 + next = omega arith in ap (λ n. record { texts = texts; number = n } ∷ []) same
numbered_last next (c ∷ cs) texts =
    let same : length cs + suc next ≡ suc (length cs) + next = omega arith in
    ap (λ (ks : List NumberedProfile). record { texts = c; number = next } ∷ ks) (numbered_last (suc next) cs texts ∙ ap (λ n. numbered_from (suc next) cs ++ record { texts = texts; number = n } ∷ []) same)

numbered_long : (next : ℕ) (combinations : List (List (List ℕ))) → length (numbered_from next combinations) ≡ length combinations
numbered_long next [] = refl
numbered_long next (c ∷ cs) = ap suc (numbered_long (suc next) cs)

abbrev pub with_next : List (List (List ℕ)) → List (List ℕ) → List (List (List ℕ))
with_next combinations texts = cond (list_any (λ c. are_same c texts) combinations) combinations (combinations ++ texts ∷ [])

pub next_there : (known : List NumberedProfile) (combinations : List (List (List ℕ))) (texts : List (List ℕ)) (n : ℕ) → number_in known texts ≡ Some n → known ≡ all_numbered combinations → known ≡ all_numbered (with_next combinations texts)
next_there known combinations texts n found all =
    let any : list_any (λ c. are_same c texts) combinations ≡ true = there_is 2 combinations texts ∙ ap (λ ks. is_there (number_in ks texts)) (sym all) ∙ ap is_there found in
    all ∙ sym (ap (λ b. all_numbered (cond b combinations (combinations ++ texts ∷ []))) any)

pub next_new : (known : List NumberedProfile) (combinations : List (List (List ℕ))) (texts : List (List ℕ)) (count : ℕ) → count ≡ length known → number_in known texts ≡ None → known ≡ all_numbered combinations
    → known ++ record { texts = texts; number = count + 2 } ∷ [] ≡ all_numbered (with_next combinations texts)
next_new known combinations texts count many found all =
    let none : list_any (λ c. are_same c texts) combinations ≡ false = there_is 2 combinations texts ∙ ap (λ ks. is_there (number_in ks texts)) (sym all) ∙ ap is_there found in
    let long : count ≡ length combinations = many ∙ ap (λ (ks : List NumberedProfile). length ks) all ∙ numbered_long 2 combinations in
    ap (λ n. known ++ record { texts = texts; number = n + 2 } ∷ []) long
    ∙ ap (λ ks. ks ++ record { texts = texts; number = length combinations + 2 } ∷ []) all
    ∙ sym (numbered_last 2 combinations texts)
    ∙ sym (ap (λ b. all_numbered (cond b combinations (combinations ++ texts ∷ []))) none)

-- ---- rows and facts by what is known

module _ (kinds : List AttributeType) (number : List (List ℕ) → Option ℕ) (combinations : List (List (List ℕ))) where
  current_known : (o : Option Change) → IfThere (KnowsChange kinds number combinations) o → current_by kinds number o ≡ current_profile kinds combinations o
  current_known None known = refl
  current_known (Some c) known = ap (λ (o : Option ℕ). unwrap_or o 0) known

  -- the profile of a day
  pub day_known : (m : Member) → KnowsMember kinds number combinations m → (day : ℕ) → current_by kinds number (at day (dated m.changes)) ≡ current_profile kinds combinations (at day (dated m.changes))
  day_known m known day =
      let P = KnowsChange kinds number combinations in
      current_known (at day (dated m.changes)) (all_at P day (dated m.changes) (all_dated P m.changes known))

  -- a member's rows
  pub rows_known : (m : Member) → KnowsMember kinds number combinations m → rows_by kinds number m ≡ rows kinds combinations m
  rows_known m known =
      let P = KnowsChange kinds number combinations in
      let now = current_known (newest (dated m.changes)) (all_newest P (dated m.changes) (all_dated P m.changes known)) in
      ap (λ n. map (row kinds (cond (list_any is_outrigger kinds) n 0) m) (spans first_day (starts kinds (dated m.changes)))) now

  -- its rows where they show no profile
  pub rows_plain : (m : Member) → list_any is_outrigger kinds ≡ false → rows_by kinds number m ≡ rows kinds combinations m
  rows_plain m none =
      let show = λ (n : ℕ) (b : Bool). map (row kinds (cond b n 0) m) (spans first_day (starts kinds (dated m.changes))) in
      ap (show (current_by kinds number (newest (dated m.changes)))) none ∙ sym (ap (show (current_profile kinds combinations (newest (dated m.changes)))) none)

  -- what is known of a member of each dimension
  pub rows_enough : (dim : Dim) (m : Member) → KnowsEnough dim kinds number combinations m → rows_by kinds number m ≡ rows kinds combinations m
  rows_enough Product m none = rows_plain m none
  rows_enough Store m none = rows_plain m none
  rows_enough Customer m known = rows_known m known

  -- a fact with its new keys
  abbrev pub known_shape : Dim → (List (List ℕ) → Option ℕ) → Shape
  known_shape dim numbers = record { dim = dim; kinds = kinds; number = numbers }

  abbrev pub with_those : Member → List DimRow → RenderedMember
  with_those m rs = record { member = m; rows = rs; dated = dated m.changes }

  pub rekeyed_enough : (dim : Dim) (m : Member) → KnowsEnough dim kinds number combinations m → (rs : List DimRow) (f : Fact)
      → rekeyed_fact (known_shape dim number) (with_those m rs) f ≡ rekeyed_fact (known_shape dim (profile_number combinations)) (with_those m rs) f
  rekeyed_enough Product m none rs f = refl
  rekeyed_enough Store m none rs f = refl
  rekeyed_enough Customer m known rs f = ap (λ n. rekeyed_to f (record f.keys { customer_key = key_in rs f.day; profile = n })) (day_known m known f.day)

  -- where all numbers are known, those of each member's changes are
  pub all_changes_known : ((texts : List (List ℕ)) → number texts ≡ profile_number combinations texts) → (cs : List Change) → AllByRecursion (KnowsChange kinds number combinations) cs
  all_changes_known all [] = tt
  all_changes_known all (c ∷ cs) = (all (picks is_profile kinds c.values), all_changes_known all cs)

-- the rows of members where all combinations are known
pub rows_of_all : (kinds : List AttributeType) (combinations : List (List (List ℕ))) (ms : List Member) → map (rows_by kinds (number_in (all_numbered combinations))) ms ≡ map (rows kinds combinations) ms
rows_of_all kinds combinations [] = refl
rows_of_all kinds combinations (m ∷ ms) =
    let here = rows_known kinds (number_in (all_numbered combinations)) combinations m (all_changes_known kinds (number_in (all_numbered combinations)) combinations (number_all combinations) m.changes) in
    ap (λ rs. rs ∷ map (rows_by kinds (number_in (all_numbered combinations))) ms) here ∙ ap (λ rss. rows kinds combinations m ∷ rss) (rows_of_all kinds combinations ms)
