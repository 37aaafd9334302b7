-- The rows of table profile.
use Rattle.std.proofs.Common.{◌≡◌, ℕ, zero, suc, ◌+◌, ◌-◌, ◌<◌, ◌≤◌, Bool, true, false, cond, ◌&&◌, nat_le, List, [], ◌∷◌, ◌++◌, map, length, replicate, take, reverse, get_or, Option, Some, None, refl, sym, ◌∙◌, ap, subst, arith}
use Rattle.std.specs.Prelude.{filter, option_map, find}
use Rattle.std.specs.List.{AllByRecursion}
use Rattle.std.specs.Option.{option_to_list}
use Rattle.std.specs.Ordering.{nat_cmp}
use Rattle.std.specs.FinMap.{values, get, nat_cmp-IsAntisymmetric}
use Rattle.std.proofs.lemmas.Bool.{le-leb}
use Rattle.std.proofs.lemmas.Cmp.{nat_cmp_total}
use Rattle.wh_policy.specs.Types.{is_profile}
use Rattle.wh_policy.specs.declared.attribute.AttributeType.{AttributeType}
use Rattle.wh_policy.specs.declared.attribute.Dim.TheVariants.{Customer}
use Rattle.wh_policy.specs.declared.record.DimensionRecord.{DimensionRecord}
use Rattle.wh_history.specs.Accepted.{Accepted, described, types_in, profiles_of}
use Rattle.wh_history.specs.Keys.{place, at_place}
use Rattle.wh_history.specs.Profiles.{after_unknown, profile_number}
use Rattle.wh_history.specs.Slots.{columns_from, picked, picks, six, are_same}
use Rattle.wh_history.specs.Tables.{Limits}
use Rattle.wh_history.proofs.Basics.{some_is, both_true, texts_decide}
use Rattle.wh_history.proofs.Once.{once_distinct}
use Rattle.wh_history.proofs.Owners.{all_distinct}
use Rattle.wh_history.proofs.Places.{at_place-place}
use Rattle.wh_rows.specs.Firsts.{part}
use Rattle.wh_rows.specs.Tables.{Tables}
use Rattle.wh_rows.specs.declared.rows.ProfileRow.{ProfileRow}
use Rattle.wh_sql.specs.Answers.{same_text, same_slots}
use Rattle.wh_model.specs.Defined.{AreOf, profile_at}
use Rattle.wh_plan.specs.Profiles.{number_kept}
use Rattle.wh_model.proofs.FoundPlaces.{same_text_is, text_itself, at_place_there, place_at}
use Rattle.wh_model.proofs.GrownProfiles.{profile_keyed, none_past}
use Rattle.wh_model.proofs.Listed.{passes_at, none_passes, values-numbered, last_numbered}
use Rattle.wh_rows.proofs.Edits.{filter_all}

-- ---- the texts of six slots

get_filled : (k i : ℕ) → ◌≡◌ {A = List ℕ} (get_or (replicate k []) i []) []
get_filled zero i = refl
get_filled (suc k) zero = refl
get_filled (suc k) (suc i) = get_filled k i

get_more : (v : List (List ℕ)) (k i : ℕ) → get_or (v ++ replicate k []) i [] ≡ get_or v i []
get_more [] k i = get_filled k i
get_more (x ∷ v) k zero = refl
get_more (x ∷ v) k (suc i) = get_more v k i

get_six : (v : List (List ℕ)) (i : ℕ) → get_or (six v) i [] ≡ get_or v i []
get_six v i = get_more v (6 - length v) i

pub slots_themselves : (v : List (List ℕ)) → same_slots v (six v) ≡ true
slots_themselves v =
    let one : (i : ℕ) → same_text (get_or v i []) (get_or (six v) i []) ≡ true = λ i. ap (same_text (get_or v i [])) (get_six v i) ∙ text_itself (get_or v i []) in
    rw (one 0, one 1, one 2, one 3, one 4, one 5) refl

same_lists : (n : ℕ) (v w : List (List ℕ)) → length v ≡ length w → length v ≤ n → ((i : ℕ) → i < n → get_or v i [] ≡ get_or w i []) → v ≡ w
same_lists n [] [] long few each = refl
same_lists n [] (y ∷ w) long few each = absurd (omega arith)
same_lists n (x ∷ v) [] long few each = absurd (omega arith)
same_lists zero (x ∷ v) (y ∷ w) long few each = absurd (omega arith)
same_lists (suc n) (x ∷ v) (y ∷ w) long few each =
    let first : x ≡ y = each 0 (omega arith) in
    let rest = same_lists n v w (omega arith) (omega arith) (λ i within. each (suc i) (omega arith)) in
    ap (λ z. z ∷ v) first ∙ ap (λ zs. y ∷ zs) rest

pub slots_are : (v w : List (List ℕ)) → length v ≡ length w → length v ≤ 6 → same_slots v (six w) ≡ true → v ≡ w
slots_are v w long few same =
    let s0 = both_true _ _ same in
    let s1 = both_true _ _ s0.1 in
    let s2 = both_true _ _ s1.1 in
    let s3 = both_true _ _ s2.1 in
    let s4 = both_true _ _ s3.1 in
    let of : (i : ℕ) → same_text (get_or v i []) (get_or (six w) i []) ≡ true → get_or v i [] ≡ get_or w i [] = λ i test. same_text_is _ _ test ∙ get_six w i in
    same_lists 6 v w long few (each (of 0 s0.0) (of 1 s1.0) (of 2 s2.0) (of 3 s3.0) (of 4 s4.0) (of 5 s4.1))
  where
    each : get_or v 0 [] ≡ get_or w 0 [] → get_or v 1 [] ≡ get_or w 1 [] → get_or v 2 [] ≡ get_or w 2 [] → get_or v 3 [] ≡ get_or w 3 [] → get_or v 4 [] ≡ get_or w 4 [] → get_or v 5 [] ≡ get_or w 5 [] → (i : ℕ) → i < 6 → get_or v i [] ≡ get_or w i []
    each a b c d e f zero h = a
    each a b c d e f (suc zero) h = b
    each a b c d e f (suc (suc zero)) h = c
    each a b c d e f (suc (suc (suc zero))) h = d
    each a b c d e f (suc (suc (suc (suc zero)))) h = e
    each a b c d e f (suc (suc (suc (suc (suc zero))))) h = f
    each a b c d e f (suc (suc (suc (suc (suc (suc i)))))) h = absurd (omega arith)

long_columns : (kinds : List AttributeType) (values : List (List ℕ)) (from : ℕ) → length (columns_from (picked is_profile values) from kinds) ≡ length kinds
long_columns [] values from = refl
long_columns (kind ∷ kinds) values from = ap suc (long_columns kinds values (suc from))

-- ---- one that passes two tests

abbrev first_one : List ProfileRow → Option ProfileRow
first_one [] = None
first_one (r ∷ rs) = Some r

first_of_both : (p q : ProfileRow → Bool) (rs : List ProfileRow) → find p (filter q rs) ≡ first_one (filter (λ r. p r && q r) rs)
first_of_both p q [] = refl
first_of_both p q (r ∷ rs) =
    let rest = first_of_both p q rs in
    elim (q r) as (λ b. find p (cond b (r ∷ filter q rs) (filter q rs)) ≡ first_one (cond (p r && b) (r ∷ filter (λ r. p r && q r) rs) (filter (λ r. p r && q r) rs))) [
      | true ↦ elim (p r) as (λ b. cond b (Some r) (find p (filter q rs)) ≡ first_one (cond (b && true) (r ∷ filter (λ r. p r && q r) rs) (filter (λ r. p r && q r) rs))) [ true ↦ refl | false ↦ rest ]
      | false ↦ elim (p r) as (λ b. find p (filter q rs) ≡ first_one (cond (b && false) (r ∷ filter (λ r. p r && q r) rs) (filter (λ r. p r && q r) rs))) [ true ↦ rest | false ↦ rest ]
    ]

first_listed : (o : Option ProfileRow) → first_one (option_to_list o) ≡ o
first_listed None = refl
first_listed (Some r) = refl

-- ---- what stands at a number

abbrev numbered : ℕ → List (List ℕ) → ProfileRow
numbered n values = record { number = n; values = values }

pub record Stands (commands : List Accepted) (j : ℕ) (w : ProfileRow) : Type 0 where
  pub back : ℕ
  pub texts : List (List ℕ)
  pub number : j ≡ suc (suc back)
  pub at : at_place (suc back) (profiles_of commands) ≡ Some texts
  pub row : w ≡ numbered j (six texts)

stands_by : (commands : List Accepted) (i : ℕ) (w : ProfileRow) (o : Option (List (List ℕ))) → at_place (suc i) (profiles_of commands) ≡ o → option_map (numbered (suc (suc i))) (option_map six o) ≡ Some w → Stands commands (suc (suc i)) w
stands_by commands i w None at is = absurd cc
stands_by commands i w (Some texts) at is = record { back = i; texts = texts; number = refl; at = at; row = sym (some_is _ _ is) }

stands : (commands : List Accepted) (j : ℕ) (w : ProfileRow) → profile_at commands j ≡ Some w → nat_le 2 w.number ≡ true → Stands commands j w
stands commands zero w is high = let low : nat_le 2 0 ≡ true = ap (λ (r : ProfileRow). nat_le 2 r.number) (some_is _ _ is) ∙ high in absurd cc
stands commands (suc zero) w is high = let low : nat_le 2 1 ≡ true = ap (λ (r : ProfileRow). nat_le 2 r.number) (some_is _ _ is) ∙ high in absurd cc
stands commands (suc (suc i)) w is high = stands_by commands i w (at_place (suc i) (profiles_of commands)) refl is

all_at_place : (P : List (List ℕ) → Type 0) (n : ℕ) (cs : List (List (List ℕ))) (c : List (List ℕ)) → AllByRecursion P cs → at_place (suc n) cs ≡ Some c → P c
all_at_place P n [] c all at = absurd cc
all_at_place P zero (d ∷ cs) c all at = let is : d ≡ c = cc in subst P is all.0
all_at_place P (suc n) (d ∷ cs) c all at = all_at_place P n cs c all.1 at

module _ (limits : Limits) (commands : List Accepted) (t : Tables) (are : AreOf limits commands t) where
  abbrev combinations : List (List (List ℕ))
  combinations = profiles_of commands

  -- the one of the greatest number
  last_is_there : (n : ℕ) → length (profiles_of commands) ≡ n → (v : ProfileRow) × (profile_at commands (0 + suc n) ≡ Some v) × (v.number ≡ suc n)
  last_is_there zero none = (_, refl, refl)
  last_is_there (suc n) some =
      let there = at_place_there (suc n) (profiles_of commands) (omega arith) (omega arith) in
      let same : 0 + suc (suc n) ≡ suc (suc n) = omega arith in
      (numbered (suc (suc n)) (six there.0), ap (profile_at commands) same ∙ ap (λ o. option_map (numbered (suc (suc n))) (option_map six o)) there.1, refl)

  pub last_profile : (v : ProfileRow) × (part (Some (record { most = 1; backwards = true })) (filter (λ r. true) (values t.profile)) ≡ v ∷ []) × (v.number ≡ suc (length (profiles_of commands)))
  last_profile =
      let count = length (profiles_of commands) in
      let last = last_is_there count refl in
      let listed = filter_all (values t.profile) ∙ values-numbered (λ (r : ProfileRow). r.number) t.profile (profile_at commands) are.profile (profile_keyed commands) (suc count) (λ n past. none_past commands n past) in
      (last.0, ap (λ (rs : List ProfileRow). take 1 (reverse rs)) listed ∙ last_numbered (profile_at commands) 0 (suc count) last.0 last.1, last.2)

  module _ (kinds : List AttributeType) (kinds_are : types_in Customer commands ≡ kinds) (few : length kinds ≤ 6) (told : List (List ℕ)) where
    abbrev texts : List (List ℕ)
    texts = picks is_profile kinds told

    abbrev keep : ProfileRow → Bool
    keep r = nat_le 2 r.number && same_slots (picks is_profile kinds told) r.values

    long : length texts ≡ length kinds
    long = long_columns kinds told 0

    all_long : AllByRecursion (λ (c : List (List ℕ)). length c ≡ length kinds) combinations
    all_long =
        all_distinct (λ (c : List (List ℕ)). length c ≡ length kinds) are_same (map (λ (r : DimensionRecord). picks is_profile (types_in Customer commands) r.values) (described Customer commands)) (each (described Customer commands))
      where
        each : (rs : List DimensionRecord) → AllByRecursion (λ (c : List (List ℕ)). length c ≡ length kinds) (map (λ (r : DimensionRecord). picks is_profile (types_in Customer commands) r.values) rs)
        each [] = tt
        each (r ∷ rs) = (long_columns (types_in Customer commands) r.values 0 ∙ ap length kinds_are, each rs)

    -- a row that passes stands at the place of the combination
    placed : (j : ℕ) (w : ProfileRow) → get t.profile j ≡ Some w → keep w ≡ true → (i : ℕ) × (j ≡ suc (suc i)) × (place are_same texts combinations ≡ suc i)
    placed j w here passes =
        let both = both_true _ _ passes in
        let s = stands commands j w (sym (are.profile j) ∙ here) both.0 in
        let same : same_slots texts (six s.texts) ≡ true = ap (λ (r : ProfileRow). same_slots texts r.values) (sym s.row) ∙ both.1 in
        let other = all_at_place (λ (c : List (List ℕ)). length c ≡ length kinds) s.back combinations s.texts all_long s.at in
        let is : texts ≡ s.texts = slots_are texts s.texts (long ∙ sym other) (let n = long in omega arith) same in
        let once = once_distinct are_same texts_decide (map (λ (r : DimensionRecord). picks is_profile (types_in Customer commands) r.values) (described Customer commands)) in
        (s.back, s.number, place_at are_same texts_decide (suc s.back) combinations texts once (s.at ∙ ap Some (sym is)))

    kept_by : (n : ℕ) → place are_same texts combinations ≡ n → number_kept t.profile texts ≡ after_unknown n
    kept_by zero none =
        let nothing = none_passes nat_cmp nat_cmp_total nat_cmp-IsAntisymmetric (λ (r : ProfileRow). r.number) keep t.profile (λ k w here passes. let p = placed k w here passes in let never : 0 ≡ suc p.0 = sym none ∙ p.2 in absurd cc) in
        ap (option_map (λ (r : ProfileRow). r.number)) (first_of_both (λ r. nat_le 2 r.number) (λ r. same_slots texts r.values) (values t.profile) ∙ ap first_one nothing)
    kept_by (suc m) at =
        let there : at_place (suc m) combinations ≡ Some texts = ap (λ n. at_place n combinations) (sym at) ∙ at_place-place are_same texts_decide texts combinations (omega arith) in
        let stands_there : get t.profile (suc (suc m)) ≡ Some (numbered (suc (suc m)) (six texts)) = are.profile (suc (suc m)) ∙ ap (λ o. option_map (numbered (suc (suc m))) (option_map six o)) there in
        let high : nat_le 2 (suc (suc m)) ≡ true = le-leb 2 (suc (suc m)) (omega arith) in
        let own : (w : ProfileRow) → get t.profile (suc (suc m)) ≡ Some w → (w.number ≡ suc (suc m)) × (keep w ≡ true) = λ w here.
        let row : numbered (suc (suc m)) (six texts) ≡ w = some_is _ _ (sym stands_there ∙ here) in
        (ap (λ (r : ProfileRow). r.number) (sym row), ap keep (sym row) ∙ rw (high, slots_themselves texts) refl) in
        let only : (j : ℕ) (w : ProfileRow) → get t.profile j ≡ Some w → keep w ≡ true → j ≡ suc (suc m) = λ j w here passes. let p = placed j w here passes in let same : suc m ≡ suc p.0 = sym at ∙ p.2 in p.1 ∙ ap suc (sym same) in
        let passing = passes_at nat_cmp nat_cmp_total nat_cmp-IsAntisymmetric (λ (r : ProfileRow). r.number) keep t.profile (suc (suc m)) own only in
        ap (option_map (λ (r : ProfileRow). r.number)) (first_of_both (λ r. nat_le 2 r.number) (λ r. same_slots texts r.values) (values t.profile) ∙ ap first_one passing ∙ first_listed (get t.profile (suc (suc m))) ∙ stands_there)

    -- a search by the values of slots finds the number
    pub number_kept_is : number_kept t.profile (picks is_profile kinds told) ≡ profile_number (profiles_of commands) (picks is_profile kinds told)
    number_kept_is = kept_by (place are_same texts combinations) refl
