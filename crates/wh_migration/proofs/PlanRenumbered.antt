-- The profiles that are numbered anew.
use Rattle.std.proofs.Common.{◌≡◌, inl, inr, ℕ, zero, suc, ◌+◌, ◌<◌, ◌≤◌, true, false, cond, List, [], ◌∷◌, ◌++◌, map, length, Option, Some, None, refl, sym, ◌∙◌, ap, subst, arith, append-nil}
use Rattle.std.specs.Prelude.{filter_map, max, option_map, slice_get}
use Rattle.std.specs.List.{range_with_len, cons_option}
use Rattle.std.specs.FinMap.{values}
use Rattle.wh_policy.specs.declared.attribute.AttributeType.{AttributeType}
use Rattle.wh_policy.specs.declared.attribute.Dim.{Dim}
use Rattle.wh_policy.specs.declared.attribute.Dim.TheVariants.{Customer}
use Rattle.wh_policy.specs.declared.record.DimensionRecord.{DimensionRecord}
use Rattle.wh_history.specs.Accepted.{Accepted, Content, Governs, Describes, Sells, Upgrades, Withdraws, described, described_by, types_in, profiles_of}
use Rattle.wh_history.specs.Known.{numbered_from}
use Rattle.wh_history.specs.Laws.{governs}
use Rattle.wh_history.specs.Plan.{Needs, edit_between}
use Rattle.wh_history.specs.Profiles.{combinations_of}
use Rattle.wh_history.specs.Slots.{six, are_same}
use Rattle.wh_history.specs.Tables.{Limits}
use Rattle.wh_history.specs.declared.plan.Edit.TheVariants.{Put}
use Rattle.wh_history.proofs.Basics.{texts_decide}
use Rattle.wh_history.proofs.Members.{get_past}
use Rattle.wh_history.proofs.Untouched.{described-last}
use Rattle.wh_rows.specs.Rows as row
use Rattle.wh_rows.specs.Tables.{Tables}
use Rattle.wh_rows.specs.declared.rows.ProfileRow.{ProfileRow}
use Rattle.wh_model.specs.Defined.{AreOf, profile_at}
use Rattle.wh_plan.specs.Edits.{IsTablePlan}
use Rattle.wh_rows.specs.SameRows.{same_values}
use Rattle.wh_migration.specs.Migration.{profiles_shown, profile_edit_at, edits_of_profiles}
use Rattle.wh_plan.specs.Profiles.{row_of_profile}
use Rattle.wh_model.specs.Sound.{AreTypes}
use Rattle.wh_model.proofs.FoundPlaces.{at_place_there}
use Rattle.wh_model.proofs.GrownProfiles.{profile_keyed, none_past}
use Rattle.wh_model.proofs.Listed.{values-numbered}
use Rattle.wh_migration.proofs.NumberedPlans.{numbered_plan}
use Rattle.wh_plan.proofs.PlanProfiles.{types_are}

-- ---- what stands at a place

-- in a list of what is made of numbers, each of which makes one
made_at : {X : Type 0} (make : ℕ → Option X) (start len n : ℕ) → ((m : ℕ) → start ≤ m → m < start + len → (x : X) × (make m ≡ Some x)) → ((m : ℕ) → start + len ≤ m → make m ≡ None)
    → slice_get (filter_map make (range_with_len start len)) n ≡ make (start + n)
made_at make start zero n there past = sym (past (start + n) (omega arith))
made_at make start (suc len) zero there past =
    let here = there start (omega arith) (omega arith) in
    let first : start ≡ start + 0 = omega arith in
    ap (λ o. slice_get (cons_option o (filter_map make (range_with_len (start + 1) len))) 0) here.1 ∙ sym here.1 ∙ ap make first
made_at make start (suc len) (suc n) there past =
    let here = there start (omega arith) (omega arith) in
    let same : start + 1 + n ≡ start + suc n = omega arith in
    ap (λ o. slice_get (cons_option o (filter_map make (range_with_len (start + 1) len))) (suc n)) here.1
    ∙ made_at make (start + 1) len n (λ m from to. there m (omega arith) (omega arith)) (λ m after. past m (omega arith))
    ∙ ap make same

numbered_at : (next n : ℕ) (cs : List (List (List ℕ))) → slice_get (map row_of_profile (numbered_from next cs)) n ≡ option_map (λ texts. record { number = next + n; values = six texts }) (slice_get cs n)
numbered_at next n [] = refl
numbered_at next zero (c ∷ cs) = let same : next ≡ next + 0 = omega arith in ap (λ k. Some (record { number = k; values = six c })) same
numbered_at next (suc n) (c ∷ cs) =
    let same : suc next + n ≡ next + suc n = omega arith in
    numbered_at (suc next) n cs ∙ ap (λ k. option_map (λ texts. record { number = k; values = six texts }) (slice_get cs n)) same

mapped_twice : {X Y Z : Type 0} (f : X → Y) (g : Y → Z) (o : Option X) → option_map (λ x. g (f x)) o ≡ option_map g (option_map f o)
mapped_twice f g None = refl
mapped_twice f g (Some x) = refl

module _ (list : List Accepted) where
  -- the rows that are shown are those of the table
  shown_at : (n : ℕ) → slice_get (profiles_shown (types_in Customer list) (profiles_of list)) n ≡ profile_at list n
  shown_at zero = refl
  shown_at (suc zero) = refl
  shown_at (suc (suc n)) =
      let same : 2 + n ≡ suc (suc n) = omega arith in
      numbered_at 2 n (profiles_of list)
      ∙ ap (λ k. option_map (λ texts. record { number = k; values = six texts }) (slice_get (profiles_of list) n)) same
      ∙ mapped_twice six (λ texts. record { number = suc (suc n); values = texts }) (slice_get (profiles_of list) n)

  there_to : (n : ℕ) → n < suc (suc (length (profiles_of list))) → (r : ProfileRow) × (profile_at list n ≡ Some r)
  there_to zero within = (_, refl)
  there_to (suc zero) within = (_, refl)
  there_to (suc (suc n)) within =
      let there = at_place_there (suc n) (profiles_of list) (omega arith) (omega arith) in
      (_, ap (λ o. option_map (λ texts. record { number = suc (suc n); values = texts }) (option_map six o)) there.1)

  module _ (limits : Limits) (t : Tables) (are : AreOf limits list t) where
    stored_at : (n : ℕ) → slice_get (values t.profile) n ≡ profile_at list n
    stored_at n =
        let count = length (profiles_of list) in
        ap (λ (rows : List ProfileRow). slice_get rows n) (values-numbered (λ (r : ProfileRow). r.number) t.profile (profile_at list) are.profile (profile_keyed list) (suc count) (λ m past. none_past list m past))
        ∙ made_at (profile_at list) 0 (suc (suc count)) n (λ m _ within. there_to m (omega arith)) (λ m past. none_past list m (omega arith))
        ∙ (let same : 0 + n ≡ n = omega arith in ap (profile_at list) same)

-- ---- the edit of a number

-- two rows of one number with the same values are the same
one_row : (old new : ProfileRow) → old.number ≡ new.number → are_same old.values new.values ≡ true → old ≡ new
one_row old new number same = let values = (texts_decide old.values new.values).0 same in ap (λ k. record { number = k; values = old.values }) number ∙ ap (λ texts. record { number = new.number; values = texts }) values

needed : (n : ℕ) (before after : Option ProfileRow) → ((r : ProfileRow) → before ≡ Some r → r.number ≡ n) → ((r : ProfileRow) → after ≡ Some r → r.number ≡ n) → Needs n before after (edit_between same_values n before after)
needed n None None was is = refl
needed n (Some old) None was is = refl
needed n None (Some new) was is = refl
needed n (Some old) (Some new) was is =
    elim (are_same old.values new.values) as (λ b. are_same old.values new.values ≡ b → Needs n (Some old) (Some new) (cond b None (Some (Put new)))) [
      | true ↦ λ same. inl (one_row old new (was old refl ∙ sym (is new refl)) same, refl)
      | false ↦ λ other. inr ((λ same. let test : are_same old.values new.values ≡ true = (texts_decide old.values new.values).1 (ap (λ (r : ProfileRow). r.values) same) in cc), refl)
    ] refl

module _ (before after : List Accepted) (stored rows : List ProfileRow) (stand : (n : ℕ) → slice_get stored n ≡ profile_at before n) (follow : (n : ℕ) → slice_get rows n ≡ profile_at after n) where
  edit_is : (n : ℕ) → profile_edit_at stored rows n ≡ edit_between same_values n (profile_at before n) (profile_at after n)
  edit_is n = ap (λ o. edit_between same_values n o (slice_get rows n)) (stand n) ∙ ap (edit_between same_values n (profile_at before n)) (follow n)

  no_edit : (n : ℕ) → 0 + max (length stored) (length rows) ≤ n → profile_edit_at stored rows n ≡ None
  no_edit n past =
      let old = get_past n stored (omega arith) in
      let new = get_past n rows (omega arith) in
      ap (λ o. edit_between same_values n o (slice_get rows n)) old ∙ ap (edit_between same_values n None) new

  profiles_plan : IsTablePlan row.profile (profile_at before) (profile_at after) (edits_of_profiles stored rows)
  profiles_plan =
      numbered_plan (λ (r : ProfileRow). r.number) (profile_at before) (profile_at after) (profile_keyed after) (profile_edit_at stored rows)
      (λ n. subst (Needs n (profile_at before n) (profile_at after n)) (sym (edit_is n)) (needed n (profile_at before n) (profile_at after n) (profile_keyed before n) (profile_keyed after n)))
      0 (max (length stored) (length rows)) (λ n below. absurd (omega arith)) no_edit

-- ---- a migration

none_described : (dim : Dim) (content : Content) → governs content ≡ true → described_by dim content ≡ []
none_described dim (Governs policy) gives = refl
none_described dim (Describes other records) gives = absurd cc
none_described dim (Sells sales) gives = absurd cc
none_described dim Upgrades gives = absurd cc
none_described dim (Withdraws lines) gives = absurd cc

module _ (commands : List Accepted) (c : Accepted) (gives : governs c.content ≡ true) (kinds : List AttributeType) (typed : AreTypes (commands ++ c ∷ []) Customer kinds) where
  kinds_are : kinds ≡ types_in Customer (commands ++ c ∷ [])
  kinds_are = typed.are ∙ sym (types_are Customer (commands ++ c ∷ []) typed.policy typed.governed)

  -- it brings no record, and the types under which they are read
  pub combinations_after : combinations_of kinds (described Customer commands) ≡ profiles_of (commands ++ c ∷ [])
  combinations_after =
      let same : described Customer (commands ++ c ∷ []) ≡ described Customer commands = described-last Customer commands c ∙ ap (λ (rs : List DimensionRecord). described Customer commands ++ rs) (none_described Customer c.content gives) ∙ append-nil (described Customer commands) in
      ap (λ ks. combinations_of ks (described Customer commands)) kinds_are ∙ ap (combinations_of (types_in Customer (commands ++ c ∷ []))) (sym same)

  pub migration_plan : (limits : Limits) (t : Tables) → AreOf limits commands t → (combinations : List (List (List ℕ))) → combinations ≡ profiles_of (commands ++ c ∷ [])
      → IsTablePlan row.profile (profile_at commands) (profile_at (commands ++ c ∷ [])) (edits_of_profiles (values t.profile) (profiles_shown kinds combinations))
  migration_plan limits t are combinations told =
      profiles_plan commands (commands ++ c ∷ []) (values t.profile) (profiles_shown kinds combinations) (stored_at commands limits t are)
      (λ n. ap (λ ks. slice_get (profiles_shown ks combinations) n) kinds_are ∙ ap (λ cs. slice_get (profiles_shown (types_in Customer (commands ++ c ∷ [])) cs) n) told ∙ shown_at (commands ++ c ∷ []) n)
