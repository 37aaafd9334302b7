-- The rows of touched members, one member after the other, are theirs in the table.
use Rattle.std.proofs.Common.{◌≡◌, ℕ, zero, suc, ◌<◌, ◌==◌, Bool, true, false, cond, ◌||◌, List, [], ◌∷◌, ◌++◌, nat_lt, Option, Some, None, refl, sym, ◌∙◌, ap, subst, arith}
use Rattle.std.specs.Prelude.{find, filter, bytes_eq}
use Rattle.std.specs.Option.{option_or, option_and_then}
use Rattle.std.specs.List.{list_any, AllByRecursion}
use Rattle.std.proofs.lemmas.Bool.{eqb-true, eq-eqb, ne_eqb}
use Rattle.std.proofs.lemmas.Bool.Decides.{nat_tests}
use Rattle.std.proofs.lemmas.List.Folds.{find-append}
use Rattle.std.proofs.lemmas.Slice.Eq.{bytes_eq-Decides}
use Rattle.wh_day.specs.Day.{first_day}
use Rattle.wh_policy.specs.declared.attribute.Dim.{Dim}
use Rattle.wh_policy.specs.declared.attribute.Dim.TheVariants.{Product, Store, Customer}
use Rattle.wh_policy.specs.declared.record.DimensionRecord.{DimensionRecord}
use Rattle.wh_history.specs.Keys.{at_place}
use Rattle.wh_history.specs.Dated.{dated}
use Rattle.wh_history.specs.Profiles.{profile_now}
use Rattle.wh_history.specs.Rows.{starts, start_key}
use Rattle.wh_history.specs.Accepted.{Accepted, Describes, Anchor, same_anchor, described, anchors, members, durable_key, surrogate_key, types_in, profiles_of, changes_of, member_of}
use Rattle.wh_history.specs.Laws.{RecordsHaveDays, IsMember}
use Rattle.wh_history.specs.Plan.{row_of}
use Rattle.wh_history.specs.Tables.{member_rows, numbered_row, dimension_row}
use Rattle.wh_history.specs.declared.rows.DimRow.{DimRow}
use Rattle.wh_history.proofs.Basics.{find_passes}
use Rattle.wh_history.proofs.Effective.{days_in}
use Rattle.wh_history.proofs.Growth.{durable_stays}
use Rattle.wh_history.proofs.Joins.{all_weaker, found_span, key_of_start, start_anchor}
use Rattle.wh_history.proofs.Members.{row_of_member_now}
use Rattle.wh_history.proofs.Owners.{all_distinct}
use Rattle.wh_history.proofs.Places.{at_place-place, anchors_decide, one_place}
use Rattle.wh_history.proofs.Spans.{InOrder-dated}
use Rattle.wh_plan.specs.Laws.{TouchedRowsBefore, TouchedRowsAfter}
use Rattle.wh_plan.specs.NewRows.{of_members, naturals_told, durables_touched, rows_of_members, members_among}
use Rattle.wh_plan.proofs.PlanningMembers.{Among, all_among, naturals, mentioned_given}
use Rattle.wh_plan.proofs.PlanningTable.{durable_given, durables_of}
use Rattle.wh_plan.proofs.FoundOwners.{mentioned_is}

either : (b : Bool) (o : Option DimRow) → option_or o (cond b o None) ≡ o
either true None = refl
either false None = refl
either b (Some r) = refl

-- the row if the test holds
abbrev chosen_of : Bool → Option DimRow → Option DimRow
chosen_of b o = cond b o None

none_either : (b : Bool) → None ≡ chosen_of b None
none_either true = refl
none_either false = refl

module _ (dim : Dim) (list : List Accepted) (ends : RecordsHaveDays list) where
  abbrev rows_of : List ℕ → List DimRow
  rows_of n = member_rows list dim n

  -- a row of a member has the number of one of its anchors
  row_owner : (natural : List ℕ) (key : ℕ) (r : DimRow) → IsMember dim list natural → row_of key (rows_of natural) ≡ Some r → (a : Anchor) × (at_place key (anchors dim list) ≡ Some a) × (a.natural ≡ natural)
  row_owner natural key r member found =
      let span = found_span dim list natural (types_in dim list) (profile_now (types_in dim list) (profiles_of list) (member_of dim list natural)) (λ (q : DimRow). q.surrogate == key) r first_day (starts (types_in dim list) (dated (changes_of dim list natural))) found in
      let order = InOrder-dated (changes_of dim list natural) (days_in dim list natural (described dim list) (ends dim)) in
      let keyed = key_of_start dim list natural (types_in dim list) span.0 (dated (changes_of dim list natural)) refl member order span.1 in
      let is : r.surrogate ≡ key = eqb-true r.surrogate key (find_passes (λ (q : DimRow). q.surrogate == key) r (rows_of natural) found) in
      let number : r.surrogate ≡ start_key (member_of dim list natural) span.0.0 = ap (λ (q : DimRow). q.surrogate) span.2 in
      let here : key ≡ surrogate_key dim list (start_anchor dim list natural span.0.0) = sym is ∙ number ∙ keyed.0 in (
        start_anchor dim list natural span.0.0,
        ap (λ n. at_place n (anchors dim list)) here ∙ at_place-place same_anchor anchors_decide (start_anchor dim list natural span.0.0) (anchors dim list) keyed.1,
        refl,
      )

  row_durable : (natural : List ℕ) (key : ℕ) (r : DimRow) → row_of key (rows_of natural) ≡ Some r → r.durable ≡ durable_key dim list natural
  row_durable natural key r found =
      let span = found_span dim list natural (types_in dim list) (profile_now (types_in dim list) (profiles_of list) (member_of dim list natural)) (λ (q : DimRow). q.surrogate == key) r first_day (starts (types_in dim list) (dated (changes_of dim list natural))) found in
      ap (λ (q : DimRow). q.durable) span.2

  not_its : (natural : List ℕ) (key : ℕ) (o : Option DimRow) → IsMember dim list natural → row_of key (rows_of natural) ≡ o → ((a : Anchor) → at_place key (anchors dim list) ≡ Some a → a.natural ≡ natural → ⊥) → o ≡ None
  not_its natural key None member is other = refl
  not_its natural key (Some r) member is other = let owner = row_owner natural key r member is in absurd (other owner.0 owner.1 owner.2)

  -- under no anchor's number no member has a row
  pub nowhere : (key : ℕ) → at_place key (anchors dim list) ≡ None → (ns : List (List ℕ)) → AllByRecursion (IsMember dim list) ns → row_of key (rows_of_members list dim ns) ≡ None
  nowhere key none [] all = refl
  nowhere key none (n ∷ ns) all =
      let here : row_of key (rows_of n) ≡ None = not_its n key (row_of key (rows_of n)) all.0 refl (λ a at _. cc) in
      find-append (λ (r : DimRow). r.surrogate == key) (rows_of n) (rows_of_members list dim ns)
      ∙ ap (λ o. option_or o (row_of key (rows_of_members list dim ns))) here
      ∙ nowhere key none ns all.1

  -- under an anchor's number only its member has one
  pub found_in : (key : ℕ) (a : Anchor) → at_place key (anchors dim list) ≡ Some a → (ns : List (List ℕ)) → AllByRecursion (IsMember dim list) ns
      → row_of key (rows_of_members list dim ns) ≡ cond (list_any (λ n. bytes_eq n a.natural) ns) (row_of key (rows_of a.natural)) None
  found_in key a at [] all = refl
  found_in key a at (n ∷ ns) all =
      let rest = found_in key a at ns all.1 in
      let behind = row_of key (rows_of_members list dim ns) in
      let among = list_any (λ m. bytes_eq m a.natural) ns in
      let mine = row_of key (rows_of a.natural) in
      find-append (λ (r : DimRow). r.surrogate == key) (rows_of n) (rows_of_members list dim ns)
      ∙ elim (bytes_eq n a.natural) as (λ b. (bytes_eq n a.natural ≡ b) → option_or (row_of key (rows_of n)) behind ≡ cond (b || among) mine None) [
        | true ↦ λ e.
            ap (λ (m : List ℕ). option_or (row_of key (rows_of m)) behind) ((bytes_eq-Decides n a.natural).0 e) ∙ ap (option_or mine) rest ∙ either among mine
        | false ↦ λ e.
            let other : a.natural ≡ n → ⊥ = λ same. let t = (bytes_eq-Decides n a.natural).1 (sym same) in cc in
            let here : row_of key (rows_of n) ≡ None = not_its n key (row_of key (rows_of n)) all.0 refl (λ b there same. let one : b ≡ a = cc in other (ap (λ (x : Anchor). x.natural) (sym one) ∙ same)) in
            ap (λ o. option_or o behind) here ∙ rest
      ] refl

  -- a member's row is kept where its durable key is among those that are asked for
  chosen : (durables : List ℕ) (natural : List ℕ) (key : ℕ) (o : Option DimRow) → row_of key (rows_of natural) ≡ o → of_members durables o ≡ cond (list_any (λ d. d == durable_key dim list natural) durables) o None
  chosen durables natural key None is = none_either (list_any (λ d. d == durable_key dim list natural) durables)
  chosen durables natural key (Some r) is = ap (λ n. cond (list_any (λ d. d == n) durables) (Some r) None) (row_durable natural key r is)

  module _ (durables : List ℕ) (ns : List (List ℕ)) (all : AllByRecursion (IsMember dim list) ns) (agree : (n : List ℕ) → 0 < durable_key dim list n → list_any (λ m. bytes_eq m n) ns ≡ list_any (λ d. d == durable_key dim list n) durables) where
    numbered_at : (key : ℕ) (o : Option Anchor) → at_place key (anchors dim list) ≡ o → row_of key (rows_of_members list dim ns) ≡ of_members durables (numbered_row list dim key)
    numbered_at key None is =
        let none : numbered_row list dim key ≡ None = ap (option_and_then (λ (a : Anchor). find (λ (r : DimRow). r.surrogate == key) (member_rows list dim a.natural))) is in
        nowhere key is ns all ∙ sym (ap (of_members durables) none)
    numbered_at key (Some a) is =
        let mine = row_of key (rows_of a.natural) in
        found_in key a is ns all
        ∙ ap (λ b. cond b mine None) (agree a.natural (durable_given dim list key a is))
        ∙ sym (chosen durables a.natural key mine refl)
        ∙ sym (ap (of_members durables) (row_of_member_now dim list key a is))

    pub numbered_rows : (key : ℕ) → row_of key (rows_of_members list dim ns) ≡ of_members durables (numbered_row list dim key)
    numbered_rows key = numbered_at key (at_place key (anchors dim list)) refl

-- no member has the durable key 0
table_rows : (dim : Dim) (list : List Accepted) (ends : RecordsHaveDays list) (durables : List ℕ) (ns : List (List ℕ)) → AllByRecursion (IsMember dim list) ns
    → ((n : List ℕ) → 0 < durable_key dim list n → list_any (λ m. bytes_eq m n) ns ≡ list_any (λ d. d == durable_key dim list n) durables)
    → list_any (λ d. d == 0) durables ≡ false → (key : ℕ) → row_of key (rows_of_members list dim ns) ≡ of_members durables (dimension_row list dim key)
table_rows Product list ends durables ns all agree given key = numbered_rows Product list ends durables ns all agree key
table_rows Store list ends durables ns all agree given key = numbered_rows Store list ends durables ns all agree key
table_rows Customer list ends durables ns all agree given zero = nowhere Customer list ends zero refl ns all ∙ rw given refl
table_rows Customer list ends durables ns all agree given (suc n) = numbered_rows Customer list ends durables ns all agree (suc n)

-- ---- the members that a batch touches

pub any_kept : (p q : List ℕ → Bool) → ((n : List ℕ) → q n ≡ true → p n ≡ true) → (ns : List (List ℕ)) → list_any q (filter p ns) ≡ list_any q ns
any_kept p q passes [] = refl
any_kept p q passes (n ∷ ns) =
    let rest = any_kept p q passes ns in
    elim (p n) as (λ b. (p n ≡ b) → list_any q (cond b (n ∷ filter p ns) (filter p ns)) ≡ (q n || list_any q ns)) [
      | true ↦ λ _. ap (λ b. q n || b) rest
      | false ↦ λ e.
          elim (q n) as (λ b. (q n ≡ b) → list_any q (filter p ns) ≡ (b || list_any q ns)) [
            | true ↦ λ t. let there = passes n t in cc
            | false ↦ λ _. rest
          ] refl
    ] refl

pub above_none : (k : ℕ) → nat_lt 0 k ≡ true → 0 < k
above_none k h = grind (arith, nat_tests)

pub none_above : (k : ℕ) → 0 < k → nat_lt 0 k ≡ true
none_above k h = grind (arith, nat_tests)

all_chosen : (dim : Dim) (list : List Accepted) (ns : List (List ℕ)) → AllByRecursion (IsMember dim list) (members_among list dim ns)
all_chosen dim list [] = tt
all_chosen dim list (n ∷ ns) =
    let rest = all_chosen dim list ns in
    elim (nat_lt 0 (durable_key dim list n)) as (λ b. (nat_lt 0 (durable_key dim list n) ≡ b) → AllByRecursion (IsMember dim list) (cond b (n ∷ members_among list dim ns) (members_among list dim ns))) [
      | true ↦ λ e. (mentioned_is dim list n (above_none (durable_key dim list n) e), rest)
      | false ↦ λ _. rest
    ] refl

module _ (dim : Dim) (commands : List Accepted) (c : Accepted) (rs : List DimensionRecord) (is : c.content ≡ Describes dim rs) where
  abbrev after : List Accepted
  after = commands ++ c ∷ []

  -- one durable key is one member
  agree_after : (n : List ℕ) → 0 < durable_key dim after n → (ns : List (List ℕ)) → list_any (λ m. bytes_eq m n) ns ≡ list_any (λ d. d == durable_key dim after n) (durables_of dim after ns)
  agree_after n given [] = refl
  agree_after n given (m ∷ ns) =
      let rest = agree_after n given ns in
      let test : bytes_eq m n ≡ (durable_key dim after m == durable_key dim after n) =
      elim (bytes_eq m n) as (λ b. (bytes_eq m n ≡ b) → b ≡ (durable_key dim after m == durable_key dim after n)) [
        | true ↦ λ e. sym (eq-eqb (durable_key dim after m) (durable_key dim after n) (ap (durable_key dim after) ((bytes_eq-Decides m n).0 e)))
        | false ↦ λ e. sym (ne_eqb (durable_key dim after m) (durable_key dim after n) (λ same.
            let one = one_place bytes_eq bytes_eq-Decides n m (members dim after) given (sym same) in
            let t = (bytes_eq-Decides m n).1 (sym one) in
            cc))
      ] refl in
      rw (test, rest) refl

  agree_before : (n : List ℕ) → 0 < durable_key dim commands n → (ns : List (List ℕ)) → list_any (λ m. bytes_eq m n) (members_among commands dim ns) ≡ list_any (λ d. d == durable_key dim commands n) (durables_of dim after ns)
  agree_before n given ns =
      let stays = durable_stays dim commands (c ∷ []) n given in
      any_kept (λ m. nat_lt 0 (durable_key dim commands m)) (λ m. bytes_eq m n) (λ m e. none_above (durable_key dim commands m) (subst (λ (x : List ℕ). 0 < durable_key dim commands x) (sym ((bytes_eq-Decides m n).0 e)) given)) ns
      ∙ agree_after n (subst (λ (k : ℕ). 0 < k) (sym stays) given) ns
      ∙ ap (λ k. list_any (λ d. d == k) (durables_of dim after ns)) stays

  given_each : AllByRecursion (λ n. 0 < durable_key dim after n) (naturals_told rs)
  given_each =
      all_weaker (Among (naturals rs)) (λ n. 0 < durable_key dim after n) (mentioned_given dim commands c rs is) (naturals_told rs)
      (all_distinct (Among (naturals rs)) bytes_eq (naturals rs) (all_among (naturals rs)))

  none_zero : (ns : List (List ℕ)) → AllByRecursion (λ n. 0 < durable_key dim after n) ns → list_any (λ d. d == 0) (durables_of dim after ns) ≡ false
  none_zero [] all = refl
  none_zero (n ∷ ns) all =
      let given = all.0 in
      rw (ne_eqb (durable_key dim after n) 0 (λ same. omega (arith, same, given)), none_zero ns all.1) refl

  rows_before : RecordsHaveDays commands → (key : ℕ) → row_of key (rows_of_members commands dim (members_among commands dim (naturals_told rs))) ≡ of_members (durables_touched dim commands after rs) (dimension_row commands dim key)
  rows_before ends key =
      table_rows dim commands ends (durables_of dim after (naturals_told rs)) (members_among commands dim (naturals_told rs)) (all_chosen dim commands (naturals_told rs))
      (λ n given. agree_before n given (naturals_told rs)) (none_zero (naturals_told rs) given_each) key

  rows_after : RecordsHaveDays after → (key : ℕ) → row_of key (rows_of_members after dim (naturals_told rs)) ≡ of_members (durables_touched dim commands after rs) (dimension_row after dim key)
  rows_after ends key =
      table_rows dim after ends (durables_of dim after (naturals_told rs)) (naturals_told rs) (all_weaker (λ n. 0 < durable_key dim after n) (IsMember dim after) (mentioned_is dim after) (naturals_told rs) given_each)
      (λ n given. agree_after n given (naturals_told rs)) (none_zero (naturals_told rs) given_each) key

pub touched_rows_before : TouchedRowsBefore
touched_rows_before commands c dim rs key is ends = rows_before dim commands c rs is ends key

pub touched_rows_after : TouchedRowsAfter
touched_rows_after commands c dim rs key is ends = rows_after dim commands c rs is ends key
