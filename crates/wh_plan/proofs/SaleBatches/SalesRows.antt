-- The rows that a batch of sales brings: those of the members that it is the first to mention, and their placeholders.
use Rattle.std.proofs.Common.{◌≡◌, ℕ, zero, suc, ◌+◌, ◌-◌, ◌<◌, ◌≤◌, ◌==◌, nat_lt, Bool, true, false, cond, List, [], ◌∷◌, ◌++◌, length, map, Option, Some, None, refl, sym, ◌∙◌, ap, subst, arith, length-append}
use Rattle.std.specs.Prelude.{filter, filter_map, find, option_map, unwrap_or}
use Rattle.std.specs.List.{AllByRecursion, range_with_len, cons_option}
use Rattle.std.proofs.lemmas.Bool.{eq-eqb}
use Rattle.std.proofs.lemmas.List.{append_assoc}
use Rattle.wh_day.specs.Day.{first_day, last_day}
use Rattle.wh_policy.specs.Policy.{policy_types}
use Rattle.wh_policy.specs.declared.attribute.AttributeType.{AttributeType}
use Rattle.wh_policy.specs.declared.attribute.Dim.{Dim}
use Rattle.wh_policy.specs.declared.attribute.Dim.TheVariants.{Product, Store, Customer}
use Rattle.wh_policy.specs.declared.policy.Policy.{Policy}
use Rattle.wh_policy.specs.declared.record.SaleRecord.{SaleRecord}
use Rattle.wh_history.specs.Accepted.{Accepted, Anchor, Sells, same_anchor, opening_of, mentions, members, anchors, durable_key, surrogate_key, changes_of, member_of, types_in, profiles_of, policy_after}
use Rattle.wh_history.specs.Dated.{dated}
use Rattle.wh_history.specs.Keys.{place}
use Rattle.wh_history.specs.Profiles.{profile_number, profile_now}
use Rattle.wh_history.specs.Rows.{row, rows, spans, starts}
use Rattle.wh_history.specs.Tables.{member_rows, numbered_row, dimension_row}
use Rattle.wh_history.specs.declared.member.Change.{Change}
use Rattle.wh_history.specs.declared.member.Member.{Member}
use Rattle.wh_history.specs.declared.rows.DimRow.{DimRow}
use Rattle.wh_history.proofs.Once.{IsOnce, once_distinct}
use Rattle.wh_history.proofs.Places.{anchors_decide}
use Rattle.wh_history.proofs.Stays.{policy_last}
use Rattle.wh_rows.specs.declared.rows.MemberRow.{MemberRow}
use Rattle.wh_model.specs.Defined.{member_at}
use Rattle.wh_history.specs.Known.{KnowsEnough}
use Rattle.wh_history.proofs.Knowing.{rows_enough}
use Rattle.wh_history.specs.Shapes.{Shape, shape_after, rendered_in}
use Rattle.wh_plan.specs.SoldMembers.{naturals_sold, last_row, placeholder}
use Rattle.wh_plan.specs.BatchRows.{numbers_after}
use Rattle.wh_plan.specs.NewRows.{by_place, new_member}
use Rattle.wh_plan.proofs.PlanningLists.{filter_same}
use Rattle.wh_plan.proofs.PlanningMembers.{rows_behind, rows_counted}
use Rattle.wh_plan.proofs.PlanningPlaces.{behind_gives, place_here, one_longer}
use Rattle.wh_plan.proofs.SaleBatches.SalesMembers.{is_new, members_grow, anchors_grow, none_before, new_later}
use Rattle.wh_plan.proofs.SaleBatches.Selling.{batch}

-- ---- the one row of a member that no record describes

abbrev whole_time : List AttributeType → List (List (List ℕ)) → Member → DimRow
whole_time kinds combinations m = row kinds (profile_now kinds combinations m) m (first_day, last_day)

one_row : (kinds : List AttributeType) (combinations : List (List (List ℕ))) (m : Member) → m.changes ≡ [] → rows kinds combinations m ≡ whole_time kinds combinations m ∷ []
one_row kinds combinations m none =
    ap (λ (cs : List Change). map (row kinds (profile_now kinds combinations m) m) (spans first_day (starts kinds (dated cs)))) none

from_opening : (kinds : List AttributeType) (combinations : List (List (List ℕ))) (m : Member) → (whole_time kinds combinations m).surrogate ≡ m.opening
from_opening kinds combinations m = refl

-- ---- each number after those that were given is that of an anchor

numbered_behind : (commands : List Accepted) (dim : Dim) (key : ℕ) → 0 < key → dimension_row commands dim key ≡ numbered_row commands dim key
numbered_behind commands Product key given = refl
numbered_behind commands Store key given = refl
numbered_behind commands Customer zero given = absurd (omega arith)
numbered_behind commands Customer (suc n) given = refl

behind_same : (f g : ℕ → Option DimRow) → ((key : ℕ) → 0 < key → f key ≡ g key) → (start count : ℕ) → 0 < start → filter_map f (range_with_len start count) ≡ filter_map g (range_with_len start count)
behind_same f g same start zero given = refl
behind_same f g same start (suc count) given =
    ap (λ o. cons_option o (filter_map f (range_with_len (start + 1) count))) (same start given) ∙ ap (cons_option (g start)) (behind_same f g same (start + 1) count (omega arith))

module _ (commands : List Accepted) (dim : Dim) where
  abbrev kinds : List AttributeType
  kinds = types_in dim commands

  abbrev row_of_new : List ℕ → DimRow
  row_of_new n = whole_time (types_in dim commands) (profiles_of commands) (member_of dim commands n)

  abbrev give : ℕ → Anchor → Option DimRow
  give key a = find (λ (r : DimRow). r.surrogate == key) (member_rows commands dim a.natural)

  IsBlank : List ℕ → Type 0
  IsBlank n = changes_of dim commands n ≡ []

  -- of anchors that are openings of members that no record describes, each has the one row of its member
  placed : (there : List Anchor) (new : List (List ℕ)) → anchors dim commands ≡ there ++ map opening_of new → AllByRecursion (λ n. changes_of dim commands n ≡ []) new
      → by_place give (suc (length there)) (map opening_of new) ≡ map row_of_new new
  placed there [] split blank = refl
  placed there (n ∷ new) split blank =
      let once = subst (IsOnce same_anchor anchors_decide) split (once_distinct same_anchor anchors_decide (mentions dim commands)) in
      let number : surrogate_key dim commands (opening_of n) ≡ suc (length there) = ap (place same_anchor (opening_of n)) split ∙ place_here same_anchor anchors_decide there (opening_of n) (map opening_of new) once in
      let key : (row_of_new n).surrogate ≡ suc (length there) = from_opening (types_in dim commands) (profiles_of commands) (member_of dim commands n) ∙ number in
      let one : give (suc (length there)) (opening_of n) ≡ Some (row_of_new n) =
      ap (find (λ (r : DimRow). r.surrogate == suc (length there))) (one_row (types_in dim commands) (profiles_of commands) (member_of dim commands n) blank.0)
      ∙ ap (λ b. cond b (Some (row_of_new n)) None) (eq-eqb (row_of_new n).surrogate (suc (length there)) key) in
      let rest = placed (there ++ opening_of n ∷ []) new (split ∙ sym (append_assoc there (opening_of n ∷ []) (map opening_of new))) blank.1 in
      ap (λ o. cons_option o (by_place give (suc (suc (length there))) (map opening_of new))) one
      ∙ ap (λ k. row_of_new n ∷ by_place give (suc k) (map opening_of new)) (sym (one_longer there (opening_of n)))
      ∙ ap (λ rs. row_of_new n ∷ rs) rest

  table_behind : (there : List Anchor) (new : List (List ℕ)) → anchors dim commands ≡ there ++ map opening_of new → AllByRecursion (λ n. changes_of dim commands n ≡ []) new
      → filter_map (dimension_row commands dim) (numbers_after (length there) (length (anchors dim commands))) ≡ map row_of_new new
  table_behind there new split blank =
      behind_same (dimension_row commands dim) (numbered_row commands dim) (numbered_behind commands dim) (suc (length there)) (length (anchors dim commands) - length there) (omega arith)
      ∙ behind_gives give (anchors dim commands) there (map opening_of new) split
      ∙ placed there new split blank

  -- what the members give: only those after the number that was given have a row
  placeholders_are : (given : ℕ) (ns : List (List ℕ)) → AllByRecursion (λ n. changes_of dim commands n ≡ []) (filter (λ n. nat_lt given (durable_key dim commands n)) ns)
      → filter_map (placeholder given) (map (rendered_in (shape_after dim commands)) (map (member_of dim commands) ns)) ≡ map row_of_new (filter (λ n. nat_lt given (durable_key dim commands n)) ns)
  placeholders_are given [] blank = refl
  placeholders_are given (n ∷ ns) blank =
      let rest = placeholders_are given ns in
      let more = filter (λ n. nat_lt given (durable_key dim commands n)) ns in
      let made = filter_map (placeholder given) (map (rendered_in (shape_after dim commands)) (map (member_of dim commands) ns)) in
      elim (nat_lt given (durable_key dim commands n)) as (λ b. AllByRecursion (λ n. changes_of dim commands n ≡ []) (cond b (n ∷ more) more)
      → cons_option (cond b (last_row (rows (types_in dim commands) (profiles_of commands) (member_of dim commands n))) None) made ≡ map row_of_new (cond b (n ∷ more) more)) [
        | true ↦ λ all. ap (λ rs. cons_option (last_row rs) made) (one_row (types_in dim commands) (profiles_of commands) (member_of dim commands n) all.0) ∙ ap (λ rs. row_of_new n ∷ rs) (rest all.1)
        | false ↦ λ all. rest all
      ] blank

-- rows by what is known of the members
pub placeholders_known : (dim : Dim) (types : List AttributeType) (number : List (List ℕ) → Option ℕ) (combinations : List (List (List ℕ))) (given : ℕ) (ms : List Member) → AllByRecursion (KnowsEnough dim types number combinations) ms
    → filter_map (placeholder given) (map (rendered_in (record { dim = dim; kinds = types; number = number })) ms) ≡ filter_map (placeholder given) (map (rendered_in (record { dim = dim; kinds = types; number = profile_number combinations })) ms)
placeholders_known dim types number combinations given [] enough = refl
placeholders_known dim types number combinations given (m ∷ ms) enough =
    let by : (List (List ℕ) → Option ℕ) → Shape = λ numbers. record { dim = dim; kinds = types; number = numbers } in
    let here : placeholder given (rendered_in (by number) m) ≡ placeholder given (rendered_in (by (profile_number combinations)) m) = ap (λ rs. cond (nat_lt given m.durable) (last_row rs) None) (rows_enough types number combinations dim m enough.0) in
    ap (λ o. cons_option o (filter_map (placeholder given) (map (rendered_in (by number)) ms))) here ∙ ap (cons_option (placeholder given (rendered_in (by (profile_number combinations)) m))) (placeholders_known dim types number combinations given ms enough.1)

-- ---- a batch of sales

module _ (dim : Dim) (commands : List Accepted) (c : Accepted) (sales : List SaleRecord) (is : c.content ≡ Sells sales) where
  abbrev after : List Accepted
  after = commands ++ c ∷ []

  abbrev new : List ℕ → Bool
  new = is_new dim commands c sales is

  abbrev later : List ℕ → Bool
  later n = nat_lt (length (members dim commands)) (durable_key dim after n)

  later_are : filter (is_new dim commands c sales is) (naturals_sold dim sales) ≡ filter later (naturals_sold dim sales)
  later_are = filter_same (is_new dim commands c sales is) later (naturals_sold dim sales) (new_later dim commands c sales is)

  pub members_later : members dim (commands ++ c ∷ []) ≡ members dim commands ++ filter (λ n. nat_lt (length (members dim commands)) (durable_key dim (commands ++ c ∷ []) n)) (naturals_sold dim sales)
  members_later = members_grow dim commands c sales is ∙ ap (λ ns. members dim commands ++ ns) later_are

  blank : (ns : List (List ℕ)) → AllByRecursion (λ n. changes_of dim after n ≡ []) (filter (is_new dim commands c sales is) ns)
  blank [] = tt
  blank (n ∷ ns) =
      elim (is_new dim commands c sales is n) as (λ b. (is_new dim commands c sales is n ≡ b) → AllByRecursion (λ n. changes_of dim after n ≡ []) (cond b (n ∷ filter (is_new dim commands c sales is) ns) (filter (is_new dim commands c sales is) ns))) [
        | true ↦ λ e. ((none_before dim commands c sales is n e).2, blank ns)
        | false ↦ λ e. blank ns
      ] refl

  -- the member table gets the rows of the new members
  pub members_sold : (rs : List MemberRow) → rs ≡ filter_map (new_member dim (length (members dim commands))) (map (member_of dim (commands ++ c ∷ [])) (naturals_sold dim sales))
      → rs ≡ filter_map (λ n. member_at (commands ++ c ∷ []) (record { dim = dim; durable = n })) (numbers_after (length (members dim commands)) (length (members dim (commands ++ c ∷ []))))
  members_sold rs made = made ∙ rows_behind dim commands after (naturals_sold dim sales) members_later

  -- the dimension's table gets their placeholders
  pub placeholders_sold : filter_map (placeholder (length (members dim commands))) (map (rendered_in (shape_after dim (commands ++ c ∷ []))) (map (member_of dim (commands ++ c ∷ [])) (naturals_sold dim sales)))
      ≡ filter_map (dimension_row (commands ++ c ∷ []) dim) (numbers_after (length (anchors dim commands)) (length (anchors dim (commands ++ c ∷ []))))
  placeholders_sold =
      let ns = naturals_sold dim sales in
      let there = anchors dim commands in
      let all = subst (λ ms. AllByRecursion (λ n. changes_of dim after n ≡ []) ms) later_are (blank ns) in
      placeholders_are after dim (length (members dim commands)) ns all
      ∙ sym (table_behind after dim there (filter later ns) (anchors_grow dim commands c sales is ∙ ap (λ ms. there ++ map opening_of ms) later_are) all)

  -- how many they are
  pub members_counted : (rs : List MemberRow) → rs ≡ filter_map (λ n. member_at (commands ++ c ∷ []) (record { dim = dim; durable = n })) (numbers_after (length (members dim commands)) (length (members dim (commands ++ c ∷ []))))
      → length rs + length (members dim commands) ≡ length (members dim (commands ++ c ∷ []))
  members_counted rs planned =
      ap (λ ms. length ms + length (members dim commands)) (planned ∙ sym (rows_behind dim commands after (naturals_sold dim sales) members_later)) ∙ rows_counted dim commands after (naturals_sold dim sales) members_later

  pub types_sold : (policy : Policy) → policy_after None commands ≡ Some policy → policy_types policy dim ≡ types_in dim (commands ++ c ∷ [])
  types_sold policy governed = sym (ap (λ o. unwrap_or (option_map (λ (p : Policy). policy_types p dim) o) []) (policy_last None commands c (batch commands c sales is) ∙ governed))

  pub members_were : length (members dim (commands ++ c ∷ [])) ≤ 9999999 → length (members dim commands) ≤ 9999999
  members_were few =
      let grow = ap length (members_grow dim commands c sales is) in
      let sum = length-append (members dim commands) (filter (is_new dim commands c sales is) (naturals_sold dim sales)) in
      omega arith

  pub anchors_were : length (anchors dim (commands ++ c ∷ [])) ≤ 9999999 → length (anchors dim commands) ≤ 9999999
  anchors_were few =
      let grow = ap length (anchors_grow dim commands c sales is) in
      let sum = length-append (anchors dim commands) (map opening_of (filter (is_new dim commands c sales is) (naturals_sold dim sales))) in
      omega arith
