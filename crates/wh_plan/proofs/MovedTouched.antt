-- The facts that move by the members that a batch touches.
use Rattle.std.proofs.Common.{◌≡◌, ℕ, ◌==◌, Bool, true, false, cond, ◌&&◌, nat_lt, nat_le, List, [], ◌∷◌, ◌++◌, drop, length, map, Option, Some, refl, sym, ◌∙◌, ap, ap₂, subst}
use Rattle.std.specs.Prelude.{find, filter_map, flat_map, option_map, unwrap_or}
use Rattle.std.specs.FinMap.{FinMap}
use Rattle.std.specs.List.{cons_option, AllByRecursion}
use Rattle.std.specs.List.Sorted.{IsPermutation}
use Rattle.wh_day.specs.Day.{first_day}
use Rattle.wh_policy.specs.Written.{IsSound}
use Rattle.wh_policy.specs.declared.attribute.AttributeType.{AttributeType}
use Rattle.wh_policy.specs.declared.attribute.Dim.{Dim}
use Rattle.wh_policy.specs.declared.format.Format.{Format}
use Rattle.wh_policy.specs.declared.policy.Policy.{Policy}
use Rattle.wh_policy.specs.declared.record.DimensionRecord.{DimensionRecord}
use Rattle.wh_history.specs.Accepted.{Accepted, Describes, format_of, profiles_of, durable_key, member_of, changes_of}
use Rattle.wh_history.specs.Dated.{dated}
use Rattle.wh_history.specs.Facts.{key_in, rekeyed_fact}
use Rattle.wh_history.specs.Known.{KnowsEnough}
use Rattle.wh_history.specs.MovingDays.{moves_since, moves_until, before_record, latest_day}
use Rattle.wh_history.specs.Profiles.{profile_number, profile_now_by}
use Rattle.wh_history.specs.Rows.{holds, row as row_of, rows, rows_by, spans, starts}
use Rattle.wh_history.specs.Shapes.{Shape, rendered_in, shape_after}
use Rattle.wh_history.specs.Tables.{Limits}
use Rattle.wh_history.specs.declared.facts.Fact.{Fact}
use Rattle.wh_history.specs.declared.member.Change.{Change}
use Rattle.wh_history.specs.declared.member.Member.{Member}
use Rattle.wh_history.specs.declared.rows.DimRow.{DimRow}
use Rattle.wh_history.proofs.Basics.{some_is}
use Rattle.wh_history.proofs.Growth.{durable_stays}
use Rattle.wh_history.proofs.Knowing.{rows_enough, with_those, rekeyed_enough}
use Rattle.wh_rows.specs.Facts.{facts_in, facts_of}
use Rattle.wh_rows.specs.Rows as row
use Rattle.wh_rows.specs.Tables.{Tables}
use Rattle.wh_model.specs.Defined.{AreOf, fact_at}
use Rattle.wh_plan.specs.MovedFacts.{facts_with, facts_between, rekeyed_facts, moved_of_touched, moves_of_member, moves_of_members, pair_of}
use Rattle.wh_plan.specs.OnePass.{AreApart}
use Rattle.wh_plan.specs.RecordPlan.{AreTouched}
use Rattle.wh_plan.specs.declared.records.touched.TouchedMember.{TouchedMember}
use Rattle.wh_plan.specs.BatchRows.{AreFacts, AreRekeyed}
use Rattle.wh_plan.specs.NewRows.{members_among, naturals_told}
use Rattle.wh_model.specs.Sound.{AreTypes, IsAccepted}
use Rattle.wh_model.proofs.GrownPlain.{sound_policies_show_none}
use Rattle.wh_plan.proofs.MovedFacts.{moved_facts_are_exact}
use Rattle.wh_plan.proofs.MovedLists.{pairs_through}
use Rattle.wh_plan.proofs.MovedBetween.{moves_between_are_all}
use Rattle.wh_plan.proofs.OnePass.{facts_again, rekeyed_again}
use Rattle.wh_plan.proofs.PlanningOwners.{above_none}
use Rattle.wh_plan.proofs.PlanRows.{types_after}
use Rattle.wh_plan.proofs.TouchedApart.{touched_apart}

module _ (limits : Limits) (commands : List Accepted) (c : Accepted) (ok : IsAccepted limits (commands ++ c ∷ [])) (dim : Dim) (rs : List DimensionRecord) (is : c.content ≡ Describes dim rs) (t : Tables) (are : AreOf limits commands t) where
  abbrev after : List Accepted
  after = commands ++ c ∷ []

  abbrev by_rows : List ℕ → ℕ → List Fact
  by_rows n durable = rekeyed_facts (shape_after dim after) (member_of dim after n) (facts_with (facts_of t) dim durable)

  abbrev there : List ℕ → List Fact
  there n = moved_of_touched (shape_after dim after) (facts_of t) (member_of dim commands n, rendered_in (shape_after dim after) (member_of dim after n))

  -- what of the member's facts between the days moves
  abbrev by_days : List ℕ → List Fact
  by_days n =
      let shape = shape_after dim after in
      rekeyed_facts shape (member_of dim after n)
      (facts_between (facts_of t) dim (durable_key dim after n) (moves_since (changes_of dim commands n) (changes_of dim after n)) (moves_until (rendered_in shape (member_of dim commands n)) (rendered_in shape (member_of dim after n))))

  pub moves_of_touched : (ns : List (List ℕ)) → flat_map (λ n. moved_of_touched (shape_after dim (commands ++ c ∷ [])) (facts_of t) (member_of dim commands n, rendered_in (shape_after dim (commands ++ c ∷ [])) (member_of dim (commands ++ c ∷ []) n))) ns
      ≡ moves_of_members commands (commands ++ c ∷ []) (facts_of t) dim (members_among commands dim ns)
  moves_of_touched [] = refl
  moves_of_touched (n ∷ ns) =
      let rest = moves_of_touched ns in
      elim (nat_lt 0 (durable_key dim commands n)) as (λ b. (nat_lt 0 (durable_key dim commands n) ≡ b)
      → cond b (by_days n) [] ++ flat_map there ns ≡ moves_of_members commands after (facts_of t) dim (cond b (n ∷ members_among commands dim ns) (members_among commands dim ns))) [
        | true ↦ λ e.
            let given = above_none (durable_key dim commands n) e in
            ap (λ fs. fs ++ flat_map there ns) (moves_between_are_all limits commands c rs ok dim is t are n given)
            ∙ ap (λ k. by_rows n k ++ flat_map there ns) (durable_stays dim commands (c ∷ []) n given)
            ∙ ap (λ fs. moves_of_member commands after (facts_of t) dim n ++ fs) rest
        | false ↦ λ _. rest
      ] refl

-- two tests that answer alike find the same
find_alike : (p q : Change → Bool) → ((c : Change) → p c ≡ q c) → (cs : List Change) → find p cs ≡ find q cs
find_alike p q alike [] = refl
find_alike p q alike (c ∷ cs) = ap₂ (λ b o. cond b (Some c) o) (alike c) (find_alike p q alike cs)

-- the facts that move by what is known of the members
module _ (dim : Dim) (kinds : List AttributeType) (number : List (List ℕ) → Option ℕ) (combinations : List (List (List ℕ))) where
  abbrev by : (List (List ℕ) → Option ℕ) → Shape
  by numbers = record { dim = dim; kinds = kinds; number = numbers }

  filtered_same : (m : Member) → KnowsEnough dim kinds number combinations m → (rs : List DimRow) (fs : List Fact)
      → filter_map (rekeyed_fact (by number) (with_those kinds number combinations m rs)) fs ≡ filter_map (rekeyed_fact (by (profile_number combinations)) (with_those kinds number combinations m rs)) fs
  filtered_same m enough rs [] = refl
  filtered_same m enough rs (f ∷ fs) =
      ap (λ o. cons_option o (filter_map (rekeyed_fact (by number) (with_those kinds number combinations m rs)) fs)) (rekeyed_enough kinds number combinations dim m enough rs f)
      ∙ ap (cons_option (rekeyed_fact (by (profile_number combinations)) (with_those kinds number combinations m rs) f)) (filtered_same m enough rs fs)

  pub rekeyed_known : (m : Member) → KnowsEnough dim kinds number combinations m → (fs : List Fact)
      → rekeyed_facts (record { dim = dim; kinds = kinds; number = number }) m fs ≡ rekeyed_facts (record { dim = dim; kinds = kinds; number = profile_number combinations }) m fs
  rekeyed_known m enough fs =
      ap (λ rs. filter_map (rekeyed_fact (by number) (with_those kinds number combinations m rs)) fs) (rows_enough kinds number combinations dim m enough)
      ∙ filtered_same m enough (rows kinds combinations m) fs

  -- the number of the row of a day is no number of a profile
  key_of_any : (shown other : ℕ) (m : Member) (day : ℕ) (ss : List (ℕ × ℕ)) → key_in (map (row_of kinds shown m) ss) day ≡ key_in (map (row_of kinds other m) ss) day
  key_of_any shown other m day [] = refl
  key_of_any shown other m day (s ∷ ss) =
      elim (nat_le s.0 day && nat_le day s.1) as (λ b. unwrap_or (option_map (λ (r : DimRow). r.surrogate) (cond b (Some (row_of kinds shown m s)) (find (holds day) (map (row_of kinds shown m) ss)))) 0
      ≡ unwrap_or (option_map (λ (r : DimRow). r.surrogate) (cond b (Some (row_of kinds other m s)) (find (holds day) (map (row_of kinds other m) ss)))) 0) [
        | true ↦ refl
        | false ↦ key_of_any shown other m day ss
      ]

  until_known : (stored m : Member) → moves_until (rendered_in (by number) stored) (rendered_in (by number) m) ≡ moves_until (rendered_in (by (profile_number combinations)) stored) (rendered_in (by (profile_number combinations)) m)
  until_known stored m =
      let known = profile_number combinations in
      let key : (n : Member) (day : ℕ) → key_in (rows_by kinds number n) day ≡ key_in (rows_by kinds known n) day =
      λ n day. key_of_any (profile_now_by kinds number n) (profile_now_by kinds known n) n day (spans first_day (starts kinds (dated n.changes))) in
      let last = latest_day (drop (length stored.changes) m.changes) in
      ap before_record
      (find_alike (λ (c : Change). nat_lt last c.day && (key_in (rows_by kinds number stored) c.day == key_in (rows_by kinds number m) c.day)) (λ (c : Change). nat_lt last c.day && (key_in (rows_by kinds known stored) c.day == key_in (rows_by kinds known m) c.day))
      (λ c. ap₂ (λ i j. nat_lt last c.day && (i == j)) (key stored c.day) (key m c.day)) (dated stored.changes))

  module _ (table : FinMap row.fact.order Fact) where
    -- what moves of a member with its rows by these numbers
    abbrev moved : (List (List ℕ) → Option ℕ) → Member × Member → List Fact
    moved numbers t = moved_of_touched (by numbers) table (t.0, rendered_in (by numbers) t.1)

    moves_known : (stored m : Member) → KnowsEnough dim kinds number combinations m → moved number (stored, m) ≡ moved (profile_number combinations) (stored, m)
    moves_known stored m enough =
        let asked : ℕ → List Fact = facts_between table dim m.durable (moves_since stored.changes m.changes) in
        ap (λ fs. cond (nat_lt 0 stored.durable) fs [])
        (rekeyed_known m enough (asked (moves_until (rendered_in (by number) stored) (rendered_in (by number) m)))
        ∙ ap (λ day. rekeyed_facts (by (profile_number combinations)) m (asked day)) (until_known stored m))

    pub all_moves_known : (g h : List ℕ → Member) (ns : List (List ℕ)) → AllByRecursion (KnowsEnough dim kinds number combinations) (map h ns)
        → flat_map (λ n. moved_of_touched (record { dim = dim; kinds = kinds; number = number }) table (g n, rendered_in (record { dim = dim; kinds = kinds; number = number }) (h n))) ns
        ≡ flat_map (λ n. moved_of_touched (record { dim = dim; kinds = kinds; number = profile_number combinations }) table (g n, rendered_in (record { dim = dim; kinds = kinds; number = profile_number combinations }) (h n))) ns
    all_moves_known g h [] enough = refl
    all_moves_known g h (n ∷ ns) enough =
        ap (λ fs. fs ++ flat_map (λ n. moved number (g n, h n)) ns) (moves_known (g n) (h n) enough.0)
        ∙ ap (λ fs. moved (profile_number combinations) (g n, h n) ++ fs) (all_moves_known g h ns enough.1)

-- for facts that a call gives, out of the table of the format
pub facts_moved : (limits : Limits) (commands : List Accepted) (c : Accepted) (shape : Shape) (rs : List DimensionRecord) (t : Tables) → AreOf limits commands t → IsAccepted limits (commands ++ c ∷ []) → c.content ≡ Describes shape.dim rs
    → AreTypes commands shape.dim shape.kinds
    → (touched : List TouchedMember) → AreTouched shape commands (commands ++ c ∷ []) rs touched
    → (format : Format) → format ≡ format_of commands
    → (facts : List Fact) → facts ≡ flat_map (moved_of_touched shape (facts_in format t)) (map pair_of touched)
    → AreFacts (fact_at commands) (fact_at (commands ++ c ∷ [])) facts × AreRekeyed (fact_at commands) facts
facts_moved limits commands c shape rs t are ok is typed touched touch format same facts made =
    let after = commands ++ c ∷ [] in
    let dim = shape.dim in
    let ns = naturals_told rs in
    let by : List AttributeType → Shape = λ ks. record { dim = dim; kinds = ks; number = profile_number (profiles_of after) } in
    let all : facts ≡ moves_of_members commands after (facts_of t) dim (members_among commands dim ns) =
    made
    ∙ ap (λ (f : Format). flat_map (moved_of_touched shape (facts_in f t)) (map pair_of touched)) (same ∙ sym are.format)
    ∙ ap (flat_map (moved_of_touched shape (facts_of t))) touch.pairs
    ∙ pairs_through (moved_of_touched shape (facts_of t)) (rendered_in shape) (member_of dim commands) (member_of dim after) ns
    ∙ all_moves_known dim shape.kinds shape.number (profiles_of after) (facts_of t) (member_of dim commands) (member_of dim after) ns touch.enough
    ∙ ap (λ (ks : List AttributeType). flat_map (λ n. moved_of_touched (by ks) (facts_of t) (member_of dim commands n, rendered_in (by ks) (member_of dim after n))) ns) (sym (types_after commands c dim rs shape.kinds is typed))
    ∙ moves_of_touched limits commands c ok dim rs is t are ns in
    let plain = sound_policies_show_none commands (λ (p : Policy) same. subst IsSound (some_is typed.policy p (sym typed.governed ∙ same)) typed.sound) in
    subst (λ fs. AreFacts (fact_at commands) (fact_at after) fs × AreRekeyed (fact_at commands) fs) (sym all) (moved_facts_are_exact limits commands c dim rs t is (λ _. plain) are)

-- the same in whatever order they are found, where no two of the members have one durable key
pub facts_moved_in_any_order : (limits : Limits) (commands : List Accepted) (c : Accepted) (shape : Shape) (rs : List DimensionRecord) (t : Tables) → AreOf limits commands t → IsAccepted limits (commands ++ c ∷ []) → c.content ≡ Describes shape.dim rs
    → AreTypes commands shape.dim shape.kinds
    → (touched : List TouchedMember) → AreTouched shape commands (commands ++ c ∷ []) rs touched
    → (format : Format) → format ≡ format_of commands
    → (facts : List Fact) → (AreApart (map pair_of touched) → IsPermutation (flat_map (moved_of_touched shape (facts_in format t)) (map pair_of touched)) facts)
    → AreFacts (fact_at commands) (fact_at (commands ++ c ∷ [])) facts × AreRekeyed (fact_at commands) facts
facts_moved_in_any_order limits commands c shape rs t are ok is typed touched touch format same facts found =
    let apart : AreApart (map pair_of touched) = subst AreApart (sym touch.pairs) (touched_apart shape commands c rs) in
    let moves = flat_map (moved_of_touched shape (facts_in format t)) (map pair_of touched) in
    let exact = facts_moved limits commands c shape rs t are ok is typed touched touch format same moves refl in
    (facts_again (fact_at commands) (fact_at (commands ++ c ∷ [])) moves facts (found apart) exact.0, rekeyed_again (fact_at commands) moves facts (found apart) exact.1)
