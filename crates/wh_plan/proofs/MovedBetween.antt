-- Of a member that has an earlier record, the facts of the days before a batch's first record of it stay; and of one that has a later record whose day keeps its row, those from that day on.
use Rattle.std.proofs.Common.{◌≡◌, ◌⊎◌, ℕ, ◌<◌, ◌≤◌, Bool, true, false, cond, not, ◌&&◌, nat_lt, List, [], ◌∷◌, ◌++◌, length, drop, map, Option, Some, None, refl, sym, ◌∙◌, ap, subst, arith, inl, inr, Ordering, Less, Equal, Greater}
use Rattle.std.specs.Prelude.{◌≢◌, ◌==◌, bytes_eq, find, filter, is_some, option_map, unwrap_or}
use Rattle.std.specs.FinMap.{values, get}
use Rattle.std.specs.List.{AllByRecursion, list_any}
use Rattle.std.specs.Ordering.{eq_by_cmp, is_ge, is_le, nat_cmp, MatchOrdering}
use Rattle.std.specs.Cmp.{ranks}
use Rattle.std.proofs.Math.Seq.{drop-append_seam}
use Rattle.std.proofs.lemmas.Bool.{cases_lt, eq-eqb, eqb-true}
use Rattle.std.proofs.lemmas.Bool.Decides.{nat_tests}
use Rattle.std.proofs.lemmas.List.{map-append}
use Rattle.std.proofs.lemmas.List.Elements.{filter-append}
use Rattle.std.proofs.lemmas.Slice.Eq.{bytes_eq-Decides}
use Rattle.wh_day.specs.Day.{is_day, first_day, last_day, day_before}
use Rattle.wh_day.proofs.Days.{from_first, to_last, parts, day_before-greatest}
use Rattle.wh_policy.specs.declared.attribute.AttributeType.{AttributeType}
use Rattle.wh_policy.specs.declared.attribute.Dim.{Dim}
use Rattle.wh_policy.specs.declared.attribute.Dim.TheVariants.{Product, Store, Customer}
use Rattle.wh_policy.specs.declared.record.DimensionRecord.{DimensionRecord}
use Rattle.wh_policy.specs.declared.record.SaleRecord.{SaleRecord}
use Rattle.wh_history.specs.Accepted.{Accepted, Content, Describes, described, described_by, sold, withdrawn, standing, member_of_sale, members, durable_key, surrogate_key, opening_of, member_of, types_in, profiles_of, change_of, changes_of}
use Rattle.wh_history.specs.Dated.{at, dated}
use Rattle.wh_history.specs.Facts.{key_in, rekeyed_to}
use Rattle.wh_history.specs.Shapes.{RenderedMember, shape_after, rendered_in}
use Rattle.wh_history.specs.Laws.{ChangesHaveDays, governs}
use Rattle.wh_history.specs.MovingDays.{earliest, latest_day, moves_since, moves_until, before_record, keeps_row}
use Rattle.wh_history.specs.Profiles.{current_profile, profile_now}
use Rattle.wh_history.specs.Rows.{rows}
use Rattle.wh_history.specs.Tables.{Limits, fact_of, key_at, profile_at}
use Rattle.wh_history.specs.declared.facts.Fact.{Fact}
use Rattle.wh_history.specs.declared.member.Change.{Change}
use Rattle.wh_history.proofs.Basics.{both_true, find_passes, some_is}
use Rattle.wh_history.proofs.Batches.{same_dimension}
use Rattle.wh_history.proofs.Effective.{days_in}
use Rattle.wh_history.proofs.Growth.{durable_stays, surrogate_stays}
use Rattle.wh_history.proofs.Joins.{all_dated, all_weaker}
use Rattle.wh_history.proofs.MovingDays.{earliest_first, latest_last}
use Rattle.wh_history.proofs.Places.{at_place-place}
use Rattle.wh_history.proofs.Records.{changes_stay}
use Rattle.wh_history.proofs.Since.{at_stays, key_stays}
use Rattle.wh_history.proofs.Until.{found_among, at_later_stays, key_later_stays}
use Rattle.wh_history.proofs.Standing.{all_standing}
use Rattle.wh_history.proofs.Stays.{types-last, profile_of_day_stays}
use Rattle.wh_history.proofs.Untouched.{described-last}
use Rattle.wh_rows.proofs.Orders.{line_cmp_total, line_cmp-IsAntisymmetric}
use Rattle.wh_rows.specs.Facts.{facts_of}
use Rattle.wh_rows.specs.Rows as row
use Rattle.wh_rows.specs.Tables.{Tables}
use Rattle.wh_rows.specs.declared.key.LineKey.{LineKey}
use Rattle.wh_rows.specs.Questions.{durable_of}
use Rattle.wh_model.specs.Defined.{AreOf, fact_at}
use Rattle.wh_plan.specs.MovedFacts.{moved_for, rekeyed_facts, facts_with, facts_between, FactsOutsideTheDaysStay}
use Rattle.wh_model.specs.Sound.{IsGoodSale, IsAccepted}
use Rattle.wh_model.proofs.Following.{Named, owned, all_named, late_records_move_facts}
use Rattle.wh_model.proofs.Formatted.{facts_are}
use Rattle.wh_model.proofs.FoundPlaces.{same_number_is}
use Rattle.wh_model.proofs.GrownKeys.{all_at, found_is}
use Rattle.wh_model.proofs.GrownMembers.{opening_given}
use Rattle.wh_model.proofs.Listed.{none_passes}
use Rattle.wh_model.proofs.MovedKeys.{with_keys, keys_for, own_keys, follows_member, owner_is, same_as_itself, sold_same}
use Rattle.wh_model.proofs.WholeFacts.{on_line}
use Rattle.wh_plan.proofs.MovedLists.{idle_left_out, none_left}
use Rattle.wh_plan.proofs.PlanPremises.{days_after, days_before}

-- ---- between

-- a day that isn't since another is before it
before_it : (day from : ℕ) → is_ge (nat_cmp day from) ≡ false → day < from
before_it day from h = go (nat_cmp day from) (ranks day from) h
  where
    go : (o : Ordering) → MatchOrdering o (day < from) (day ≡ from) (from < day) → is_ge o ≡ false → day < from
    go Less less h = less
    go Equal same h = absurd cc
    go Greater more h = absurd cc

-- and one that isn't up to another is after it
after_it : (day to : ℕ) → is_le (nat_cmp day to) ≡ false → to < day
after_it day to h = go (nat_cmp day to) (ranks day to) h
  where
    go : (o : Ordering) → MatchOrdering o (day < to) (day ≡ to) (to < day) → is_le o ≡ false → to < day
    go Less less h = absurd cc
    go Equal same h = absurd cc
    go Greater more h = more

-- a day that isn't between two is before the one or after the other
outside : (day from to : ℕ) → (is_ge (nat_cmp day from) && is_le (nat_cmp day to)) ≡ false → (day < from) ⊎ (to < day)
outside day from to h =
    elim (is_ge (nat_cmp day from)) as (λ b. (is_ge (nat_cmp day from) ≡ b) → (b && is_le (nat_cmp day to)) ≡ false → (day < from) ⊎ (to < day)) [
      | true ↦ λ _ past. inr (after_it day to past)
      | false ↦ λ early _. inl (before_it day from early)
    ] refl h

not_is : (b : Bool) → not b ≡ true → b ≡ false
not_is true h = absurd cc
not_is false h = refl

module _ (limits : Limits) (commands : List Accepted) (c : Accepted) (rs : List DimensionRecord) (ok : IsAccepted limits (commands ++ c ∷ [])) where
  abbrev after : List Accepted
  after = commands ++ c ∷ []

  module _ (dim : Dim) (is : c.content ≡ Describes dim rs) (natural : List ℕ) where
    abbrev named : DimensionRecord → Bool
    named r = bytes_eq r.natural natural

    abbrev old : List Change
    old = changes_of dim commands natural

    abbrev new : List Change
    new = map (change_of dim after) (filter named rs)

    more : changes_of dim after natural ≡ old ++ new
    more =
        let told : described dim after ≡ described dim commands ++ rs =
        described-last dim commands c ∙ ap (λ (content : Content). described dim commands ++ described_by dim content) is ∙ ap (λ (qs : List DimensionRecord). described dim commands ++ qs) (same_dimension dim rs) in
        ap (λ (qs : List DimensionRecord). map (change_of dim after) (filter named qs)) told
        ∙ ap (map (change_of dim after)) (filter-append named (described dim commands) rs)
        ∙ map-append (change_of dim after) (filter named (described dim commands)) (filter named rs)
        ∙ ap (λ (cs : List Change). cs ++ new) (changes_stay dim commands (c ∷ []) natural)

    -- the first day of the new changes
    abbrev first : ℕ
    first = earliest (drop (length old) (changes_of dim after natural))

    late : AllByRecursion (λ (d : Change). first ≤ d.day) new
    late =
        let left : drop (length old) (changes_of dim after natural) ≡ new = ap (drop (length old)) more ∙ drop-append_seam old new in
        subst (λ (cs : List Change). AllByRecursion (λ (d : Change). earliest cs ≤ d.day) new) (sym left) (earliest_first new)

    days_old : ChangesHaveDays old
    days_old = days_in dim commands natural (described dim commands) (days_before limits commands c ok dim)

    days_all : ChangesHaveDays (changes_of dim after natural)
    days_all = days_in dim after natural (described dim after) (days_after limits commands c ok dim)

    -- their last day
    abbrev last : ℕ
    last = latest_day (drop (length old) (changes_of dim after natural))

    early : (day : ℕ) → last < day → AllByRecursion (λ (d : Change). d.day < day) new
    early day past =
        let left : drop (length old) (changes_of dim after natural) ≡ new = ap (drop (length old)) more ∙ drop-append_seam old new in
        let all = subst (λ (cs : List Change). AllByRecursion (λ (d : Change). d.day ≤ latest_day cs) new) (sym left) (latest_last new) in
        all_weaker (λ (d : Change). d.day ≤ last) (λ (d : Change). d.day < day) (λ d within. omega (arith, within, past)) new all

    -- a later record that keeps its row
    abbrev stored_shown : RenderedMember
    stored_shown = rendered_in (shape_after dim after) (member_of dim commands natural)

    abbrev after_shown : RenderedMember
    after_shown = rendered_in (shape_after dim after) (member_of dim after natural)

    abbrev keeps : Change → Bool
    keeps d = nat_lt last d.day && keeps_row stored_shown after_shown d.day

    module _ (given : 0 < durable_key dim commands natural) where
      opening_same : surrogate_key dim after (opening_of natural) ≡ surrogate_key dim commands (opening_of natural)
      opening_same = surrogate_stays dim commands (c ∷ []) (opening_of natural) (opening_given dim commands (durable_key dim commands natural) natural (at_place-place bytes_eq bytes_eq-Decides natural (members dim commands) given))

      -- ---- on an earlier day

      module _ (earlier : list_any (λ (d : Change). nat_lt d.day first) old ≡ true) (day : ℕ) (less : day < first) where
        at_early : at day (dated (changes_of dim after natural)) ≡ at day (dated old)
        at_early = at_stays (member_of dim commands natural) (member_of dim after natural) first new more late earlier day less

        key_early : is_day day ≡ true → key_at after dim day natural ≡ key_at commands dim day natural
        key_early within =
            ap (λ (kinds : List AttributeType). key_in (rows kinds (profiles_of after) (member_of dim after natural)) day) (types-last dim commands c (ap governs is))
            ∙ key_stays (member_of dim commands natural) (member_of dim after natural) first new more late earlier (types_in dim commands) days_old days_all opening_same
            (profile_now (types_in dim commands) (profiles_of after) (member_of dim after natural)) (profile_now (types_in dim commands) (profiles_of commands) (member_of dim commands natural)) day within less

      -- ---- on a later day

      module _ (start : Change) (found : find keeps (dated old) ≡ Some start) where
        is_start : is_day start.day ≡ true
        is_start = found_is (λ (d : Change). is_day d.day ≡ true) keeps (dated old) start (all_dated (λ (d : Change). is_day d.day ≡ true) old days_old) found

        passes : (nat_lt last start.day ≡ true) × (keeps_row stored_shown after_shown start.day ≡ true)
        passes = both_true (nat_lt last start.day) (keeps_row stored_shown after_shown start.day) (find_passes keeps start (dated old) found)

        past : last < start.day
        past = let less = passes.0 in grind (arith, nat_tests, less)

        module _ (day : ℕ) (later : start.day ≤ day) where
          at_later : at day (dated (changes_of dim after natural)) ≡ at day (dated old)
          at_later = at_later_stays (member_of dim commands natural) (member_of dim after natural) start.day new more (early start.day past) (found_among keeps (dated old) start found) days_old days_all day later

          key_later : is_day day ≡ true → key_at after dim day natural ≡ key_at commands dim day natural
          key_later within =
              let kinds = types_in dim after in
              let shown = profile_now kinds (profiles_of after) (member_of dim after natural) in
              let stored = profile_now kinds (profiles_of after) (member_of dim commands natural) in
              let other = profile_now kinds (profiles_of commands) (member_of dim commands natural) in
              let kept = sym (eqb-true (key_in stored_shown.rows start.day) (key_in after_shown.rows start.day) passes.1) in
              key_later_stays (member_of dim commands natural) (member_of dim after natural) start.day new more (early start.day past) (found_among keeps (dated old) start found) days_old days_all kinds opening_same shown stored kept shown other day within later
              ∙ ap (λ (kinds : List AttributeType). key_in (rows kinds (profiles_of commands) (member_of dim commands natural)) day) (types-last dim commands c (ap governs is))

  -- where the same change holds, it says the same profile
  profile_same : (is : c.content ≡ Describes Customer rs) (natural : List ℕ) (day : ℕ) → at day (dated (changes_of Customer after natural)) ≡ at day (dated (changes_of Customer commands natural)) → profile_at after day natural ≡ profile_at commands day natural
  profile_same is natural day same =
      ap (λ (kinds : List AttributeType). current_profile kinds (profiles_of after) (at day (dated (changes_of Customer after natural)))) (types-last Customer commands c (ap governs is))
      ∙ ap (current_profile (types_in Customer commands) (profiles_of after)) same
      ∙ profile_of_day_stays commands c (ap governs is) natural day

  -- and a fact of a day with the same row gets the keys that it would have had
  keys_same : (dim : Dim) (is : c.content ≡ Describes dim rs) (natural : List ℕ) (f : Fact) → at f.day (dated (changes_of dim after natural)) ≡ at f.day (dated (changes_of dim commands natural)) → key_at after dim f.day natural ≡ key_at commands dim f.day natural
      → keys_for after dim natural f ≡ keys_for commands dim natural f
  keys_same Product is natural f change row = ap (λ key. record f.keys { product_key = key }) row
  keys_same Store is natural f change row = ap (λ key. record f.keys { store_key = key }) row
  keys_same Customer is natural f change row =
      ap (λ key. record f.keys { customer_key = key; profile = profile_at after f.day natural }) row
      ∙ ap (λ number. record f.keys { customer_key = key_at commands Customer f.day natural; profile = number }) (profile_same is natural f.day change)

  -- the days of which the member's facts are asked for
  module _ (dim : Dim) (is : c.content ≡ Describes dim rs) (natural : List ℕ) (given : 0 < durable_key dim commands natural) where
    abbrev first_asked : ℕ
    first_asked = moves_since (changes_of dim commands natural) (changes_of dim after natural)

    abbrev last_asked : ℕ
    last_asked = moves_until (stored_shown dim is natural) (after_shown dim is natural)

    keys_before : (f : Fact) → is_day f.day ≡ true → f.day < first_asked → keys_for after dim natural f ≡ keys_for commands dim natural f
    keys_before f within before =
        elim (list_any (λ (d : Change). nat_lt d.day (first dim is natural)) (changes_of dim commands natural)) as (λ b. (list_any (λ (d : Change). nat_lt d.day (first dim is natural)) (changes_of dim commands natural) ≡ b)
        → f.day < cond b (first dim is natural) first_day → keys_for after dim natural f ≡ keys_for commands dim natural f) [
          | true ↦ λ earlier less. keys_same dim is natural f (at_early dim is natural given earlier f.day less) (key_early dim is natural given earlier f.day less within)
          | false ↦ λ _ less. absurd (omega (arith, less, from_first f.day within))
        ] refl before

    keys_from : (f : Fact) → is_day f.day ≡ true → (start : Change) → find (keeps dim is natural) (dated (changes_of dim commands natural)) ≡ Some start → (start.day == first_day) ≡ false → day_before start.day < f.day
        → keys_for after dim natural f ≡ keys_for commands dim natural f
    keys_from f within start found other past =
        let day = is_start dim is natural given start found in
        let later : start.day ≢ first_day = λ same. let equal = eq-eqb start.day first_day same in let not_equal = other in cc in
        elim (cases_lt f.day start.day) [
          | inl less ↦ (let most = (day_before-greatest start.day (parts start.day day) later).1 f.day within less in absurd (omega (arith, most, past)))
          | inr late ↦ keys_same dim is natural f (at_later dim is natural given start found f.day late) (key_later dim is natural given start found f.day late within)
        ]

    keys_after : (f : Fact) → is_day f.day ≡ true → last_asked < f.day → keys_for after dim natural f ≡ keys_for commands dim natural f
    keys_after f within past =
        elim (find (keeps dim is natural) (dated (changes_of dim commands natural))) as (λ o. (find (keeps dim is natural) (dated (changes_of dim commands natural)) ≡ o)
        → before_record o < f.day → keys_for after dim natural f ≡ keys_for commands dim natural f) [
          | None ↦ λ _ more. absurd (omega (arith, more, to_last f.day within))
          | Some start ↦ λ found.
              elim (start.day == first_day) as (λ b. ((start.day == first_day) ≡ b) → unwrap_or (cond b None (Some (day_before start.day))) last_day < f.day → keys_for after dim natural f ≡ keys_for commands dim natural f) [
                | true ↦ λ _ more. absurd (omega (arith, more, to_last f.day within))
                | false ↦ λ other more. keys_from f within start found other more
              ] refl
        ] refl past

  module _ (dim : Dim) (is : c.content ≡ Describes dim rs) (t : Tables) (are : AreOf limits commands t) where
    good_sales : AllByRecursion IsGoodSale (sold commands)
    good_sales = subst (AllByRecursion IsGoodSale) (sold_same commands c rs dim is) ok.sales

    good_standing : AllByRecursion IsGoodSale (standing commands)
    good_standing = all_standing IsGoodSale (withdrawn commands) (sold commands) good_sales

    -- a stored fact is that of a sale
    sale_of : (key : LineKey) (f : Fact) → fact_at commands key ≡ Some f → (s : SaleRecord) × (fact_of commands s ≡ f) × (is_day s.day ≡ true)
    sale_of key f there = by_sale (find (on_line key) (standing commands)) refl there
      where
        by_sale : (o : Option SaleRecord) → find (on_line key) (standing commands) ≡ o → option_map (fact_of commands) o ≡ Some f → (s : SaleRecord) × (fact_of commands s ≡ f) × (is_day s.day ≡ true)
        by_sale None found h = absurd cc
        by_sale (Some s) found h = (s, some_is (fact_of commands s) f h, (found_is IsGoodSale (on_line key) (standing commands) s good_standing found).day)

    module _ (natural : List ℕ) (given : 0 < durable_key dim commands natural) where
      abbrev since : ℕ
      since = moves_since (changes_of dim commands natural) (changes_of dim after natural)

      abbrev until : ℕ
      until = moves_until (stored_shown dim is natural) (after_shown dim is natural)

      -- a fact of the member that isn't between these days doesn't move
      stays_outside : (key : LineKey) (f : Fact) → get (facts_of t) key ≡ Some f → eq_by_cmp nat_cmp (durable_key dim after natural) (durable_of dim f) ≡ true → (f.day < since) ⊎ (until < f.day) → moved_for after dim natural f ≡ None
      stays_outside key f here own apart =
          let sale = sale_of key f (sym (facts_are limits commands t are key) ∙ here) in
          let s : SaleRecord = sale.0 in
          let durable : durable_key dim commands natural ≡ durable_of dim f = sym (durable_stays dim commands (c ∷ []) natural given) ∙ same_number_is (durable_key dim after natural) (durable_of dim f) own in
          let its : member_of_sale dim s ≡ Some natural = owner_is dim commands s natural given (durable ∙ ap (durable_of dim) (sym sale.1)) in
          let keys : keys_for commands dim natural f ≡ f.keys = subst (λ (g : Fact). keys_for commands dim natural g ≡ g.keys) sale.1 (own_keys dim commands s natural its) in
          let within : is_day f.day ≡ true = subst (λ (g : Fact). is_day g.day ≡ true) sale.1 sale.2 in
          let same : keys_for after dim natural f ≡ keys_for commands dim natural f = elim apart [ inl before ↦ keys_before dim is natural given f within before | inr past ↦ keys_after dim is natural given f within past ] in
          ap (rekeyed_to f) (same ∙ keys) ∙ ap (λ b. cond b None (Some f)) (same_as_itself f.keys)

      abbrev own : Fact → Bool
      own f = eq_by_cmp nat_cmp (durable_key dim after natural) (durable_of dim f)

      abbrev is_between : Fact → Bool
      is_between f = is_ge (nat_cmp f.day since) && is_le (nat_cmp f.day until)

      abbrev moves_outside : Fact → Bool
      moves_outside f = own f && (not (is_between f) && is_some (moved_for after dim natural f))

      none_outside : (key : LineKey) (f : Fact) → get (facts_of t) key ≡ Some f → moves_outside f ≡ true → ⊥
      none_outside key f here passes =
          let parts = both_true (own f) (not (is_between f) && is_some (moved_for after dim natural f)) passes in
          let rest = both_true (not (is_between f)) (is_some (moved_for after dim natural f)) parts.1 in
          let none = stays_outside key f here parts.0 (outside f.day since until (not_is (is_between f) rest.0)) in
          let some : is_some (moved_for after dim natural f) ≡ true = rest.1 in
          let not_some : is_some (moved_for after dim natural f) ≡ false = ap is_some none in
          cc

      -- so of its facts only those between them are asked for
      pub moves_between_are_all : rekeyed_facts (shape_after dim after) (member_of dim after natural) (facts_between (facts_of t) dim (durable_key dim after natural) since until)
          ≡ rekeyed_facts (shape_after dim after) (member_of dim after natural) (facts_with (facts_of t) dim (durable_key dim after natural))
      moves_between_are_all = idle_left_out own is_between (moved_for after dim natural) (values (facts_of t))
          (none_left moves_outside (values (facts_of t)) (none_passes row.line_cmp line_cmp_total line_cmp-IsAntisymmetric row.fact.key moves_outside (facts_of t) none_outside))

-- so the fact of such a day stays as it was
pub facts_outside_stay : FactsOutsideTheDaysStay
facts_outside_stay limits commands c dim rs number s natural is shown ok there named outside =
    let stored = fact_of commands s in
    let all : AllByRecursion IsGoodSale (sold commands) = subst (AllByRecursion IsGoodSale) (sold_same commands c rs dim is) ok.sales in
    let within : is_day s.day ≡ true = (all_at IsGoodSale number (sold commands) s all there).day in
    let given = owned commands s (all_at (Named commands) number (sold commands) s (all_named commands) there) dim natural named in
    let same : keys_for (commands ++ c ∷ []) dim natural stored ≡ keys_for commands dim natural stored =
    elim outside [
      | inl before ↦ keys_before limits commands c rs ok dim is natural given stored within before
      | inr past ↦ keys_after limits commands c rs ok dim is natural given stored within past
    ] in
    late_records_move_facts commands c dim rs number s is shown there
    ∙ follows_member commands c rs dim is s natural named
    ∙ ap (with_keys stored) (same ∙ own_keys dim commands s natural named)
