-- The holidays of a calendar, judged.
use Rattle.std.proofs.Common.{◌≡◌, ◌≢◌, ℕ, true, ◌&&◌, not, leb, List, [], ◌∷◌, ◌++◌, Option, Some, None, codes, refl, sym, ap, ◌∙◌, arith}
use Rattle.std.specs.Prelude.{IsTrue, ◌==◌}
use Rattle.std.specs.List.{All, AllPairs, AllZip, list_any}
use Rattle.std.specs.Option.{option_and_then}
use Rattle.std.proofs.lemmas.Bool.{and_parts, and_from, le-leb, leb-true, eqb-true, eqb-false, not-false, not-true, both_ways}
use Rattle.std.proofs.lemmas.Option.{same_Some, none-some, option_and_then_some, cond_some}
use Rattle.toml.specs.Data.{Data, string, Members, get_member, as_str}
use Rattle.wh_day.specs.Day.{read_day, day_text, is_day, year_of}
use Rattle.wh_day.specs.Holidays.{is_on, HaveDistinctDays}
use Rattle.wh_day.specs.Value.{read_value, is_plain}
use Rattle.wh_day.specs.declared.holiday.Holiday.{Holiday}
use Rattle.wh_day.proofs.Texts.{read_day-text, text_is}
use Rattle.wh_policy.specs.declared.fault.PolicyFault.{PolicyFault}
use Rattle.wh_policy.specs.declared.fault.PolicyFault.TheVariants.{Missing, UnknownKey, BadHoliday}
use Rattle.wh_policy.specs.declared.policy.Years.{Years}
use Rattle.wh_policy.specs.Document.{has_only}
use Rattle.wh_policy.specs.Years.{is_within}
use Rattle.wh_policy.specs.Holidays.{found_day, day_of, read_named, title_of, holiday_keys, holiday_of, holidays_of}
use Rattle.wh_policy.specs.Written.{HasOnly, HasAll, IsArrayOf, At, IsWithin, IsDayData, IsTitleData, DifferAt, WritesHoliday}
use Rattle.wh_policy.proofs.Judged.{Judged, judged-ok, judged-bind, judged-more, judged-unless, judged-or}
use Rattle.wh_policy.proofs.WrittenLemmas.{as_str-is, has_only-true, has_only-from, required-judged, tables_of-judged, each_after-judged, found_before, none_found, All-middle, AllPairs-middle, absent}

-- the table writes the holiday, and keeps what is asked of one
pub record IsHoliday (years : Years) (t : Members) (h : Holiday) : Type 0 where
  pub only : HasOnly holiday_keys t
  pub writes : WritesHoliday t h
  pub day : IsTrue (is_day h.day)
  pub within : IsWithin years h.day
  pub some : h.name ≢ []
  pub name : read_value h.name ≡ Some h.name

-- what follows from a fault in one of the tables
pub record Reasons (years : Years) (bad : PolicyFault → Type 0) (tables : List Members) : Type 0 where
  pub unknown : ¬ All (HasOnly holiday_keys) tables → bad UnknownKey
  pub missing : ¬ All (HasAll holiday_keys) tables → bad Missing
  pub day : ¬ All (At (codes "day") (IsDayData years)) tables → bad BadHoliday
  pub name : ¬ All (At (codes "name") IsTitleData) tables → bad BadHoliday
  pub twice : ¬ AllPairs (DifferAt (codes "day")) tables → bad BadHoliday

-- a day

is_within-true : (years : Years) (day : ℕ) → is_within years day ≡ true → IsWithin years day
is_within-true years day h =
    let (from, to) = and_parts (leb years.first (year_of day)) (leb (year_of day) years.last) h in
    record { from = leb-true _ _ from; to = leb-true _ _ to }

is_within-from : (years : Years) (day : ℕ) → IsWithin years day → is_within years day ≡ true
is_within-from years day h = and_from _ _ (le-leb _ _ h.from) (le-leb _ _ h.to)

found_day-judged : {bad : PolicyFault → Type 0} (years : Years) (found : Option ℕ) → (((day : ℕ) → found ≡ Some day → ¬ IsWithin years day) → bad BadHoliday)
    → Judged (λ day. (found ≡ Some day) × IsWithin years day) bad (found_day years found)
found_day-judged years None fails = record { verdict = fails (λ day e within. none-some day e) }
found_day-judged years (Some day) fails =
    judged-unless (is_within years day) BadHoliday _
    (λ no. fails (λ other e within. both_ways _ no (rw (same_Some day other e) (is_within-from years other within))))
    (λ yes. judged-ok day (refl, is_within-true years day yes))

abbrev day_in : Data → Option ℕ
day_in content = option_and_then read_day (as_str content)

day_of-judged : {bad : PolicyFault → Type 0} (years : Years) (content : Data) → (¬ IsDayData years content → bad BadHoliday)
    → Judged (λ day. (content ≡ string (day_text day)) × IsTrue (is_day day) × IsWithin years day) bad (day_of years content)
unfolding day_of
day_of-judged years content fails = judged-more _
    (found_day-judged years (day_in content) (λ none. fails (λ p.
    let here : day_in content ≡ Some p.0 = rw p.1 (read_day-text p.0 p.2) in
    none p.0 here p.3)))
    (λ day p. option_and_then_some read_day (as_str content) day p.0 (λ text found read.
    let (real, same) = text_is text day read in
    (as_str-is content text found ∙ ap string same, real, p.1)))

-- a name

value_is : (first : ℕ) (rest name : List ℕ) → read_value (first ∷ rest) ≡ Some name → first ∷ rest ≡ name
unfolding read_value
value_is first rest name e = (cond_some (not (first == 40) && is_plain (first ∷ rest)) (first ∷ rest) name e).1

read_named-is : (text name : List ℕ) → read_named text ≡ Some name → (text ≡ name) × (text ≢ []) × (read_value text ≡ Some name)
read_named-is [] name e = absurd (none-some name e)
read_named-is (first ∷ rest) name e = (value_is first rest name e, λ none. absurd cc, e)

read_named-from : (name : List ℕ) → name ≢ [] → read_value name ≡ Some name → read_named name ≡ Some name
read_named-from [] some e = absurd (some refl)
read_named-from (first ∷ rest) some e = e

title_of-judged : {bad : PolicyFault → Type 0} (content : Data) → (¬ IsTitleData content → bad BadHoliday)
    → Judged (λ name. (content ≡ string name) × (name ≢ []) × (read_value name ≡ Some name)) bad (title_of content)
unfolding title_of
title_of-judged content fails = judged-or BadHoliday (option_and_then read_named (as_str content))
    (λ none. fails (λ p.
    let here : option_and_then read_named (as_str content) ≡ Some p.0 = rw p.1 (read_named-from p.0 p.2 p.3) in
    none-some p.0 (sym none ∙ here)))
    (λ name e. option_and_then_some read_named (as_str content) name e (λ text found read.
    let (same, some, value) = read_named-is text name read in
    (as_str-is content text found ∙ ap string same, rw same at some, rw same at value)))

-- a holiday

pub holiday_of-judged : {bad : PolicyFault → Type 0} (years : Years) (before : List Members) (t : Members) (after : List Members) (earlier : List Holiday)
    → AllZip (IsHoliday years) before earlier → Reasons years bad (before ++ t ∷ after) → Judged (λ h. IsHoliday years t h × All (λ g. g.day ≢ h.day) earlier) bad (holiday_of years earlier t)
unfolding holiday_of
holiday_of-judged years before t after earlier zip reasons =
    judged-unless (has_only holiday_keys t) UnknownKey _
    (λ no. reasons.unknown (λ all. both_ways _ no (has_only-from holiday_keys t (All-middle (HasOnly holiday_keys) before t after all)))) (λ only.
    judged-bind {mid = λ content. get_member (codes "day") t ≡ Some content} _ _
    (required-judged (codes "day") t (λ none. reasons.missing (λ all. absent none (All-middle (HasAll holiday_keys) before t after all 0 [] (omega arith))))) (λ day_content day_there.
    judged-bind {mid = λ content. get_member (codes "name") t ≡ Some content} _ _
    (required-judged (codes "name") t (λ none. reasons.missing (λ all. absent none (All-middle (HasAll holiday_keys) before t after all 1 [] (omega arith))))) (λ name_content name_there.
    judged-bind {mid = λ day. (day_content ≡ string (day_text day)) × IsTrue (is_day day) × IsWithin years day} _ _
    (day_of-judged years day_content (λ none. reasons.day (λ all. none (rw day_there at (All-middle (At (codes "day") (IsDayData years)) before t after all))))) (λ day dated.
    judged-bind {mid = λ name. (name_content ≡ string name) × (name ≢ []) × (read_value name ≡ Some name)} _ _
    (title_of-judged name_content (λ none. reasons.name (λ all. none (rw name_there at (All-middle (At (codes "name") IsTitleData) before t after all))))) (λ name named.
    let day_is : get_member (codes "day") t ≡ Some (string (day_text day)) = day_there ∙ ap Some dated.0 in
    let name_is : get_member (codes "name") t ≡ Some (string name) = name_there ∙ ap Some named.0 in
    judged-unless (not (list_any (is_on day) earlier)) BadHoliday _
    (λ no. reasons.twice (λ all.
    let (k, h, lt, same, is) = found_before (IsHoliday years) (is_on day) before earlier t zip (not-false _ no) in
    AllPairs-middle (DifferAt (codes "day")) before t after k lt all (day_text day) (rw (eqb-true h.day day same) at is.writes.day) day_is)) (λ new.
    judged-ok (record { day = day; name = name }) (
      record {
        only = has_only-true holiday_keys t only;
        writes = record { day = day_is; name = name_is };
        day = dated.1;
        within = dated.2;
        some = named.1;
        name = named.2;
      },
      λ k d lt same. eqb-false _ _ (none_found (is_on day) earlier (not-true _ new) k d lt) same,
    )))))))

-- the holidays of a policy file, of which it may have none
abbrev pub HolidaysAre : Years → Option Data → List Holiday → Type 0
HolidaysAre years None holidays = holidays ≡ []
HolidaysAre years (Some content) holidays = (tables : List Members) × IsArrayOf tables content × AllZip (IsHoliday years) tables holidays × HaveDistinctDays holidays

pub holidays_of-judged : {bad : PolicyFault → Type 0} (years : Years) (found : Option Data)
    → ((content : Data) → found ≡ Some content → ((tables : List Members) → ¬ IsArrayOf tables content) → bad BadHoliday)
    → ((content : Data) (tables : List Members) → found ≡ Some content → IsArrayOf tables content → Reasons years bad tables)
    → Judged (HolidaysAre years found) bad (holidays_of years found)
unfolding holidays_of
holidays_of-judged years None none reasons = judged-ok [] refl
holidays_of-judged {bad} years (Some content) none reasons =
    judged-bind {mid = λ tables. IsArrayOf tables content} _ _ (tables_of-judged BadHoliday content (none content refl)) (λ tables is.
    judged-more {mid = λ holidays. AllZip (IsHoliday years) tables holidays × HaveDistinctDays holidays} _
    (each_after-judged (holiday_of years) (IsHoliday years) (λ g h. g.day ≢ h.day) (Reasons years bad) (holiday_of-judged years) [] [] tables tt
    (λ i j d below within. absurd (omega arith)) (reasons content tables refl is)) (λ holidays p.
    (tables, is, p.0, p.1)))
