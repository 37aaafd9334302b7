-- The rows of the calendar are valid.
use Rattle.std.proofs.Common.{◌≡◌, ◌≢◌, inl, inr, ℕ, zero, suc, ◌-◌, ◌<◌, ◌≤◌, true, false, leb, ltb, ◌&&◌, cond, not, List, [], ◌∷◌, length, Option, Some, None, refl, subst, arith, get_or}
use Rattle.std.specs.Prelude.{◌==◌, Ok, codes, find, unwrap_or, option_map}
use Rattle.std.specs.List.{AllByRecursion, AllZip, list_all}
use Rattle.std.specs.Str.{is_utf8, IsAscii}
use Rattle.std.proofs.lemmas.Bool.{and_parts, ltb-true, cases_Bool}
use Rattle.std.proofs.lemmas.Option.{cond_some}
use Rattle.std.proofs.lemmas.Str.{is_utf8-from_IsUtf8, IsUtf8-from_ascii}
use Rattle.wh_day.specs.Calendar.{date_row, weekday_of, weekday_names, name_of_weekday}
use Rattle.wh_day.specs.Day.{is_day, day_text, year_of}
use Rattle.wh_day.specs.Holidays.{is_on, holiday_text}
use Rattle.wh_day.specs.Value.{none_text, is_printed, is_plain, read_value}
use Rattle.wh_day.specs.declared.calendar.DateRow.{DateRow}
use Rattle.wh_day.specs.declared.holiday.Holiday.{Holiday}
use Rattle.wh_day.proofs.Days.{parts}
use Rattle.wh_policy.specs.Policy.{read_policy}
use Rattle.wh_policy.specs.declared.policy.Policy.{Policy}
use Rattle.wh_policy.specs.declared.policy.Years.{Years}
use Rattle.wh_policy.proofs.FileLaws.{ok_is}
use Rattle.wh_policy.proofs.HolidayLaws.{IsHoliday, HolidaysAre}
use Rattle.wh_history.specs.Accepted.{Accepted, Content, Governs, Describes, Sells, Upgrades, Withdraws, governed, policy_after}
use Rattle.wh_history.specs.Tables.{Limits}
use Rattle.wh_history.proofs.Basics.{some_is}
use Rattle.wh_rows.specs.Rows.{is_date}
use Rattle.wh_model.specs.Defined.{day_at, calendar_at}
use Rattle.wh_model.specs.Sound.{GivesPolicy, IsAccepted}
use Rattle.wh_model.proofs.ValidTables.{then_of}

-- ---- the names of holidays

abbrev pub AreNamed : List Holiday → Type 0
AreNamed = AllByRecursion (λ h. is_utf8 h.name ≡ true)

-- a value that is read, and isn't what stands for none, is text
pub value_utf8 : (name : List ℕ) → name ≢ [] → read_value name ≡ Some name → is_utf8 name ≡ true
unfolding read_value is_plain
value_utf8 [] some read = absurd (some refl)
value_utf8 (first ∷ rest) some read =
    let name = first ∷ rest in
    let plain = (and_parts (not (first == 40)) (is_plain name) (cond_some (not (first == 40) && is_plain name) name name read).0).1 in
    (and_parts (leb (length name) 60 && list_all is_printed name) (is_utf8 name) plain).1

all_named : (years : Years) (tables : _) (holidays : List Holiday) → AllZip (IsHoliday years) tables holidays → AreNamed holidays
all_named years [] [] zip = tt
all_named years [] (h ∷ holidays) zip = absurd zip
all_named years (t ∷ tables) [] zip = tt
all_named years (t ∷ tables) (h ∷ holidays) zip = (value_utf8 h.name zip.0.some zip.0.name, all_named years tables holidays zip.1)

names_are : (years : Years) (found : _) (holidays : List Holiday) → HolidaysAre years found holidays → AreNamed holidays
names_are years None holidays are = rw are tt
names_are years (Some content) holidays are = all_named years are.0 holidays are.2

-- ---- the row of a day

abbrev pub AreAscii : List ℕ → Type 0
AreAscii = AllByRecursion (λ b. b < 128)

pub ascii : (bytes : List ℕ) → AreAscii bytes → IsAscii bytes
ascii [] all i = omega arith
ascii (b ∷ bytes) all zero = all.0
ascii (b ∷ bytes) all (suc i) = ascii bytes all.1 i

-- a text of the program's own is seen to be
pub ascii_text : (bytes : List ℕ) → list_all (λ b. ltb b 128) bytes ≡ true → AreAscii bytes
ascii_text [] all = tt
ascii_text (b ∷ bytes) all =
    let both = and_parts (ltb b 128) (list_all (λ b. ltb b 128) bytes) all in
    (ltb-true _ _ both.0, ascii_text bytes both.1)

pub ascii_utf8 : (bytes : List ℕ) → AreAscii bytes → is_utf8 bytes ≡ true
ascii_utf8 bytes all = is_utf8-from_IsUtf8 bytes (IsUtf8-from_ascii bytes (ascii bytes all))

pub day_utf8 : (day : ℕ) → is_day day ≡ true → is_utf8 (day_text day) ≡ true
day_utf8 day is =
    let p = parts day is in
    let year : year_of day ≤ 9999 = p.year_high in
    ascii_utf8 (day_text day) (omega arith, (omega arith, (omega arith, (omega arith, (omega arith, (omega arith, (omega arith, (omega arith, (omega arith, (omega arith, tt))))))))))

pub one_of : (P : List ℕ → Type 0) → P [] → (texts : List (List ℕ)) → AllByRecursion P texts → (n : ℕ) → P (get_or texts n [])
one_of P none [] all n = none
one_of P none (t ∷ texts) all zero = all.0
one_of P none (t ∷ texts) all (suc n) = one_of P none texts all.1 n

pub weekday_utf8 : (number : ℕ) → is_utf8 (name_of_weekday number) ≡ true
weekday_utf8 number = ascii_utf8 (name_of_weekday number) (one_of AreAscii tt weekday_names (ascii_text (codes "Monday") refl, (ascii_text (codes "Tuesday") refl, (ascii_text (codes "Wednesday") refl, (ascii_text (codes "Thursday") refl, (ascii_text (codes "Friday") refl, (ascii_text (codes "Saturday") refl, (ascii_text (codes "Sunday") refl, tt))))))) (number - 1))

pub none_utf8 : is_utf8 none_text ≡ true
unfolding none_text
none_utf8 = ascii_utf8 (codes "(none)") (ascii_text (codes "(none)") refl)

holiday_utf8 : (holidays : List Holiday) (day : ℕ) → AreNamed holidays → is_utf8 (holiday_text holidays day) ≡ true
holiday_utf8 [] day names = none_utf8
holiday_utf8 (h ∷ holidays) day names =
    elim (is_on day h) as (λ b. is_utf8 (unwrap_or (option_map (λ (h : Holiday). h.name) (cond b (Some h) (find (is_on day) holidays))) none_text) ≡ true) [
      | true ↦ names.0
      | false ↦ holiday_utf8 holidays day names.1
    ]

date_valid : (holidays : List Holiday) (day : ℕ) → is_day day ≡ true → AreNamed holidays → is_date (date_row holidays day) ≡ true
unfolding date_row
date_valid holidays day is names = rw (is, day_utf8 day is, weekday_utf8 (weekday_of day), holiday_utf8 holidays day names) refl

pub day_valid : (policy : Policy) (day : ℕ) (found : DateRow) → AreNamed policy.holidays → day_at policy day ≡ Some found → is_date found ≡ true
day_valid policy day found names is =
    elim (cases_Bool (is_day day && leb policy.years.first (year_of day) && leb (year_of day) policy.years.last)) [
      | inl all ↦
          let some : Some (date_row policy.holidays day) ≡ Some found = rw all at is in
          let a_day = (and_parts (is_day day) (leb policy.years.first (year_of day)) (and_parts (is_day day && leb policy.years.first (year_of day)) (leb (year_of day) policy.years.last) all).0).0 in
          subst (λ (r : DateRow). is_date r ≡ true) (some_is (date_row policy.holidays day) found some) (date_valid policy.holidays day a_day names)
      | inr not_all ↦ let none : None ≡ Some found = rw not_all at is in absurd (cc)
    ]

-- ---- the policy in force

-- it is one that was read
abbrev WasRead : Policy → Type 0
WasRead policy = (bytes : List ℕ) × (read_policy bytes ≡ Ok policy)

read_by : (before : Option Policy) (c : Accepted) (content : Content) → GivesPolicy c.kind c.bytes content → ((policy : Policy) → before ≡ Some policy → WasRead policy) → (policy : Policy) → governed before content ≡ Some policy → WasRead policy
read_by before c (Governs given) gives earlier policy is = let same : given ≡ policy = some_is given policy is in (c.bytes, subst (λ p. read_policy c.bytes ≡ Ok p) same gives.1)
read_by before c (Describes dim records) gives earlier policy is = earlier policy is
read_by before c (Sells sales) gives earlier policy is = earlier policy is
read_by before c Upgrades gives earlier policy is = earlier policy is
read_by before c (Withdraws lines) gives earlier policy is = earlier policy is

read_after : (before : Option Policy) (commands : List Accepted) → AllByRecursion (λ c. GivesPolicy c.kind c.bytes c.content) commands → ((policy : Policy) → before ≡ Some policy → WasRead policy) → (policy : Policy) → policy_after before commands ≡ Some policy → WasRead policy
read_after before [] all earlier = earlier
read_after before (c ∷ commands) all earlier = read_after (governed before c.content) commands all.1 (read_by before c c.content all.0 earlier)

in_force : (limits : Limits) (commands : List Accepted) → IsAccepted limits commands → (policy : Policy) → policy_after None commands ≡ Some policy → WasRead policy
in_force limits commands ok = read_after None commands ok.policies (λ policy none. absurd cc)

pub names_of_read : (bytes : List ℕ) (policy : Policy) → read_policy bytes ≡ Ok policy → AreNamed policy.holidays
names_of_read bytes policy read =
    let (members, document, is) = ok_is bytes policy read in
    names_are policy.years _ policy.holidays is.holidays

pub calendar_valid : (limits : Limits) (commands : List Accepted) → IsAccepted limits commands → (day : ℕ) (v : DateRow) → calendar_at commands day ≡ Some v → is_date v ≡ true
calendar_valid limits commands ok day v is =
    let (policy, governed_by, at) = then_of (λ (policy : Policy). day_at policy day) (policy_after None commands) v is in
    let (bytes, read) = in_force limits commands ok policy governed_by in
    day_valid policy day v (names_of_read bytes policy read) at
