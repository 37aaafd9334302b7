-- What is read is free of faults, is what the file writes, and is sound.
use Rattle.std.proofs.Common.{◌≡◌, ◌≢◌, ◌⊎◌, ℕ, Bool, true, false, ◌&&◌, inl, inr, unsigned_abs, List, Option, Some, None, codes, refl, sym, ap, ◌∙◌, arith}
use Rattle.std.specs.Prelude.{IsTrue}
use Rattle.std.specs.List.{All, AllPairs, AllZip, list_any}
use Rattle.std.specs.Option.{IsSome, IfSome}
use Rattle.std.proofs.lemmas.Bool.{both_ways}
use Rattle.std.proofs.lemmas.List.Elements.{All-nil, All-from_recursion}
use Rattle.std.proofs.lemmas.Option.{same_Some}
use Rattle.std.proofs.lemmas.Slice.Zip.{AllZip-long}
use Rattle.toml.specs.Data.{Data, array, Members, get_member}
use Rattle.wh_day.specs.Day.{is_day, read_day}
use Rattle.wh_day.specs.declared.holiday.Holiday.{Holiday}
use Rattle.wh_day.proofs.Texts.{read_day-text}
use Rattle.wh_policy.specs.declared.fault.PolicyFault.{PolicyFault}
use Rattle.wh_policy.specs.declared.fault.PolicyFault.TheVariants.{NotToml, Missing, UnknownKey, BadName, BadType, TooMany, NamedTwice, ProfileOutside, ProfileMixed, BadYears, BadHoliday}
use Rattle.wh_policy.specs.declared.attribute.Attribute.{Attribute}
use Rattle.wh_policy.specs.declared.attribute.Dim.{Dim}
use Rattle.wh_policy.specs.declared.attribute.Dim.TheVariants.{Product, Store, Customer}
use Rattle.wh_policy.specs.declared.policy.Policy.{Policy}
use Rattle.wh_policy.specs.declared.policy.Years.{Years}
use Rattle.wh_policy.specs.Attributes.{attribute_keys, is_name, takes_profile}
use Rattle.wh_policy.specs.Holidays.{holiday_keys}
use Rattle.wh_policy.specs.Policy.{policy_attributes}
use Rattle.wh_policy.specs.Types.{is_profile, is_mini, is_outrigger, attribute_type_number}
use Rattle.wh_policy.specs.Words.{dim_word}
use Rattle.wh_policy.specs.Written.{HasKey, HasOnly, HasAll, HasTables, IsArrayOf, EachAttribute, EachHoliday, KeysAreKnown, needed_keys, IsWhole, At, IsNameData, IsTypeData, IsWithin, IsDayData, IsTitleData, DifferAt, IsOutsideProfile, IsNotOfType, HolidaysAreGood, IsFreeOf, WritesAttribute, WritesHoliday, WritesHolidays, Writes, AreAttributes, IsSound}
use Rattle.wh_policy.proofs.AttributeLaws.{IsAttribute, AreWritten}
use Rattle.wh_policy.proofs.HolidayLaws.{IsHoliday, HolidaysAre}
use Rattle.wh_policy.proofs.PolicyLaws.{IsRead}
use Rattle.wh_policy.proofs.TypeLemmas.{attribute_type_number-small, other_numbers, not_four, not_five}
use Rattle.wh_policy.proofs.WrittenOnce.{years_once}
use Rattle.wh_policy.proofs.WrittenLemmas.{string_same, integer_same, arrays_same, zip-all, zip-all_right, zip-more, zip-pairs, zip-with_first, none_found}

there : {content : Data} {found : Option Data} → found ≡ Some content → IsSome found
there e = rw e refl

-- the tables of a dimension are those that were read
dimension_tables : (ms : Members) (policy : Policy) → IsRead ms policy → (dim : Dim) (tables : List Members) → HasTables (dim_word dim) ms tables
    → AllZip (IsAttribute dim) tables (policy_attributes policy dim)
dimension_tables ms policy read dim tables has =
    let (content, found, written) = read.attributes dim in
    let is : content ≡ array _ = same_Some _ _ (sym found ∙ has) in
    rw (arrays_same content written.tables tables written.array is) at written.each

each_attribute : (P : Members → Type 0) → ((dim : Dim) (t : Members) (a : Attribute) → IsAttribute dim t a → P t) → (ms : Members) (policy : Policy) → IsRead ms policy → EachAttribute P ms
each_attribute P f ms policy read dim tables has = zip-all (IsAttribute dim) P (f dim) tables (policy_attributes policy dim) (dimension_tables ms policy read dim tables has)

holiday_tables : (ms : Members) (policy : Policy) → IsRead ms policy → (tables : List Members) → HasTables (codes "holiday") ms tables
    → AllZip (IsHoliday policy.years) tables policy.holidays × AllPairs (λ g h. g.day ≢ h.day) policy.holidays
holiday_tables ms policy read tables has =
    let h = rw has at read.holidays in
    (rw (arrays_same _ h.0 tables h.1 refl) at h.2, h.3)

each_holiday : (P : Members → Type 0) → (ms : Members) (policy : Policy) → ((t : Members) (h : Holiday) → IsHoliday policy.years t h → P t) → IsRead ms policy → EachHoliday P ms
each_holiday P ms policy f read tables has = zip-all (IsHoliday policy.years) P f tables policy.holidays (holiday_tables ms policy read tables has).0

has_attribute_keys : (dim : Dim) (t : Members) (a : Attribute) → IsAttribute dim t a → HasAll attribute_keys t
has_attribute_keys dim t a is = All-from_recursion (λ key. HasKey key t) attribute_keys (there is.writes.name, (there is.writes.kind, tt))

has_holiday_keys : (years : Years) (t : Members) (h : Holiday) → IsHoliday years t h → HasAll holiday_keys t
has_holiday_keys years t h is = All-from_recursion (λ key. HasKey key t) holiday_keys (there is.writes.day, (there is.writes.name, tt))

keys_are_known : (ms : Members) (policy : Policy) → IsRead ms policy → KeysAreKnown ms
keys_are_known ms policy read = record {
  top = read.only;
  attributes = each_attribute (HasOnly attribute_keys) (λ dim t a is. is.only) ms policy read;
  holidays = each_holiday (HasOnly holiday_keys) ms policy (λ t h is. is.only) read;
}

is_whole : (ms : Members) (policy : Policy) → IsRead ms policy → IsWhole ms
is_whole ms policy read =
    let product = read.attributes Product in
    let store = read.attributes Store in
    let customer = read.attributes Customer in
    record {
      top = All-from_recursion (λ key. HasKey key ms) needed_keys (there read.writes.first, (there read.writes.last, (there product.1, (there store.1, (there customer.1, tt)))));
      dimensions = λ dim. let (content, found, written) = read.attributes dim in (written.tables, found ∙ ap Some written.array, written.some);
      attributes = each_attribute (HasAll attribute_keys) has_attribute_keys ms policy read;
      holidays = each_holiday (HasAll holiday_keys) ms policy (has_holiday_keys policy.years) read;
    }

is_name_data : (dim : Dim) (t : Members) (a : Attribute) → IsAttribute dim t a → At (codes "name") IsNameData t
is_name_data dim t a is = rw is.writes.name (a.name, refl, is.named)

is_type_data : (dim : Dim) (t : Members) (a : Attribute) → IsAttribute dim t a → At (codes "type") IsTypeData t
is_type_data dim t a is = rw is.writes.kind (attribute_type_number a.kind, refl, attribute_type_number-small a.kind)

takes_none : (dim : Dim) → dim ≢ Customer → takes_profile dim ≡ false
takes_none Product other = refl
takes_none Store other = refl
takes_none Customer other = absurd (other refl)

is_outside : (dim : Dim) → dim ≢ Customer → (t : Members) (a : Attribute) → IsAttribute dim t a → IsOutsideProfile t
is_outside dim other t a is n e =
    let same : n ≡ attribute_type_number a.kind = ap unsigned_abs (integer_same _ _ (same_Some _ _ (sym e ∙ is.writes.kind))) in
    rw same (other_numbers a.kind (is.outside (takes_none dim other)))

names_differ : (dim : Dim) (t u : Members) (a b : Attribute) → IsAttribute dim t a → IsAttribute dim u b → a.name ≢ b.name → DifferAt (codes "name") t u
names_differ dim t u a b is_a is_b differ text here there =
    let first = string_same _ _ (same_Some _ _ (sym is_a.writes.name ∙ here)) in
    let second = string_same _ _ (same_Some _ _ (sym is_b.writes.name ∙ there)) in
    differ (first ∙ sym second)

days_differ : (years : Years) (t u : Members) (g h : Holiday) → IsHoliday years t g → IsHoliday years u h → g.day ≢ h.day → DifferAt (codes "day") t u
days_differ years t u g h is_g is_h differ text here there =
    let first = string_same _ _ (same_Some _ _ (sym is_g.writes.day ∙ here)) in
    let second = string_same _ _ (same_Some _ _ (sym is_h.writes.day ∙ there)) in
    differ (same_Some _ _ (sym (read_day-text g.day is_g.day) ∙ ap read_day (first ∙ sym second) ∙ read_day-text h.day is_h.day))

is_array : (years : Years) (found : Option Data) (holidays : List Holiday) → HolidaysAre years found holidays → IfSome found (λ content. (tables : List Members) × IsArrayOf tables content)
is_array years None holidays h = tt
is_array years (Some content) holidays h = (h.0, h.1)

holidays_are_good : (ms : Members) (policy : Policy) → IsRead ms policy → HolidaysAreGood ms
holidays_are_good ms policy read = record {
  tables = is_array policy.years (get_member (codes "holiday") ms) policy.holidays read.holidays;
  days = λ years writes. rw (years_once ms years policy.years writes read.writes)
      (each_holiday (At (codes "day") (IsDayData policy.years)) ms policy (λ t h is. rw is.writes.day (h.day, refl, is.day, is.within)) read);
  names = each_holiday (At (codes "name") IsTitleData) ms policy (λ t h is. rw is.writes.name (h.name, refl, is.some, is.name)) read;
  once = λ tables has. let p = holiday_tables ms policy read tables has in
      zip-pairs (IsHoliday policy.years) (DifferAt (codes "day")) (λ g h. g.day ≢ h.day) (days_differ policy.years) tables policy.holidays p.0 p.1;
}

not_of_type : (n : ℕ) (test : Attribute → Bool) → ((a : Attribute) → test a ≡ false → attribute_type_number a.kind ≢ n) → (tables : List Members) (attributes : List Attribute) → AllZip (IsAttribute Customer) tables attributes → list_any test attributes ≡ false → All (IsNotOfType n) tables
not_of_type n test others tables attributes zip none =
    zip-with_first (IsAttribute Customer) (IsNotOfType n) (λ a. test a ≡ false)
    (λ t a is fails typed. others a fails (ap unsigned_abs (integer_same _ _ (same_Some _ _ (sym is.writes.kind ∙ typed)))))
    tables attributes zip (none_found test attributes none)

is_unmixed : (ms : Members) (policy : Policy) → IsRead ms policy → (tables : List Members) → HasTables (dim_word Customer) ms tables → All (IsNotOfType 4) tables ⊎ All (IsNotOfType 5) tables
is_unmixed ms policy read tables has =
    let zip = dimension_tables ms policy read Customer tables has in
    by_first (list_any (λ a. is_mini a.kind) policy.customer) refl zip
  where
    by_first : (b : Bool) → list_any (λ a. is_mini a.kind) policy.customer ≡ b → AllZip (IsAttribute Customer) tables policy.customer → All (IsNotOfType 4) tables ⊎ All (IsNotOfType 5) tables
    by_first false none zip = inl (not_of_type 4 (λ a. is_mini a.kind) (λ a fails. not_four a.kind fails) tables policy.customer zip none)
    by_first true some zip =
        let none = sym (ap (λ b. b && list_any (λ a. is_outrigger a.kind) policy.customer) some) ∙ read.unmixed in
        inr (not_of_type 5 (λ a. is_outrigger a.kind) (λ a fails. not_five a.kind fails) tables policy.customer zip none)

-- what is read has no fault
pub is_free : (ms : Members) (policy : Policy) → IsRead ms policy → (fault : PolicyFault) → IsFreeOf fault ms
is_free ms policy read NotToml = tt
is_free ms policy read Missing = is_whole ms policy read
is_free ms policy read UnknownKey = keys_are_known ms policy read
is_free ms policy read BadName = each_attribute (At (codes "name") IsNameData) is_name_data ms policy read
is_free ms policy read BadType = each_attribute (At (codes "type") IsTypeData) is_type_data ms policy read
is_free ms policy read TooMany = λ dim tables has.
    let (content, found, written) = read.attributes dim in
    let read_long = AllZip-long (IsAttribute dim) _ _ written.each in
    let here_long = AllZip-long (IsAttribute dim) _ _ (dimension_tables ms policy read dim tables has) in
    rw (← read_long, here_long) at written.few
is_free ms policy read NamedTwice = λ dim tables has. let (content, found, written) = read.attributes dim in
    zip-pairs (IsAttribute dim) (DifferAt (codes "name")) (λ a b. a.name ≢ b.name) (names_differ dim) tables (policy_attributes policy dim) (dimension_tables ms policy read dim tables has) written.once
is_free ms policy read ProfileOutside = λ dim other tables has. zip-all (IsAttribute dim) IsOutsideProfile (is_outside dim other) tables (policy_attributes policy dim) (dimension_tables ms policy read dim tables has)
is_free ms policy read ProfileMixed = is_unmixed ms policy read
is_free ms policy read BadYears = (policy.years, read.writes, read.years)
is_free ms policy read BadHoliday = holidays_are_good ms policy read

writes_holidays : (years : Years) (found : Option Data) (holidays : List Holiday) → HolidaysAre years found holidays → WritesHolidays found holidays
writes_holidays years None holidays h = h
writes_holidays years (Some content) holidays h = (h.0, h.1, zip-more (IsHoliday years) WritesHoliday (λ t g is. is.writes) _ _ h.2)

-- it is what the file writes
pub writes : (ms : Members) (policy : Policy) → IsRead ms policy → Writes ms policy
writes ms policy read = record {
  attributes = λ dim. let (content, found, written) = read.attributes dim in
      (written.tables, found ∙ ap Some written.array, zip-more (IsAttribute dim) WritesAttribute (λ t a is. is.writes) _ _ written.each);
  years = read.writes;
  holidays = writes_holidays policy.years (get_member (codes "holiday") ms) policy.holidays read.holidays;
}

are_attributes : (dim : Dim) (attributes : List Attribute) (content : Data) → AreWritten dim content attributes → AreAttributes attributes
are_attributes dim attributes content written =
    let same = AllZip-long (IsAttribute dim) _ _ written.each in
    record {
      some = rw same written.some;
      few = rw same written.few;
      names = zip-all_right (IsAttribute dim) (λ a. IsTrue (is_name a.name)) (λ t a is. is.named) _ _ written.each;
      once = written.once;
    }

are_outside : (dim : Dim) → dim ≢ Customer → (attributes : List Attribute) (content : Data) → AreWritten dim content attributes → All (λ a. ¬ IsTrue (is_profile a.kind)) attributes
are_outside dim other attributes content written = zip-all_right (IsAttribute dim) (λ a. ¬ IsTrue (is_profile a.kind)) (λ t a is. both_ways _ (is.outside (takes_none dim other))) _ _ written.each

are_within : (years : Years) (found : Option Data) (holidays : List Holiday) → HolidaysAre years found holidays → All (λ h. IsTrue (is_day h.day) × IsWithin years h.day) holidays
are_within years None holidays h = rw h (All-nil (λ (g : Holiday). IsTrue (is_day g.day) × IsWithin years g.day))
are_within years (Some content) holidays h = zip-all_right (IsHoliday years) (λ g. IsTrue (is_day g.day) × IsWithin years g.day) (λ t g is. (is.day, is.within)) _ _ h.2

are_distinct : (years : Years) (found : Option Data) (holidays : List Holiday) → HolidaysAre years found holidays → AllPairs (λ g h. g.day ≢ h.day) holidays
are_distinct years None holidays h = rw h (λ i j d below within. absurd (omega arith))
are_distinct years (Some content) holidays h = h.3

-- and sound
pub is_sound : (ms : Members) (policy : Policy) → IsRead ms policy → IsSound policy
is_sound ms policy read = record {
  attributes = λ dim. are_attributes dim (policy_attributes policy dim) (read.attributes dim).0 (read.attributes dim).2;
  outside = λ dim other. are_outside dim other (policy_attributes policy dim) (read.attributes dim).0 (read.attributes dim).2;
  unmixed = read.unmixed;
  years = read.years;
  holidays = are_within policy.years (get_member (codes "holiday") ms) policy.holidays read.holidays;
  once = are_distinct policy.years (get_member (codes "holiday") ms) policy.holidays read.holidays;
}
