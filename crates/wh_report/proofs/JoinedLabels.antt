-- The label that a fact's key leads to is that of its sale.
use Rattle.std.proofs.Common.{◌≡◌, ℕ, true, List, Option, Some, None, refl, sym, ◌∙◌, ap, subst}
use Rattle.std.specs.Prelude.{slice_get, option_map, unwrap_or, filter_map}
use Rattle.wh_day.specs.Day.{is_day, last_day}
use Rattle.wh_day.specs.Value.{no_card_text}
use Rattle.wh_policy.specs.Types.{rule, shows_first_day, is_part, shows_newest, is_profile, is_outrigger}
use Rattle.wh_policy.specs.declared.attribute.AttributeType.{AttributeType}
use Rattle.wh_policy.specs.declared.type_rule.MainColumn.{MainColumn}
use Rattle.wh_policy.specs.declared.type_rule.MainColumn.TheVariants as main
use Rattle.wh_policy.specs.declared.type_rule.ProfilePart.{ProfilePart}
use Rattle.wh_policy.specs.declared.type_rule.ProfilePart.TheVariants.{NoPart, Part, PartAndNewest}
use Rattle.wh_policy.specs.declared.type_rule.SecondColumn.{SecondColumn}
use Rattle.wh_policy.specs.declared.type_rule.SecondColumn.TheVariants as second
use Rattle.wh_policy.specs.declared.type_rule.ValuePlace.{ValuePlace}
use Rattle.wh_policy.specs.declared.type_rule.ValuePlace.TheVariants as at
use Rattle.wh_policy.specs.declared.attribute.Dim.{Dim}
use Rattle.wh_policy.specs.declared.attribute.Dim.TheVariants.{Product, Store, Customer}
use Rattle.wh_policy.specs.declared.record.SaleRecord.{SaleRecord}
use Rattle.wh_history.specs.Accepted.{Accepted, types_in, changes_of, durable_key, member_of_sale}
use Rattle.wh_history.specs.Dated.{value_at, latest}
use Rattle.wh_history.specs.Laws.{RecordsHaveDays, IsMember}
use Rattle.wh_history.specs.Rows.{main_text, second_text}
use Rattle.wh_history.specs.Tables.{dimension_row, profile_row, key_at, profile_at, fact_of, no_card_row, no_card_in_main, no_card_in_second}
use Rattle.wh_history.specs.declared.rows.DimRow.{DimRow}
use Rattle.wh_history.proofs.Basics.{some_is}
use Rattle.wh_history.proofs.Effective.{found_row, in_order}
use Rattle.wh_model.specs.Defined as defined
use Rattle.wh_plan.proofs.FoundRows.{row_key}
use Rattle.wh_model.proofs.ValidTables.{then_of}
use Rattle.wh_rows.specs.declared.rows.ProfileRow.{ProfileRow}
use Rattle.wh_report.specs.Defined.{AreRowsOf, AreDefined}
use Rattle.wh_report.specs.Joined.{slot_column, place_column, reading_place, surrogate_in, durable_in, fact_key}
use Rattle.wh_report.specs.Label.{shown, member_label}
use Rattle.wh_report.specs.Labels.{LabelRows, labels_in, entry, first_text}
use Rattle.wh_report.specs.Subject.{main_reading, second_reading, current_reading, profile_reading, newest_reading, place_reading, type_reading}
use Rattle.wh_report.specs.declared.column.LabelColumn.{LabelColumn}
use Rattle.wh_report.specs.declared.column.LabelColumn.TheVariants.{Main, Second, CurrentMain, FactProfile, CurrentProfile, CalendarMonth, CalendarHoliday}
use Rattle.wh_batch.specs.declared.mode.Mode.{Mode}
use Rattle.wh_report.specs.declared.subject.Reading.{Reading}
use Rattle.wh_report.specs.declared.subject.Reading.TheVariants.{AtSaleDay, Latest, Original, PriorValue}
use Rattle.wh_report.proofs.CurrentRows.{current_row, no_card_current, found_current}
use Rattle.wh_report.proofs.DefinedTexts.{the_row, main_shows, second_shows, tracked_shows, latest_on_last_day, no_card_a, no_card_b}
use Rattle.wh_model.proofs.ValidRows.{last_is_day}
use Rattle.wh_report.proofs.FoundTexts.{found_by_key}
use Rattle.wh_report.proofs.TypeReadings.{stands}
use Rattle.wh_report.proofs.ProfileTexts.{profile_text, at_sale_day, no_card_profile, newest_profile}

-- the key of a column for a sale of a day, to a member or without a card
abbrev pub key_of : List Accepted → LabelColumn → ℕ → Option (List ℕ) → ℕ
key_of commands (Main dim place) day o = unwrap_or (option_map (key_at commands dim day) o) 0
key_of commands (Second dim place) day o = unwrap_or (option_map (key_at commands dim day) o) 0
key_of commands (CurrentMain dim place) day o = unwrap_or (option_map (durable_key dim commands) o) 0
key_of commands (FactProfile place) day o = unwrap_or (option_map (profile_at commands day) o) 0
key_of commands (CurrentProfile place) day o = unwrap_or (option_map (durable_key Customer commands) o) 0
key_of commands CalendarMonth day o = day
key_of commands CalendarHoliday day o = day

-- the text of a profile is found by its number
profile_found : (commands : List Accepted) (profiles : List ProfileRow) (place number : ℕ) (text : List ℕ) → AreRowsOf (λ p. p.number) (defined.profile_at commands) profiles → profile_text commands place number ≡ Some text
    → first_text number (filter_map (λ (p : ProfileRow). entry (Some p.number) (slice_get p.values place)) profiles) ≡ Some text
profile_found commands profiles place number text are shows =
    let there = then_of (λ (values : List (List ℕ)). slice_get values place) (profile_row commands number) text shows in
    found_by_key (λ (p : ProfileRow). p.number) (defined.profile_at commands) (λ p. slice_get p.values place) profiles number (record { number = number; values = there.0 }) text are
    (ap (option_map (λ (values : List (List ℕ)). record { number = number; values = values })) there.1) refl there.2

-- what a mode shows is one reading
shown_alone : (P : Reading → Type 0) (r which : Reading) → Some r ≡ Some which → P r → P which
shown_alone P r which is here = subst P (some_is r which is) here

for_customer : (P : Dim → Type 0) → P Customer → (dim : Dim) → dim ≡ Customer → P dim
for_customer P here dim e = subst P (sym e) here

-- a place that has a reading shows something, and no card in the row of sales without one
main_no_card : (column : MainColumn) (which : Reading) → main_reading column ≡ Some which → no_card_in_main column ≡ no_card_text
main_no_card main.Original which reads = refl
main_no_card main.FirstDay which reads = refl
main_no_card main.Latest which reads = refl
main_no_card main.Nothing which reads = absurd cc

second_no_card : (column : SecondColumn) (which : Reading) → second_reading column ≡ Some which → no_card_in_second column ≡ no_card_text
second_no_card second.Nothing which reads = absurd cc
second_no_card second.Prior which reads = refl
second_no_card second.Latest which reads = refl

current_no_card : (column : MainColumn) (which : Reading) → current_reading column ≡ Some which → no_card_in_main column ≡ no_card_text
current_no_card main.Original which reads = refl
current_no_card main.FirstDay which reads = refl
current_no_card main.Latest which reads = refl
current_no_card main.Nothing which reads = absurd cc

part_read : (part : ProfilePart) (which : Reading) → profile_reading part ≡ Some which → is_part part ≡ true
part_read NoPart which reads = absurd cc
part_read Part which reads = refl
part_read PartAndNewest which reads = refl

newest_read : (part : ProfilePart) (which : Reading) → newest_reading part ≡ Some which → is_part part ≡ true
newest_read NoPart which reads = absurd cc
newest_read Part which reads = absurd cc
newest_read PartAndNewest which reads = refl

module _ (commands : List Accepted) (t : LabelRows) (ends : RecordsHaveDays commands) (day place : ℕ) (within : is_day day ≡ true) where
  -- of a sale to a member
  abbrev Found : Dim → ValuePlace → List ℕ → Reading → Type 0
  Found dim where_found natural which = AreDefined commands (place_column dim place where_found) t
      → first_text (key_of commands (place_column dim place where_found) day (Some natural)) (labels_in (place_column dim place where_found) t) ≡ Some (shown (changes_of dim commands natural) place day which)

  module _ (dim : Dim) (kind : AttributeType) (natural : List ℕ) (member : IsMember dim commands natural) (is : slice_get (types_in dim commands) place ≡ Some kind) where
    main_found : (text : List ℕ) → slice_get ((the_row commands dim natural day place kind ends member within is).0).a place ≡ Some text → AreRowsOf (λ r. r.surrogate) (dimension_row commands dim) t.rows
        → first_text (key_at commands dim day natural) (labels_in (Main dim place) t) ≡ Some text
    main_found text shows are =
        let found = the_row commands dim natural day place kind ends member within is in
        found_by_key (λ (r : DimRow). r.surrogate) (dimension_row commands dim) (λ r. slice_get r.a place) t.rows (key_at commands dim day natural) found.0 text are found.2 (row_key commands dim (key_at commands dim day natural) found.0 found.2) shows

    second_found : (text : List ℕ) → slice_get ((the_row commands dim natural day place kind ends member within is).0).b place ≡ Some text → AreRowsOf (λ r. r.surrogate) (dimension_row commands dim) t.rows
        → first_text (key_at commands dim day natural) (labels_in (Second dim place) t) ≡ Some text
    second_found text shows are =
        let found = the_row commands dim natural day place kind ends member within is in
        found_by_key (λ (r : DimRow). r.surrogate) (dimension_row commands dim) (λ r. slice_get r.b place) t.rows (key_at commands dim day natural) found.0 text are found.2 (row_key commands dim (key_at commands dim day natural) found.0 found.2) shows

    -- a tracked value that the current row shows is the latest
    current_found : (slice_get (((the_row commands dim natural last_day place kind ends member last_is_day is).0).a) place ≡ Some (value_at last_day place (changes_of dim commands natural))) → AreRowsOf (λ r. r.surrogate) (dimension_row commands dim) t.rows
        → first_text (durable_key dim commands natural) (labels_in (CurrentMain dim place) t) ≡ Some (latest place (changes_of dim commands natural))
    unfolding the_row
    current_found shows are =
        found_current commands dim t.rows (λ (r : DimRow). slice_get r.a place) (durable_key dim commands natural) (found_row dim commands natural ends member last_day last_is_day).0 (latest place (changes_of dim commands natural)) are (current_row commands dim natural ends member)
        (shows ∙ ap Some (latest_on_last_day place (changes_of dim commands natural) (in_order dim commands natural ends member)))

  profile_of_day : (kind : AttributeType) (natural : List ℕ) → slice_get (types_in Customer commands) place ≡ Some kind → is_profile kind ≡ true → AreRowsOf (λ p. p.number) (defined.profile_at commands) t.profiles
      → first_text (profile_at commands day natural) (labels_in (FactProfile place) t) ≡ Some (value_at day place (changes_of Customer commands natural))
  profile_of_day kind natural is counts are = profile_found commands t.profiles place (profile_at commands day natural) _ are (at_sale_day commands place kind is counts natural day)

  profile_of_now : (kind : AttributeType) (natural : List ℕ) → IsMember Customer commands natural → slice_get (types_in Customer commands) place ≡ Some kind → is_profile kind ≡ true → is_outrigger kind ≡ true → AreDefined commands (CurrentProfile place) t
      → first_text (durable_key Customer commands natural) (labels_in (CurrentProfile place) t) ≡ Some (latest place (changes_of Customer commands natural))
  profile_of_now kind natural member is counts newest are =
      found_current commands Customer t.rows _ (durable_key Customer commands natural) (found_row Customer commands natural ends member last_day last_is_day).0 (latest place (changes_of Customer commands natural)) are.0 (current_row commands Customer natural ends member)
      (profile_found commands t.profiles place _ _ are.1 (newest_profile commands place kind is counts natural ends member newest))

  -- what each place shows, by what the type shows there
  module _ (dim : Dim) (kind : AttributeType) (natural : List ℕ) (member : IsMember dim commands natural) (is : slice_get (types_in dim commands) place ≡ Some kind) (customer : is_profile kind ≡ true → dim ≡ Customer) (which : Reading) where
    found_main : (column : MainColumn) → (rule kind).main ≡ column → main_reading column ≡ Some which → Found dim at.Main natural which
    found_main main.Original same reads =
        shown_alone (Found dim at.Main natural) Original which reads (main_found dim kind natural member is _ (main_shows commands dim natural day place kind ends member within is _ (λ start. ap (main_text (changes_of dim commands natural) start place) same)))
    found_main main.FirstDay same reads =
        shown_alone (Found dim at.Main natural) AtSaleDay which reads (main_found dim kind natural member is _ (tracked_shows commands dim natural day place kind ends member within is (ap shows_first_day same)))
    found_main main.Latest same reads =
        shown_alone (Found dim at.Main natural) Latest which reads (main_found dim kind natural member is _ (main_shows commands dim natural day place kind ends member within is _ (λ start. ap (main_text (changes_of dim commands natural) start place) same)))
    found_main main.Nothing same reads = absurd cc

    found_second : (column : SecondColumn) → (rule kind).second ≡ column → second_reading column ≡ Some which → Found dim at.Second natural which
    found_second second.Nothing same reads = absurd cc
    found_second second.Prior same reads =
        shown_alone (Found dim at.Second natural) PriorValue which reads (second_found dim kind natural member is _ (second_shows commands dim natural day place kind ends member within is ∙ ap (λ c. Some (second_text (changes_of dim commands natural) place c)) same))
    found_second second.Latest same reads =
        shown_alone (Found dim at.Second natural) Latest which reads (second_found dim kind natural member is _ (second_shows commands dim natural day place kind ends member within is ∙ ap (λ c. Some (second_text (changes_of dim commands natural) place c)) same))

    found_now : (column : MainColumn) → (rule kind).main ≡ column → current_reading column ≡ Some which → Found dim at.CurrentMain natural which
    found_now main.Original same reads = absurd cc
    found_now main.FirstDay same reads =
        shown_alone (Found dim at.CurrentMain natural) Latest which reads (current_found dim kind natural member is (tracked_shows commands dim natural last_day place kind ends member last_is_day is (ap shows_first_day same)))
    found_now main.Latest same reads = absurd cc
    found_now main.Nothing same reads = absurd cc

    of_that_day : is_profile kind ≡ true → Found dim at.SaleProfile natural AtSaleDay
    of_that_day counts = for_customer (λ d. slice_get (types_in d commands) place ≡ Some kind → Found d at.SaleProfile natural AtSaleDay) (λ here. profile_of_day kind natural here counts) dim (customer counts) is

    found_profile : (part : ProfilePart) → (rule kind).profile ≡ part → profile_reading part ≡ Some which → Found dim at.SaleProfile natural which
    found_profile NoPart same reads = absurd cc
    found_profile Part same reads = shown_alone (Found dim at.SaleProfile natural) AtSaleDay which reads (of_that_day (ap is_part same))
    found_profile PartAndNewest same reads = shown_alone (Found dim at.SaleProfile natural) AtSaleDay which reads (of_that_day (ap is_part same))

    found_newest : (part : ProfilePart) → (rule kind).profile ≡ part → newest_reading part ≡ Some which → Found dim at.NewestProfile natural which
    found_newest NoPart same reads = absurd cc
    found_newest Part same reads = absurd cc
    found_newest PartAndNewest same reads =
        shown_alone (Found dim at.NewestProfile natural) Latest which reads
        (for_customer (λ d. IsMember d commands natural → slice_get (types_in d commands) place ≡ Some kind → Found d at.NewestProfile natural Latest) (λ own here. profile_of_now kind natural own here (ap is_part same) (ap shows_newest same)) dim (customer (ap is_part same)) member is)

    found_at : (where_found : ValuePlace) → place_reading (rule kind) where_found ≡ Some which → Found dim where_found natural which
    found_at at.Main reads = found_main (rule kind).main refl reads
    found_at at.Second reads = found_second (rule kind).second refl reads
    found_at at.CurrentMain reads = found_now (rule kind).main refl reads
    found_at at.SaleProfile reads = found_profile (rule kind).profile refl reads
    found_at at.NewestProfile reads = found_newest (rule kind).profile refl reads

  -- of a sale without a card
  abbrev FoundNone : ValuePlace → Type 0
  FoundNone where_found = AreDefined commands (place_column Customer place where_found) t
      → first_text (key_of commands (place_column Customer place where_found) day None) (labels_in (place_column Customer place where_found) t) ≡ Some no_card_text

  abbrev row_zero : DimRow
  row_zero = no_card_row (types_in Customer commands)

  none_in_main : AreRowsOf (λ r. r.surrogate) (dimension_row commands Customer) t.rows → slice_get row_zero.a place ≡ Some no_card_text → first_text 0 (labels_in (Main Customer place) t) ≡ Some no_card_text
  none_in_main are shows = found_by_key (λ (r : DimRow). r.surrogate) (dimension_row commands Customer) (λ r. slice_get r.a place) t.rows 0 row_zero no_card_text are refl refl shows

  none_in_second : AreRowsOf (λ r. r.surrogate) (dimension_row commands Customer) t.rows → slice_get row_zero.b place ≡ Some no_card_text → first_text 0 (labels_in (Second Customer place) t) ≡ Some no_card_text
  none_in_second are shows = found_by_key (λ (r : DimRow). r.surrogate) (dimension_row commands Customer) (λ r. slice_get r.b place) t.rows 0 row_zero no_card_text are refl refl shows

  none_in_profile : (kind : AttributeType) → slice_get (types_in Customer commands) place ≡ Some kind → is_profile kind ≡ true → AreRowsOf (λ p. p.number) (defined.profile_at commands) t.profiles → first_text 0 (labels_in (FactProfile place) t) ≡ Some no_card_text
  none_in_profile kind is counts are = profile_found commands t.profiles place 0 no_card_text are (no_card_profile commands place kind is counts)

  module _ (kind : AttributeType) (is : slice_get (types_in Customer commands) place ≡ Some kind) (which : Reading) where
    none_a : no_card_in_main (rule kind).main ≡ no_card_text → slice_get row_zero.a place ≡ Some no_card_text
    none_a shows = no_card_a (types_in Customer commands) place kind is ∙ ap Some shows

    none_at : (where_found : ValuePlace) → place_reading (rule kind) where_found ≡ Some which → FoundNone where_found
    none_at at.Main reads = λ are. none_in_main are (none_a (main_no_card (rule kind).main which reads))
    none_at at.Second reads = λ are. none_in_second are (no_card_b (types_in Customer commands) place kind is ∙ ap Some (second_no_card (rule kind).second which reads))
    none_at at.CurrentMain reads =
        λ are. found_current commands Customer t.rows (λ (r : DimRow). slice_get r.a place) 0 row_zero no_card_text are (no_card_current commands ends) (none_a (current_no_card (rule kind).main which reads))
    none_at at.SaleProfile reads = none_in_profile kind is (part_read (rule kind).profile which reads)
    none_at at.NewestProfile reads =
        λ are. found_current commands Customer t.rows _ 0 row_zero no_card_text are.0 (no_card_current commands ends)
        (profile_found commands t.profiles place 0 no_card_text are.1 (no_card_profile commands place kind is (newest_read (rule kind).profile which reads)))

-- ---- the keys of facts

-- the column is one of the dimension
abbrev IsOf : Dim → LabelColumn → Type 0
IsOf dim (Main d place) = d ≡ dim
IsOf dim (Second d place) = d ≡ dim
IsOf dim (CurrentMain d place) = d ≡ dim
IsOf dim (FactProfile place) = dim ≡ Customer
IsOf dim (CurrentProfile place) = dim ≡ Customer
IsOf dim CalendarMonth = Unit {0}
IsOf dim CalendarHoliday = Unit {0}

is_of : (dim : Dim) (place : ℕ) (kind : AttributeType) (which : Reading) (where_found : ValuePlace) → place_reading (rule kind) where_found ≡ Some which → (is_profile kind ≡ true → dim ≡ Customer) → IsOf dim (place_column dim place where_found)
is_of dim place kind which at.Main reads customer = refl
is_of dim place kind which at.Second reads customer = refl
is_of dim place kind which at.CurrentMain reads customer = refl
is_of dim place kind which at.SaleProfile reads customer = customer (part_read (rule kind).profile which reads)
is_of dim place kind which at.NewestProfile reads customer = customer (newest_read (rule kind).profile which reads)

module _ (commands : List Accepted) (s : SaleRecord) where
  surrogate_is : (dim : Dim) → surrogate_in dim (fact_of commands s) ≡ unwrap_or (option_map (key_at commands dim s.day) (member_of_sale dim s)) 0
  surrogate_is Product = refl
  surrogate_is Store = refl
  surrogate_is Customer = refl

  durable_is : (dim : Dim) → durable_in dim (fact_of commands s) ≡ unwrap_or (option_map (durable_key dim commands) (member_of_sale dim s)) 0
  durable_is Product = refl
  durable_is Store = refl
  durable_is Customer = refl

  key_is : (dim : Dim) (column : LabelColumn) → IsOf dim column → fact_key column (fact_of commands s) ≡ key_of commands column s.day (member_of_sale dim s)
  key_is dim (Main d place) e = subst (λ x. surrogate_in d (fact_of commands s) ≡ unwrap_or (option_map (key_at commands d s.day) (member_of_sale x s)) 0) e (surrogate_is d)
  key_is dim (Second d place) e = subst (λ x. surrogate_in d (fact_of commands s) ≡ unwrap_or (option_map (key_at commands d s.day) (member_of_sale x s)) 0) e (surrogate_is d)
  key_is dim (CurrentMain d place) e = subst (λ x. durable_in d (fact_of commands s) ≡ unwrap_or (option_map (durable_key d commands) (member_of_sale x s)) 0) e (durable_is d)
  key_is dim (FactProfile place) e = subst (λ x. unwrap_or (option_map (profile_at commands s.day) s.customer) 0 ≡ unwrap_or (option_map (profile_at commands s.day) (member_of_sale x s)) 0) (sym e) refl
  key_is dim (CurrentProfile place) e = subst (λ x. unwrap_or (option_map (durable_key Customer commands) s.customer) 0 ≡ unwrap_or (option_map (durable_key Customer commands) (member_of_sale x s)) 0) (sym e) refl
  key_is dim CalendarMonth e = refl
  key_is dim CalendarHoliday e = refl

  none_to_customer : (dim : Dim) → member_of_sale dim s ≡ None → dim ≡ Customer
  none_to_customer Product none = absurd cc
  none_to_customer Store none = absurd cc
  none_to_customer Customer none = refl

  -- the label of an attribute
  pub attribute_found : (t : LabelRows) (dim : Dim) (place : ℕ) (kind : AttributeType) (mode : Mode) (which : Reading) → RecordsHaveDays commands → ((natural : List ℕ) → member_of_sale dim s ≡ Some natural → IsMember dim commands natural) → is_day s.day ≡ true
      → slice_get (types_in dim commands) place ≡ Some kind → (is_profile kind ≡ true → dim ≡ Customer) → type_reading kind mode ≡ Some which → AreDefined commands (slot_column dim place kind which) t
      → first_text (fact_key (slot_column dim place kind which) (fact_of commands s)) (labels_in (slot_column dim place kind which) t) ≡ Some (member_label commands dim place s.day which (member_of_sale dim s))
  attribute_found t dim place kind mode which ends named within is customer reads are =
      let where_found : ValuePlace = unwrap_or (reading_place (rule kind) which) at.Main in
      let stood : place_reading (rule kind) where_found ≡ Some which = stands kind mode which reads in
      ap (λ key. first_text key (labels_in (slot_column dim place kind which) t)) (key_is dim (slot_column dim place kind which) (is_of dim place kind which where_found stood customer))
      ∙ elim (member_of_sale dim s) as (λ o. (member_of_sale dim s ≡ o) → first_text (key_of commands (slot_column dim place kind which) s.day o) (labels_in (slot_column dim place kind which) t) ≡ Some (member_label commands dim place s.day which o)) [
        | None ↦ λ none. for_customer (λ d. slice_get (types_in d commands) place ≡ Some kind → AreDefined commands (slot_column d place kind which) t → first_text (key_of commands (slot_column d place kind which) s.day None) (labels_in (slot_column d place kind which) t) ≡ Some no_card_text)
            (λ here given. none_at commands t ends s.day place within kind here which where_found stood given) dim (none_to_customer dim none) is are
        | Some natural ↦ λ own. found_at commands t ends s.day place within dim kind natural (named natural own) is customer which where_found stood are
      ] refl
