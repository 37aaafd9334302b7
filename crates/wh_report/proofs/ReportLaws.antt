-- The laws of reports over the history.
use Rattle.std.proofs.Common.{◌≡◌, ℕ, zero, suc, ◌<◌, Bool, true, false, cond, List, [], ◌∷◌, map, length, Option, Some, None, refl, ◌∙◌, ap, subst, arith}
use Rattle.std.specs.Prelude.{filter, filter_map, slice_index_or, slice_get, option_map, Contains, IsSome, IsTrue, All}
use Rattle.std.specs.Option.{option_and_then}
use Rattle.std.specs.List.{AllByRecursion, cons_option}
use Rattle.wh_day.specs.Calendar.{date_row}
use Rattle.wh_day.specs.Day.{day_text}
use Rattle.wh_day.specs.declared.calendar.DateRow.{DateRow}
use Rattle.wh_day.specs.Holidays.{holiday_text}
use Rattle.wh_policy.specs.Policy.{policy_attributes, policy_types}
use Rattle.wh_policy.specs.Types.{is_profile, kinds_of}
use Rattle.wh_policy.specs.Written.{IsSound}
use Rattle.wh_policy.specs.declared.attribute.Attribute.{Attribute as AttributeRow}
use Rattle.wh_policy.specs.declared.attribute.AttributeType.{AttributeType}
use Rattle.wh_policy.specs.declared.attribute.Dim.{Dim}
use Rattle.wh_policy.specs.declared.attribute.Dim.TheVariants.{Product, Store, Customer}
use Rattle.wh_policy.specs.declared.policy.Policy.{Policy}
use Rattle.wh_policy.specs.declared.record.SaleRecord.{SaleRecord}
use Rattle.wh_history.specs.Accepted.{Accepted, policy_after, sold, types_in, standing, withdrawn}
use Rattle.wh_history.specs.Tables.{Limits, fact_of}
use Rattle.wh_history.proofs.Basics.{some_is}
use Rattle.wh_history.proofs.Joins.{all_weaker}
use Rattle.wh_model.specs.Defined.{calendar_at, day_at}
use Rattle.wh_model.specs.Sound.{IsAccepted, IsGoodSale}
use Rattle.wh_model.proofs.Following.{Named, all_named}
use Rattle.wh_plan.proofs.PlanProfiles.{types_are}
use Rattle.wh_model.proofs.ValidFacts.{days}
use Rattle.wh_history.proofs.Standing.{all_standing}
use Rattle.wh_report.specs.Asked.{Asked}
use Rattle.wh_report.specs.Counting.{counted}
use Rattle.wh_report.specs.Defined.{AreDefined}
use Rattle.wh_report.specs.Joined.{column_of, fact_key}
use Rattle.wh_report.specs.Label.{label, holidays_in, month_text, sold_as_asked, report}
use Rattle.wh_report.specs.Labels.{LabelRows, labels_in, first_text, date_text, labels_get}
use Rattle.wh_report.specs.Laws.{EndsWith, total_line, TotalsAgree, Reads, LabelsByKeys, SalesAreDated, FactsAreCounted}
use Rattle.wh_report.specs.Request.{is_asked_of}
use Rattle.wh_report.specs.Summary.{Sold}
use Rattle.wh_report.specs.Sums.{Measured}
use Rattle.wh_batch.specs.Mode.{mode_word}
use Rattle.wh_report.specs.declared.column.LabelColumn.TheVariants.{CalendarMonth, CalendarHoliday}
use Rattle.wh_batch.specs.declared.mode.Mode.{Mode}
use Rattle.wh_report.specs.declared.subject.Reading.{Reading}
use Rattle.wh_report.specs.declared.subject.Subject.{Subject}
use Rattle.wh_report.specs.declared.subject.Subject.TheVariants.{Attribute, Month, Holiday}
use Rattle.wh_report.proofs.FoundTexts.{found_by_key}
use Rattle.wh_report.proofs.JoinedLabels.{attribute_found}
use Rattle.wh_report.proofs.NamedSubjects.{subject_stands}
use Rattle.wh_report.proofs.Reports.{ends_with_total}

-- ---- the total

measures_are : (commands : List Accepted) (subject : Subject) (which : Reading) (sales : List SaleRecord) → map (λ (q : Sold). q.measures) (map (λ (s : SaleRecord). record { label = label commands subject which s; measures = record { quantity = s.quantity; amount = s.amount; cost = s.cost } }) sales)
    ≡ map (λ (s : SaleRecord). record { quantity = s.quantity; amount = s.amount; cost = s.cost }) sales
measures_are commands subject which [] = refl
measures_are commands subject which (s ∷ sales) = ap (λ (ms : List Measured). record { quantity = s.quantity; amount = s.amount; cost = s.cost } ∷ ms) (measures_are commands subject which sales)

pub totals_agree : TotalsAgree
totals_agree commands subject which r =
    subst (λ (ms : List Measured). EndsWith (report commands subject which r) (total_line ms)) (measures_are commands subject which (filter (λ (s : SaleRecord). is_asked_of r s.day) (standing commands)))
    (ends_with_total r.words (mode_word r.mode) (day_text r.from) (day_text r.to) (sold_as_asked commands subject which r))

-- ---- the labels

all_at : {X : Type 0} (P : X → Type 0) (xs : List X) (x : X) (k : ℕ) → AllByRecursion P xs → k < length xs → slice_index_or xs k x ≡ x → P x
all_at P [] x k all within at = absurd (omega arith)
all_at P (y ∷ xs) x zero all within at = subst P at all.0
all_at P (y ∷ xs) x (suc k) all within at = all_at P xs x k all.1 (omega arith) at

pub each_of : {X : Type 0} (P : X → Type 0) (xs : List X) (x : X) → AllByRecursion P xs → Contains xs x → P x
each_of P xs x all there = all_at P xs x there.0 all there.1 there.2

-- the row of a day in the calendar
some_of : (b : Bool) (row : DateRow) → IsSome (cond b (Some row) None) → cond b (Some row) None ≡ Some row
some_of true row there = refl
some_of false row there = absurd cc

on_day : (commands : List Accepted) (policy : Policy) (day : ℕ) → policy_after None commands ≡ Some policy → IsSome (calendar_at commands day) → calendar_at commands day ≡ Some (date_row policy.holidays day)
on_day commands policy day governed dated =
    let is : calendar_at commands day ≡ day_at policy day = ap (option_and_then (λ (p : Policy). day_at p day)) governed in
    is ∙ some_of _ (date_row policy.holidays day) (subst IsSome is dated)

-- types 4 and 5 are the customer's alone
no_profile : (attributes : List AttributeRow) (place : ℕ) (kind : AttributeType) → All (λ a. ¬ IsTrue (is_profile a.kind)) attributes → slice_get (kinds_of attributes) place ≡ Some kind → is_profile kind ≡ true → ⊥
no_profile [] place kind none is counts = cc
no_profile (a ∷ attributes) zero kind none is counts = let same : a.kind ≡ kind = some_is _ _ is in none 0 a (omega arith) (ap is_profile same ∙ counts)
no_profile (a ∷ attributes) (suc place) kind none is counts = no_profile attributes place kind (λ k d within. none (suc k) d (omega arith)) is counts

outside : (policy : Policy) (dim : Dim) (place : ℕ) (kind : AttributeType) → IsSound policy → slice_get (policy_types policy dim) place ≡ Some kind → is_profile kind ≡ true → dim ≡ Customer
outside policy Product place kind sound is counts = absurd (no_profile (policy_attributes policy Product) place kind (sound.outside Product (λ e. cc)) is counts)
outside policy Store place kind sound is counts = absurd (no_profile (policy_attributes policy Store) place kind (sound.outside Store (λ e. cc)) is counts)
outside policy Customer place kind sound is counts = refl

module _ (limits : Limits) (commands : List Accepted) (ok : IsAccepted limits commands) (words : List ℕ) (mode : Mode) (t : LabelRows) (s : SaleRecord) (good : IsGoodSale s) (named : Named commands s) (dated : IsSome (calendar_at commands s.day)) where
  abbrev IsLabelled : Subject → Reading → Type 0
  IsLabelled subject which = first_text (fact_key (column_of subject which) (fact_of commands s)) (labels_in (column_of subject which) t) ≡ Some (label commands subject which s)

  labelled : (subject : Subject) (which : Reading) → Reads commands words mode subject which → AreDefined commands (column_of subject which) t → IsLabelled subject which
  unfolding date_row
  labelled (Attribute a) which reads are =
      let stands = subject_stands reads.policy a words reads.names in
      let is : slice_get (types_in a.dim commands) a.place ≡ Some a.kind = ap (λ (kinds : List AttributeType). slice_get kinds a.place) (types_are a.dim commands reads.policy reads.governed) ∙ stands in
      attribute_found commands s t a.dim a.place a.kind mode which (days limits commands ok) (named a.dim) good.day is (outside reads.policy a.dim a.place a.kind reads.sound stands) reads.shows are
  labelled Month which reads are =
      found_by_key (λ (d : DateRow). d.date_key) (calendar_at commands) (date_text CalendarMonth) t.days s.day (date_row reads.policy.holidays s.day) (month_text s.day) are (on_day commands reads.policy s.day reads.governed dated) refl refl
  labelled Holiday which reads are =
      let holidays : holidays_in commands ≡ reads.policy.holidays = rw reads.governed refl in
      found_by_key (λ (d : DateRow). d.date_key) (calendar_at commands) (date_text CalendarHoliday) t.days s.day (date_row reads.policy.holidays s.day) (holiday_text (holidays_in commands) s.day) are (on_day commands reads.policy s.day reads.governed dated) refl (rw holidays refl)

pub labels_by_keys : LabelsByKeys
labels_by_keys limits commands words mode subject which s t ok reads there dated are =
    labelled limits commands ok words mode t s (each_of IsGoodSale (sold commands) s ok.sales there) (each_of (Named commands) (sold commands) s (all_named commands) there) dated subject which reads are

-- ---- the facts

abbrev sold_with : List ℕ → SaleRecord → Sold
sold_with label s = record { label = label; measures = record { quantity = s.quantity; amount = s.amount; cost = s.cost } }

pub counted_as : (commands : List Accepted) (subject : Subject) (which : Reading) (r : Asked) (labels : ℕ → Option (List ℕ)) (sales : List SaleRecord) → AllByRecursion (λ s. labels (fact_key (column_of subject which) (fact_of commands s)) ≡ Some (label commands subject which s)) sales
    → filter_map (counted r (column_of subject which) labels) (map (fact_of commands) sales) ≡ map (λ s. sold_with (label commands subject which s) s) (filter (λ s. is_asked_of r s.day) sales)
counted_as commands subject which r labels [] all = refl
counted_as commands subject which r labels (s ∷ sales) all =
    let rest = counted_as commands subject which r labels sales all.1 in
    elim (is_asked_of r s.day) as (λ b. cons_option (cond b (option_map (λ text. sold_with text s) (labels (fact_key (column_of subject which) (fact_of commands s)))) None) (filter_map (counted r (column_of subject which) labels) (map (fact_of commands) sales))
    ≡ map (λ s. sold_with (label commands subject which s) s) (cond b (s ∷ filter (λ s. is_asked_of r s.day) sales) (filter (λ s. is_asked_of r s.day) sales))) [
      | true ↦ rw all.0 (ap (λ (qs : List Sold). sold_with (label commands subject which s) s ∷ qs) rest)
      | false ↦ rest
    ]

all_three : {X : Type 0} (P Q R : X → Type 0) (xs : List X) → AllByRecursion P xs → AllByRecursion Q xs → AllByRecursion R xs → AllByRecursion (λ x. P x × Q x × R x) xs
all_three P Q R [] ps qs rs = tt
all_three P Q R (x ∷ xs) ps qs rs = ((ps.0, qs.0, rs.0), all_three P Q R xs ps.1 qs.1 rs.1)

-- each sale has its label, by the key of its fact
pub sales_labelled : (limits : Limits) (commands : List Accepted) (words : List ℕ) (mode : Mode) (subject : Subject) (which : Reading) (t : LabelRows) → IsAccepted limits commands → SalesAreDated commands → Reads commands words mode subject which → AreDefined commands (column_of subject which) t
    → AllByRecursion (λ s. first_text (fact_key (column_of subject which) (fact_of commands s)) (labels_in (column_of subject which) t) ≡ Some (label commands subject which s)) (sold commands)
sales_labelled limits commands words mode subject which t ok dated reads are =
    all_weaker (λ s. IsGoodSale s × Named commands s × IsSome (calendar_at commands s.day)) (λ s. first_text (fact_key (column_of subject which) (fact_of commands s)) (labels_in (column_of subject which) t) ≡ Some (label commands subject which s))
    (λ s h. labelled limits commands ok words mode t s h.0 h.1 h.2 subject which reads are)
    (sold commands) (all_three IsGoodSale (Named commands) (λ s. IsSome (calendar_at commands s.day)) (sold commands) ok.sales (all_named commands) dated)

pub facts_are_counted : FactsAreCounted
facts_are_counted limits commands subject which r t labels ok dated reads are holds =
    counted_as commands subject which r (labels_get labels) (standing commands)
    (all_weaker (λ s. first_text (fact_key (column_of subject which) (fact_of commands s)) (labels_in (column_of subject which) t) ≡ Some (label commands subject which s)) (λ s. labels_get labels (fact_key (column_of subject which) (fact_of commands s)) ≡ Some (label commands subject which s))
    (λ s has. holds.found (fact_key (column_of subject which) (fact_of commands s)) ∙ has)
    (standing commands) (all_standing (λ s. first_text (fact_key (column_of subject which) (fact_of commands s)) (labels_in (column_of subject which) t) ≡ Some (label commands subject which s)) (withdrawn commands) (sold commands) (sales_labelled limits commands r.words r.mode subject which t ok dated reads are)))
