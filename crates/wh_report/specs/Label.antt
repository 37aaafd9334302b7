-- What a report calls a sale. No key occurs here.
use Rattle.std.specs.Prelude.{ℕ, ◌/◌, ◌%◌, List, [], ◌∷◌, Option, Some, None, option_map, unwrap_or, map, filter}
use Rattle.wh_day.specs.Day.{year_of, month_of, two, day_text}
use Rattle.wh_day.specs.Holidays.{holiday_text}
use Rattle.wh_day.specs.Value.{no_card_text}
use Rattle.wh_day.specs.declared.holiday.Holiday.{Holiday}
use Rattle.wh_policy.specs.declared.attribute.Dim.{Dim}
use Rattle.wh_policy.specs.declared.record.SaleRecord.{SaleRecord}
use Rattle.wh_history.specs.Accepted.{Accepted, member_of, member_of_sale, policy_after, standing}
use Rattle.wh_history.specs.Dated.{value_at, latest, original, prior}
use Rattle.wh_history.specs.declared.member.Change.{Change}
use Rattle.wh_report.specs.Asked.{Asked}
use Rattle.wh_report.specs.Request.{is_asked_of}
use Rattle.wh_report.specs.Summary.{Sold}
use Rattle.wh_report.specs.Text.{report_text}
use Rattle.wh_batch.specs.Mode.{mode_word}
use Rattle.wh_report.specs.declared.subject.Reading.{Reading}
use Rattle.wh_report.specs.declared.subject.Reading.TheVariants.{AtSaleDay, Latest, Original, PriorValue}
use Rattle.wh_report.specs.declared.subject.Subject.{Subject}
use Rattle.wh_report.specs.declared.subject.Subject.TheVariants.{Attribute, Month, Holiday as HolidayOfSale}

-- a member's value in a slot, as a reading shows it to a sale of a day
abbrev pub shown : List Change → ℕ → ℕ → Reading → List ℕ
shown changes place day AtSaleDay = value_at day place changes
shown changes place day Latest = latest place changes
shown changes place day Original = original place changes
shown changes place day PriorValue = prior place changes

-- the label of a sale by a member's value; a sale to no member is one without a card
abbrev pub member_label : List Accepted → Dim → ℕ → ℕ → Reading → Option (List ℕ) → List ℕ
member_label commands dim place day which None = no_card_text
member_label commands dim place day which (Some natural) = shown (member_of dim commands natural).changes place day which

-- YYYY-MM
abbrev pub month_text : ℕ → List ℕ
month_text day = two (year_of day / 100) (two (year_of day % 100) (45 ∷ two (month_of day) []))

-- the holidays under the policy in force
abbrev pub holidays_in : List Accepted → List Holiday
holidays_in commands = unwrap_or (option_map (λ policy. policy.holidays) (policy_after None commands)) []

-- the label of a sale, as a reading shows the subject
abbrev pub label : List Accepted → Subject → Reading → SaleRecord → List ℕ
label commands (Attribute a) which s = member_label commands a.dim a.place s.day which (member_of_sale a.dim s)
label commands Month which s = month_text s.day
label commands HolidayOfSale which s = holiday_text (holidays_in commands) s.day

-- those of some sales that are asked for, with their labels
abbrev pub labelled : List Accepted → Subject → Reading → Asked → List SaleRecord → List Sold
labelled commands subject which r sales =
    map (λ s. record { label = label commands subject which s; measures = record { quantity = s.quantity; amount = s.amount; cost = s.cost } }) (filter (λ s. is_asked_of r s.day) sales)

-- the sales that a report counts: those that stand, in order of acceptance
abbrev pub sold_as_asked : List Accepted → Subject → Reading → Asked → List Sold
sold_as_asked commands subject which r = labelled commands subject which r (standing commands)

-- the text that tells what some sales come to, in the words of the request
abbrev pub text_asked : Asked → List Sold → List ℕ
text_asked r sales = report_text r.words (mode_word r.mode) (day_text r.from) (day_text r.to) sales

-- the report that is asked for: what the sales of its range come to, each under its label
abbrev pub report : List Accepted → Subject → Reading → Asked → List ℕ
report commands subject which r = text_asked r (sold_as_asked commands subject which r)
