-- What holds of every report.
use Rattle.std.specs.Prelude.{◌≡◌, ℕ, ℤ, pos, ◌+ℤ◌, List, [], ◌∷◌, ◌++◌, map, filter, filter_map, sum_by, codes, Some, None, IsSome, Contains}
use Rattle.std.specs.List.{AllByRecursion}
use Rattle.wh_policy.specs.Written.{IsSound}
use Rattle.wh_policy.specs.declared.policy.Policy.{Policy}
use Rattle.wh_policy.specs.declared.record.SaleRecord.{SaleRecord}
use Rattle.wh_policy.specs.declared.record.VoidRecord.{VoidRecord}
use Rattle.wh_history.specs.Accepted.{Accepted, Withdraws, policy_after, sold, standing, standing_but}
use Rattle.wh_history.specs.Tables.{Limits, fact_of}
use Rattle.wh_model.specs.Defined.{calendar_at}
use Rattle.wh_model.specs.Sound.{IsAccepted}
use Rattle.wh_admission.specs.Admission.{AreAdmitted}
use Rattle.wh_report.specs.Asked.{Asked}
use Rattle.wh_report.specs.Counting.{counted}
use Rattle.wh_report.specs.Defined.{AreDefined}
use Rattle.wh_report.specs.Joined.{column_of, fact_key}
use Rattle.wh_report.specs.Label.{label, labelled, sold_as_asked, report}
use Rattle.wh_report.specs.Labels.{LabelRows, labels_in, first_text, labels_get, AreLabels}
use Rattle.wh_report.specs.Lines.{figures}
use Rattle.wh_report.specs.Request.{is_asked_of}
use Rattle.wh_report.specs.Subject.{subject_in, reading_of}
use Rattle.wh_report.specs.Sums.{Measured, Figures, margin}
use Rattle.wh_report.specs.Summary.{Sold, Summed, summed}
use Rattle.wh_report.specs.Text.{line_text}
use Rattle.wh_batch.specs.declared.mode.Mode.{Mode}
use Rattle.wh_report.specs.declared.subject.Reading.{Reading}
use Rattle.wh_report.specs.declared.subject.Subject.{Subject}

-- the line of the total, in which no label occurs
unfoldable pub total_line : List Measured → List ℕ
total_line measures = line_text (codes "total") (figures measures)

-- a text ends with a line
pub record EndsWith (text line : List ℕ) : Type 0 where
  pub front : List ℕ
  pub is : text ≡ front ++ line

-- the measures of the sales that stand, from one day to another
abbrev pub measures_in : List Accepted → Asked → List Measured
measures_in commands r = map (λ s. record { quantity = s.quantity; amount = s.amount; cost = s.cost }) (filter (λ s. is_asked_of r s.day) (standing commands))

-- A report ends with the line that those come to: it is the same for every subject and reading.
abbrev pub TotalsAgree : Type 0
TotalsAgree = (commands : List Accepted) (subject : Subject) (which : Reading) (r : Asked) → EndsWith (report commands subject which r) (total_line (measures_in commands r))

-- a figure of all lines together
abbrev pub over_lines : (Figures → ℤ) → List (List ℕ × Figures) → ℤ
over_lines figure [] = pos 0
over_lines figure (l ∷ lines) = figure l.1 +ℤ over_lines figure lines

-- the lines add up to the total, figure by figure
pub record AddUp (s : Summed) : Type 0 where
  pub lines : sum_by (λ l. l.1.lines) s.lines ≡ s.total.lines
  pub quantity : over_lines (λ t. t.quantity) s.lines ≡ s.total.quantity
  pub amount : over_lines (λ t. t.amount) s.lines ≡ s.total.amount
  pub cost : over_lines (λ t. t.cost) s.lines ≡ s.total.cost
  pub margin : over_lines margin s.lines ≡ margin s.total

-- The lines of a report add up to its total, whatever the sales and their labels.
abbrev pub LinesAddUp : Type 0
LinesAddUp = (sales : List Sold) → AddUp (summed sales)

-- the words name this subject under the policy in force, a sound one, and what the mode shows of it is this reading
pub record Reads (commands : List Accepted) (words : List ℕ) (mode : Mode) (subject : Subject) (which : Reading) : Type 0 where
  pub policy : Policy
  pub governed : policy_after None commands ≡ Some policy
  pub sound : IsSound policy
  pub names : subject_in policy words ≡ Some subject
  pub shows : reading_of subject mode ≡ Some which

-- The text that a fact's key leads to, in the rows that the accepted commands define, is the label of its sale. Neither keys nor rows occur in that label.
abbrev pub LabelsByKeys : Type 0
LabelsByKeys = (limits : Limits) (commands : List Accepted) (words : List ℕ) (mode : Mode) (subject : Subject) (which : Reading) (s : SaleRecord) (t : LabelRows)
    → IsAccepted limits commands
    → Reads commands words mode subject which
    → Contains (sold commands) s
    → IsSome (calendar_at commands s.day)
    → AreDefined commands (column_of subject which) t
    → first_text (fact_key (column_of subject which) (fact_of commands s)) (labels_in (column_of subject which) t) ≡ Some (label commands subject which s)

-- the calendar has the day of each sale
abbrev pub SalesAreDated : List Accepted → Type 0
SalesAreDated commands = AllByRecursion (λ s. IsSome (calendar_at commands s.day)) (sold commands)

-- So what is counted of the facts are the sales that the history gives and that stand, each under its label.
abbrev pub FactsAreCounted : Type 0
FactsAreCounted = (limits : Limits) (commands : List Accepted) (subject : Subject) (which : Reading) (r : Asked) (t : LabelRows) (labels : List (ℕ × List ℕ))
    → IsAccepted limits commands
    → SalesAreDated commands
    → Reads commands r.words r.mode subject which
    → AreDefined commands (column_of subject which) t
    → AreLabels labels (labels_in (column_of subject which) t)
    → filter_map (counted r (column_of subject which) (labels_get labels)) (map (fact_of commands) (standing commands)) ≡ sold_as_asked commands subject which r

-- And so it is of each list of commands that came about by admission: a batch of sales is read within the years of the policy in force, and no later policy loses a year.
abbrev pub AdmittedSalesAreDated : Type 0
AdmittedSalesAreDated = (limits : Limits) (commands : List Accepted) → AreAdmitted limits commands → SalesAreDated commands

-- What reports no longer count after a batch of voids are the sales of its lines, and no others; the others keep their labels.
abbrev pub VoidsTakeTheirSales : Type 0
VoidsTakeTheirSales = (commands : List Accepted) (c : Accepted) (lines : List VoidRecord) (subject : Subject) (which : Reading) (r : Asked)
    → c.content ≡ Withdraws lines
    → sold_as_asked (commands ++ c ∷ []) subject which r ≡ labelled commands subject which r (standing_but lines (standing commands))
