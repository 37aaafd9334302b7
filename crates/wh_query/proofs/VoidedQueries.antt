-- A batch of voids takes its own sales out of each query, and leaves the labels of the others.
use Rattle.std.proofs.Common.{◌≡◌, ℕ, true, false, cond, ◌&&◌, List, [], ◌∷◌, ◌++◌, map, Option, Some, None, refl, ◌∙◌, ap, ap₂}
use Rattle.std.specs.Prelude.{filter, option_map, unwrap_or}
use Rattle.std.specs.Option.{option_and_then}
use Rattle.wh_policy.specs.Policy.{trial_policy}
use Rattle.wh_policy.specs.declared.policy.Policy.{Policy}
use Rattle.wh_policy.specs.declared.record.SaleRecord.{SaleRecord}
use Rattle.wh_policy.specs.declared.record.VoidRecord.{VoidRecord}
use Rattle.wh_history.specs.Accepted.{Accepted, Withdraws, withdrawn_by, standing, standing_but}
use Rattle.wh_history.proofs.Standing.{standing-voided}
use Rattle.wh_history.proofs.Stays.{policy_last}
use Rattle.wh_model.proofs.WithdrawnRows.{quiet, no_policy}
use Rattle.wh_admission.specs.Admission.{current_policy}
use Rattle.wh_report.proofs.VoidedReports.{same_label}
use Rattle.wh_report.specs.Label.{label}
use Rattle.wh_report.specs.Lines.{Labelled, lines}
use Rattle.wh_report.specs.Subject.{subject_in, reading_of}
use Rattle.wh_report.specs.declared.subject.Reading.{Reading}
use Rattle.wh_report.specs.declared.subject.Subject.{Subject}
use Rattle.wh_query.specs.Answer.{label_in, labels_in, labelled_in, is_in, measures_of}
use Rattle.wh_query.specs.Asked.{ColumnAsked, QueryAsked, condition_columns, is_between, holds}
use Rattle.wh_query.specs.Laws.{VoidsTakeTheirSales}
use Rattle.wh_query.specs.Words.{by_texts}

module _ (commands : List Accepted) (c : Accepted) (voids : List VoidRecord) (is : c.content ≡ Withdraws voids) where
  abbrev after : List Accepted
  after = commands ++ c ∷ []

  same_policy : current_policy (commands ++ c ∷ []) ≡ current_policy commands
  same_policy = ap (λ (o : Option Policy). unwrap_or o trial_policy) (policy_last None commands c (no_policy commands c voids is))

  abbrev under : List Accepted → Policy → ColumnAsked → SaleRecord → List ℕ
  under history policy column s = unwrap_or (option_and_then (λ subject. option_map (λ which. label history subject which s) (reading_of subject column.mode)) (subject_in policy column.words)) []

  same_in : (column : ColumnAsked) (s : SaleRecord) → label_in (commands ++ c ∷ []) column s ≡ label_in commands column s
  same_in column s =
      ap (λ (p : Policy). under after p column s) same_policy
      ∙ elim (subject_in (current_policy commands) column.words) as (λ (o : Option Subject). unwrap_or (option_and_then (λ subject. option_map (λ which. label after subject which s) (reading_of subject column.mode)) o) []
      ≡ unwrap_or (option_and_then (λ subject. option_map (λ which. label commands subject which s) (reading_of subject column.mode)) o) []) [
        | None ↦ refl
        | Some subject ↦ elim (reading_of subject column.mode) as (λ (o : Option Reading). unwrap_or (option_map (λ which. label after subject which s) o) [] ≡ unwrap_or (option_map (λ which. label commands subject which s) o) []) [
          | None ↦ refl
          | Some which ↦ same_label commands c voids is subject which s
        ]
      ]

  same_labels : (columns : List ColumnAsked) (s : SaleRecord) → labels_in (commands ++ c ∷ []) columns s ≡ labels_in commands columns s
  same_labels [] s = refl
  same_labels (column ∷ columns) s = ap₂ ◌∷◌ (same_in column s) (same_labels columns s)

  same_slice : (q : QueryAsked) (s : SaleRecord) → is_in (commands ++ c ∷ []) q s ≡ is_in commands q s
  same_slice q s = ap (λ (ls : List (List ℕ)). is_between q s.day && holds q.conditions ls) (same_labels (condition_columns q.conditions) s)

  abbrev sold_with : List (List ℕ) → SaleRecord → Labelled (List (List ℕ))
  sold_with ls s = record { label = ls; measures = measures_of s }

  same_sales : (q : QueryAsked) (sales : List SaleRecord) → labelled_in (commands ++ c ∷ []) q sales ≡ labelled_in commands q sales
  same_sales q [] = refl
  same_sales q (s ∷ sales) =
      let rest = same_sales q sales in
      let later : List SaleRecord = filter (is_in after q) sales in
      ap (λ b. map (λ s. sold_with (labels_in after q.columns s) s) (cond b (s ∷ later) later)) (same_slice q s)
      ∙ elim (is_in commands q s) as (λ b. map (λ s. sold_with (labels_in after q.columns s) s) (cond b (s ∷ later) later) ≡ map (λ s. sold_with (labels_in commands q.columns s) s) (cond b (s ∷ filter (is_in commands q) sales) (filter (is_in commands q) sales))) [
        | true ↦ ap₂ ◌∷◌ (ap (λ ls. sold_with ls s) (same_labels q.columns s)) rest
        | false ↦ rest
      ]

pub voids_take_their_sales : VoidsTakeTheirSales
voids_take_their_sales commands c voids q is =
    ap (lines by_texts)
    (ap (labelled_in (commands ++ c ∷ []) q) (standing-voided commands c (quiet commands c voids is).no_sale ∙ ap (λ content. standing_but (withdrawn_by content) (standing commands)) is)
    ∙ same_sales commands c voids is q (standing_but voids (standing commands)))
