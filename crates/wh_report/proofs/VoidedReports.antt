-- A batch of voids takes its own sales out of each report, and leaves the labels of the others.
use Rattle.std.proofs.Common.{◌≡◌, ℕ, true, false, cond, List, [], ◌∷◌, ◌++◌, Option, Some, None, refl, ◌∙◌, ap}
use Rattle.std.specs.Prelude.{map, filter, option_map, unwrap_or}
use Rattle.wh_day.specs.Holidays.{holiday_text}
use Rattle.wh_policy.specs.declared.policy.Policy.{Policy}
use Rattle.wh_policy.specs.declared.attribute.Dim.{Dim}
use Rattle.wh_policy.specs.declared.record.SaleRecord.{SaleRecord}
use Rattle.wh_policy.specs.declared.record.VoidRecord.{VoidRecord}
use Rattle.wh_history.specs.Accepted.{Accepted, Withdraws, member_of_sale, withdrawn_by, standing, standing_but}
use Rattle.wh_history.specs.declared.member.Member.{Member}
use Rattle.wh_history.proofs.Standing.{standing-voided}
use Rattle.wh_history.proofs.Stays.{policy_last}
use Rattle.wh_model.proofs.QuietLists.{member_quiet}
use Rattle.wh_model.proofs.WithdrawnRows.{quiet, no_policy}
use Rattle.wh_report.specs.Asked.{Asked}
use Rattle.wh_report.specs.Label.{label, labelled, member_label, shown}
use Rattle.wh_report.specs.Laws.{VoidsTakeTheirSales}
use Rattle.wh_report.specs.Request.{is_asked_of}
use Rattle.wh_report.specs.Summary.{Sold}
use Rattle.wh_report.specs.declared.subject.Reading.{Reading}
use Rattle.wh_report.specs.declared.subject.Subject.{Subject}
use Rattle.wh_report.specs.declared.subject.Subject.TheVariants.{Attribute, Month, Holiday}

module _ (commands : List Accepted) (c : Accepted) (lines : List VoidRecord) (is : c.content ≡ Withdraws lines) where
  abbrev after : List Accepted
  after = commands ++ c ∷ []

  by_member : (dim : Dim) (place day : ℕ) (which : Reading) (o : Option (List ℕ)) → member_label after dim place day which o ≡ member_label commands dim place day which o
  by_member dim place day which None = refl
  by_member dim place day which (Some natural) = ap (λ (m : Member). shown m.changes place day which) (member_quiet commands c (quiet commands c lines is) dim natural)

  pub same_label : (subject : Subject) (which : Reading) (s : SaleRecord) → label (commands ++ c ∷ []) subject which s ≡ label commands subject which s
  same_label (Attribute a) which s = by_member a.dim a.place s.day which (member_of_sale a.dim s)
  same_label Month which s = refl
  same_label Holiday which s = ap (λ (o : Option Policy). holiday_text (unwrap_or (option_map (λ policy. policy.holidays) o) []) s.day) (policy_last None commands c (no_policy commands c lines is))

  abbrev sold_with : List ℕ → SaleRecord → Sold
  sold_with text s = record { label = text; measures = record { quantity = s.quantity; amount = s.amount; cost = s.cost } }

  same_labels : (subject : Subject) (which : Reading) (r : Asked) (sales : List SaleRecord) → labelled (commands ++ c ∷ []) subject which r sales ≡ labelled commands subject which r sales
  same_labels subject which r [] = refl
  same_labels subject which r (s ∷ sales) =
      let rest = same_labels subject which r sales in
      elim (is_asked_of r s.day) as (λ b. map (λ s. sold_with (label after subject which s) s) (cond b (s ∷ filter (λ s. is_asked_of r s.day) sales) (filter (λ s. is_asked_of r s.day) sales))
      ≡ map (λ s. sold_with (label commands subject which s) s) (cond b (s ∷ filter (λ s. is_asked_of r s.day) sales) (filter (λ s. is_asked_of r s.day) sales))) [
        | true ↦ ap (λ text. sold_with text s ∷ labelled after subject which r sales) (same_label subject which s) ∙ ap (λ (sold : List Sold). sold_with (label commands subject which s) s ∷ sold) rest
        | false ↦ rest
      ]

pub voids_take_their_sales : VoidsTakeTheirSales
voids_take_their_sales commands c lines subject which r is =
    ap (labelled (commands ++ c ∷ []) subject which r) (standing-voided commands c (quiet commands c lines is).no_sale ∙ ap (λ content. standing_but (withdrawn_by content) (standing commands)) is)
    ∙ same_labels commands c lines is subject which r (standing_but lines (standing commands))
