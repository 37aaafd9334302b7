-- In a file that carries the members of another each sale has the label that it would have there.
use Rattle.std.proofs.Common.{◌≡◌, ℕ, false, List, [], ◌∷◌, ◌++◌, map, Option, Some, None, refl, sym, ap, ◌∙◌}
use Rattle.std.specs.Prelude.{filter, slice_get, option_map, unwrap_or}
use Rattle.wh_day.specs.Holidays.{holiday_text}
use Rattle.wh_policy.specs.Policy.{policy_types}
use Rattle.wh_policy.specs.Types.{rule, is_profile}
use Rattle.wh_policy.specs.declared.attribute.AttributeType.{AttributeType}
use Rattle.wh_policy.specs.declared.type_rule.ValuePlace.TheVariants as at
use Rattle.wh_policy.specs.declared.attribute.Dim.{Dim}
use Rattle.wh_policy.specs.declared.policy.Policy.{Policy}
use Rattle.wh_policy.specs.declared.record.SaleRecord.{SaleRecord}
use Rattle.wh_policy.proofs.TypeLemmas.{original_outside}
use Rattle.wh_history.specs.Accepted.{Accepted, types_in, changes_of, governed, member_of_sale, policy_after}
use Rattle.wh_records.specs.Laws.{SaysTheSame}
use Rattle.wh_records.proofs.CarriedMembers.{members_are_carried}
use Rattle.wh_records.proofs.GoingOn.{members_go_on}
use Rattle.wh_report.specs.Asked.{Asked}
use Rattle.wh_report.specs.Carried.{LabelsAreCarried, LabelsGoOn, ReportsAreCarried, ReportsGoOn}
use Rattle.wh_report.specs.Joined.{reading_place}
use Rattle.wh_report.specs.Label.{shown, member_label, label, labelled, text_asked}
use Rattle.wh_report.specs.Laws.{Reads}
use Rattle.wh_report.specs.Request.{is_asked_of}
use Rattle.wh_report.specs.Subject.{type_reading}
use Rattle.wh_report.specs.Summary.{Sold}
use Rattle.wh_batch.specs.declared.mode.Mode.{Mode}
use Rattle.wh_report.specs.declared.subject.Reading.{Reading}
use Rattle.wh_report.specs.declared.subject.Reading.TheVariants.{AtSaleDay, Latest, Original, PriorValue}
use Rattle.wh_report.specs.declared.subject.SlotAttribute.{SlotAttribute}
use Rattle.wh_report.specs.declared.subject.Subject.{Subject}
use Rattle.wh_report.specs.declared.subject.Subject.TheVariants.{Attribute, Month, Holiday as HolidayOfSale}
use Rattle.wh_report.proofs.NamedSubjects.{subject_stands}
use Rattle.wh_report.proofs.TypeReadings.{stands, original_in_main}

-- an attribute of which a mode shows the original value is none of the profile
outside : (kind : AttributeType) (mode : Mode) → type_reading kind mode ≡ Some Original → is_profile kind ≡ false
outside kind mode is = original_outside kind (original_in_main (rule kind) (unwrap_or (reading_place (rule kind) Original) at.Main) (stands kind mode Original is))

-- two files that say the same of each member, under one policy, by the kinds of attributes that some commands leave
module _ (commands after before : List Accepted) (says : (dim : Dim) (natural : List ℕ) → SaysTheSame (types_in dim commands) (changes_of dim after natural) (changes_of dim before natural)) (same : policy_after None after ≡ policy_after None before) where
  member_says : (dim : Dim) (place day : ℕ) (kind : AttributeType) (mode : Mode) (which : Reading) (natural : List ℕ) → slice_get (types_in dim commands) place ≡ Some kind → type_reading kind mode ≡ Some which
      → shown (changes_of dim after natural) place day which ≡ shown (changes_of dim before natural) place day which
  member_says dim place day kind mode AtSaleDay natural there shows = (says dim natural).at_day day place
  member_says dim place day kind mode Latest natural there shows = (says dim natural).newest place
  member_says dim place day kind mode Original natural there shows = (says dim natural).first place kind there (outside kind mode shows)
  member_says dim place day kind mode PriorValue natural there shows = (says dim natural).before place

  of_member : (a : SlotAttribute) (day : ℕ) (mode : Mode) (which : Reading) (o : Option (List ℕ)) → slice_get (types_in a.dim commands) a.place ≡ Some a.kind → type_reading a.kind mode ≡ Some which
      → member_label after a.dim a.place day which o ≡ member_label before a.dim a.place day which o
  of_member a day mode which None there shows = refl
  of_member a day mode which (Some natural) there shows = member_says a.dim a.place day a.kind mode which natural there shows

  module _ (words : List ℕ) (mode : Mode) (which : Reading) where
    of_subject : (subject : Subject) → Reads commands words mode subject which → (s : SaleRecord) → label after subject which s ≡ label before subject which s
    of_subject (Attribute a) reads s =
        let kinds : types_in a.dim commands ≡ policy_types reads.policy a.dim = ap (λ (o : Option Policy). unwrap_or (option_map (λ policy. policy_types policy a.dim) o) []) reads.governed in
        let there : slice_get (types_in a.dim commands) a.place ≡ Some a.kind = ap (λ (ks : List AttributeType). slice_get ks a.place) kinds ∙ subject_stands reads.policy a words reads.names in
        of_member a s.day mode which (member_of_sale a.dim s) there reads.shows
    of_subject Month reads s = refl
    of_subject HolidayOfSale reads s = ap (λ (o : Option Policy). holiday_text (unwrap_or (option_map (λ policy. policy.holidays) o) []) s.day) same

-- a sale under a label
abbrev sold_as : List ℕ → SaleRecord → Sold
sold_as text s = record { label = text; measures = record { quantity = s.quantity; amount = s.amount; cost = s.cost } }

same_text : (after before : List Accepted) (subject : Subject) (which : Reading) (r : Asked) (sales : List SaleRecord) → ((s : SaleRecord) → label after subject which s ≡ label before subject which s)
    → text_asked r (labelled after subject which r sales) ≡ text_asked r (labelled before subject which r sales)
same_text after before subject which r sales same = ap (text_asked r) (each (filter (λ s. is_asked_of r s.day) sales))
  where
    each : (ss : List SaleRecord) → map (λ s. sold_as (label after subject which s) s) ss ≡ map (λ s. sold_as (label before subject which s) s) ss
    each [] = refl
    each (s ∷ ss) =
        let here : sold_as (label after subject which s) s ≡ sold_as (label before subject which s) s = ap (λ text. sold_as text s) (same s) in
        let rest = each ss in
        cc

pub labels_are_carried : LabelsAreCarried
labels_are_carried limits commands next words mode subject which s it carries reads =
    of_subject commands next commands (members_are_carried limits commands next it carries) carries.policy words mode which subject reads s

pub reports_are_carried : ReportsAreCarried
reports_are_carried limits commands next words mode subject which r sales it carries reads =
    same_text next commands subject which r sales (of_subject commands next commands (members_are_carried limits commands next it carries) carries.policy words mode which subject reads)

-- ---- with more commands

policy_joined : (o : Option Policy) (commands more : List Accepted) → policy_after o (commands ++ more) ≡ policy_after (policy_after o commands) more
policy_joined o [] more = refl
policy_joined o (c ∷ commands) more = policy_joined (governed o c.content) commands more

same_policy : (commands next more : List Accepted) → policy_after None next ≡ policy_after None commands → policy_after None (next ++ more) ≡ policy_after None (commands ++ more)
same_policy commands next more same = policy_joined None next more ∙ ap (λ (o : Option Policy). policy_after o more) same ∙ sym (policy_joined None commands more)

pub labels_go_on : LabelsGoOn
labels_go_on limits others commands next more words mode subject which s it carries on reads =
    of_subject commands (next ++ more) (commands ++ more) (members_go_on limits others commands next more it carries on) (same_policy commands next more carries.policy) words mode which subject reads s

pub reports_go_on : ReportsGoOn
reports_go_on limits others commands next more words mode subject which r sales it carries on reads =
    same_text (next ++ more) (commands ++ more) subject which r sales (of_subject commands (next ++ more) (commands ++ more) (members_go_on limits others commands next more it carries on) (same_policy commands next more carries.policy) words mode which subject reads)
