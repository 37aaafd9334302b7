-- What was read of any tables, as a report of them.
use Rattle.std.proofs.Common.{◌≡◌, inl, inr, ℕ, List, [], ◌∷◌, true, cond, Option, Some, None, Ok, Err, refl, sym, ◌∙◌, ap, subst}
use Rattle.std.specs.Prelude.{filter_map, option_map, is_some, IsSome}
use Rattle.std.specs.Option.{option_and_then}
use Rattle.std.specs.List.{cons_option}
use Rattle.std.specs.FinMap.{values}
use Rattle.std.specs.declared.alloc.Global.{Global}
use Rattle.std.specs.declared.vec.Vec.{Vec}
use Rattle.wh_policy.specs.declared.policy.Policy.{Policy}
use Rattle.wh_history.specs.declared.facts.Fact.{Fact}
use Rattle.wh_history.proofs.Basics.{some_is}
use Rattle.wh_rows.specs.KeyedSales.{keyed}
use Rattle.wh_policy.specs.declared.format.Format.{Format}
use Rattle.wh_rows.specs.Facts.{facts_in}
use Rattle.wh_rows.specs.Tables.{Tables}
use Rattle.wh_rows.specs.declared.keyed_sale.KeyedSale.{KeyedSale}
use Rattle.wh_report.specs.Asked.{Asked}
use Rattle.wh_report.specs.Counting.{counted, measures_of, sales_of, AreLabelled}
use Rattle.wh_report.specs.Joined.{column_of, fact_key, label_column_fact_key}
use Rattle.wh_report.specs.Label.{text_asked}
use Rattle.wh_report.specs.Labels.{AreLabels, labels_in, labels_get}
use Rattle.wh_report.specs.Reported.{label_rows, text_at, sold_by_keys, IsSummed, ReportsTables, column_asked}
use Rattle.wh_report.specs.Request.{has_reading, is_asked_of, subject_reads}
use Rattle.wh_report.specs.Subject.{subject_in, reading_of}
use Rattle.wh_report.specs.declared.column.LabelColumn.{LabelColumn}
use Rattle.wh_report.specs.declared.output.ReportFault.{ReportFault}
use Rattle.wh_report.specs.declared.output.ReportFault.TheVariants.{Write, Warehouse, Unwritten, Inconsistent}
use Rattle.wh_report.specs.declared.subject.Reading.{Reading}
use Rattle.wh_report.specs.declared.subject.Subject.{Subject}

-- what is counted by two functions that give the same labels
pub counted_same : (r : Asked) (column : LabelColumn) (p q : ℕ → Option (List ℕ)) → ((key : ℕ) → p key ≡ q key) → (facts : List Fact) → filter_map (counted r column p) facts ≡ filter_map (counted r column q) facts
counted_same r column p q same [] = refl
counted_same r column p q same (f ∷ facts) =
    ap (λ o. cons_option (cond (is_asked_of r f.day) (option_map (λ label. record { label = label; measures = measures_of (keyed (label_column_fact_key column) f) }) o) None) (filter_map (counted r column p) facts)) (same (fact_key column f))
    ∙ ap (cons_option (counted r column q f)) (counted_same r column p q same facts)

module _ (format : Format) (r : Asked) (column : LabelColumn) (t : Tables) (labels : List (ℕ × List ℕ)) (are : AreLabels labels (labels_in column (label_rows column t))) where
  -- the facts are counted by the labels that were read
  pub counted_read : filter_map (counted r column (labels_get labels)) (values (facts_in format t)) ≡ sold_by_keys format r column t
  counted_read = counted_same r column (labels_get labels) (text_at column t) are.found (values (facts_in format t))

  labelled_read : (sales : List KeyedSale) → AreLabelled (labels_get labels) sales → AreLabelled (text_at column t) sales
  labelled_read [] all = tt
  labelled_read (s ∷ sales) all = (subst IsSome (are.found s.key) all.0, labelled_read sales all.1)

  pub text_read : (text : Vec ℕ Global) → text.items ≡ text_asked r (filter_map (counted r column (labels_get labels)) (values (facts_in format t))) → AreLabelled (labels_get labels) (sales_of r column (values (facts_in format t))) → ReportsTables format r column t (Ok text)
  text_read text is all = (is ∙ ap (text_asked r) counted_read, labelled_read (sales_of r column (values (facts_in format t))) all)

  -- or they can't be counted
  pub fault_read : (fault : ReportFault) → IsSummed format r column (labels_get labels) (values (facts_in format t)) (Err fault) → ReportsTables format r column t (Err fault)
  fault_read Write cut = tt
  fault_read (Warehouse fault) cut = tt
  fault_read (Unwritten fault) cut = tt
  fault_read (Inconsistent found) cut = elim cut [
    | inl lacks ↦ inl (lacks.0, record { sale = lacks.1.sale; there = lacks.1.there; none = sym (are.found lacks.1.sale.key) ∙ lacks.1.none })
    | inr many ↦ inr many
  ]

-- ---- the column that is asked for

pub column_is : (policy : Policy) (r : Asked) (column : LabelColumn) (subject : Subject) (which : Reading) → column_asked policy r ≡ Some column → subject_in policy r.words ≡ Some subject → reading_of subject r.mode ≡ Some which → column ≡ column_of subject which
column_is policy r column subject which asked names shows =
    let is : column_asked policy r ≡ Some (column_of subject which) = ap (option_and_then (λ s. option_map (column_of s) (reading_of s r.mode))) names ∙ ap (option_map (column_of subject)) shows in
    cc

-- what is asked for, and the column in which it stands
pub record Asks (policy : Policy) (r : Asked) (column : LabelColumn) : Type 0 where
  pub subject : Subject
  pub which : Reading
  pub names : subject_in policy r.words ≡ Some subject
  pub shows : reading_of subject r.mode ≡ Some which
  pub is : column ≡ column_of subject which

pub asks_of : (policy : Policy) (r : Asked) (column : LabelColumn) → column_asked policy r ≡ Some column → Asks policy r column
asks_of policy r column asked = by_subject (subject_in policy r.words) refl asked
  where
    by_reading : (s : Subject) → subject_in policy r.words ≡ Some s → (o : Option Reading) → reading_of s r.mode ≡ o → option_map (column_of s) o ≡ Some column → Asks policy r column
    by_reading s names None shows asked = absurd cc
    by_reading s names (Some which) shows asked = record { subject = s; which = which; names = names; shows = shows; is = sym (some_is (column_of s which) column asked) }

    by_subject : (o : Option Subject) → subject_in policy r.words ≡ o → option_and_then (λ s. option_map (column_of s) (reading_of s r.mode)) o ≡ Some column → Asks policy r column
    by_subject None names asked = absurd cc
    by_subject (Some s) names asked = by_reading s names (reading_of s r.mode) refl asked

none_read : (r : Asked) (subject : Option Subject) → subject_reads r.mode subject ≡ true → option_and_then (λ s. option_map (column_of s) (reading_of s r.mode)) subject ≡ None → ⊥
none_read r None reads none = cc
none_read r (Some s) reads none = none_shown (reading_of s r.mode) reads none
  where
    none_shown : (o : Option Reading) → is_some o ≡ true → option_map (column_of s) o ≡ None → ⊥
    none_shown None reads none = cc
    none_shown (Some which) reads none = cc

-- there is one where the attribute has a reading
pub column_there : (policy : Policy) (r : Asked) → has_reading policy r ≡ true → column_asked policy r ≡ None → ⊥
column_there policy r reads none = none_read r (subject_in policy r.words) reads none
