-- A report of any stored rows, from what was read of them.
use Rattle.std.proofs.Common.{◌≡◌, inl, inr, ℕ, List, [], ◌∷◌, Option, Ok, Err, refl, sym, ◌∙◌, ap, subst}
use Rattle.std.specs.Prelude.{Result, filter_map, option_map, IfOk, IsSome}
use Rattle.std.specs.List.{cons_option}
use Rattle.std.specs.declared.alloc.Global.{Global}
use Rattle.std.specs.declared.vec.Vec.{Vec}
use Rattle.std.proofs.lemmas.Result.{IfOk-weaker}
use Rattle.wh_day.specs.declared.calendar.DateRow.{DateRow}
use Rattle.wh_history.specs.declared.rows.DimRow.{DimRow}
use Rattle.wh_rows.specs.Raw.{Stored}
use Rattle.wh_rows.specs.declared.rows.ProfileRow.{ProfileRow}
use Rattle.wh_engine.specs.declared.fault.Fault.{Fault}
use Rattle.wh_rows.specs.declared.keyed_sale.FactColumn.{FactColumn}
use Rattle.wh_rows.specs.declared.keyed_sale.KeyedSale.{KeyedSale}
use Rattle.wh_policy.specs.declared.format.Format.{Format}
use Rattle.wh_report.specs.Asked.{Asked}
use Rattle.wh_report.specs.Counting.{measures_of, with_label, sales_asked, AreLabelled}
use Rattle.wh_report.specs.Joined.{label_column_fact_key}
use Rattle.wh_report.specs.Label.{text_asked}
use Rattle.wh_report.specs.Labels.{LabelRows, AreLabels, labels_in, labels_get}
use Rattle.wh_report.specs.Reported.{AreAllFor, label_in, AreAllSales, IsSummedOf, ReportsStored, uncounted}
use Rattle.wh_report.specs.Summary.{Summed}
use Rattle.wh_report.specs.Sums.{Figures}
use Rattle.wh_report.specs.Tallied.{IsTally, IsCounted}
use Rattle.wh_report.specs.declared.column.LabelColumn.{LabelColumn}
use Rattle.wh_report.specs.declared.fact.FactFault.{FactFault}
use Rattle.wh_report.specs.declared.fact.FactFault.TheVariants as uncountable
use Rattle.wh_report.specs.declared.output.ReportFault.{ReportFault}
use Rattle.wh_report.specs.declared.summary.AddError.{AddError}
use Rattle.wh_report.specs.declared.output.ReportFault.TheVariants.{Write, Warehouse, Unwritten, Inconsistent}

-- ---- what the facts come to

-- what was tallied for a request
pub of_request : (r q : Asked) → q ≡ r → (labels : ℕ → Option (List ℕ)) (sales : List KeyedSale) (sums : List (ℕ × Figures)) (fault : Option AddError) (result : Result Summed FactFault) → IsTally r sales sums fault
    → ((sales : List KeyedSale) → IsTally q sales sums fault → IsCounted q labels sales result) → IsCounted r labels sales result
of_request r q same labels sales sums fault result tally told = subst (λ (a : Asked). IsCounted a labels sales result) same (told sales (subst (λ (a : Asked). IsTally a sales sums fault) (sym same) tally))

pub summed_stored : (format : Format) (r : Asked) (column : LabelColumn) (labels : ℕ → Option (List ℕ)) (stored : Stored) (which : FactColumn) → which ≡ label_column_fact_key column → (sales : List KeyedSale) → AreAllSales format which stored sales
    → (told : Result Summed FactFault) → IsCounted r labels sales told → (sums : Summed) → told ≡ Ok sums → IsSummedOf format r column labels stored (Ok sums)
summed_stored format r column labels stored which by sales all told counted sums is =
    let sold = subst (IsCounted r labels sales) is counted in
    (sales, subst (λ (k : FactColumn). AreAllSales format k stored sales) by all, sold.0, sold.1)

pub cut_stored : (format : Format) (r : Asked) (column : LabelColumn) (labels : ℕ → Option (List ℕ)) (stored : Stored) (which : FactColumn) → which ≡ label_column_fact_key column → (sales : List KeyedSale) → AreAllSales format which stored sales
    → (told : Result Summed FactFault) → IsCounted r labels sales told → (fault : FactFault) → told ≡ Err fault → IsSummedOf format r column labels stored (Err (uncounted format column fault))
cut_stored format r column labels stored which by sales all told counted fault is = of_fault fault (subst (IsCounted r labels sales) is counted)
  where
    of_fault : (fault : FactFault) → IsCounted r labels sales (Err fault) → IsSummedOf format r column labels stored (Err (uncounted format column fault))
    of_fault uncountable.Memory cut = tt
    of_fault uncountable.NoLabel cut = (sales, subst (λ (k : FactColumn). AreAllSales format k stored sales) by all, inl (refl, cut))
    of_fault uncountable.Damaged cut = (sales, subst (λ (k : FactColumn). AreAllSales format k stored sales) by all, inr (refl, cut))

-- ---- the labels that were read are those that the rows give

-- all rows in which the labels of a column stand were read, and these are theirs
abbrev pub AreFromAll : LabelColumn → Stored → List (ℕ × List ℕ) → Type 0
AreFromAll column stored labels = (t : LabelRows) × AreAllFor column stored t × AreLabels labels (labels_in column t)

pub from_other : (column other : LabelColumn) → column ≡ other → (stored : Stored) (result : Result (List (ℕ × List ℕ)) Fault) (Read : List (ℕ × List ℕ) → Type 0) → ((labels : List (ℕ × List ℕ)) → Read labels → AreFromAll other stored labels)
    → IfOk result Read → IfOk result (AreFromAll column stored)
from_other column other is stored result Read all read = subst (λ (c : LabelColumn). IfOk result (AreFromAll c stored)) (sym is) (IfOk-weaker result Read (AreFromAll other stored) all read)

pub from_all : (column other : LabelColumn) → column ≡ other → (stored : Stored) (result : Result (List (ℕ × List ℕ)) Fault) (Read : LabelColumn → List (ℕ × List ℕ) → Type 0) → ((labels : List (ℕ × List ℕ)) → Read other labels → AreFromAll other stored labels)
    → IfOk result (Read column) → IfOk result (AreFromAll column stored)
from_all column other is stored result Read all read = from_other column other is stored result (Read other) all (subst (λ (c : LabelColumn). IfOk result (Read c)) is read)

abbrev pub rows_alone : List DimRow → LabelRows
rows_alone rows = record { rows = rows; profiles = []; days = [] }

abbrev pub profiles_alone : List ProfileRow → LabelRows
profiles_alone profiles = record { rows = []; profiles = profiles; days = [] }

abbrev pub days_alone : List DateRow → LabelRows
days_alone days = record { rows = []; profiles = []; days = days }

with_same : (p q : ℕ → Option (List ℕ)) → ((key : ℕ) → p key ≡ q key) → (sales : List KeyedSale) → filter_map (with_label p) sales ≡ filter_map (with_label q) sales
with_same p q same [] = refl
with_same p q same (s ∷ sales) =
    ap (λ o. cons_option (option_map (λ label. record { label = label; measures = measures_of s }) o) (filter_map (with_label p) sales)) (same s.key)
    ∙ ap (cons_option (with_label q s)) (with_same p q same sales)

labelled_same : (p q : ℕ → Option (List ℕ)) → ((key : ℕ) → p key ≡ q key) → (sales : List KeyedSale) → AreLabelled p sales → AreLabelled q sales
labelled_same p q same [] all = tt
labelled_same p q same (s ∷ sales) all = (subst IsSome (same s.key) all.0, labelled_same p q same sales all.1)

module _ (format : Format) (r : Asked) (column : LabelColumn) (stored : Stored) (labels : List (ℕ × List ℕ)) (t : LabelRows) (all : AreAllFor column stored t) (are : AreLabels labels (labels_in column t)) where
  pub stored_text : (text : Vec ℕ Global) (sums : Summed) (told : IsSummedOf format r column (labels_get labels) stored (Ok sums)) → text.items ≡ text_asked r (filter_map (with_label (labels_get labels)) (sales_asked r told.0)) → ReportsStored format r column stored (Ok text)
  stored_text text sums (sales, every, same, labelled) is =
      (t, all, (sales, every, is ∙ ap (text_asked r) (with_same (labels_get labels) (label_in column t) are.found (sales_asked r sales)), labelled_same (labels_get labels) (label_in column t) are.found (sales_asked r sales) labelled))

  pub stored_fault : (fault : ReportFault) → IsSummedOf format r column (labels_get labels) stored (Err fault) → ReportsStored format r column stored (Err fault)
  stored_fault Write cut = tt
  stored_fault (Warehouse fault) cut = tt
  stored_fault (Unwritten fault) cut = tt
  stored_fault (Inconsistent found) (sales, every, cut) = (
    t,
    all,
    (
      sales,
      every,
      elim cut [
        | inl lacks ↦ inl (lacks.0, record { sale = lacks.1.sale; there = lacks.1.there; none = sym (are.found lacks.1.sale.key) ∙ lacks.1.none })
        | inr many ↦ inr many
      ],
    ),
  )
