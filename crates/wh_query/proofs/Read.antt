-- What was read for a query, as an answer.
use Rattle.std.proofs.Common.{◌≡◌, ◌≤◌, ℕ, suc, List, [], ◌∷◌, ◌++◌, map, length, Option, Some, None, Ok, Err, inr, refl, sym, ◌∙◌, ap, ap₂, subst, subst₂, arith}
use Rattle.std.specs.Prelude.{Result, filter_map}
use Rattle.std.specs.FinMap.{values}
use Rattle.std.proofs.lemmas.List.{length-map, map-append}
use Rattle.std.specs.declared.alloc.Global.{Global}
use Rattle.std.specs.declared.vec.Vec.{Vec}
use Rattle.std.specs.List.{cons_option}
use Rattle.std.specs.Option.{option_to_list}
use Rattle.std.proofs.lemmas.List.Elements.{filter_map-append}
use Rattle.wh_policy.specs.declared.policy.Policy.{Policy}
use Rattle.wh_policy.specs.declared.format.Format.{Format}
use Rattle.wh_rows.specs.Facts.{facts_in}
use Rattle.wh_rows.specs.LinkedSales.{linked}
use Rattle.wh_rows.specs.Raw.{Stored}
use Rattle.wh_rows.specs.Tables.{Tables}
use Rattle.wh_rows.specs.declared.linked_sale.LinkedSale.{LinkedSale}
use Rattle.wh_engine.specs.Scanned.{ReadsThrough}
use Rattle.wh_engine.specs.declared.session.Session.{Session}
use Rattle.sqlite.specs.State.{State}
use Rattle.wh_report.specs.Labels.{LabelRows, labels_in, AreLabels}
use Rattle.wh_report.specs.Output.{of_warehouse}
use Rattle.wh_report.specs.Reported.{column_asked, label_rows, AreAllFor, label_in}
use Rattle.wh_report.specs.Lines.{Labelled, added, lines}
use Rattle.wh_report.specs.Sums.{Figures}
use Rattle.wh_report.specs.declared.column.LabelColumn.{LabelColumn}
use Rattle.wh_report.specs.declared.output.ReportFault.{ReportFault}
use Rattle.wh_report.specs.declared.output.ReportFault.TheVariants.{Write, Warehouse, Unwritten, Inconsistent}
use Rattle.wh_report.proofs.AddedLines.{lines_add_up}
use Rattle.wh_report.proofs.EngineReading.{out_of_memory}
use Rattle.wh_query.specs.Answer.{text_in}
use Rattle.wh_query.specs.Answered.{columns_asked, report_fault, IsUntold, lead_in, facts_linked, SumsTables, AnswersTables, SumsStored, AnswersStored, AreLeads}
use Rattle.wh_query.specs.Asked.{ColumnAsked, ConditionAsked, QueryAsked, alone, condition_columns}
use Rattle.wh_query.specs.Led.{lead_of}
use Rattle.wh_query.specs.Slice.{Lead, sold_sale, sold_sales}
use Rattle.wh_query.specs.Words.{by_texts}
use Rattle.wh_query.specs.declared.fault.SaleFault.{SaleFault}
use Rattle.wh_query.specs.declared.fault.SaleFault.TheVariants as uncounted
use Rattle.wh_query.specs.declared.led.LedColumn.{LedColumn}
use Rattle.wh_query.proofs.Texts.{texts_total, same_texts}

-- ---- one column more that is asked for

one_option : {X : Type 0} (o : Option X) → cons_option o [] ≡ option_to_list o
one_option None = refl
one_option (Some x) = refl

pub asked_more : (policy : Policy) (columns next : List ColumnAsked) (c : ColumnAsked) → next ≡ columns ++ c ∷ [] → columns_asked policy next ≡ columns_asked policy columns ++ option_to_list (column_asked policy (alone c))
asked_more policy columns next c is =
    ap (columns_asked policy) is ∙ filter_map-append (λ (d : ColumnAsked). column_asked policy (alone d)) columns (c ∷ [])
    ∙ ap (λ ls. columns_asked policy columns ++ ls) (one_option (column_asked policy (alone c)))

pub conditions_more : (policy : Policy) (conditions next : List ConditionAsked) (c : ConditionAsked) → next ≡ conditions ++ c ∷ []
    → columns_asked policy (condition_columns next) ≡ columns_asked policy (condition_columns conditions) ++ option_to_list (column_asked policy (alone c.column))
conditions_more policy conditions next c is =
    asked_more policy (condition_columns conditions) (condition_columns next) c.column (ap condition_columns is ∙ map-append (λ (d : ConditionAsked). d.column) conditions (c ∷ []))

-- ---- one column more that is read

-- it leads where the rows do that were read
pub lead_is : (t : Tables) (column : LabelColumn) (labels : List (ℕ × List ℕ)) → AreLabels labels (labels_in column (label_rows column t)) → lead_of (record { column = column; labels = labels }) ≡ lead_in t column
lead_is t column labels are = λ i. record { column = column; labels = λ key. are.found key i }

pub lead_stored : (column : LabelColumn) (labels : List (ℕ × List ℕ)) (t : LabelRows) → AreLabels labels (labels_in column t) → lead_of (record { column = column; labels = labels }) ≡ record { column = column; labels = label_in column t }
lead_stored column labels t are = λ i. record { column = column; labels = λ key. are.found key i }

pub leads_more : (stored : Stored) (columns : List LabelColumn) (leads : List Lead) (c : LabelColumn) (l : Lead) → AreLeads stored columns leads → ((t : LabelRows) × AreAllFor c stored t × (l ≡ record { column = c; labels = label_in c t })) → AreLeads stored (columns ++ c ∷ []) (leads ++ l ∷ [])
leads_more stored [] [] c l all own = (own, tt)
leads_more stored [] (m ∷ leads) c l all own = absurd all
leads_more stored (d ∷ columns) [] c l all own = absurd all
leads_more stored (d ∷ columns) (m ∷ leads) c l all own = (all.0, leads_more stored columns leads c l all.1 own)

pub led_more : (t : Tables) (done new : List LedColumn) (columns next : List LabelColumn) (c : LabelColumn) (labels : List (ℕ × List ℕ)) → new ≡ done ++ record { column = c; labels = labels } ∷ [] → next ≡ columns ++ c ∷ [] → map lead_of done ≡ map (lead_in t) columns
    → AreLabels labels (labels_in c (label_rows c t)) → map lead_of new ≡ map (lead_in t) next
led_more t done new columns next c labels is more before are =
    ap (map lead_of) is ∙ map-append lead_of done (record { column = c; labels = labels } ∷ []) ∙ ap₂ (λ ls l. ls ++ l ∷ []) before (lead_is t c labels are)
    ∙ sym (map-append (lead_in t) columns (c ∷ [])) ∙ ap (map (lead_in t)) (sym more)

pub stored_more : (stored : Stored) (done new : List LedColumn) (columns next : List LabelColumn) (c : LabelColumn) (labels : List (ℕ × List ℕ)) → new ≡ done ++ record { column = c; labels = labels } ∷ [] → next ≡ columns ++ c ∷ [] → AreLeads stored columns (map lead_of done)
    → ((t : LabelRows) × AreAllFor c stored t × AreLabels labels (labels_in c t)) → AreLeads stored next (map lead_of new)
stored_more stored done new columns next c labels is more before (t, all, are) =
    subst₂ (AreLeads stored) (sym more) (sym (ap (map lead_of) is ∙ map-append lead_of done (record { column = c; labels = labels } ∷ [])))
    (leads_more stored columns (map lead_of done) c (lead_of (record { column = c; labels = labels })) before (t, all, lead_stored c labels t are))

-- ---- the sales can't be counted

pub read_not_counted : (B : Type 0) (r s : Session) (old new : State) (format : Format) (why : SaleFault) → ReadsThrough {A = Unit {0}} r s old new (Ok tt) → ReadsThrough r s old new (of_warehouse {A = B} (Err (report_fault format why)))
read_not_counted B r s old new format uncounted.Memory reads = out_of_memory r s old new tt reads
read_not_counted B r s old new format (uncounted.NoLabel column) reads = reads
read_not_counted B r s old new format uncounted.Damaged reads = reads

-- ---- the lines have no text

few_kept : {A B : Type 0} (f : A → Option B) (xs : List A) → length (filter_map f xs) ≤ length xs
few_kept f [] = omega arith
few_kept f (x ∷ xs) =
    let rest = few_kept f xs in
    elim (f x) as (λ o. length (cons_option o (filter_map f xs)) ≤ suc (length xs)) [
      | None ↦ omega (arith, rest)
      | Some y ↦ omega (arith, rest)
    ]

-- what sales come to together has no more lines than there are sales
too_many : (q : QueryAsked) (filters columns : List Lead) (sales : List LinkedSale) (ls : List (List (List ℕ) × Figures)) → ls ≡ lines by_texts (sold_sales q filters columns sales) → 4_294_967_295 ≤ (added ls).lines → 4_294_967_295 ≤ length sales
too_many q filters columns sales ls is many =
    let sold = sold_sales q filters columns sales in
    let all : (added ls).lines ≡ length sold = ap (λ (t : Figures). t.lines) (ap added is ∙ lines_add_up by_texts texts_total same_texts sold) ∙ length-map sold (λ (s : Labelled (List (List ℕ))). s.measures) in
    let few = few_kept (sold_sale q filters columns) sales in
    omega (arith, many, all, few)

-- ---- the answer

module _ (format : Format) (q : QueryAsked) (filters columns : List LabelColumn) (fs cs : List Lead) where
  module _ (t : Tables) (filters_led : fs ≡ map (lead_in t) filters) (columns_led : cs ≡ map (lead_in t) columns) where
    over : (result : Result (List (List (List ℕ) × Figures)) ReportFault) → SumsTables format q fs cs t result → SumsTables format q (map (lead_in t) filters) (map (lead_in t) columns) t result
    over result sums = subst₂ (λ a b. SumsTables format q a b t result) filters_led columns_led sums

    pub text_read : (ls : List (List (List ℕ) × Figures)) (text : Vec ℕ Global) → text.items ≡ text_in q.form q.columns ls → SumsTables format q fs cs t (Ok ls) → AnswersTables format q filters columns t (Ok text)
    text_read ls text is sums = let own = over (Ok ls) sums in (is ∙ ap (text_in q.form q.columns) own.0, own.1)

    pub untold_read : (ls : List (List (List ℕ) × Figures)) (why : SaleFault) → IsUntold ls why → SumsTables format q fs cs t (Ok ls) → AnswersTables format q filters columns t (Err (report_fault format why))
    untold_read ls uncounted.Memory untold sums = tt
    untold_read ls (uncounted.NoLabel column) untold sums = absurd untold
    untold_read ls uncounted.Damaged untold sums =
        let own = over (Ok ls) sums in
        inr (refl, subst (λ n. 4_294_967_295 ≤ n) (length-map (values (facts_in format t)) linked) (too_many q (map (lead_in t) filters) (map (lead_in t) columns) (facts_linked format t) ls own.0 untold))

    pub fault_read : (fault : ReportFault) → SumsTables format q fs cs t (Err fault) → AnswersTables format q filters columns t (Err fault)
    fault_read Write sums = tt
    fault_read (Warehouse fault) sums = tt
    fault_read (Unwritten fault) sums = tt
    fault_read (Inconsistent found) sums = over (Err (Inconsistent found)) sums

  module _ (stored : Stored) (filters_led : AreLeads stored filters fs) (columns_led : AreLeads stored columns cs) where
    pub text_stored : (ls : List (List (List ℕ) × Figures)) (text : Vec ℕ Global) → text.items ≡ text_in q.form q.columns ls → SumsStored format q fs cs stored (Ok ls) → AnswersStored format q filters columns stored (Ok text)
    text_stored ls text is sums = record {
      filter_leads = fs;
      column_leads = cs;
      sales = sums.sales;
      filters_all = filters_led;
      columns_all = columns_led;
      sales_all = sums.all;
      is_written = (is ∙ ap (text_in q.form q.columns) sums.summed.0, sums.summed.1);
    }

    pub untold_stored : (ls : List (List (List ℕ) × Figures)) (why : SaleFault) → IsUntold ls why → SumsStored format q fs cs stored (Ok ls) → AnswersStored format q filters columns stored (Err (report_fault format why))
    untold_stored ls uncounted.Memory untold sums = tt
    untold_stored ls (uncounted.NoLabel column) untold sums = absurd untold
    untold_stored ls uncounted.Damaged untold sums = record {
      filter_leads = fs;
      column_leads = cs;
      sales = sums.sales;
      filters_all = filters_led;
      columns_all = columns_led;
      sales_all = sums.all;
      is_written = inr (refl, λ measured. too_many q fs cs sums.sales ls sums.summed.0 untold);
    }

    pub fault_stored : (fault : ReportFault) → SumsStored format q fs cs stored (Err fault) → AnswersStored format q filters columns stored (Err fault)
    fault_stored Write sums = tt
    fault_stored (Warehouse fault) sums = tt
    fault_stored (Unwritten fault) sums = tt
    fault_stored (Inconsistent found) sums =
        record { filter_leads = fs; column_leads = cs; sales = sums.sales; filters_all = filters_led; columns_all = columns_led; sales_all = sums.all; is_written = sums.summed }
