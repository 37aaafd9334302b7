-- An answer over the tables of accepted commands is that of the history.
use Rattle.std.proofs.Common.{◌≡◌, inl, inr, ℕ, zero, suc, ◌≤◌, ◌&&◌, true, false, cond, List, [], ◌∷◌, map, length, Option, Some, None, Result, Ok, Err, IfErr, refl, sym, ◌∙◌, ap, subst, arith}
use Rattle.std.specs.Prelude.{find, filter, filter_map, option_map, unwrap_or, Contains}
use Rattle.std.specs.FinMap.{values}
use Rattle.std.specs.Option.{option_and_then}
use Rattle.std.specs.List.{AllByRecursion, cons_option}
use Rattle.std.specs.declared.alloc.Global.{Global}
use Rattle.std.specs.declared.vec.Vec.{Vec}
use Rattle.std.proofs.lemmas.Bool.{and_parts}
use Rattle.std.proofs.lemmas.List.Elements.{Contains-append_right}
use Rattle.sqlite.specs.State.{State, HasCleanDisk}
use Rattle.wh_policy.specs.declared.policy.Policy.{Policy}
use Rattle.wh_policy.specs.declared.record.SaleRecord.{SaleRecord}
use Rattle.wh_history.specs.Accepted.{Accepted, sold, format_of, standing, withdrawn}
use Rattle.wh_history.specs.Tables.{Limits, fact_of}
use Rattle.wh_history.specs.declared.facts.Fact.{Fact}
use Rattle.wh_rows.specs.Facts.{facts_in}
use Rattle.wh_rows.specs.KeyedSales.{key_of}
use Rattle.wh_rows.specs.LinkedSales.{linked, link_of}
use Rattle.wh_rows.specs.Rows as row
use Rattle.wh_rows.specs.Tables.{Tables}
use Rattle.wh_rows.proofs.Orders.{line_cmp_total}
use Rattle.wh_rows.specs.declared.key.LineKey.{LineKey}
use Rattle.wh_rows.specs.declared.keyed_sale.FactColumn.{FactColumn}
use Rattle.wh_rows.specs.declared.keyed_sale.FactColumn.TheVariants.{Surrogate, Durable, Profile, Day}
use Rattle.wh_policy.specs.declared.attribute.Dim.TheVariants.{Product, Store, Customer}
use Rattle.wh_rows.specs.declared.linked_sale.LinkedSale.{LinkedSale}
use Rattle.wh_rows.specs.declared.table.Table.{Table}
use Rattle.wh_model.specs.Defined.{AreOf, fact_at}
use Rattle.wh_model.specs.Sound.{IsAccepted}
use Rattle.wh_plan.proofs.MovedFacts.{fact_keyed}
use Rattle.wh_model.proofs.GrownKeys.{found_is}
use Rattle.wh_model.proofs.Formatted.{facts_in_are}
use Rattle.wh_model.proofs.ValidTables.{made_of}
use Rattle.wh_model.proofs.Listed.{len-values}
use Rattle.wh_admission.specs.Admission.{current_policy, AreAdmitted}
use Rattle.wh_engine.specs.Answered.{IsReady}
use Rattle.wh_engine.specs.Scanned.{ReadsThrough, IsServing, IsWanting}
use Rattle.wh_engine.specs.declared.fault.Fault.{Fault}
use Rattle.wh_engine.specs.declared.session.Session.{Session}
use Rattle.wh_admission.proofs.Admitted.{admitted_sound}
use Rattle.wh_engine.proofs.Decisions.{policy_in_force, sound_in_force}
use Rattle.wh_history.proofs.Standing.{all_standing}
use Rattle.wh_model.proofs.CountedLines.{facts_counted}
use Rattle.wh_model.proofs.CountedSales.{standing_once, standing_counted}
use Rattle.wh_model.proofs.WholeFacts.{on_line}
use Rattle.wh_report.specs.Joined.{column_of, fact_key, label_column_fact_key}
use Rattle.wh_report.specs.Label.{label}
use Rattle.wh_report.specs.Laws.{Reads}
use Rattle.wh_report.specs.Output.{IsOfTables, of_warehouse}
use Rattle.wh_report.specs.Reported.{column_asked, label_rows, text_at}
use Rattle.wh_report.specs.Request.{has_reading}
use Rattle.wh_report.specs.Subject.{subject_in, reading_of}
use Rattle.wh_report.specs.declared.column.LabelColumn.{LabelColumn}
use Rattle.wh_report.specs.declared.output.ReportFault.{ReportFault}
use Rattle.wh_report.specs.declared.output.ReportFault.TheVariants.{Write, Warehouse, Unwritten, Inconsistent}
use Rattle.wh_report.proofs.DatedSales.{admitted_sales_are_dated}
use Rattle.wh_report.proofs.MappedRows.{each_under_key, sums_of_sales}
use Rattle.wh_report.proofs.ReadReports.{Asks, asks_of, column_there}
use Rattle.wh_report.proofs.ReportLaws.{each_of, sales_labelled}
use Rattle.wh_report.proofs.ReportedHistory.{defined, few_facts, wanting}
use Rattle.wh_report.specs.Lines.{Labelled, lines}
use Rattle.wh_report.proofs.AddedLines.{moved}
use Rattle.wh_query.specs.Answer.{label_in, labels_in, is_in, measures_of, answer, text_in}
use Rattle.wh_query.specs.Answered.{columns_asked, lead_in, IsInconsistent, facts_linked, AnswersTables, Answers}
use Rattle.wh_query.specs.Asked.{ColumnAsked, QueryAsked, alone, condition_columns, have_readings, query_reads, is_between, holds}
use Rattle.wh_query.specs.Words.{by_texts}
use Rattle.wh_query.specs.Slice.{Lead, lead_label, lead_labels, with_label, as_some, where_holds, slice_label, sold_with, sold_sale, sold_sales, LacksLabel}
use Rattle.wh_query.proofs.Texts.{texts_total, same_texts}

-- a key of a fact's sale is the fact's
pub link_is : (which : FactColumn) (f : Fact) → link_of which (linked f) ≡ key_of which f
link_is (Surrogate Product) f = refl
link_is (Surrogate Store) f = refl
link_is (Surrogate Customer) f = refl
link_is (Durable Product) f = refl
link_is (Durable Store) f = refl
link_is (Durable Customer) f = refl
link_is Profile f = refl
link_is Day f = refl

-- a column that has a reading
found_column : (policy : Policy) (c : ColumnAsked) → has_reading policy (alone c) ≡ true → (column : LabelColumn) × (column_asked policy (alone c) ≡ Some column)
found_column policy c reads = go (column_asked policy (alone c)) refl
  where
    go : (o : Option LabelColumn) → column_asked policy (alone c) ≡ o → (column : LabelColumn) × (column_asked policy (alone c) ≡ Some column)
    go None none = absurd (column_there policy (alone c) reads none)
    go (Some column) is = (column, is)

-- some of a list is an element that was mapped
mapped_from : {X Y : Type 0} (h : X → Y) (xs : List X) (y : Y) → Contains (map h xs) y → (x : X) × Contains xs x × (y ≡ h x)
mapped_from h [] y there = let within = there.1 in absurd (omega arith)
mapped_from h (x ∷ xs) y (zero, within, is) = (x, (0, omega arith, refl), sym is)
mapped_from h (x ∷ xs) y (suc k, within, is) =
    let rest = mapped_from h xs y (k, omega arith, is) in
    (rest.0, Contains-append_right (x ∷ []) xs rest.0 rest.1, rest.2)

through : {X Y Z : Type 0} (h : Y → Option Z) (g : X → Y) (xs : List X) → filter_map h (map g xs) ≡ filter_map (λ x. h (g x)) xs
through h g [] = refl
through h g (x ∷ xs) = ap (cons_option (h (g x))) (through h g xs)

module _ (limits : Limits) (commands : List Accepted) (admitted : AreAdmitted limits commands) (t : Tables) (are : AreOf limits commands t) where
  ok : IsAccepted limits commands
  ok = admitted_sound limits commands admitted

  abbrev policy : Policy
  policy = current_policy commands

  abbrev sale_of : SaleRecord → LinkedSale
  sale_of s = linked (fact_of commands s)

  -- ---- its labels

  abbrev HasLabel : ColumnAsked → SaleRecord → Type 0
  HasLabel c s = (column : LabelColumn) → column_asked policy (alone c) ≡ Some column → lead_label (lead_in t column) (sale_of s) ≡ Some (label_in commands c s)

  label_is : (c : ColumnAsked) (subject : _) (which : _) (s : SaleRecord) → subject_in policy c.words ≡ Some subject → reading_of subject c.mode ≡ Some which → label_in commands c s ≡ label commands subject which s
  label_is c subject which s names shows =
      ap (λ o. unwrap_or (option_and_then (λ sub. option_map (λ w. label commands sub w s) (reading_of sub c.mode)) o) []) names
      ∙ ap (λ o. unwrap_or (option_map (λ w. label commands subject w s) o) []) shows

  each_label : (c : ColumnAsked) → AllByRecursion (HasLabel c) (standing commands)
  each_label c = go (column_asked policy (alone c)) refl
    where
      none_asked : (sales : List SaleRecord) → column_asked policy (alone c) ≡ None → AllByRecursion (HasLabel c) sales
      none_asked [] none = tt
      none_asked (s ∷ sales) none = (λ column is. absurd cc, none_asked sales none)

      all_asked : (found : LabelColumn) (asks : Asks policy (alone c) found) (sales : List SaleRecord)
          → AllByRecursion (λ s. text_at (column_of asks.subject asks.which) t (fact_key (column_of asks.subject asks.which) (fact_of commands s)) ≡ Some (label commands asks.subject asks.which s)) sales → column_asked policy (alone c) ≡ Some (column_of asks.subject asks.which)
          → AllByRecursion (HasLabel c) sales
      all_asked found asks [] all is = tt
      all_asked found asks (s ∷ sales) all is = (λ column asked. one column (same_column column asked), all_asked found asks sales all.1 is)
        where
          same_column : (column : LabelColumn) → column_asked policy (alone c) ≡ Some column → column_of asks.subject asks.which ≡ column
          same_column column asked = cc

          one : (column : LabelColumn) → column_of asks.subject asks.which ≡ column → lead_label (lead_in t column) (sale_of s) ≡ Some (label_in commands c s)
          one column same =
              subst (λ k. lead_label (lead_in t k) (sale_of s) ≡ Some (label_in commands c s)) same
              (ap (text_at (column_of asks.subject asks.which) t) (link_is (label_column_fact_key (column_of asks.subject asks.which)) (fact_of commands s)) ∙ all.0 ∙ ap Some (sym (label_is c asks.subject asks.which s asks.names asks.shows)))

      go : (o : Option LabelColumn) → column_asked policy (alone c) ≡ o → AllByRecursion (HasLabel c) (standing commands)
      go None none = none_asked (standing commands) none
      go (Some column) is =
          let asks = asks_of policy (alone c) column is in
          let reads : Reads commands c.words c.mode asks.subject asks.which = record { policy = policy; governed = policy_in_force commands ok.governed; sound = sound_in_force limits commands ok; names = asks.names; shows = asks.shows } in
          let own = column_of asks.subject asks.which in
          all_asked column asks (standing commands)
          (all_standing (λ s. text_at own t (fact_key own (fact_of commands s)) ≡ Some (label commands asks.subject asks.which s)) (withdrawn commands) (sold commands)
          (sales_labelled limits commands c.words c.mode asks.subject asks.which (label_rows own t) ok (admitted_sales_are_dated limits commands admitted) reads (defined limits commands t are own)))
          (is ∙ ap Some asks.is)

  -- in several columns
  abbrev HaveLabels : List ColumnAsked → SaleRecord → Type 0
  HaveLabels columns s = lead_labels (map (lead_in t) (columns_asked policy columns)) (sale_of s) ≡ Ok (labels_in commands columns s)

  labels_more : (c : ColumnAsked) (columns : List ColumnAsked) (s : SaleRecord) → has_reading policy (alone c) ≡ true → HasLabel c s → HaveLabels columns s → HaveLabels (c ∷ columns) s
  labels_more c columns s reads own rest =
      let column = found_column policy c reads in
      ap (λ o. lead_labels (map (lead_in t) (cons_option o (columns_asked policy columns))) (sale_of s)) column.1
      ∙ ap (λ o. with_label column.0 o (lead_labels (map (lead_in t) (columns_asked policy columns)) (sale_of s))) (own column.0 column.1)
      ∙ ap (with_label column.0 (Some (label_in commands c s))) rest

  have_labels : (columns : List ColumnAsked) → have_readings policy columns ≡ true → (sales : List SaleRecord) → ((c : ColumnAsked) → AllByRecursion (HasLabel c) sales) → AllByRecursion (HaveLabels columns) sales
  have_labels columns reads [] all = tt
  have_labels columns reads (s ∷ sales) all = (here columns reads, have_labels columns reads sales (λ c. (all c).1))
    where
      here : (columns : List ColumnAsked) → have_readings policy columns ≡ true → HaveLabels columns s
      here [] reads = refl
      here (c ∷ columns) reads =
          let parts = and_parts (has_reading policy (alone c)) (have_readings policy columns) reads in
          labels_more c columns s parts.0 (all c).0 (here columns parts.1)

  module _ (q : QueryAsked) (reads : query_reads policy q ≡ true) where
    abbrev filters : List Lead
    filters = map (lead_in t) (columns_asked policy (condition_columns q.conditions))

    abbrev columns : List Lead
    columns = map (lead_in t) (columns_asked policy q.columns)

    -- ---- which sales are in the slice, and under which labels

    abbrev shown : SaleRecord → Option (List (List ℕ))
    shown s = cond (holds q.conditions (labels_in commands (condition_columns q.conditions) s)) (Some (labels_in commands q.columns s)) None

    abbrev IsShown : SaleRecord → Type 0
    IsShown s = slice_label q.conditions filters columns (sale_of s) ≡ Ok (shown s)

    is_shown : (s : SaleRecord) → HaveLabels (condition_columns q.conditions) s → HaveLabels q.columns s → IsShown s
    is_shown s own labels =
        ap (λ o. where_holds q.conditions o (lead_labels columns (sale_of s))) own
        ∙ ap (λ o. where_holds q.conditions (Ok (labels_in commands (condition_columns q.conditions) s)) o) labels
        ∙ elim (holds q.conditions (labels_in commands (condition_columns q.conditions) s)) as (λ b. cond b (as_some (Ok (labels_in commands q.columns s))) (Ok None) ≡ Ok (cond b (Some (labels_in commands q.columns s)) None)) [ true ↦ refl | false ↦ refl ]

    both_shown : (sales : List SaleRecord) → AllByRecursion (HaveLabels (condition_columns q.conditions)) sales → AllByRecursion (HaveLabels q.columns) sales → AllByRecursion IsShown sales
    both_shown [] own labels = tt
    both_shown (s ∷ sales) own labels = (is_shown s own.0 labels.0, both_shown sales own.1 labels.1)

    each_shown : AllByRecursion IsShown (standing commands)
    each_shown =
        let parts = and_parts (have_readings policy q.columns) (have_readings policy (condition_columns q.conditions)) reads in
        both_shown (standing commands) (have_labels (condition_columns q.conditions) parts.1 (standing commands) each_label) (have_labels q.columns parts.0 (standing commands) each_label)

    abbrev with_labels : SaleRecord → Labelled (List (List ℕ))
    with_labels s = record { label = labels_in commands q.columns s; measures = measures_of s }

    sold_as_shown : (sales : List SaleRecord) → AllByRecursion IsShown sales → filter_map (λ s. sold_sale q filters columns (sale_of s)) sales ≡ map with_labels (filter (is_in commands q) sales)
    sold_as_shown [] all = refl
    sold_as_shown (s ∷ sales) all =
        let rest = sold_as_shown sales all.1 in
        let m = measures_of s in
        let h = holds q.conditions (labels_in commands (condition_columns q.conditions) s) in
        ap (λ o. cons_option (cond (is_between q s.day) (sold_with m o) None) (filter_map (λ s. sold_sale q filters columns (sale_of s)) sales)) all.0
        ∙ ap (cons_option (cond (is_between q s.day) (sold_with m (Ok (cond h (Some (labels_in commands q.columns s)) None))) None)) rest
        ∙ elim (is_between q s.day) as (λ b. cons_option (cond b (sold_with m (Ok (cond h (Some (labels_in commands q.columns s)) None))) None) (map with_labels (filter (is_in commands q) sales)) ≡ map with_labels (cond (b && h) (s ∷ filter (is_in commands q) sales) (filter (is_in commands q) sales))) [
          | true ↦ elim h as (λ k. cons_option (sold_with m (Ok (cond k (Some (labels_in commands q.columns s)) None))) (map with_labels (filter (is_in commands q) sales)) ≡ map with_labels (cond k (s ∷ filter (is_in commands q) sales) (filter (is_in commands q) sales))) [ true ↦ refl | false ↦ refl ]
          | false ↦ refl
        ]

    facts_sold : lines by_texts (sold_sales q filters columns (facts_linked (format_of commands) t)) ≡ answer commands q
    facts_sold =
        ap (lines by_texts) (through (sold_sale q filters columns) linked (values (facts_in (format_of commands) t)))
        ∙ sums_of_sales (lines by_texts) (moved by_texts texts_total same_texts) (λ f. sold_sale q filters columns (linked f)) limits commands t are (standing_once limits commands ok)
        ∙ ap (lines by_texts) (through (λ f. sold_sale q filters columns (linked f)) (fact_of commands) (standing commands))
        ∙ ap (lines by_texts) (sold_as_shown (standing commands) each_shown)

    -- ---- no fact lacks a label, nor are there too many

    none_lacks : (column : LabelColumn) → LacksLabel q filters columns column (facts_linked (format_of commands) t) → ⊥
    none_lacks column lacks =
        let from = mapped_from linked (values (facts_in (format_of commands) t)) lacks.sale lacks.there in
        let f : Fact = from.0 in
        let each = each_under_key row.line_cmp line_cmp_total row.fact.key (fact_at commands) (fact_keyed commands) (facts_in (format_of commands) t) (facts_in_are limits commands t are (format_of commands) refl) in
        let stands = each_of (λ (f : Fact). fact_at commands (row.fact.key f) ≡ Some f) (values (facts_in (format_of commands) t)) f each from.1 in
        let key : LineKey = row.fact.key f in
        let made = made_of (fact_of commands) (find (on_line key) (standing commands)) f stands in
        let has : IsShown made.0 = found_is IsShown (on_line key) (standing commands) made.0 each_shown made.1 in
        let shows : slice_label q.conditions filters columns (linked f) ≡ Ok (shown made.0) = ap (λ (f : Fact). slice_label q.conditions filters columns (linked f)) made.2 ∙ has in
        let none : slice_label q.conditions filters columns (linked f) ≡ Err column = subst (λ (s : LinkedSale). slice_label q.conditions filters columns s ≡ Err column) from.2 lacks.lacks in
        cc

    few : 4_294_967_295 ≤ length (values (facts_in (format_of commands) t)) → ⊥
    few many =
        let counts = facts_counted limits commands t are ok (format_of commands) refl in
        let all = standing_counted limits commands ok in
        let same = len-values row.line_cmp (facts_in (format_of commands) t) in
        let most = few_facts limits ok.limited in
        let within = ok.facts_within in
        omega arith

    consistent : (found : Table) → IsInconsistent (format_of commands) q filters columns (facts_linked (format_of commands) t) (4_294_967_295 ≤ length (values (facts_in (format_of commands) t))) found → ⊥
    consistent found (inl lacks) = none_lacks lacks.0 lacks.2
    consistent found (inr many) = few many.1

    answered : (result : Result (Vec ℕ Global) ReportFault) → AnswersTables (format_of commands) q (columns_asked policy (condition_columns q.conditions)) (columns_asked policy q.columns) t result → IfErr result IsOfTables → ((fault : Fault) → result ≡ Err (Warehouse fault) → IsWanting fault)
        → Answers commands q result
    answered (Ok text) says only wants = says.0 ∙ ap (text_in q.form q.columns) facts_sold
    answered (Err (Warehouse fault)) says only wants = wants fault refl
    answered (Err (Inconsistent found)) says only wants = absurd (consistent found says)
    answered (Err (Unwritten fault)) says only wants = absurd only
    answered (Err Write) says only wants = absurd only

-- ---- over an engine that is ready

pub answered_history : (limits : Limits) (commands : List Accepted) (before after : Session) (old new : State) (q : QueryAsked) (result : Result (Vec ℕ Global) ReportFault)
    → HasCleanDisk new → (ready : IsReady limits commands before old) → query_reads before.policy q ≡ true → ReadsThrough before after old new (of_warehouse result)
    → AnswersTables before.format q (columns_asked before.policy (condition_columns q.conditions)) (columns_asked before.policy q.columns) ready.rests.tables result → IfErr result IsOfTables → Answers commands q result
answered_history limits commands before after old new q result clean ready reads through says only =
    answered limits commands ready.admitted ready.rests.tables ready.rests.are q
    (subst (λ (s : Session). query_reads s.policy q ≡ true) ready.session_is reads)
    result
    (subst (λ (s : Session). AnswersTables s.format q (columns_asked s.policy (condition_columns q.conditions)) (columns_asked s.policy q.columns) ready.rests.tables result) ready.session_is says)
    only
    (λ fault is. wanting limits commands fault after new (subst (λ (a : Result (Vec ℕ Global) ReportFault). IsServing limits commands (of_warehouse a) after new) is (through.serves clean limits commands ready)))
