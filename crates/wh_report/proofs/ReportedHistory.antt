-- A report of the tables of accepted commands is that of the history.
use Rattle.std.proofs.Common.{◌≡◌, inl, inr, ℕ, ◌≤◌, ◌&&◌, Bool, true, false, cond, List, [], map, length, Option, Some, None, Result, Ok, Err, IfErr, refl, sym, ◌∙◌, ap, subst, arith}
use Rattle.std.specs.Prelude.{find, filter_map, option_map, unwrap_or, nat_le}
use Rattle.std.specs.FinMap.{values}
use Rattle.std.specs.Option.{option_and_then}
use Rattle.std.specs.List.{AllByRecursion}
use Rattle.std.specs.declared.alloc.Global.{Global}
use Rattle.std.specs.declared.vec.Vec.{Vec}
use Rattle.std.proofs.lemmas.Bool.{and_parts}
use Rattle.std.proofs.lemmas.Bool.Decides.{nat_tests}
use Rattle.sqlite.specs.State.{State, HasCleanDisk}
use Rattle.wh_day.specs.Calendar.{date_row}
use Rattle.wh_day.specs.declared.calendar.DateRow.{DateRow}
use Rattle.wh_policy.specs.declared.attribute.Dim.{Dim}
use Rattle.wh_policy.specs.declared.attribute.Dim.TheVariants.{Product, Store, Customer}
use Rattle.wh_policy.specs.declared.policy.Policy.{Policy}
use Rattle.wh_policy.specs.declared.record.SaleRecord.{SaleRecord}
use Rattle.wh_history.specs.Accepted.{Accepted, policy_after, sold, format_of, standing, withdrawn}
use Rattle.wh_history.specs.Tables.{Limits, dimension_row, fact_of}
use Rattle.wh_history.specs.declared.facts.Fact.{Fact}
use Rattle.wh_history.specs.declared.rows.DimRow.{DimRow}
use Rattle.wh_history.proofs.Basics.{some_is}
use Rattle.wh_rows.specs.Limits.{are_limits}
use Rattle.wh_rows.specs.Facts.{facts_in}
use Rattle.wh_rows.specs.Rows as row
use Rattle.wh_rows.specs.Tables.{Tables}
use Rattle.wh_rows.proofs.Orders.{line_cmp_total}
use Rattle.wh_rows.specs.declared.key.LineKey.{LineKey}
use Rattle.wh_rows.specs.declared.keyed_sale.KeyedSale.{KeyedSale}
use Rattle.wh_rows.specs.declared.rows.ProfileRow.{ProfileRow}
use Rattle.wh_rows.specs.declared.table.Table.{Table}
use Rattle.wh_model.specs.Defined.{AreOf, calendar_at, day_at, fact_at, profile_at}
use Rattle.wh_model.specs.Sound.{IsAccepted}
use Rattle.wh_plan.proofs.FoundRows.{row_key}
use Rattle.wh_plan.proofs.MovedFacts.{fact_keyed}
use Rattle.wh_model.proofs.GrownKeys.{found_is}
use Rattle.wh_model.proofs.GrownProfiles.{profile_keyed}
use Rattle.wh_model.proofs.Formatted.{facts_in_are}
use Rattle.wh_model.proofs.ValidTables.{made_of}
use Rattle.wh_model.proofs.Listed.{len-values}
use Rattle.wh_admission.specs.Admission.{current_policy, AreAdmitted}
use Rattle.wh_engine.specs.Answered.{IsReady}
use Rattle.wh_engine.specs.Scanned.{ReadsThrough, IsServing, IsWanting}
use Rattle.wh_engine.specs.declared.fault.Fault.{Fault}
use Rattle.wh_engine.specs.declared.fault.Fault.TheVariants as faults
use Rattle.wh_engine.specs.declared.session.Session.{Session}
use Rattle.wh_admission.proofs.Admitted.{admitted_sound}
use Rattle.wh_engine.proofs.Decisions.{policy_in_force, sound_in_force}
use Rattle.wh_history.proofs.Standing.{all_standing}
use Rattle.wh_model.proofs.CountedLines.{facts_counted}
use Rattle.wh_model.proofs.CountedSales.{standing_once, standing_counted}
use Rattle.wh_model.proofs.WholeFacts.{on_line}
use Rattle.wh_report.specs.Asked.{Asked}
use Rattle.wh_report.specs.Counting.{counted, sales_of, HasNoLabel}
use Rattle.wh_report.specs.Defined.{AreRowsOf, AreDefined}
use Rattle.wh_report.specs.Joined.{column_of, fact_key}
use Rattle.wh_report.specs.Label.{label, report, text_asked}
use Rattle.wh_report.specs.Laws.{Reads}
use Rattle.wh_report.specs.Output.{IsOfTables, of_warehouse}
use Rattle.wh_report.specs.Reported.{column_asked, rows_of_dim, label_rows, text_at, sold_by_keys, IsInconsistent, ReportsTables, report_of, Reports}
use Rattle.wh_report.specs.Subject.{subject_in, reading_of}
use Rattle.wh_report.specs.Summary.{Sold, summed}
use Rattle.wh_report.specs.Text.{report_text}
use Rattle.wh_report.specs.declared.column.LabelColumn.{LabelColumn}
use Rattle.wh_report.specs.declared.column.LabelColumn.TheVariants.{Main, Second, CurrentMain, FactProfile, CurrentProfile, CalendarMonth, CalendarHoliday}
use Rattle.wh_report.specs.declared.output.ReportFault.{ReportFault}
use Rattle.wh_report.specs.declared.output.ReportFault.TheVariants.{Write, Warehouse, Unwritten, Inconsistent}
use Rattle.wh_report.specs.declared.subject.Reading.{Reading}
use Rattle.wh_report.specs.declared.subject.Subject.{Subject}
use Rattle.wh_report.proofs.DatedSales.{admitted_sales_are_dated}
use Rattle.wh_report.proofs.MappedRows.{are_rows, each_under_key, sums_of_sales}
use Rattle.wh_report.proofs.Summaries.{moved}
use Rattle.wh_report.proofs.ReadReports.{asks_of}
use Rattle.wh_report.proofs.ReportLaws.{counted_as, each_of, sales_labelled}
use Rattle.wh_report.proofs.SummedFacts.{sale_of_fact}

-- ---- sales that come to the same

same_text : (r : Asked) (sales others : List Sold) → summed sales ≡ summed others → text_asked r sales ≡ text_asked r others
unfolding report_text
same_text r sales others same = rw same refl

-- ---- the rows that labels are looked up in

dated_in : (holidays-day : DateRow) (b : Bool) (d : DateRow) → cond b (Some holidays-day) None ≡ Some d → d ≡ holidays-day
dated_in own true d is = sym (some_is own d is)
dated_in own false d is = absurd cc

dated_by : (o : Option Policy) (day : ℕ) (d : DateRow) → option_and_then (λ policy. day_at policy day) o ≡ Some d → d.date_key ≡ day
unfolding date_row
dated_by None day d is = absurd cc
dated_by (Some policy) day d is = ap (λ (own : DateRow). own.date_key) (dated_in (date_row policy.holidays day) _ d is)

module _ (limits : Limits) (commands : List Accepted) (t : Tables) (are : AreOf limits commands t) where
  dim_defined : (dim : Dim) → AreRowsOf (λ r. r.surrogate) (dimension_row commands dim) (rows_of_dim dim t)
  dim_defined Product = are_rows (λ (r : DimRow). r.surrogate) (dimension_row commands Product) (row_key commands Product) t.product are.product
  dim_defined Store = are_rows (λ (r : DimRow). r.surrogate) (dimension_row commands Store) (row_key commands Store) t.store are.store
  dim_defined Customer = are_rows (λ (r : DimRow). r.surrogate) (dimension_row commands Customer) (row_key commands Customer) t.customer are.customer

  profiles_defined : AreRowsOf (λ p. p.number) (profile_at commands) (values t.profile)
  profiles_defined = are_rows (λ (p : ProfileRow). p.number) (profile_at commands) (profile_keyed commands) t.profile are.profile

  days_defined : AreRowsOf (λ d. d.date_key) (calendar_at commands) (values t.calendar)
  days_defined = are_rows (λ (d : DateRow). d.date_key) (calendar_at commands) (dated_by (policy_after None commands)) t.calendar are.calendar

  pub defined : (column : LabelColumn) → AreDefined commands column (label_rows column t)
  defined (Main dim place) = dim_defined dim
  defined (Second dim place) = dim_defined dim
  defined (CurrentMain dim place) = dim_defined dim
  defined (FactProfile place) = profiles_defined
  defined (CurrentProfile place) = (dim_defined Customer, profiles_defined)
  defined CalendarMonth = days_defined
  defined CalendarHoliday = days_defined

-- ---- the facts

pub few_facts : (limits : Limits) → are_limits limits ≡ true → limits.facts ≤ 1_000_000
few_facts limits within =
    let last = and_parts _ (nat_le 1 limits.facts && nat_le limits.facts 1_000_000) within in
    let most = and_parts (nat_le 1 limits.facts) (nat_le limits.facts 1_000_000) last.1 in
    grind (arith, nat_tests)

module _ (limits : Limits) (commands : List Accepted) (admitted : AreAdmitted limits commands) (t : Tables) (are : AreOf limits commands t) (r : Asked) (subject : Subject) (which : Reading) (names : subject_in (current_policy commands) r.words ≡ Some subject) (shows : reading_of subject r.mode ≡ Some which) where
  abbrev column : LabelColumn
  column = column_of subject which

  ok : IsAccepted limits commands
  ok = admitted_sound limits commands admitted

  reads : Reads commands r.words r.mode subject which
  reads = record { policy = current_policy commands; governed = policy_in_force commands ok.governed; sound = sound_in_force limits commands ok; names = names; shows = shows }

  abbrev IsLabelled : SaleRecord → Type 0
  IsLabelled s = text_at column t (fact_key column (fact_of commands s)) ≡ Some (label commands subject which s)

  each_labelled : AllByRecursion IsLabelled (standing commands)
  each_labelled = all_standing IsLabelled (withdrawn commands) (sold commands) (sales_labelled limits commands r.words r.mode subject which (label_rows column t) ok (admitted_sales_are_dated limits commands admitted) reads (defined limits commands t are column))

  told : text_asked r (sold_by_keys (format_of commands) r column t) ≡ report commands subject which r
  told =
      same_text r (sold_by_keys (format_of commands) r column t) (filter_map (counted r column (text_at column t)) (map (fact_of commands) (standing commands))) (sums_of_sales summed moved (counted r column (text_at column t)) limits commands t are (standing_once limits commands ok))
      ∙ ap (text_asked r) (counted_as commands subject which r (text_at column t) (standing commands) each_labelled)

  is_report : report_of commands r ≡ report commands subject which r
  is_report =
      ap (λ o. unwrap_or (option_and_then (λ s. option_map (λ w. report commands s w r) (reading_of s r.mode)) o) []) names
      ∙ ap (λ o. unwrap_or (option_map (λ w. report commands subject w r) o) []) shows

  -- no fact lacks its label
  none_lacks : HasNoLabel (text_at column t) (sales_of r column (values (facts_in (format_of commands) t))) → ⊥
  none_lacks lacks =
      let from = sale_of_fact r column (values (facts_in (format_of commands) t)) lacks.sale lacks.there in
      let f : Fact = from.fact in
      let each = each_under_key row.line_cmp line_cmp_total row.fact.key (fact_at commands) (fact_keyed commands) (facts_in (format_of commands) t) (facts_in_are limits commands t are (format_of commands) refl) in
      let stands = each_of (λ (f : Fact). fact_at commands (row.fact.key f) ≡ Some f) (values (facts_in (format_of commands) t)) f each from.there in
      let key : LineKey = row.fact.key f in
      let made = made_of (fact_of commands) (find (on_line key) (standing commands)) f stands in
      let has : IsLabelled made.0 = found_is IsLabelled (on_line key) (standing commands) made.0 each_labelled made.1 in
      let labelled : text_at column t (fact_key column f) ≡ Some (label commands subject which made.0) = ap (λ (f : Fact). text_at column t (fact_key column f)) made.2 ∙ has in
      let none : text_at column t (fact_key column f) ≡ None = subst (λ (s : KeyedSale). text_at column t s.key ≡ None) from.is lacks.none in
      cc

  -- nor are there too many
  few : 4_294_967_295 ≤ length (values (facts_in (format_of commands) t)) → ⊥
  few many =
      let counts = facts_counted limits commands t are ok (format_of commands) refl in
      let all = standing_counted limits commands ok in
      let same = len-values row.line_cmp (facts_in (format_of commands) t) in
      let most = few_facts limits ok.limited in
      let within = ok.facts_within in
      omega arith

  consistent : (found : Table) → IsInconsistent (format_of commands) r column (text_at column t) (values (facts_in (format_of commands) t)) found → ⊥
  consistent found (inl lacks) = none_lacks lacks.1
  consistent found (inr many) = few many.1

  reported : (result : Result (Vec ℕ Global) ReportFault) → ReportsTables (format_of commands) r column t result → IfErr result IsOfTables → ((fault : Fault) → result ≡ Err (Warehouse fault) → IsWanting fault) → Reports commands r result
  reported (Ok text) says only wants = says.0 ∙ told ∙ sym is_report
  reported (Err (Warehouse fault)) says only wants = wants fault refl
  reported (Err (Inconsistent found)) says only wants = absurd (consistent found says)
  reported (Err (Unwritten fault)) says only wants = absurd only
  reported (Err Write) says only wants = absurd only

-- ---- over an engine that is ready

pub wanting : (limits : Limits) (commands : List Accepted) (fault : Fault) (session : Session) (s : State) → IsServing {A = Unit {0}} limits commands (Err fault) session s → IsWanting fault
wanting limits commands faults.Memory session s serves = tt
wanting limits commands (faults.Store cause) session s serves = tt
wanting limits commands (faults.Refused why) session s serves = absurd (cc serves.0)
wanting limits commands (faults.Damaged table) session s serves = serves
wanting limits commands faults.Reopen session s serves = serves

pub reported_history : (limits : Limits) (commands : List Accepted) (before after : Session) (old new : State) (r : Asked) (column : LabelColumn) (result : Result (Vec ℕ Global) ReportFault)
    → HasCleanDisk new → (ready : IsReady limits commands before old) → column_asked before.policy r ≡ Some column → ReadsThrough before after old new (of_warehouse result)
    → ReportsTables before.format r column ready.rests.tables result → IfErr result IsOfTables → Reports commands r result
reported_history limits commands before after old new r column result clean ready asked reads says only =
    let governed : before.policy ≡ current_policy commands = ap (λ (s : Session). s.policy) ready.session_is in
    let asks = asks_of before.policy r column asked in
    let t : Tables = ready.rests.tables in
    reported limits commands ready.admitted t ready.rests.are r asks.subject asks.which (sym (ap (λ (policy : Policy). subject_in policy r.words) governed) ∙ asks.names) asks.shows result (subst (λ (c : LabelColumn). ReportsTables (format_of commands) r c t result) asks.is (subst (λ (s : Session). ReportsTables s.format r column t result) ready.session_is says)) only
    (λ fault is. wanting limits commands fault after new (subst (λ (a : Result (Vec ℕ Global) ReportFault). IsServing limits commands (of_warehouse a) after new) is (reads.serves clean limits commands ready)))
