-- Laws of every query.
use Rattle.std.proofs.Common.{◌≡◌, ℕ, Bool, true, false, cond, ◌&&◌, ◌||◌, List, [], ◌∷◌, map, Some, refl, sym, ◌∙◌, ap, ap₂, append_assoc}
use Rattle.std.specs.Prelude.{◌++◌, codes, filter, bytes_eq, option_map, unwrap_or}
use Rattle.std.specs.Option.{option_and_then}
use Rattle.std.specs.Ordering.{ordering_then}
use Rattle.std.specs.declared.cmp.Ordering.TheVariants.{Less, Equal, Greater}
use Rattle.std.specs.Cmp.Lexicographic.{nat_list_eq_equiv}
use Rattle.std.proofs.lemmas.Cmp.{nat_list_cmp_total, tied_itself}
use Rattle.std.proofs.lemmas.Slice.Eq.{bytes_eq-Decides}
use Rattle.wh_policy.specs.declared.record.SaleRecord.{SaleRecord}
use Rattle.wh_history.specs.Accepted.{Accepted, standing}
use Rattle.wh_admission.specs.Admission.{current_policy}
use Rattle.wh_report.specs.Asked.{Asked}
use Rattle.wh_report.specs.Label.{label, sold_as_asked}
use Rattle.wh_report.specs.Request.{is_asked_of}
use Rattle.wh_report.specs.Subject.{subject_in, reading_of}
use Rattle.wh_report.specs.Sums.{Figures, plus}
use Rattle.wh_report.specs.Text.{line_text, lines_text, summary_text, titles}
use Rattle.wh_report.specs.Summary.{Sold, by_bytes, summed}
use Rattle.wh_batch.specs.Mode.{mode_word}
use Rattle.wh_report.specs.declared.subject.Reading.{Reading}
use Rattle.wh_report.specs.declared.subject.Subject.{Subject}
use Rattle.wh_report.specs.Laws.{total_line}
use Rattle.wh_report.specs.Lines.{Labelled, added, figures, lines}
use Rattle.wh_report.proofs.AddedLines.{as_sorted, up-lines, any_order as in_any_order, lines_add_up as add_up}
use Rattle.wh_report.proofs.TextMaps.{same_label}
use Rattle.wh_report.proofs.MappedLines.{relabel, lines-map, has_such, lines-filter}
use Rattle.wh_query.specs.Answer.{label_in, labels_in, is_in, measures_of, sold_in, answer}
use Rattle.wh_query.specs.Asked.{ColumnAsked, ConditionAsked, QueryAsked, condition_columns, report_asked, same_column, accepts, holds_from, holds, is_between, column_name}
use Rattle.wh_query.specs.Laws.{ReportsAreQueries, LinesAddUp, measures_in, by_columns, SumsAgree, TablesEndWithTotals, TablesAreReports, sliced, by_column, begins, IsFree, SlicesAreLines, AnyOrder, LinesRise}
use Rattle.wh_query.specs.Table.{in_columns, side_by_side, table_text}
use Rattle.wh_query.specs.Words.{by_texts}
use Rattle.wh_query.specs.declared.form.Form.{Form}
use Rattle.wh_query.specs.declared.form.Form.TheVariants.{Table}
use Rattle.wh_query.proofs.Texts.{texts_total, same_texts}

pub any_order : AnyOrder
any_order sales others same = in_any_order by_texts texts_total same_texts sales others same

-- ---- order

pub lines_rise : LinesRise
lines_rise commands q = as_sorted by_texts texts_total same_texts (map (λ (l : List (List ℕ) × Figures). l.0) (answer commands q)) (up-lines by_texts texts_total same_texts (sold_in commands q))

-- ---- sums

measured : (commands : List Accepted) (columns : List ColumnAsked) (sales : List SaleRecord) → map (λ (s : Labelled (List (List ℕ))). s.measures) (map (λ (s : SaleRecord). record { label = labels_in commands columns s; measures = measures_of s }) sales) ≡ map measures_of sales
measured commands columns [] = refl
measured commands columns (s ∷ sales) = ap (λ ms. measures_of s ∷ ms) (measured commands columns sales)

pub lines_add_up : LinesAddUp
lines_add_up commands q = add_up by_texts texts_total same_texts (sold_in commands q) ∙ ap figures (measured commands q.columns (filter (is_in commands q) (standing commands)))

pub sums_agree : SumsAgree
sums_agree commands q columns = lines_add_up commands (by_columns columns q) ∙ sym (lines_add_up commands q)

-- ---- a report is a query

pub report_lines : (sales : List Sold) → (summed sales).lines ≡ lines by_bytes sales
unfolding summed
report_lines sales = refl

alone_same : (a b : List ℕ) → by_texts (a ∷ []) (b ∷ []) ≡ by_bytes a b
alone_same a b = elim (by_bytes a b) as (λ o. ordering_then o Equal ≡ o) [ Less ↦ refl | Equal ↦ refl | Greater ↦ refl ]

module _ (commands : List Accepted) (c : ColumnAsked) (from to : ℕ) (form : Form) (subject : Subject) (which : Reading) (names : subject_in (current_policy commands) c.words ≡ Some subject) (shows : reading_of subject c.mode ≡ Some which) where
  abbrev q : QueryAsked
  q = record { columns = c ∷ []; conditions = []; from = from; to = to; form = form }

  abbrev by_one : List ℕ → List (List ℕ)
  by_one l = l ∷ []

  label_is : (s : SaleRecord) → label_in commands c s ≡ label commands subject which s
  label_is s =
      ap (λ o. unwrap_or (option_and_then (λ sub. option_map (λ w. label commands sub w s) (reading_of sub c.mode)) o) []) names
      ∙ ap (λ o. unwrap_or (option_map (λ w. label commands subject w s) o) []) shows

  abbrev sold_one : SaleRecord → Sold
  sold_one s = record { label = label commands subject which s; measures = measures_of s }

  same_sold : (sales : List SaleRecord) → map (λ (s : SaleRecord). record { label = labels_in commands (c ∷ []) s; measures = measures_of s }) (filter (is_in commands q) sales)
      ≡ map (relabel by_bytes by_texts by_one alone_same) (map sold_one (filter (λ (s : SaleRecord). is_asked_of (report_asked q c) s.day) sales))
  same_sold [] = refl
  same_sold (s ∷ sales) =
      let rest = same_sold sales in
      elim (is_between q s.day) as (λ b. map (λ (s : SaleRecord). record { label = labels_in commands (c ∷ []) s; measures = measures_of s }) (cond (b && true) (s ∷ filter (is_in commands q) sales) (filter (is_in commands q) sales))
      ≡ map (relabel by_bytes by_texts by_one alone_same) (map sold_one (cond b (s ∷ filter (λ (s : SaleRecord). is_asked_of (report_asked q c) s.day) sales) (filter (λ (s : SaleRecord). is_asked_of (report_asked q c) s.day) sales)))) [
        | true ↦ ap₂ ◌∷◌ (ap (λ l. record { label = l ∷ []; measures = measures_of s }) (label_is s)) rest
        | false ↦ rest
      ]

  is_report : answer commands q ≡ map (λ (l : List ℕ × Figures). (l.0 ∷ [], l.1)) (summed (sold_as_asked commands subject which (report_asked q c))).lines
  is_report =
      ap (lines by_texts) (same_sold (standing commands))
      ∙ lines-map by_bytes by_texts by_one alone_same (sold_as_asked commands subject which (report_asked q c))
      ∙ ap (map (λ (l : List ℕ × Figures). (l.0 ∷ [], l.1))) (sym (report_lines (sold_as_asked commands subject which (report_asked q c))))

pub reports_are_queries : ReportsAreQueries
reports_are_queries commands c from to form subject which names shows = is_report commands c from to form subject which names shows

-- ---- tables

pub tables_end : TablesEndWithTotals
unfolding table_text summary_text total_line
tables_end commands q =
    let ls = answer commands q in
    let top : List ℕ = titles (in_columns (map column_name q.columns)) in
    let rows : List ℕ = lines_text (side_by_side ls) in
    record {
      front = top ++ rows;
      is = ap (λ (t : Figures). top ++ (rows ++ line_text (codes "total") t)) (lines_add_up commands q) ∙ sym (append_assoc top rows (line_text (codes "total") (figures (measures_in commands q))));
    }

abbrev each_alone : List (List ℕ × Figures) → List (List (List ℕ) × Figures)
each_alone = map (λ (l : List ℕ × Figures). (l.0 ∷ [], l.1))

shown_alone : (ls : List (List ℕ × Figures)) → side_by_side (each_alone ls) ≡ ls
shown_alone [] = refl
shown_alone (l ∷ ls) = ap (λ xs. l ∷ xs) (shown_alone ls)

added_alone : (ls : List (List ℕ × Figures)) → added (each_alone ls) ≡ added ls
added_alone [] = refl
added_alone (l ∷ ls) = ap (plus l.1) (added_alone ls)

report_total : (sales : List Sold) → added (summed sales).lines ≡ (summed sales).total
unfolding summed
report_total sales = add_up by_bytes nat_list_cmp_total same_label sales

pub tables_are_reports : TablesAreReports
unfolding table_text
tables_are_reports commands c from to subject which names shows =
    let r : Asked = record { words = c.words; mode = c.mode; from = from; to = to } in
    let s = summed (sold_as_asked commands subject which r) in
    ap (λ ls. titles (column_name c) ++ summary_text (record { lines = side_by_side ls; total = added ls })) (is_report commands c from to Table subject which names shows)
    ∙ ap₂ (λ ls t. titles (column_name c) ++ summary_text (record { lines = ls; total = t })) (shown_alone s.lines) (added_alone s.lines ∙ report_total (sold_as_asked commands subject which r))

-- ---- slices

module _ (commands : List Accepted) (q : QueryAsked) (c : ColumnAsked) (x : List ℕ) (free : IsFree c q.conditions) where
  abbrev first : ConditionAsked
  first = record { column = c; label = x }

  turned_column : (a b : ColumnAsked) → same_column a b ≡ same_column b a
  turned_column a b = ap₂ ◌&&◌ (nat_list_eq_equiv.symm a.words b.words) (nat_list_eq_equiv.symm (mode_word a.mode) (mode_word b.mode))

  own_column : same_column c c ≡ true
  own_column = ap₂ ◌&&◌ ((bytes_eq-Decides c.words c.words).1 refl) ((bytes_eq-Decides (mode_word c.mode) (mode_word c.mode)).1 refl)

  and_false : (a : Bool) → (a && false) ≡ false
  and_false true = refl
  and_false false = refl

  and_true : (a : Bool) → (a && true) ≡ a
  and_true true = refl
  and_true false = refl

  or_none : (a : Bool) → (a || false) ≡ a
  or_none true = refl
  or_none false = refl

  none_accepts : (ds : List ConditionAsked) (l : List ℕ) → IsFree c ds → accepts ds c l ≡ false
  none_accepts [] l free = refl
  none_accepts (d ∷ ds) l free =
      ap (λ b. (bytes_eq d.label l && b) || accepts ds c l) free.0 ∙ ap (λ b. b || accepts ds c l) (and_false (bytes_eq d.label l)) ∙ none_accepts ds l free.1

  first_accepts : (l : List ℕ) → accepts (first ∷ q.conditions) c l ≡ bytes_eq x l
  first_accepts l =
      ap (λ b. (bytes_eq x l && b) || accepts q.conditions c l) own_column
      ∙ ap (λ b. (bytes_eq x l && true) || b) (none_accepts q.conditions l free)
      ∙ or_none (bytes_eq x l && true) ∙ and_true (bytes_eq x l)

  others_accept : (d : ConditionAsked) (l : List ℕ) → same_column d.column c ≡ false → accepts (first ∷ q.conditions) d.column l ≡ accepts q.conditions d.column l
  others_accept d l apart =
      ap (λ b. (bytes_eq x l && b) || accepts q.conditions d.column l) (turned_column c d.column ∙ apart)
      ∙ ap (λ b. b || accepts q.conditions d.column l) (and_false (bytes_eq x l))

  others_hold : (ds : List ConditionAsked) (ls : List (List ℕ)) → IsFree c ds → holds_from (first ∷ q.conditions) ds ls ≡ holds_from q.conditions ds ls
  others_hold [] ls free = refl
  others_hold (d ∷ ds) [] free = refl
  others_hold (d ∷ ds) (l ∷ ls) free = ap₂ ◌&&◌ (others_accept d l free.0) (others_hold ds ls free.1)

  abbrev held : SaleRecord → Bool
  held s = holds q.conditions (labels_in commands (condition_columns q.conditions) s)

  is_in_slice : (s : SaleRecord) → is_in commands (sliced c x q) s ≡ (is_between q s.day && (bytes_eq x (label_in commands c s) && held s))
  is_in_slice s = ap₂ (λ a b. is_between q s.day && (a && b)) (first_accepts (label_in commands c s)) (others_hold q.conditions (labels_in commands (condition_columns q.conditions) s) free)

  abbrev after_first : List (List ℕ) → List (List ℕ)
  after_first ls = x ∷ ls

  same_after : (a b : List (List ℕ)) → by_texts (x ∷ a) (x ∷ b) ≡ by_texts a b
  same_after a b = ap (λ o. ordering_then o (by_texts a b)) (tied_itself nat_list_cmp_total x)

  abbrev by_own : SaleRecord → Labelled (List (List ℕ))
  by_own s = record { label = labels_in commands q.columns s; measures = measures_of s }

  abbrev by_more : SaleRecord → Labelled (List (List ℕ))
  by_more s = record { label = labels_in commands (c ∷ q.columns) s; measures = measures_of s }

  same_sales : (sales : List SaleRecord) → map (relabel by_texts by_texts after_first same_after) (map by_own (filter (is_in commands (sliced c x q)) sales)) ≡ filter (has_such by_texts texts_total same_texts (begins x)) (map by_more (filter (is_in commands (by_column c q)) sales))
  same_sales [] = refl
  same_sales (s ∷ sales) =
      let rest = same_sales sales in
      let l = label_in commands c s in
      let own_rest = filter (is_in commands (sliced c x q)) sales in
      let more_rest = filter (is_in commands (by_column c q)) sales in
      ap (λ b. map (relabel by_texts by_texts after_first same_after) (map by_own (cond b (s ∷ own_rest) own_rest))) (is_in_slice s)
      ∙ elim (is_between q s.day) as (λ b. map (relabel by_texts by_texts after_first same_after) (map by_own (cond (b && (bytes_eq x l && held s)) (s ∷ own_rest) own_rest)) ≡ filter (has_such by_texts texts_total same_texts (begins x)) (map by_more (cond (b && held s) (s ∷ more_rest) more_rest))) [
        | false ↦ rest
        | true ↦ elim (held s) as (λ h. map (relabel by_texts by_texts after_first same_after) (map by_own (cond (bytes_eq x l && h) (s ∷ own_rest) own_rest)) ≡ filter (has_such by_texts texts_total same_texts (begins x)) (map by_more (cond h (s ∷ more_rest) more_rest))) [
          | false ↦ ap (λ b. map (relabel by_texts by_texts after_first same_after) (map by_own (cond b (s ∷ own_rest) own_rest))) (and_false (bytes_eq x l)) ∙ rest
          | true ↦
              ap (λ b. map (relabel by_texts by_texts after_first same_after) (map by_own (cond b (s ∷ own_rest) own_rest))) (and_true (bytes_eq x l) ∙ nat_list_eq_equiv.symm x l)
              ∙ elim (bytes_eq l x) as (λ b. (bytes_eq l x ≡ b) → map (relabel by_texts by_texts after_first same_after) (map by_own (cond b (s ∷ own_rest) own_rest))
              ≡ cond b (by_more s ∷ filter (has_such by_texts texts_total same_texts (begins x)) (map by_more more_rest)) (filter (has_such by_texts texts_total same_texts (begins x)) (map by_more more_rest))) [
                | true ↦ λ e. ap₂ ◌∷◌ (ap (λ k. record { label = k ∷ labels_in commands q.columns s; measures = measures_of s }) (sym ((bytes_eq-Decides l x).0 e))) rest
                | false ↦ λ e. rest
              ] refl
        ]
      ]

  are_lines : map (λ (l : List (List ℕ) × Figures). (x ∷ l.0, l.1)) (answer commands (sliced c x q)) ≡ filter (λ (l : List (List ℕ) × Figures). begins x l.0) (answer commands (by_column c q))
  are_lines =
      sym (lines-map by_texts by_texts after_first same_after (sold_in commands (sliced c x q)))
      ∙ ap (lines by_texts) (same_sales (standing commands))
      ∙ lines-filter by_texts texts_total same_texts (begins x) (sold_in commands (by_column c q))

pub slices_are_lines : SlicesAreLines
slices_are_lines commands q c label free = are_lines commands q c label free
