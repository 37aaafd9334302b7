-- What holds of the faults that are listed.
use Rattle.std.proofs.Common.{◌≡◌, ℕ, ◌+◌, ◌<◌, ◌≤◌, Bool, true, false, cond, eqb, ltb, List, [], ◌∷◌, ◌++◌, length, map, filter, Result, Ok, Err, refl, sym, ap, ◌∙◌, append_assoc, arith}
use Rattle.std.specs.List.{AllByRecursion}
use Rattle.std.specs.Result.{result_err}
use Rattle.std.specs.Str.{bytes_eq}
use Rattle.std.specs.Cmp.Lexicographic.{pointwise}
use Rattle.std.proofs.lemmas.Bool.{eqb-true, ltb-true, ltb-false, lt-ltb, le-ltb, ltb_from_iff}
use Rattle.std.proofs.lemmas.Bool.Decides.{Decides-eqb}
use Rattle.std.proofs.lemmas.List.{append-nil}
use Rattle.std.proofs.lemmas.List.Elements.{filter-append}
use Rattle.csv.specs.Reading.{records, default_config, strip_bom}
use Rattle.wh_day.specs.Reading.{◌>>=◌}
use Rattle.wh_policy.specs.Policy.{policy_attributes}
use Rattle.wh_policy.specs.declared.format.Format.{Format}
use Rattle.wh_policy.specs.declared.format.Format.TheVariants.{One, Two}
use Rattle.wh_policy.specs.declared.policy.Policy.{Policy}
use Rattle.wh_batch.specs.declared.fault.FaultKind.{FaultKind}
use Rattle.wh_batch.specs.declared.fault.FaultKind.TheVariants.{TooLarge, WrongHeader}
use Rattle.wh_batch.specs.declared.kind.BatchKind.{BatchKind}
use Rattle.wh_batch.specs.declared.kind.BatchKind.TheVariants.{Dimension, Sales, Voids}
use Rattle.wh_batch.specs.declared.listed.RecordFault.{RecordFault}
use Rattle.wh_batch.specs.Rows.{Table}
use Rattle.wh_batch.specs.Columns.{Column, names}
use Rattle.wh_batch.specs.Batch.{Key, Layout, at, numbered, next_record, records_after, below_header, batch_of}
use Rattle.wh_batch.specs.Layouts.{dimension_layout, dimension_records, sales_layout, sale_records, voids_layout, void_records, records_of}
use Rattle.wh_batch.specs.Faults.{whole, fault_of_row, key_of_row, wrong_header, faults_after, faults_below_header, faults_of, faults_of_kind}
use Rattle.wh_batch.specs.Laws.{first, FirstIsRead, keys_of, ListsEachRow, Ascends, ListsInOrder}
use Rattle.wh_batch.proofs.GoodLemmas.{taken}
use Rattle.wh_batch.proofs.ColumnLemmas.{same-fault}

-- the rows below the header
first-after : {R : Type 0} (layout : Layout R) (earlier : List Key) (number : ℕ) (rows : Table) → first (faults_after layout earlier number rows) ≡ result_err (records_after layout earlier number rows)
unfolding faults_after records_after
first-after layout earlier number [] = refl
first-after {R} layout earlier number (fields ∷ rows) = by_record (ltb 5000 number) (next_record layout earlier fields) refl (λ keys. first-after layout keys (number + 1) rows)
  where
    by_record : (b : Bool) (read : Result R FaultKind) → read ≡ next_record layout earlier fields
        → ((keys : List Key) → first (faults_after layout keys (number + 1) rows) ≡ result_err (records_after layout keys (number + 1) rows))
        → first (cond b (whole number TooLarge ∷ []) (fault_of_row layout.columns number fields read ++ faults_after layout (earlier ++ key_of_row layout fields) (number + 1) rows))
        ≡ result_err (cond b (Err (at number TooLarge)) (numbered number read >>= λ entry. records_after layout (earlier ++ layout.key entry ∷ []) (number + 1) rows >>= λ others. Ok (entry ∷ others)))
    by_record true read same rest = refl
    by_record false (Err kind) same rest = refl
    by_record false (Ok entry) same rest =
        rw (taken layout earlier fields entry (sym same)).read
        (rest (earlier ++ layout.key entry ∷ []) ∙ sym (same-fault (records_after layout (earlier ++ layout.key entry ∷ []) (number + 1) rows) _))

first-below : {R : Type 0} (layout : Layout R) (table : Table) → first (faults_below_header layout table) ≡ result_err (below_header layout table)
unfolding faults_below_header below_header
first-below layout [] = refl
first-below layout (header ∷ rows) = by_header (pointwise bytes_eq header (names layout.columns))
  where
    by_header : (b : Bool) → first (cond b (faults_after layout [] 1 rows) (wrong_header header (names layout.columns) ∷ [])) ≡ result_err (cond b (records_after layout [] 1 rows) (Err (at 0 WrongHeader)))
    by_header true = first-after layout [] 1 rows
    by_header false = refl

first-batch : {R : Type 0} (layout : Layout R) → FirstIsRead (faults_of layout) (batch_of layout)
unfolding faults_of batch_of
first-batch layout bytes = by_size (ltb 1000000 (length bytes))
  where
    by_size : (b : Bool) → first (cond b (whole 0 TooLarge ∷ []) (faults_below_header layout (records default_config (strip_bom bytes)))) ≡ result_err (cond b (Err (at 0 TooLarge)) (below_header layout (records default_config (strip_bom bytes))))
    by_size true = refl
    by_size false = first-below layout (records default_config (strip_bom bytes))

pub first-is-read : (kind : BatchKind) (policy : Policy) (format : Format) → FirstIsRead (faults_of_kind kind policy format) (records_of kind policy format)
unfolding faults_of_kind records_of dimension_records sale_records void_records
first-is-read (Dimension dim) policy format bytes = first-batch (dimension_layout (policy_attributes policy dim)) bytes ∙ sym (same-fault (batch_of (dimension_layout (policy_attributes policy dim)) bytes) _)
first-is-read Sales policy format bytes = first-batch (sales_layout format policy.years) bytes ∙ sym (same-fault (batch_of (sales_layout format policy.years) bytes) _)
first-is-read Voids policy One bytes = refl
first-is-read Voids policy Two bytes = first-batch voids_layout bytes ∙ sym (same-fault (batch_of voids_layout bytes) _)

eqb-same : (n : ℕ) → eqb n n ≡ true
eqb-same n = (Decides-eqb n n).1 refl

eqb-other : (a b : ℕ) → (a ≡ b → ⊥) → eqb a b ≡ false
eqb-other a b other = by_test (eqb a b) refl
  where
    by_test : (t : Bool) → t ≡ eqb a b → t ≡ false
    by_test true same = absurd (other (eqb-true a b (sym same)))
    by_test false same = refl

-- the faults with this number
abbrev numbered_as : ℕ → List RecordFault → List RecordFault
numbered_as n found = filter (λ f. eqb f.fault.number n) found

here : {R : Type 0} (columns : List Column) (number : ℕ) (fields : List (List ℕ)) (read : Result R FaultKind) → numbered_as number (fault_of_row columns number fields read) ≡ fault_of_row columns number fields read
here columns number fields (Ok entry) = refl
here columns number fields (Err kind) = rw (eqb-same number) refl

elsewhere : {R : Type 0} (columns : List Column) (number m : ℕ) (fields : List (List ℕ)) (read : Result R FaultKind) → (number ≡ m → ⊥) → numbered_as m (fault_of_row columns number fields read) ≡ []
elsewhere columns number m fields (Ok entry) other = refl
elsewhere columns number m fields (Err kind) other = rw (eqb-other number m other) refl

-- the rows after it have other numbers
later : {R : Type 0} (layout : Layout R) (earlier : List Key) (number m : ℕ) (rows : Table) → m < number → numbered_as m (faults_after layout earlier number rows) ≡ []
unfolding faults_after
later layout earlier number m [] less = refl
later layout earlier number m (fields ∷ rows) less = by_size (ltb 5000 number) (λ e. omega arith) (later layout (earlier ++ key_of_row layout fields) (number + 1) m rows (omega arith))
  where
    by_size : (b : Bool) → (number ≡ m → ⊥) → numbered_as m (faults_after layout (earlier ++ key_of_row layout fields) (number + 1) rows) ≡ []
        → numbered_as m (cond b (whole number TooLarge ∷ []) (fault_of_row layout.columns number fields (next_record layout earlier fields) ++ faults_after layout (earlier ++ key_of_row layout fields) (number + 1) rows)) ≡ []
    by_size true other rest = rw (eqb-other number m other) refl
    by_size false other rest =
        rw (
          filter-append (λ (f : RecordFault). eqb f.fault.number m) (fault_of_row layout.columns number fields (next_record layout earlier fields)) (faults_after layout (earlier ++ key_of_row layout fields) (number + 1) rows),
          elsewhere layout.columns number m fields (next_record layout earlier fields) other,
          rest,
        ) refl

each-after : {R : Type 0} (layout : Layout R) (earlier : List Key) (number m : ℕ) (before : Table) (row : List (List ℕ)) (behind : Table) → m ≡ number + length before → m ≤ 5000
    → numbered_as m (faults_after layout earlier number (before ++ row ∷ behind)) ≡ fault_of_row layout.columns m row (next_record layout (earlier ++ keys_of layout before) row)
unfolding faults_after
each-after layout earlier number m [] row behind is few =
    let same : number ≡ m = omega arith in
    rw (
      same,
      le-ltb 5000 m few,
      append-nil earlier,
      filter-append (λ (f : RecordFault). eqb f.fault.number m) (fault_of_row layout.columns m row (next_record layout earlier row)) (faults_after layout (earlier ++ key_of_row layout row) (m + 1) behind),
      here layout.columns m row (next_record layout earlier row),
      later layout (earlier ++ key_of_row layout row) (m + 1) m behind (omega arith),
      append-nil (fault_of_row layout.columns m row (next_record layout earlier row)),
    ) refl
each-after layout earlier number m (fields ∷ before) row behind is few =
    let other : number ≡ m → ⊥ = λ e. omega arith in
    let small : number ≤ 5000 = omega arith in
    rw (
      le-ltb 5000 number small,
      filter-append (λ (f : RecordFault). eqb f.fault.number m) (fault_of_row layout.columns number fields (next_record layout earlier fields)) (faults_after layout (earlier ++ key_of_row layout fields) (number + 1) (before ++ row ∷ behind)),
      elsewhere layout.columns number m fields (next_record layout earlier fields) other,
      ← append_assoc earlier (key_of_row layout fields) (keys_of layout before),
    ) (each-after layout (earlier ++ key_of_row layout fields) (number + 1) m before row behind (omega arith) few)

-- the faults behind the first 5,000 rows
abbrev behind_all : List RecordFault → List RecordFault
behind_all found = filter (λ f. ltb 5000 f.fault.number) found

not-behind : {R : Type 0} (columns : List Column) (number : ℕ) (fields : List (List ℕ)) (read : Result R FaultKind) → number ≤ 5000 → behind_all (fault_of_row columns number fields read) ≡ []
not-behind columns number fields (Ok entry) few = refl
not-behind columns number fields (Err kind) few = rw (le-ltb 5000 number few) refl

too-many : {R : Type 0} (layout : Layout R) (earlier : List Key) (number m : ℕ) (rows : Table) → m ≡ number + length rows → number ≤ 5001
    → behind_all (faults_after layout earlier number rows) ≡ cond (ltb 5001 m) (whole 5001 TooLarge ∷ []) []
unfolding faults_after
too-many layout earlier number m [] is few = let le : m ≤ 5001 = omega arith in rw (le-ltb 5001 m le) refl
too-many layout earlier number m (fields ∷ rows) is few = by_size (ltb 5000 number) refl (λ less. too-many layout (earlier ++ key_of_row layout fields) (number + 1) m rows (omega arith) (omega arith))
  where
    by_size : (b : Bool) → b ≡ ltb 5000 number → (number ≤ 5000 → behind_all (faults_after layout (earlier ++ key_of_row layout fields) (number + 1) rows) ≡ cond (ltb 5001 m) (whole 5001 TooLarge ∷ []) [])
        → behind_all (cond b (whole number TooLarge ∷ []) (fault_of_row layout.columns number fields (next_record layout earlier fields) ++ faults_after layout (earlier ++ key_of_row layout fields) (number + 1) rows))
        ≡ cond (ltb 5001 m) (whole 5001 TooLarge ∷ []) []
    by_size true same rest =
        let above : 5000 < number = ltb-true 5000 number (sym same) in
        let last : number ≡ 5001 = omega arith in
        let more : 5001 < m = omega arith in
        rw (last, lt-ltb 5001 m more) refl
    by_size false same rest =
        let below = ltb-false 5000 number (sym same) in
        rw (
          filter-append (λ (f : RecordFault). ltb 5000 f.fault.number) (fault_of_row layout.columns number fields (next_record layout earlier fields)) (faults_after layout (earlier ++ key_of_row layout fields) (number + 1) rows),
          not-behind layout.columns number fields (next_record layout earlier fields) below,
          rest below,
        ) refl

same-count : (n : ℕ) → ltb 5001 (1 + n) ≡ ltb 5000 n
same-count n = ltb_from_iff (λ h. let less = ltb-true 5001 (1 + n) h in omega arith, λ less. lt-ltb 5001 (1 + n) (omega arith))

pub lists-each-row : {R : Type 0} (layout : Layout R) → ListsEachRow layout
lists-each-row layout = record {
  row = λ before row behind few. each-after layout [] 1 (length before + 1) before row behind (omega arith) (omega arith);
  behind = λ rows. too-many layout [] 1 (1 + length rows) rows refl (omega arith) ∙ ap (λ (b : Bool). cond b (whole 5001 TooLarge ∷ []) []) (same-count (length rows));
}

abbrev numbers_of : List RecordFault → List ℕ
numbers_of found = map (λ f. f.fault.number) found

-- no number below that of the first row
above : {R : Type 0} (layout : Layout R) (earlier : List Key) (number m : ℕ) (rows : Table) → m < number → AllByRecursion (λ k. m < k) (numbers_of (faults_after layout earlier number rows))
unfolding faults_after
above layout earlier number m [] less = tt
above {R} layout earlier number m (fields ∷ rows) less = by_record (ltb 5000 number) (next_record layout earlier fields) (above layout (earlier ++ key_of_row layout fields) (number + 1) m rows (omega arith))
  where
    by_record : (b : Bool) (read : Result R FaultKind) → AllByRecursion (λ k. m < k) (numbers_of (faults_after layout (earlier ++ key_of_row layout fields) (number + 1) rows))
        → AllByRecursion (λ k. m < k) (numbers_of (cond b (whole number TooLarge ∷ []) (fault_of_row layout.columns number fields read ++ faults_after layout (earlier ++ key_of_row layout fields) (number + 1) rows)))
    by_record true read rest = (less, tt)
    by_record false (Ok entry) rest = rest
    by_record false (Err kind) rest = (less, rest)

in-order : {R : Type 0} (layout : Layout R) (earlier : List Key) (number : ℕ) (rows : Table) → Ascends (numbers_of (faults_after layout earlier number rows))
unfolding faults_after Ascends
in-order layout earlier number [] = tt
in-order {R} layout earlier number (fields ∷ rows) =
    by_record (ltb 5000 number) (next_record layout earlier fields) (in-order layout (earlier ++ key_of_row layout fields) (number + 1) rows) (above layout (earlier ++ key_of_row layout fields) (number + 1) number rows (omega arith))
  where
    by_record : (b : Bool) (read : Result R FaultKind) → Ascends (numbers_of (faults_after layout (earlier ++ key_of_row layout fields) (number + 1) rows))
        → AllByRecursion (λ k. number < k) (numbers_of (faults_after layout (earlier ++ key_of_row layout fields) (number + 1) rows))
        → Ascends (numbers_of (cond b (whole number TooLarge ∷ []) (fault_of_row layout.columns number fields read ++ faults_after layout (earlier ++ key_of_row layout fields) (number + 1) rows)))
    by_record true read rest behind = (tt, tt)
    by_record false (Ok entry) rest behind = rest
    by_record false (Err kind) rest behind = (behind, rest)

pub lists-in-order : {R : Type 0} (layout : Layout R) → ListsInOrder layout
lists-in-order layout rows = in-order layout [] 1 rows
