-- The text of a batch is read as its records.
use Rattle.std.proofs.Common.{◌≡◌, ℕ, zero, suc, ◌+◌, ◌≤◌, ◌==◌, true, false, cond, List, [], ◌∷◌, ◌++◌, length, map, Some, Ok, refl, sym, ap, ◌∙◌, subst, arith, inl, inr, length-append}
use Rattle.std.specs.Prelude.{flat_map, bytes_eq, nat_le}
use Rattle.std.specs.List.{AllByRecursion, list_all}
use Rattle.std.proofs.lemmas.Bool.{le-leb, eq-eqb}
use Rattle.std.proofs.lemmas.List.{length-map}
use Rattle.std.proofs.lemmas.Slice.Eq.{bytes_eq-Decides}
use Rattle.csv.specs.Machine.{next_record}
use Rattle.csv.specs.Reading.{records_from, records, default_config, strip_bom}
use Rattle.csv.specs.Writing.{default_writer, row_text, is_blank, fields_text, escaped, read_back}
use Rattle.csv.specs.declared.parser.State.TheVariants as st
use Rattle.csv.proofs.RoundTrip.{rows_text, read-write}
use Rattle.wh_day.specs.Day.{day_text}
use Rattle.wh_day.specs.Value.{none_text, is_given, read_value}
use Rattle.wh_day.proofs.Texts.{read_day-text}
use Rattle.wh_policy.specs.Policy.{policy_attributes}
use Rattle.wh_policy.specs.declared.attribute.Attribute.{Attribute}
use Rattle.wh_policy.specs.declared.record.DimensionRecord.{DimensionRecord}
use Rattle.wh_batch.specs.Columns.{names}
use Rattle.wh_batch.specs.Fields.{key_of, day_of, effective_day_of, value_of, values_of}
use Rattle.wh_batch.specs.Layouts.{dimension_columns, dimension_record, dimension_layout, dimension_records}
use Rattle.wh_batch.proofs.GoodLemmas.{reads_batches}
use Rattle.wh_records.specs.Texts.{value_field, record_fields, record_line, header_line, records_text}
use Rattle.wh_records.specs.Laws.{IsReadValue, IsWritable, TextsAreReadAgain}

-- ---- the rows of the text

-- rows that were written are read, however many reads are allowed
all_read : (n : ℕ) (rows : List (List (List ℕ))) → length rows ≤ n → records_from default_config n st.StartRecord (rows_text rows) ≡ map read_back rows
unfolding records_from rows_text next_record
all_read zero [] few = refl
all_read (suc n) [] few = refl
all_read zero (row ∷ rows) few = absurd (omega arith)
all_read (suc n) (row ∷ rows) few = rw (read-write row (rows_text rows)) (ap (λ (t : List (List (List ℕ))). read_back row ∷ t) (all_read n rows (omega arith)))

-- a row shows at least its end
row_long : (row : List (List ℕ)) → 1 ≤ length (row_text default_writer row)
row_long row = simp length-append (omega arith)

rows_long : (rows : List (List (List ℕ))) → length rows ≤ length (rows_text rows)
unfolding rows_text
rows_long [] = omega arith
rows_long (row ∷ rows) =
    let here = row_long row in
    let rest = rows_long rows in
    rw (length-append (row_text default_writer row) (rows_text rows)) (omega (arith, here, rest))

lines_are : (rs : List DimensionRecord) → rows_text (map record_fields rs) ≡ flat_map record_line rs
unfolding rows_text record_line
lines_are [] = refl
lines_are (r ∷ rs) = ap (λ t. record_line r ++ t) (lines_are rs)

back : (rs : List DimensionRecord) → map read_back (map record_fields rs) ≡ map record_fields rs
back [] = refl
back (r ∷ rs) = ap (λ (t : List (List (List ℕ))). record_fields r ∷ t) (back rs)

module _ (attributes : List Attribute) (rs : List DimensionRecord) where
  table : List (List (List ℕ))
  table = names (dimension_columns attributes) ∷ map record_fields rs

  text_is : rows_text table ≡ records_text attributes rs
  unfolding table rows_text header_line
  text_is = ap (λ t. header_line attributes ++ t) (lines_are rs)

  -- it begins with no mark
  unmarked : strip_bom (records_text attributes rs) ≡ records_text attributes rs
  unfolding strip_bom header_line fields_text escaped is_blank
  unmarked = refl

  table_back : map read_back table ≡ table
  unfolding table
  table_back = ap (λ (t : List (List (List ℕ))). names (dimension_columns attributes) ∷ t) (back rs)

  pub rows_read : records default_config (strip_bom (records_text attributes rs)) ≡ names (dimension_columns attributes) ∷ map record_fields rs
  unfolding table
  rows_read =
      let long = rows_long table in
      ap (records default_config) unmarked
      ∙ ap (λ t. records_from default_config (length t + 1) st.StartRecord t) (sym text_is)
      ∙ all_read (length (rows_text table) + 1) table (omega (arith, long))
      ∙ table_back

-- ---- the record of a row

is_there : (n : ℕ) → n ≤ 5 → nat_le n 5 ≡ true
is_there n le = le-leb n 5 le

given_field : (value : List ℕ) → is_given value ≡ true → value_field value ≡ value
unfolding none_text
given_field value given = elim (bytes_eq value none_text) as (λ b. (bytes_eq value none_text ≡ b) → cond b [] value ≡ value) [
  | true ↦ λ e. let is : value ≡ none_text = (bytes_eq-Decides value none_text).0 e in let no = rw is at given in absurd cc
  | false ↦ λ e. refl
] refl

read_given : (value : List ℕ) → is_given value ≡ true → read_value value ≡ Some value
unfolding read_value
read_given [] given = absurd cc
read_given (first ∷ rest) given = rw given refl

read_none : read_value (value_field none_text) ≡ Some none_text
unfolding read_value none_text
read_none = refl

value_again : (value : List ℕ) → IsReadValue value → value_of (value_field value) ≡ Ok value
unfolding value_of
value_again value (inl none) = subst (λ v. value_of (value_field v) ≡ Ok v) (sym none) (rw read_none refl)
value_again value (inr given) = rw (given_field value given, read_given value given) refl

values_again : (values : List (List ℕ)) → AllByRecursion IsReadValue values → values_of (map value_field values) ≡ Ok values
unfolding values_of
values_again [] all = refl
values_again (value ∷ values) all = rw (value_again value all.0, values_again values all.1) refl

day_again : (day : ℕ) (r : DimensionRecord) (slots : ℕ) → IsWritable slots r → effective_day_of (day_text r.day) ≡ Ok r.day
unfolding effective_day_of day_of
day_again day r slots is = rw (read_day-text r.day is.day, le-leb r.day 21991231 is.early) refl

key_again : (r : DimensionRecord) (slots : ℕ) → IsWritable slots r → key_of 32 r.natural ≡ Ok r.natural
unfolding key_of
key_again r slots is = rw is.natural refl

record_again : (slots : ℕ) (r : DimensionRecord) → IsWritable slots r → dimension_record slots (record_fields r) ≡ Ok r
unfolding dimension_record
record_again slots r is =
    let count : (length (map value_field r.values) == slots) ≡ true = eq-eqb _ _ (length-map r.values value_field ∙ is.whole) in
    rw (count, key_again r slots is, day_again 0 r slots is, values_again r.values is.values) refl

each_again : (slots : ℕ) (rs : List DimensionRecord) → AllByRecursion (IsWritable slots) rs → map (dimension_record slots) (map record_fields rs) ≡ map (λ r. Ok r) rs
each_again slots [] all = refl
each_again slots (r ∷ rs) all =
    let here = record_again slots r all.0 in
    let rest = each_again slots rs all.1 in
    cc

all_within : (rs : List DimensionRecord) → list_all (λ (r : DimensionRecord). true) rs ≡ true
all_within [] = refl
all_within (r ∷ rs) = all_within rs

pub texts_are_read_again : TextsAreReadAgain
unfolding dimension_records
texts_are_read_again dim policy records are =
    let attributes : List Attribute = policy_attributes policy dim in
    (reads_batches (dimension_layout attributes) (records_text attributes records) records).1 (record {
      size = are.short;
      rows = map record_fields records;
      table = rows_read attributes records;
      few = (let few = are.few in rw (length-map records record_fields) few);
      each = each_again (length attributes) records are.each;
      distinct = are.distinct;
      within = all_within records;
    })
