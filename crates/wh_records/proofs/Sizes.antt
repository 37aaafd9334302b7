-- How long lines are.
use Rattle.std.proofs.Common.{◌≡◌, ℕ, suc, ◌+◌, ◌*◌, ◌≤◌, ◌==◌, Bool, true, false, cond, not, ◌&&◌, nat_le, nat_lt, List, [], ◌∷◌, ◌++◌, length, map, sym, subst, arith, inl, inr, length-append}
use Rattle.std.specs.Prelude.{bytes_eq}
use Rattle.std.specs.List.{AllByRecursion, All, list_any, list_all}
use Rattle.std.proofs.lemmas.Bool.{and_parts, leb-true, ltb-true}
use Rattle.std.proofs.lemmas.List.{length-map}
use Rattle.std.specs.Str.{is_utf8}
use Rattle.csv.specs.Writing.{default_writer, row_text, field_text, fields_text, escaped, is_blank, needs_byte}
use Rattle.wh_day.specs.Day.{day_text}
use Rattle.wh_day.specs.NaturalKey.{is_key, is_key_byte}
use Rattle.wh_day.specs.Value.{none_text, is_given, is_plain, is_printed}
use Rattle.wh_policy.specs.Attributes.{is_name, is_word}
use Rattle.wh_policy.specs.Policy.{policy_attributes}
use Rattle.wh_policy.specs.Written.{IsSound}
use Rattle.wh_policy.specs.declared.attribute.Attribute.{Attribute}
use Rattle.wh_policy.specs.declared.attribute.Dim.{Dim}
use Rattle.wh_policy.specs.declared.policy.Policy.{Policy}
use Rattle.wh_policy.specs.declared.record.DimensionRecord.{DimensionRecord}
use Rattle.wh_batch.specs.Columns.{Column, names}
use Rattle.wh_batch.specs.Layouts.{column}
use Rattle.wh_batch.specs.declared.holds.Holds.TheVariants as holds
use Rattle.wh_records.specs.Texts.{value_field, record_line, header_line}
use Rattle.wh_records.specs.Laws.{IsReadValue, IsWritable}

-- ---- of fields

escaped_short : (f : List ℕ) → length (escaped default_writer f) ≤ 2 * length f
unfolding escaped
escaped_short [] = omega arith
escaped_short (b ∷ rest) =
    let more = escaped_short rest in
    elim (b == 34) as (λ x. length (cond x (34 ∷ b ∷ escaped default_writer rest) (b ∷ escaped default_writer rest)) ≤ 2 * length (b ∷ rest)) [ true ↦ omega (arith, more) | false ↦ omega (arith, more) ]

quoted_long : (f : List ℕ) → length (34 ∷ (escaped default_writer f ++ (34 ∷ []))) ≤ 2 * length f + 2
quoted_long f =
    let more = escaped_short f in
    let joined = length-append (escaped default_writer f) (34 ∷ []) in
    omega (arith, more, joined)

field_short : (f : List ℕ) → length (field_text default_writer f) ≤ 2 * length f + 2
field_short f =
    let with_quotes = quoted_long f in
    elim (list_any (needs_byte default_writer) f) as (λ x. length (cond x (34 ∷ (escaped default_writer f ++ (34 ∷ []))) f) ≤ 2 * length f + 2) [ true ↦ with_quotes | false ↦ omega arith ]

abbrev pub IsShort : List ℕ → Type 0
IsShort f = length f ≤ 60

fields_short : (fs : List (List ℕ)) → AllByRecursion IsShort fs → length (fields_text default_writer fs) ≤ 123 * length fs
unfolding fields_text
fields_short [] all = omega arith
fields_short (f ∷ fs) all =
    let here = field_short f in
    let short : length f ≤ 60 = all.0 in
    let rest = fields_short fs all.1 in
    let joined = length-append (field_text default_writer f) (fields_text default_writer fs) in
    omega (arith, here, short, rest, joined)

blank_short : (b : Bool) → length {A = ℕ} (cond b (34 ∷ 34 ∷ []) [] ++ (10 ∷ [])) ≤ 3
blank_short true = omega arith
blank_short false = omega arith

row_short : (f : List ℕ) (fs : List (List ℕ)) → IsShort f → AllByRecursion IsShort fs → length (row_text default_writer (f ∷ fs)) ≤ 123 * length fs + 125
row_short f fs short all =
    let here = field_short f in
    let rest = fields_short fs all in
    let joined = length-append (field_text default_writer f) (fields_text default_writer fs) in
    let end = blank_short (is_blank default_writer (f ∷ fs)) in
    let behind : List ℕ = cond (is_blank default_writer (f ∷ fs)) (34 ∷ 34 ∷ []) [] ++ (10 ∷ []) in
    let whole = length-append (field_text default_writer f ++ fields_text default_writer fs) behind in
    omega (arith, here, short, rest, joined, end, whole)

-- ---- of a record

key_short : (key : List ℕ) → is_key 32 key ≡ true → IsShort key
key_short key is =
    let parts = and_parts (nat_le 1 (length key) && nat_le (length key) 32) (list_all is_key_byte key) is in
    let few = leb-true (length key) 32 (and_parts (nat_le 1 (length key)) (nat_le (length key) 32) parts.0).1 in
    omega (arith, few)

given_short : (value : List ℕ) → is_given value ≡ true → IsShort value
unfolding is_plain
given_short [] given = absurd cc
given_short (first ∷ rest) given =
    let text : List ℕ = first ∷ rest in
    let plain = (and_parts (not (first == 40)) (is_plain text) given).1 in
    let parts = (and_parts (nat_le (length text) 60 && list_all is_printed text) (is_utf8 text) plain).0 in
    leb-true (length text) 60 (and_parts (nat_le (length text) 60) (list_all is_printed text) parts).0

none_short : IsShort (value_field none_text)
unfolding none_text
none_short = omega arith

value_short : (value : List ℕ) → IsReadValue value → IsShort (value_field value)
value_short value (inl none) = subst (λ v. IsShort (value_field v)) (sym none) none_short
value_short value (inr given) =
    let short = given_short value given in
    elim (bytes_eq value none_text) as (λ b. length (cond b [] value) ≤ 60) [ true ↦ omega arith | false ↦ short ]

values_short : (values : List (List ℕ)) → AllByRecursion IsReadValue values → AllByRecursion IsShort (map value_field values)
values_short [] all = tt
values_short (value ∷ values) all = (value_short value all.0, values_short values all.1)

day_short : (day : ℕ) → IsShort (day_text day)
day_short day = omega arith

pub line_short : (slots : ℕ) (r : DimensionRecord) → slots ≤ 6 → IsWritable slots r → length (record_line r) ≤ 1000
unfolding record_line
line_short slots r six is =
    let row = row_short r.natural (day_text r.day ∷ map value_field r.values) (key_short r.natural is.natural) (day_short r.day, values_short r.values is.values) in
    let count = length-map r.values value_field in
    let whole = is.whole in
    omega (arith, row, count, whole, six)

-- ---- of the header

name_short : (name : List ℕ) → is_name name ≡ true → IsShort name
name_short [] is = absurd cc
name_short (first ∷ rest) is =
    let word = (and_parts (is_word (first ∷ rest)) _ (and_parts _ _ is).0).0 in
    let few = ltb-true (length rest) 24 (and_parts _ (nat_lt (length rest) 24) word).1 in
    omega (arith, few)

each_name : (attributes : List Attribute) → All (λ a. is_name a.name ≡ true) attributes → AllByRecursion IsShort (names (map (λ a. column a.name holds.Value) attributes))
each_name [] all = tt
each_name (a ∷ attributes) all = (name_short a.name (all 0 a (omega arith)), each_name attributes (λ k d within. all (suc k) d (omega (arith, within))))

pub header_short : (dim : Dim) (policy : Policy) → IsSound policy → length (header_line (policy_attributes policy dim)) ≤ 1000
unfolding header_line
header_short dim policy sound =
    let attributes : List Attribute = policy_attributes policy dim in
    let are = sound.attributes dim in
    let shown : List (List ℕ) = names (map (λ a. column a.name holds.Value) attributes) in
    let row = row_short (105 ∷ 100 ∷ []) ((100 ∷ 97 ∷ 121 ∷ []) ∷ shown) (omega arith) (omega arith, each_name attributes are.names) in
    let columns = length-map attributes (λ (a : Attribute). column a.name holds.Value) in
    let named = length-map (map (λ (a : Attribute). column a.name holds.Value) attributes) (λ (c : Column). c.name) in
    let few = are.few in
    omega (arith, row, columns, named, few)
