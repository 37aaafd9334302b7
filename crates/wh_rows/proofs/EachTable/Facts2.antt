-- The statements on fact2.
use Rattle.std.proofs.Common.{[], ◌∷◌, codes, map, pos, true, ◌&&◌, refl, sym, ap₂, ◌∙◌, drop, ap}
use Rattle.std.specs.Prelude.{IsTrue}
use Rattle.std.proofs.lemmas.Bool.{and_parts}
use Rattle.std.specs.Ordering.{eq_by_cmp, nat_cmp, ordering_then}
use Rattle.std.specs.Cmp.Lexicographic.{slice_cmp}
use Rattle.sqlite_value.specs.declared.value.Value.TheVariants.{Null, Int, Text}
use Rattle.sqlite_value.specs.Keys.{first_key}
use Rattle.sqlite_value.proofs.OrderLemmas.{then-Equal, value_cmp-Text}
use Rattle.sqlite_sql.specs.declared.ops.BinaryOp.TheVariants.{Compare}
use Rattle.sqlite_sql.specs.declared.ops.CompareOp.TheVariants.{Eq}
use Rattle.sqlite_sql.specs.declared.ops.UnaryOp.TheVariants.{ToNumeric}
use Rattle.sqlite_sql.specs.Ops.{unary}
use Rattle.sqlite_schema.specs.Rules.{equal}
use Rattle.sqlite_rules.specs.Edit.{next_rowid}
use Rattle.sqlite_tied.specs.Compute.{everything}
use Rattle.sqlite.specs.Collation.TheVariants.{Binary}
use Rattle.sqlite.specs.Order.{column}
use Rattle.sqlite.specs.Term.{lit, col, op1, op2}
use Rattle.sqlite.specs.Listing.{listing_schema, understood}
use Rattle.wh_policy.specs.declared.format.Format.{Format}
use Rattle.wh_policy.specs.declared.format.Format.TheVariants.{One, Two}
use Rattle.wh_policy.specs.Formats.{is_two}
use Rattle.wh_rows.specs.Schema.{schema_in}
use Rattle.wh_rows.specs.Rows.{LineKey, has_good_columns, is_fact2}
use Rattle.wh_rows.specs.Types.{is_discount}
use Rattle.wh_rows.specs.Rows as row
use Rattle.wh_rows.specs.Texts as texts
use Rattle.wh_rows.specs.Keys.{bind_line, stands_at_line}
use Rattle.wh_rows.specs.Meaning.{Means, PutsOne, MovesOne, RemovesOne, ReadsSome, CountsAll}
use Rattle.wh_rows.specs.Raw.{ReadsStored}
use Rattle.wh_rows.specs.Rekey.{Rekey, rekey2_text, bind_rekey, are_keys, with_keys}
use Rattle.wh_rows.proofs.Cast.{cast_row_own}
use Rattle.wh_rows.proofs.ColumnLemmas.{both}
use Rattle.wh_rows.proofs.ShownColumns.{fact2_shown, by_two}
use Rattle.wh_rows.proofs.Keys.{and-true, equal-Nat, equal-Text, sorted-Nat, then_eq, trimmed_and}
use Rattle.wh_history.specs.declared.facts.Fact.{Fact}
use Rattle.wh_rows.proofs.EachTable.Facts.{good_rekeyed}

-- ---- put

pub put : PutsOne (schema_in Two) row.fact2 texts.fact2.put
unfolding understood everything first_key
put = record {
  at = 10;
  table = record { has = refl; uncounted = refl; unstamped = refl; idle = λ keys olds news. refl };
  terms = lit Null ∷ col 0 0 ∷ col 0 1 ∷ col 0 2 ∷ col 0 3 ∷ col 0 4 ∷ col 0 5 ∷ col 0 6 ∷ col 0 7 ∷ col 0 8 ∷ col 0 9 ∷ col 0 10 ∷ col 0 11 ∷ col 0 12 ∷ col 0 13 ∷ [];
  width = 15;
  target = 1 ∷ 2 ∷ [];
  here = 14;
  cells = col 1 0 ∷ col 1 1 ∷ col 1 2 ∷ col 0 18 ∷ col 0 19 ∷ col 0 20 ∷ col 0 21 ∷ col 0 22 ∷ col 0 23 ∷ col 0 24 ∷ col 0 25 ∷ col 0 26 ∷ col 0 27 ∷ col 0 28 ∷ col 0 29 ∷ [];
  command = refl;
  plain = (refl, refl);
  source = λ v. Null ∷ row.fact2.encode v;
  given = λ v. refl;
  own = λ v. cast_row_own row.fact2.table Null (row.fact2.encode v) refl refl;
  kept = λ v rows. cast_row_own row.fact2.table (Int (next_rowid rows)) (row.fact2.encode v) refl refl;
  shows = λ v rows. refl;
  test = λ v r. equal Binary (column r 0) (Text v.ticket) && equal Binary (column r 1) (Int (pos v.line));
  hits = λ v rows r. trimmed_and _ _;
  agree = λ v w. ap₂ ◌&&◌ (equal-Text w.ticket v.ticket) (equal-Nat w.line v.line) ∙ sym (then_eq (slice_cmp nat_cmp v.ticket w.ticket) (nat_cmp v.line w.line));
  finds = λ v rows id r. refl;
  over = λ v vs. column vs 0 ∷ column vs 1 ∷ drop 2 (row.fact2.encode v);
  writes = λ v rows id r. refl;
  remade = λ v w same r n number is. (cast_row_own row.fact2.table (Int n) (Text w.ticket ∷ Int (pos w.line) ∷ drop 2 (row.fact2.encode v)) refl refl, ap (λ (k : LineKey). Text k.ticket ∷ Int (pos k.line) ∷ drop 2 (row.fact2.encode v)) same);
}

-- ---- other keys

pub rekey2 : MovesOne (schema_in Two) row.fact2 bind_rekey (λ r. r.0) with_keys rekey2_text
unfolding understood everything unary
rekey2 = record {
  at = 10;
  table = record { has = refl; uncounted = refl; unstamped = refl; idle = λ keys olds news. refl };
  tests = op2 (Compare Eq Binary) (col 1 1) (col 0 0) ∷ op2 (Compare Eq Binary) (col 1 2) (op1 ToNumeric (col 0 1)) ∷ [];
  cells = col 1 0 ∷ col 1 1 ∷ col 1 2 ∷ col 1 3 ∷ col 0 2 ∷ col 0 3 ∷ col 0 4 ∷ col 1 7 ∷ col 1 8 ∷ col 1 9 ∷ col 0 5 ∷ col 1 11 ∷ col 1 12 ∷ col 1 13 ∷ col 1 14 ∷ [];
  command = refl;
  plain = (refl, refl);
  test = λ p r. equal Binary (column r 0) (Text p.0.ticket) && (equal Binary (column r 1) (Int (pos p.0.line)) && true);
  hits = λ p r. refl;
  agree = λ p w. ap₂ ◌&&◌ (equal-Text w.ticket p.0.ticket) (and-true _ ∙ equal-Nat w.line p.0.line) ∙ sym (then_eq (slice_cmp nat_cmp p.0.ticket w.ticket) (nat_cmp p.0.line w.line));
  over = λ p vs. column vs 0 ∷ column vs 1 ∷ column vs 2 ∷ Int (pos p.1.store_key) ∷ Int (pos p.1.product_key) ∷ Int (pos p.1.customer_key) ∷ column vs 6 ∷ column vs 7 ∷ column vs 8 ∷ Int (pos p.1.profile)
      ∷ column vs 10 ∷ column vs 11 ∷ column vs 12 ∷ column vs 13 ∷ [];
  writes = λ p r. refl;
  remade = λ p w r n number is. (cast_row_own row.fact2.table (Int n) (row.fact2.encode (with_keys p w)) refl refl, refl);
  same_key = λ p w. refl;
}

-- a valid fact with other keys that can be stored is valid
pub valid_rekeyed2 : (r : Rekey) (f : Fact) → IsTrue (are_keys r.1) → IsTrue (is_fact2 f) → IsTrue (is_fact2 (with_keys r f))
valid_rekeyed2 r f keys valid =
    let parts = and_parts (has_good_columns f) (is_discount f.discount) valid in
    both (good_rekeyed r f keys parts.0) parts.1

-- ---- remove

pub remove : RemovesOne (schema_in Two) row.fact2 bind_line texts.fact2.remove
unfolding understood everything unary
remove = record {
  at = 10;
  table = record { has = refl; uncounted = refl; unstamped = refl; idle = λ keys olds news. refl };
  tests = op2 (Compare Eq Binary) (col 1 1) (col 0 0) ∷ op2 (Compare Eq Binary) (col 1 2) (op1 ToNumeric (col 0 1)) ∷ [];
  command = refl;
  plain = (refl, refl);
  test = λ k r. equal Binary (column r 0) (Text k.ticket) && (equal Binary (column r 1) (Int (pos k.line)) && true);
  hits = λ k r. refl;
  agree = λ k w. ap₂ ◌&&◌ (equal-Text w.ticket k.ticket) (and-true _ ∙ equal-Nat w.line k.line) ∙ sym (then_eq (slice_cmp nat_cmp k.ticket w.ticket) (nat_cmp k.line w.line));
}

-- ---- read, in order of key

pub all : ReadsSome (schema_in Two) row.fact2 [] (λ r. true) texts.fact2.all
unfolding understood everything
all = record {
  tests = [];
  project = fact2_shown;
  order = by_two;
  names = map (λ c. c.name) row.fact2.table.columns;
  command = refl;
  plain = (refl, refl);
  unlisted = refl;
  test = λ r. true;
  hits = λ r. refl;
  agree = λ v. refl;
  sorted_by = λ r. column r 0 ∷ column r 1 ∷ [];
  shows = λ r. refl;
  in_order = λ v w. ap₂ ordering_then (value_cmp-Text v.ticket w.ticket) (then-Equal _ ∙ sorted-Nat v.line w.line);
}

pub get : (k : LineKey) → ReadsSome (schema_in Two) row.fact2 (bind_line k) (λ r. eq_by_cmp row.fact2.order k (row.fact2.key r)) texts.fact2.get
unfolding understood everything unary
get k = record {
  tests = op2 (Compare Eq Binary) (col 1 1) (col 0 0) ∷ op2 (Compare Eq Binary) (col 1 2) (op1 ToNumeric (col 0 1)) ∷ [];
  project = fact2_shown;
  order = by_two;
  names = map (λ c. c.name) row.fact2.table.columns;
  command = refl;
  plain = (refl, refl);
  unlisted = refl;
  test = λ r. equal Binary (column r 0) (Text k.ticket) && (equal Binary (column r 1) (Int (pos k.line)) && true);
  hits = λ r. refl;
  agree = λ w. ap₂ ◌&&◌ (equal-Text w.ticket k.ticket) (and-true _ ∙ equal-Nat w.line k.line) ∙ sym (then_eq (slice_cmp nat_cmp k.ticket w.ticket) (nat_cmp k.line w.line));
  sorted_by = λ r. column r 0 ∷ column r 1 ∷ [];
  shows = λ r. refl;
  in_order = λ v w. ap₂ ordering_then (value_cmp-Text v.ticket w.ticket) (then-Equal _ ∙ sorted-Nat v.line w.line);
}

-- ---- read, of any stored rows

pub all_stored : ReadsStored (schema_in Two) row.fact2 [] (λ r. true) (λ r. true) texts.fact2.all
unfolding all
all_stored = record { reads = all; tested = λ r. refl }

pub get_stored : (k : LineKey) → ReadsStored (schema_in Two) row.fact2 (bind_line k) (stands_at_line k) (λ r. eq_by_cmp row.fact2.order k (row.fact2.key r)) texts.fact2.get
unfolding get
get_stored k = record { reads = get k; tested = λ r. refl }

-- ---- count

pub count : CountsAll (schema_in Two) row.fact2 texts.fact2.count
unfolding understood everything
count = record { names = codes "count(*)" ∷ []; command = refl; plain = (refl, refl); unlisted = refl }

-- ---- in any format

pub put_in : (format : Format) → Means (is_two format) (PutsOne (schema_in format) row.fact2 texts.fact2.put) (understood (schema_in format) texts.fact2.put)
unfolding understood everything listing_schema
put_in One = tt
put_in Two = put

pub remove_in : (format : Format) → Means (is_two format) (RemovesOne (schema_in format) row.fact2 bind_line texts.fact2.remove) (understood (schema_in format) texts.fact2.remove)
unfolding understood everything listing_schema
remove_in One = tt
remove_in Two = remove

pub all_in : (format : Format) → Means (is_two format) (ReadsSome (schema_in format) row.fact2 [] (λ r. true) texts.fact2.all) (understood (schema_in format) texts.fact2.all)
unfolding understood everything listing_schema
all_in One = tt
all_in Two = all

pub get_in : (format : Format) (k : LineKey) → Means (is_two format) (ReadsSome (schema_in format) row.fact2 (bind_line k) (λ r. eq_by_cmp row.fact2.order k (row.fact2.key r)) texts.fact2.get) (understood (schema_in format) texts.fact2.get)
unfolding understood everything listing_schema
get_in One k = tt
get_in Two k = get k

pub all_stored_in : (format : Format) → Means (is_two format) (ReadsStored (schema_in format) row.fact2 [] (λ r. true) (λ r. true) texts.fact2.all) (understood (schema_in format) texts.fact2.all)
unfolding understood everything listing_schema
all_stored_in One = tt
all_stored_in Two = all_stored

pub get_stored_in : (format : Format) (k : LineKey) → Means (is_two format) (ReadsStored (schema_in format) row.fact2 (bind_line k) (stands_at_line k) (λ r. eq_by_cmp row.fact2.order k (row.fact2.key r)) texts.fact2.get) (understood (schema_in format) texts.fact2.get)
unfolding understood everything listing_schema
get_stored_in One k = tt
get_stored_in Two k = get_stored k

pub count_in : (format : Format) → Means (is_two format) (CountsAll (schema_in format) row.fact2 texts.fact2.count) (understood (schema_in format) texts.fact2.count)
unfolding understood everything listing_schema
count_in One = tt
count_in Two = count

pub rekey2_in : (format : Format) → Means (is_two format) (MovesOne (schema_in format) row.fact2 bind_rekey (λ r. r.0) with_keys rekey2_text) (understood (schema_in format) rekey2_text)
unfolding understood everything listing_schema
rekey2_in One = tt
rekey2_in Two = rekey2
