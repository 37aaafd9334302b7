-- The statements on void.
use Rattle.std.proofs.Common.{[], ◌∷◌, codes, map, pos, true, ◌&&◌, refl, sym, ap₂, ◌∙◌, drop, ap}
use Rattle.std.specs.Ordering.{eq_by_cmp, nat_cmp, ordering_then}
use Rattle.std.specs.Cmp.Lexicographic.{slice_cmp}
use Rattle.sqlite_value.specs.declared.value.Value.TheVariants.{Null, Int, Text}
use Rattle.sqlite_value.specs.Keys.{first_key}
use Rattle.sqlite_value.proofs.OrderLemmas.{then-Equal, value_cmp-Text}
use Rattle.sqlite_sql.specs.declared.ops.BinaryOp.TheVariants.{Compare}
use Rattle.sqlite_sql.specs.declared.ops.CompareOp.TheVariants.{Eq}
use Rattle.sqlite_sql.specs.declared.ops.UnaryOp.TheVariants.{ToNumeric}
use Rattle.sqlite_sql.specs.Ops.{unary}
use Rattle.sqlite_schema.specs.Rules.{equal}
use Rattle.sqlite_rules.specs.Edit.{next_rowid}
use Rattle.sqlite_tied.specs.Compute.{everything}
use Rattle.sqlite.specs.Collation.TheVariants.{Binary}
use Rattle.sqlite.specs.Order.{column}
use Rattle.sqlite.specs.Term.{lit, col, op1, op2}
use Rattle.sqlite.specs.Listing.{listing_schema, understood}
use Rattle.wh_policy.specs.declared.format.Format.{Format}
use Rattle.wh_policy.specs.declared.format.Format.TheVariants.{One, Two}
use Rattle.wh_policy.specs.Formats.{is_two}
use Rattle.wh_rows.specs.Schema.{schema_in}
use Rattle.wh_rows.specs.Rows.{LineKey}
use Rattle.wh_rows.specs.Rows as row
use Rattle.wh_rows.specs.Texts as texts
use Rattle.wh_rows.specs.Keys.{bind_line, stands_at_line}
use Rattle.wh_rows.specs.Meaning.{Means, PutsOne, RemovesOne, ReadsSome, CountsAll}
use Rattle.wh_rows.specs.Raw.{ReadsStored}
use Rattle.wh_rows.proofs.Cast.{cast_row_own}
use Rattle.wh_rows.proofs.ShownColumns.{void_shown, by_two}
use Rattle.wh_rows.proofs.Keys.{and-true, equal-Nat, equal-Text, sorted-Nat, then_eq, trimmed_and}

-- ---- put

pub put : PutsOne (schema_in Two) row.void texts.void.put
unfolding understood everything first_key
put = record {
  at = 11;
  table = record { has = refl; uncounted = refl; unstamped = refl; idle = λ keys olds news. refl };
  terms = lit Null ∷ col 0 0 ∷ col 0 1 ∷ col 0 2 ∷ [];
  width = 4;
  target = 1 ∷ 2 ∷ [];
  here = 3;
  cells = col 1 0 ∷ col 1 1 ∷ col 1 2 ∷ col 0 7 ∷ [];
  command = refl;
  plain = (refl, refl);
  source = λ v. Null ∷ row.void.encode v;
  given = λ v. refl;
  own = λ v. cast_row_own row.void.table Null (row.void.encode v) refl refl;
  kept = λ v rows. cast_row_own row.void.table (Int (next_rowid rows)) (row.void.encode v) refl refl;
  shows = λ v rows. refl;
  test = λ v r. equal Binary (column r 0) (Text v.ticket) && equal Binary (column r 1) (Int (pos v.line));
  hits = λ v rows r. trimmed_and _ _;
  agree = λ v w. ap₂ ◌&&◌ (equal-Text w.ticket v.ticket) (equal-Nat w.line v.line) ∙ sym (then_eq (slice_cmp nat_cmp v.ticket w.ticket) (nat_cmp v.line w.line));
  finds = λ v rows id r. refl;
  over = λ v vs. column vs 0 ∷ column vs 1 ∷ drop 2 (row.void.encode v);
  writes = λ v rows id r. refl;
  remade = λ v w same r n number is. (cast_row_own row.void.table (Int n) (Text w.ticket ∷ Int (pos w.line) ∷ drop 2 (row.void.encode v)) refl refl, ap (λ (k : LineKey). Text k.ticket ∷ Int (pos k.line) ∷ drop 2 (row.void.encode v)) same);
}

-- ---- remove

pub remove : RemovesOne (schema_in Two) row.void bind_line texts.void.remove
unfolding understood everything unary
remove = record {
  at = 11;
  table = record { has = refl; uncounted = refl; unstamped = refl; idle = λ keys olds news. refl };
  tests = op2 (Compare Eq Binary) (col 1 1) (col 0 0) ∷ op2 (Compare Eq Binary) (col 1 2) (op1 ToNumeric (col 0 1)) ∷ [];
  command = refl;
  plain = (refl, refl);
  test = λ k r. equal Binary (column r 0) (Text k.ticket) && (equal Binary (column r 1) (Int (pos k.line)) && true);
  hits = λ k r. refl;
  agree = λ k w. ap₂ ◌&&◌ (equal-Text w.ticket k.ticket) (and-true _ ∙ equal-Nat w.line k.line) ∙ sym (then_eq (slice_cmp nat_cmp k.ticket w.ticket) (nat_cmp k.line w.line));
}

-- ---- read, in order of key

pub all : ReadsSome (schema_in Two) row.void [] (λ r. true) texts.void.all
unfolding understood everything
all = record {
  tests = [];
  project = void_shown;
  order = by_two;
  names = map (λ c. c.name) row.void.table.columns;
  command = refl;
  plain = (refl, refl);
  unlisted = refl;
  test = λ r. true;
  hits = λ r. refl;
  agree = λ v. refl;
  sorted_by = λ r. column r 0 ∷ column r 1 ∷ [];
  shows = λ r. refl;
  in_order = λ v w. ap₂ ordering_then (value_cmp-Text v.ticket w.ticket) (then-Equal _ ∙ sorted-Nat v.line w.line);
}

pub get : (k : LineKey) → ReadsSome (schema_in Two) row.void (bind_line k) (λ r. eq_by_cmp row.void.order k (row.void.key r)) texts.void.get
unfolding understood everything unary
get k = record {
  tests = op2 (Compare Eq Binary) (col 1 1) (col 0 0) ∷ op2 (Compare Eq Binary) (col 1 2) (op1 ToNumeric (col 0 1)) ∷ [];
  project = void_shown;
  order = by_two;
  names = map (λ c. c.name) row.void.table.columns;
  command = refl;
  plain = (refl, refl);
  unlisted = refl;
  test = λ r. equal Binary (column r 0) (Text k.ticket) && (equal Binary (column r 1) (Int (pos k.line)) && true);
  hits = λ r. refl;
  agree = λ w. ap₂ ◌&&◌ (equal-Text w.ticket k.ticket) (and-true _ ∙ equal-Nat w.line k.line) ∙ sym (then_eq (slice_cmp nat_cmp k.ticket w.ticket) (nat_cmp k.line w.line));
  sorted_by = λ r. column r 0 ∷ column r 1 ∷ [];
  shows = λ r. refl;
  in_order = λ v w. ap₂ ordering_then (value_cmp-Text v.ticket w.ticket) (then-Equal _ ∙ sorted-Nat v.line w.line);
}

-- ---- read, of any stored rows

pub all_stored : ReadsStored (schema_in Two) row.void [] (λ r. true) (λ r. true) texts.void.all
unfolding all
all_stored = record { reads = all; tested = λ r. refl }

pub get_stored : (k : LineKey) → ReadsStored (schema_in Two) row.void (bind_line k) (stands_at_line k) (λ r. eq_by_cmp row.void.order k (row.void.key r)) texts.void.get
unfolding get
get_stored k = record { reads = get k; tested = λ r. refl }

-- ---- count

pub count : CountsAll (schema_in Two) row.void texts.void.count
unfolding understood everything
count = record { names = codes "count(*)" ∷ []; command = refl; plain = (refl, refl); unlisted = refl }

-- ---- in any format

pub put_in : (format : Format) → Means (is_two format) (PutsOne (schema_in format) row.void texts.void.put) (understood (schema_in format) texts.void.put)
unfolding understood everything listing_schema
put_in One = tt
put_in Two = put

pub remove_in : (format : Format) → Means (is_two format) (RemovesOne (schema_in format) row.void bind_line texts.void.remove) (understood (schema_in format) texts.void.remove)
unfolding understood everything listing_schema
remove_in One = tt
remove_in Two = remove

pub all_in : (format : Format) → Means (is_two format) (ReadsSome (schema_in format) row.void [] (λ r. true) texts.void.all) (understood (schema_in format) texts.void.all)
unfolding understood everything listing_schema
all_in One = tt
all_in Two = all

pub get_in : (format : Format) (k : LineKey) → Means (is_two format) (ReadsSome (schema_in format) row.void (bind_line k) (λ r. eq_by_cmp row.void.order k (row.void.key r)) texts.void.get) (understood (schema_in format) texts.void.get)
unfolding understood everything listing_schema
get_in One k = tt
get_in Two k = get k

pub all_stored_in : (format : Format) → Means (is_two format) (ReadsStored (schema_in format) row.void [] (λ r. true) (λ r. true) texts.void.all) (understood (schema_in format) texts.void.all)
unfolding understood everything listing_schema
all_stored_in One = tt
all_stored_in Two = all_stored

pub get_stored_in : (format : Format) (k : LineKey) → Means (is_two format) (ReadsStored (schema_in format) row.void (bind_line k) (stands_at_line k) (λ r. eq_by_cmp row.void.order k (row.void.key r)) texts.void.get) (understood (schema_in format) texts.void.get)
unfolding understood everything listing_schema
get_stored_in One k = tt
get_stored_in Two k = get_stored k

pub count_in : (format : Format) → Means (is_two format) (CountsAll (schema_in format) row.void texts.void.count) (understood (schema_in format) texts.void.count)
unfolding understood everything listing_schema
count_in One = tt
count_in Two = count
