-- The statements on store.
use Rattle.std.proofs.Common.{◌≡◌, ℕ, [], ◌∷◌, codes, map, drop, pos, true, ◌&&◌, refl, ◌∙◌, sym, ap, Some}
use Rattle.std.specs.Ordering.{eq_by_cmp, nat_cmp}
use Rattle.sqlite_value.specs.declared.value.Value.TheVariants.{Null, Int}
use Rattle.sqlite_value.specs.Keys.{first_key}
use Rattle.sqlite_value.proofs.OrderLemmas.{then-Equal}
use Rattle.sqlite_sql.specs.declared.ops.BinaryOp.TheVariants.{Compare}
use Rattle.sqlite_sql.specs.declared.ops.CompareOp.TheVariants.{Eq}
use Rattle.sqlite_sql.specs.declared.ops.UnaryOp.TheVariants.{ToNumeric}
use Rattle.sqlite_sql.specs.Ops.{unary}
use Rattle.sqlite_schema.specs.Rules.{equal}
use Rattle.sqlite_rules.specs.Edit.{with_rowid}
use Rattle.sqlite_rules.specs.declared.error.Rowids.TheVariants.{Chosen}
use Rattle.sqlite_tied.specs.Compute.{everything}
use Rattle.sqlite.specs.Collation.TheVariants.{Binary}
use Rattle.sqlite.specs.Order.{column}
use Rattle.sqlite.specs.Term.{col, op1, op2}
use Rattle.sqlite.specs.Given.{IsPlain}
use Rattle.sqlite.specs.Listing.{understood}
use Rattle.sqlite.specs.Command.TheVariants.{InsertOr}
use Rattle.sqlite.specs.Source.TheVariants.{Values}
use Rattle.sqlite_schema.specs.declared.command.Conflict.TheVariants.{Abort}
use Rattle.wh_rows.specs.Statements.{reading}
use Rattle.wh_policy.specs.declared.format.Format.{Format}
use Rattle.wh_policy.specs.declared.format.Format.TheVariants.{One, Two}
use Rattle.wh_rows.specs.Schema.{schema_in}
use Rattle.wh_rows.proofs.Formats.{same_conflicts, nothing_works}
use Rattle.wh_rows.specs.Rows as row
use Rattle.wh_rows.specs.Texts as texts
use Rattle.wh_rows.specs.Keys.{bind_number, stands_at_number}
use Rattle.wh_policy.specs.declared.attribute.Dim.TheVariants.{Store}
use Rattle.wh_rows.specs.Meaning.{command_of, same_rowid, PutsOne, RemovesOne, ReadsSome, CountsAll}
use Rattle.wh_rows.specs.Raw.{ReadsStored}
use Rattle.wh_rows.specs.Questions.{has_durable}
use Rattle.wh_rows.proofs.Cast.{cast_row_own}
use Rattle.wh_rows.proofs.ShownColumns.{dimension_shown, by_rowid}
use Rattle.wh_rows.proofs.Keys.{and-true, trimmed, equal-Nat, sorted-Nat}
use Rattle.wh_rows.proofs.EachTable.Dimensions.{put_terms, put_cells}

-- ---- put

put_means : (format : Format) → command_of (understood (schema_in format) texts.store.put)
    ≡ InsertOr 5 Abort (Values put_terms 20) (record { target = Some (0 ∷ []); update = Some (record { lets = []; body = reading row.store.table.tree (same_rowid 19) (col 1 0 ∷ put_cells) [] }) } ∷ [])
unfolding understood everything first_key
put_means One = refl
put_means Two = refl

put_plain : (format : Format) → IsPlain (understood (schema_in format) texts.store.put)
unfolding understood everything first_key
put_plain One = (refl, refl)
put_plain Two = (refl, refl)

pub put : (format : Format) → PutsOne (schema_in format) row.store texts.store.put
unfolding understood everything first_key
put format = record {
  at = 5;
  table = record { has = refl; uncounted = refl; unstamped = refl; idle = nothing_works format _ };
  terms = put_terms;
  width = 20;
  target = 0 ∷ [];
  here = 19;
  cells = put_cells;
  command = put_means format;
  plain = put_plain format;
  source = λ v. Int (pos v.surrogate) ∷ Null ∷ drop 1 (row.store.encode v);
  given = λ v. refl;
  own = λ v. cast_row_own row.store.table (Int (pos v.surrogate)) (Null ∷ drop 1 (row.store.encode v)) refl refl;
  kept = λ v rows. cast_row_own row.store.table (Int (pos v.surrogate)) (Null ∷ drop 1 (row.store.encode v)) refl refl;
  shows = λ v rows. refl;
  test = λ v r. equal Binary (column r 0) (Int (pos v.surrogate));
  hits = λ v rows r. same_conflicts (Some (0 ∷ [])) row.store.table (with_rowid Chosen rows (Int (pos v.surrogate) ∷ Null ∷ drop 1 (row.store.encode v))) r refl format ∙ trimmed _;
  agree = λ v w. equal-Nat w.surrogate v.surrogate;
  finds = λ v rows id r. refl;
  over = λ v vs. Null ∷ drop 1 (row.store.encode v);
  writes = λ v rows id r. refl;
  remade = λ v w same r n number is. (
    cast_row_own row.store.table (Int n) (Null ∷ drop 1 (row.store.encode v)) refl refl,
    ap (λ id. id ∷ drop 1 (row.store.encode v)) (sym number ∙ ap (λ vs. column vs 0) is ∙ ap (λ k. Int (pos k)) same),
  );
}

-- ---- remove

pub remove : (format : Format) → RemovesOne (schema_in format) row.store bind_number texts.store.remove
unfolding understood everything
remove format = record {
  at = 5;
  table = record { has = refl; uncounted = refl; unstamped = refl; idle = nothing_works format _ };
  tests = op2 (Compare Eq Binary) (col 1 0) (col 0 0) ∷ [];
  command = refl;
  plain = (refl, refl);
  test = λ k r. equal Binary (column r 0) (Int (pos k)) && true;
  hits = λ k r. refl;
  agree = λ k w. and-true _ ∙ equal-Nat w.surrogate k;
}

-- ---- read, in order of key

pub all : (format : Format) → ReadsSome (schema_in format) row.store [] (λ r. true) texts.store.all
unfolding understood everything
all format = record {
  tests = [];
  project = dimension_shown;
  order = by_rowid;
  names = map (λ c. c.name) row.store.table.columns;
  command = refl;
  plain = (refl, refl);
  unlisted = refl;
  test = λ r. true;
  hits = λ r. refl;
  agree = λ v. refl;
  sorted_by = λ r. column r 0 ∷ [];
  shows = λ r. refl;
  in_order = λ v w. then-Equal _ ∙ sorted-Nat v.surrogate w.surrogate;
}

pub get : (format : Format) (k : ℕ) → ReadsSome (schema_in format) row.store (bind_number k) (λ r. eq_by_cmp row.store.order k (row.store.key r)) texts.store.get
unfolding understood everything
get format k = record {
  tests = op2 (Compare Eq Binary) (col 1 0) (col 0 0) ∷ [];
  project = dimension_shown;
  order = by_rowid;
  names = map (λ c. c.name) row.store.table.columns;
  command = refl;
  plain = (refl, refl);
  unlisted = refl;
  test = λ r. equal Binary (column r 0) (Int (pos k)) && true;
  hits = λ r. refl;
  agree = λ w. and-true _ ∙ equal-Nat w.surrogate k;
  sorted_by = λ r. column r 0 ∷ [];
  shows = λ r. refl;
  in_order = λ v w. then-Equal _ ∙ sorted-Nat v.surrogate w.surrogate;
}

-- the rows of a member
pub of_durable : (format : Format) (durable : ℕ) → ReadsSome (schema_in format) row.store (Int (pos durable) ∷ []) (λ r. eq_by_cmp nat_cmp durable r.durable) (texts.rows_of_member Store)
unfolding understood everything unary
of_durable format durable = record {
  tests = op2 (Compare Eq Binary) (col 1 2) (op1 ToNumeric (col 0 0)) ∷ [];
  project = dimension_shown;
  order = by_rowid;
  names = map (λ c. c.name) row.store.table.columns;
  command = refl;
  plain = (refl, refl);
  unlisted = refl;
  test = λ r. equal Binary (column r 1) (Int (pos durable)) && true;
  hits = λ r. refl;
  agree = λ w. and-true _ ∙ equal-Nat w.durable durable;
  sorted_by = λ r. column r 0 ∷ [];
  shows = λ r. refl;
  in_order = λ v w. then-Equal _ ∙ sorted-Nat v.surrogate w.surrogate;
}

-- ---- read, of any stored rows

pub all_stored : (format : Format) → ReadsStored (schema_in format) row.store [] (λ r. true) (λ r. true) texts.store.all
unfolding all
all_stored format = record { reads = all format; tested = λ r. refl }

pub get_stored : (format : Format) (k : ℕ) → ReadsStored (schema_in format) row.store (bind_number k) (stands_at_number k) (λ r. eq_by_cmp row.store.order k (row.store.key r)) texts.store.get
unfolding get
get_stored format k = record { reads = get format k; tested = λ r. refl }

pub of_durable_stored : (format : Format) (durable : ℕ) → ReadsStored (schema_in format) row.store (Int (pos durable) ∷ []) (has_durable durable) (λ r. eq_by_cmp nat_cmp durable r.durable) (texts.rows_of_member Store)
unfolding of_durable
of_durable_stored format durable = record { reads = of_durable format durable; tested = λ r. refl }

-- ---- count

pub count : (format : Format) → CountsAll (schema_in format) row.store texts.store.count
unfolding understood everything
count format = record { names = codes "count(*)" ∷ []; command = refl; plain = (refl, refl); unlisted = refl }
