-- The statements on meta.
use Rattle.std.proofs.Common.{◌≡◌, ℕ, List, [], ◌∷◌, codes, map, true, ◌&&◌, refl, ◌∙◌, drop, ap, Some}
use Rattle.std.specs.Ordering.{eq_by_cmp}
use Rattle.sqlite_value.specs.declared.value.Value.TheVariants.{Null, Int, Text}
use Rattle.sqlite_value.specs.Keys.{first_key}
use Rattle.sqlite_value.proofs.OrderLemmas.{then-Equal, value_cmp-Text}
use Rattle.sqlite_sql.specs.declared.ops.BinaryOp.TheVariants.{Compare}
use Rattle.sqlite_sql.specs.declared.ops.CompareOp.TheVariants.{Eq}
use Rattle.sqlite_schema.specs.Rules.{equal}
use Rattle.sqlite_rules.specs.Edit.{next_rowid, with_rowid}
use Rattle.sqlite_rules.specs.declared.error.Rowids.TheVariants.{Chosen}
use Rattle.sqlite_tied.specs.Compute.{everything}
use Rattle.sqlite.specs.Collation.TheVariants.{Binary}
use Rattle.sqlite.specs.Order.{column}
use Rattle.sqlite.specs.Term.{Term, lit, col, op2}
use Rattle.sqlite.specs.Given.{IsPlain}
use Rattle.sqlite.specs.Listing.{understood}
use Rattle.sqlite.specs.Command.TheVariants.{InsertOr}
use Rattle.sqlite.specs.Source.TheVariants.{Values}
use Rattle.sqlite_schema.specs.declared.command.Conflict.TheVariants.{Abort}
use Rattle.wh_rows.specs.Statements.{reading}
use Rattle.wh_policy.specs.declared.format.Format.{Format}
use Rattle.wh_policy.specs.declared.format.Format.TheVariants.{One, Two}
use Rattle.wh_rows.specs.Schema.{schema_in}
use Rattle.wh_rows.proofs.Formats.{same_conflicts, nothing_works}
use Rattle.wh_rows.specs.Rows as row
use Rattle.wh_rows.specs.Texts as texts
use Rattle.wh_rows.specs.Keys.{bind_text, stands_at_text}
use Rattle.wh_rows.specs.Meaning.{command_of, same_rowid, PutsOne, RemovesOne, ReadsSome, CountsAll}
use Rattle.wh_rows.specs.Raw.{ReadsStored}
use Rattle.wh_rows.proofs.Cast.{cast_row_own}
use Rattle.wh_rows.proofs.ShownColumns.{meta_shown, by_text}
use Rattle.wh_rows.proofs.Keys.{and-true, equal-Text, trimmed}

-- ---- put

abbrev put_terms : List Term
put_terms = lit Null ∷ col 0 0 ∷ col 0 1 ∷ []

abbrev put_cells : List Term
put_cells = col 1 0 ∷ col 1 1 ∷ col 0 5 ∷ []

put_means : (format : Format) → command_of (understood (schema_in format) texts.meta.put)
    ≡ InsertOr 0 Abort (Values put_terms 3) (record { target = Some (1 ∷ []); update = Some (record { lets = []; body = reading row.meta.table.tree (same_rowid 2) (col 1 0 ∷ put_cells) [] }) } ∷ [])
unfolding understood everything first_key
put_means One = refl
put_means Two = refl

put_plain : (format : Format) → IsPlain (understood (schema_in format) texts.meta.put)
unfolding understood everything first_key
put_plain One = (refl, refl)
put_plain Two = (refl, refl)

pub put : (format : Format) → PutsOne (schema_in format) row.meta texts.meta.put
unfolding understood everything first_key
put format = record {
  at = 0;
  table = record { has = refl; uncounted = refl; unstamped = refl; idle = nothing_works format _ };
  terms = put_terms;
  width = 3;
  target = 1 ∷ [];
  here = 2;
  cells = put_cells;
  command = put_means format;
  plain = put_plain format;
  source = λ v. Null ∷ row.meta.encode v;
  given = λ v. refl;
  own = λ v. cast_row_own row.meta.table Null (row.meta.encode v) refl refl;
  kept = λ v rows. cast_row_own row.meta.table (Int (next_rowid rows)) (row.meta.encode v) refl refl;
  shows = λ v rows. refl;
  test = λ v r. equal Binary (column r 0) (Text v.name);
  hits = λ v rows r. same_conflicts (Some (1 ∷ [])) row.meta.table (with_rowid Chosen rows (Null ∷ row.meta.encode v)) r refl format ∙ trimmed _;
  agree = λ v w. equal-Text w.name v.name;
  finds = λ v rows id r. refl;
  over = λ v vs. column vs 0 ∷ drop 1 (row.meta.encode v);
  writes = λ v rows id r. refl;
  remade = λ v w same r n number is. (cast_row_own row.meta.table (Int n) (Text w.name ∷ drop 1 (row.meta.encode v)) refl refl, ap (λ k. Text k ∷ drop 1 (row.meta.encode v)) same);
}

-- ---- remove

pub remove : (format : Format) → RemovesOne (schema_in format) row.meta bind_text texts.meta.remove
unfolding understood everything
remove format = record {
  at = 0;
  table = record { has = refl; uncounted = refl; unstamped = refl; idle = nothing_works format _ };
  tests = op2 (Compare Eq Binary) (col 1 1) (col 0 0) ∷ [];
  command = refl;
  plain = (refl, refl);
  test = λ k r. equal Binary (column r 0) (Text k) && true;
  hits = λ k r. refl;
  agree = λ k w. and-true _ ∙ equal-Text w.name k;
}

-- ---- read, in order of key

pub all : (format : Format) → ReadsSome (schema_in format) row.meta [] (λ r. true) texts.meta.all
unfolding understood everything
all format = record {
  tests = [];
  project = meta_shown;
  order = by_text;
  names = map (λ c. c.name) row.meta.table.columns;
  command = refl;
  plain = (refl, refl);
  unlisted = refl;
  test = λ r. true;
  hits = λ r. refl;
  agree = λ v. refl;
  sorted_by = λ r. column r 0 ∷ [];
  shows = λ r. refl;
  in_order = λ v w. then-Equal _ ∙ value_cmp-Text v.name w.name;
}

pub get : (format : Format) (k : List ℕ) → ReadsSome (schema_in format) row.meta (bind_text k) (λ r. eq_by_cmp row.meta.order k (row.meta.key r)) texts.meta.get
unfolding understood everything
get format k = record {
  tests = op2 (Compare Eq Binary) (col 1 1) (col 0 0) ∷ [];
  project = meta_shown;
  order = by_text;
  names = map (λ c. c.name) row.meta.table.columns;
  command = refl;
  plain = (refl, refl);
  unlisted = refl;
  test = λ r. equal Binary (column r 0) (Text k) && true;
  hits = λ r. refl;
  agree = λ w. and-true _ ∙ equal-Text w.name k;
  sorted_by = λ r. column r 0 ∷ [];
  shows = λ r. refl;
  in_order = λ v w. then-Equal _ ∙ value_cmp-Text v.name w.name;
}

-- ---- read, of any stored rows

pub all_stored : (format : Format) → ReadsStored (schema_in format) row.meta [] (λ r. true) (λ r. true) texts.meta.all
unfolding all
all_stored format = record { reads = all format; tested = λ r. refl }

pub get_stored : (format : Format) (k : List ℕ) → ReadsStored (schema_in format) row.meta (bind_text k) (stands_at_text k) (λ r. eq_by_cmp row.meta.order k (row.meta.key r)) texts.meta.get
unfolding get
get_stored format k = record { reads = get format k; tested = λ r. refl }

-- ---- count

pub count : (format : Format) → CountsAll (schema_in format) row.meta texts.meta.count
unfolding understood everything
count format = record { names = codes "count(*)" ∷ []; command = refl; plain = (refl, refl); unlisted = refl }
