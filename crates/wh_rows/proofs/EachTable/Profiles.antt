-- The statements on profile.
use Rattle.std.proofs.Common.{◌≡◌, ℕ, List, [], ◌∷◌, codes, map, drop, slice_index_or, pos, true, ◌&&◌, refl, ap₂, ◌∙◌, sym, ap, Some}
use Rattle.std.specs.Ordering.{eq_by_cmp, nat_cmp}
use Rattle.std.specs.Cmp.Lexicographic.{slice_cmp}
use Rattle.sqlite_value.specs.declared.value.Value.TheVariants.{Null, Int, Text}
use Rattle.sqlite_value.specs.Keys.{first_key}
use Rattle.sqlite_value.proofs.OrderLemmas.{then-Equal}
use Rattle.sqlite_sql.specs.declared.ops.BinaryOp.TheVariants.{Compare}
use Rattle.sqlite_sql.specs.declared.ops.CompareOp.TheVariants.{Eq}
use Rattle.sqlite_schema.specs.Rules.{equal}
use Rattle.sqlite_rules.specs.Edit.{with_rowid}
use Rattle.sqlite_rules.specs.declared.error.Rowids.TheVariants.{Chosen}
use Rattle.sqlite_tied.specs.Compute.{everything}
use Rattle.sqlite.specs.Collation.TheVariants.{Binary}
use Rattle.sqlite.specs.Order.{column}
use Rattle.sqlite.specs.Term.{Term, lit, col, op2}
use Rattle.sqlite.specs.Given.{IsPlain}
use Rattle.sqlite.specs.Listing.{understood}
use Rattle.sqlite.specs.Command.TheVariants.{InsertOr}
use Rattle.sqlite.specs.Source.TheVariants.{Values}
use Rattle.sqlite_schema.specs.declared.command.Conflict.TheVariants.{Abort}
use Rattle.wh_rows.specs.Statements.{reading}
use Rattle.wh_policy.specs.declared.format.Format.{Format}
use Rattle.wh_policy.specs.declared.format.Format.TheVariants.{One, Two}
use Rattle.wh_rows.specs.Schema.{schema_in}
use Rattle.wh_rows.proofs.Formats.{same_conflicts, nothing_works}
use Rattle.wh_rows.specs.Rows.{slot_columns}
use Rattle.wh_rows.specs.Rows as row
use Rattle.wh_rows.specs.Texts as texts
use Rattle.wh_rows.specs.Keys.{bind_number, stands_at_number}
use Rattle.wh_rows.specs.Meaning.{command_of, same_rowid, PutsOne, RemovesOne, ReadsSome, CountsAll}
use Rattle.wh_rows.specs.Raw.{ReadsStored, ReadsFrontStored}
use Rattle.wh_rows.specs.Questions.{has_values}
use Rattle.wh_rows.specs.Firsts.{last_one, ReadsFirst}
use Rattle.wh_rows.proofs.Cast.{cast_row_own}
use Rattle.wh_rows.proofs.ShownColumns.{profile_shown, by_rowid}
use Rattle.wh_rows.proofs.Keys.{and-true, trimmed, equal-Nat, equal-Text, sorted-Nat}

-- ---- put

abbrev put_terms : List Term
put_terms = col 0 0 ∷ lit Null ∷ col 0 1 ∷ col 0 2 ∷ col 0 3 ∷ col 0 4 ∷ col 0 5 ∷ col 0 6 ∷ []

abbrev put_cells : List Term
put_cells = col 1 0 ∷ lit Null ∷ col 0 10 ∷ col 0 11 ∷ col 0 12 ∷ col 0 13 ∷ col 0 14 ∷ col 0 15 ∷ []

put_means : (format : Format) → command_of (understood (schema_in format) texts.profile.put)
    ≡ InsertOr 7 Abort (Values put_terms 8) (record { target = Some (0 ∷ []); update = Some (record { lets = []; body = reading row.profile.table.tree (same_rowid 7) (col 1 0 ∷ put_cells) [] }) } ∷ [])
unfolding understood everything first_key
put_means One = refl
put_means Two = refl

put_plain : (format : Format) → IsPlain (understood (schema_in format) texts.profile.put)
unfolding understood everything first_key
put_plain One = (refl, refl)
put_plain Two = (refl, refl)

pub put : (format : Format) → PutsOne (schema_in format) row.profile texts.profile.put
unfolding understood everything first_key
put format = record {
  at = 7;
  table = record { has = refl; uncounted = refl; unstamped = refl; idle = nothing_works format _ };
  terms = put_terms;
  width = 8;
  target = 0 ∷ [];
  here = 7;
  cells = put_cells;
  command = put_means format;
  plain = put_plain format;
  source = λ v. Int (pos v.number) ∷ Null ∷ drop 1 (row.profile.encode v);
  given = λ v. refl;
  own = λ v. cast_row_own row.profile.table (Int (pos v.number)) (Null ∷ drop 1 (row.profile.encode v)) refl refl;
  kept = λ v rows. cast_row_own row.profile.table (Int (pos v.number)) (Null ∷ drop 1 (row.profile.encode v)) refl refl;
  shows = λ v rows. refl;
  test = λ v r. equal Binary (column r 0) (Int (pos v.number));
  hits = λ v rows r. same_conflicts (Some (0 ∷ [])) row.profile.table (with_rowid Chosen rows (Int (pos v.number) ∷ Null ∷ drop 1 (row.profile.encode v))) r refl format ∙ trimmed _;
  agree = λ v w. equal-Nat w.number v.number;
  finds = λ v rows id r. refl;
  over = λ v vs. Null ∷ drop 1 (row.profile.encode v);
  writes = λ v rows id r. refl;
  remade = λ v w same r n number is. (
    cast_row_own row.profile.table (Int n) (Null ∷ drop 1 (row.profile.encode v)) refl refl,
    ap (λ id. id ∷ drop 1 (row.profile.encode v)) (sym number ∙ ap (λ vs. column vs 0) is ∙ ap (λ k. Int (pos k)) same),
  );
}

-- ---- remove

pub remove : (format : Format) → RemovesOne (schema_in format) row.profile bind_number texts.profile.remove
unfolding understood everything
remove format = record {
  at = 7;
  table = record { has = refl; uncounted = refl; unstamped = refl; idle = nothing_works format _ };
  tests = op2 (Compare Eq Binary) (col 1 0) (col 0 0) ∷ [];
  command = refl;
  plain = (refl, refl);
  test = λ k r. equal Binary (column r 0) (Int (pos k)) && true;
  hits = λ k r. refl;
  agree = λ k w. and-true _ ∙ equal-Nat w.number k;
}

-- ---- read, in order of key

pub all : (format : Format) → ReadsSome (schema_in format) row.profile [] (λ r. true) texts.profile.all
unfolding understood everything
all format = record {
  tests = [];
  project = profile_shown;
  order = by_rowid;
  names = map (λ c. c.name) row.profile.table.columns;
  command = refl;
  plain = (refl, refl);
  unlisted = refl;
  test = λ r. true;
  hits = λ r. refl;
  agree = λ v. refl;
  sorted_by = λ r. column r 0 ∷ [];
  shows = λ r. refl;
  in_order = λ v w. then-Equal _ ∙ sorted-Nat v.number w.number;
}

pub get : (format : Format) (k : ℕ) → ReadsSome (schema_in format) row.profile (bind_number k) (λ r. eq_by_cmp row.profile.order k (row.profile.key r)) texts.profile.get
unfolding understood everything
get format k = record {
  tests = op2 (Compare Eq Binary) (col 1 0) (col 0 0) ∷ [];
  project = profile_shown;
  order = by_rowid;
  names = map (λ c. c.name) row.profile.table.columns;
  command = refl;
  plain = (refl, refl);
  unlisted = refl;
  test = λ r. equal Binary (column r 0) (Int (pos k)) && true;
  hits = λ r. refl;
  agree = λ w. and-true _ ∙ equal-Nat w.number k;
  sorted_by = λ r. column r 0 ∷ [];
  shows = λ r. refl;
  in_order = λ v w. then-Equal _ ∙ sorted-Nat v.number w.number;
}

-- the row of the greatest key
pub greatest : (format : Format) → ReadsFirst (schema_in format) row.profile ([]) (λ r. true) 1 true texts.last_profile
unfolding understood everything
greatest format = record {
  tests = [];
  project = profile_shown;
  order = (col 1 0, record { collation = Binary; descending = true }) ∷ [];
  names = map (λ c. c.name) row.profile.table.columns;
  command = refl;
  plain = (refl, refl);
  unlisted = refl;
  test = λ r. true;
  hits = λ r. refl;
  agree = λ w. refl;
  sorted_by = λ r. column r 0 ∷ [];
  shows = λ r. refl;
  in_order = λ v w. then-Equal _ ∙ sorted-Nat w.number v.number;
}

-- the profile of a combination
pub of_values : (format : Format) (values : List (List ℕ)) → ReadsSome (schema_in format) row.profile (slot_columns values) (λ r. eq_by_cmp (slice_cmp nat_cmp) (slice_index_or values 0 []) (slice_index_or r.values 0 []) && (eq_by_cmp (slice_cmp nat_cmp) (slice_index_or values 1 []) (slice_index_or r.values 1 []) && (eq_by_cmp (slice_cmp nat_cmp) (slice_index_or values 2 []) (slice_index_or r.values 2 []) && (eq_by_cmp (slice_cmp nat_cmp) (slice_index_or values 3 []) (slice_index_or r.values 3 []) && (eq_by_cmp (slice_cmp nat_cmp) (slice_index_or values 4 []) (slice_index_or r.values 4 []) && (eq_by_cmp (slice_cmp nat_cmp) (slice_index_or values 5 []) (slice_index_or r.values 5 []))))))) texts.profile_of_values
unfolding understood everything
of_values format values = record {
  tests = op2 (Compare Eq Binary) (col 1 2) (col 0 0) ∷ op2 (Compare Eq Binary) (col 1 3) (col 0 1) ∷ op2 (Compare Eq Binary) (col 1 4) (col 0 2) ∷ op2 (Compare Eq Binary) (col 1 5) (col 0 3) ∷ op2 (Compare Eq Binary) (col 1 6) (col 0 4) ∷ op2 (Compare Eq Binary) (col 1 7) (col 0 5) ∷ [];
  project = profile_shown;
  order = by_rowid;
  names = map (λ c. c.name) row.profile.table.columns;
  command = refl;
  plain = (refl, refl);
  unlisted = refl;
  test = λ r. equal Binary (column r 1) (Text (slice_index_or values 0 [])) && (equal Binary (column r 2) (Text (slice_index_or values 1 [])) && (equal Binary (column r 3) (Text (slice_index_or values 2 [])) && (equal Binary (column r 4) (Text (slice_index_or values 3 [])) && (equal Binary (column r 5) (Text (slice_index_or values 4 [])) && (equal Binary (column r 6) (Text (slice_index_or values 5 [])) && true)))));
  hits = λ r. refl;
  agree = λ w. ap₂ ◌&&◌ (equal-Text (slice_index_or w.values 0 []) (slice_index_or values 0 [])) (ap₂ ◌&&◌ (equal-Text (slice_index_or w.values 1 []) (slice_index_or values 1 [])) (ap₂ ◌&&◌ (equal-Text (slice_index_or w.values 2 []) (slice_index_or values 2 [])) (ap₂ ◌&&◌ (equal-Text (slice_index_or w.values 3 []) (slice_index_or values 3 [])) (ap₂ ◌&&◌ (equal-Text (slice_index_or w.values 4 []) (slice_index_or values 4 [])) (and-true _ ∙ equal-Text (slice_index_or w.values 5 []) (slice_index_or values 5 []))))));
  sorted_by = λ r. column r 0 ∷ [];
  shows = λ r. refl;
  in_order = λ v w. then-Equal _ ∙ sorted-Nat v.number w.number;
}

-- ---- read, of any stored rows

pub all_stored : (format : Format) → ReadsStored (schema_in format) row.profile [] (λ r. true) (λ r. true) texts.profile.all
unfolding all
all_stored format = record { reads = all format; tested = λ r. refl }

pub get_stored : (format : Format) (k : ℕ) → ReadsStored (schema_in format) row.profile (bind_number k) (stands_at_number k) (λ r. eq_by_cmp row.profile.order k (row.profile.key r)) texts.profile.get
unfolding get
get_stored format k = record { reads = get format k; tested = λ r. refl }

pub of_values_stored : (format : Format) (values : List (List ℕ)) → ReadsStored (schema_in format) row.profile (slot_columns values) (has_values values) (λ r. eq_by_cmp (slice_cmp nat_cmp) (slice_index_or values 0 []) (slice_index_or r.values 0 []) && (eq_by_cmp (slice_cmp nat_cmp) (slice_index_or values 1 []) (slice_index_or r.values 1 []) && (eq_by_cmp (slice_cmp nat_cmp) (slice_index_or values 2 []) (slice_index_or r.values 2 []) && (eq_by_cmp (slice_cmp nat_cmp) (slice_index_or values 3 []) (slice_index_or r.values 3 []) && (eq_by_cmp (slice_cmp nat_cmp) (slice_index_or values 4 []) (slice_index_or r.values 4 []) && (eq_by_cmp (slice_cmp nat_cmp) (slice_index_or values 5 []) (slice_index_or r.values 5 []))))))) texts.profile_of_values
unfolding of_values
of_values_stored format values = record { reads = of_values format values; tested = λ r. refl }

pub greatest_stored : (format : Format) → ReadsFrontStored (schema_in format) last_one row.profile [] (λ r. true) (λ r. true) texts.last_profile
unfolding greatest
greatest_stored format = record { reads = greatest format; tested = λ r. refl; in_order = λ r s. refl }

-- ---- count

pub count : (format : Format) → CountsAll (schema_in format) row.profile texts.profile.count
unfolding understood everything
count format = record { names = codes "count(*)" ∷ []; command = refl; plain = (refl, refl); unlisted = refl }
