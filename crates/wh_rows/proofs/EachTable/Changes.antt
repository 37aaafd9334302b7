-- The statements on change.
use Rattle.std.proofs.Common.{◌≡◌, ℕ, List, [], ◌∷◌, codes, map, pos, true, ◌&&◌, refl, sym, ap₂, ◌∙◌, drop, ap, Some}
use Rattle.std.specs.Ordering.{eq_by_cmp, nat_cmp, ordering_then}
use Rattle.sqlite_value.specs.declared.value.Value.TheVariants.{Null, Int}
use Rattle.sqlite_value.specs.Keys.{first_key}
use Rattle.sqlite_value.proofs.OrderLemmas.{then-Equal}
use Rattle.sqlite_sql.specs.declared.ops.BinaryOp.TheVariants.{Compare}
use Rattle.sqlite_sql.specs.declared.ops.CompareOp.TheVariants.{Eq}
use Rattle.sqlite_sql.specs.declared.ops.UnaryOp.TheVariants.{ToNumeric}
use Rattle.sqlite_sql.specs.Ops.{unary}
use Rattle.sqlite_schema.specs.Rules.{equal}
use Rattle.sqlite_rules.specs.Edit.{next_rowid, with_rowid}
use Rattle.sqlite_rules.specs.declared.error.Rowids.TheVariants.{Chosen}
use Rattle.sqlite_tied.specs.Compute.{everything}
use Rattle.sqlite.specs.Collation.TheVariants.{Binary}
use Rattle.sqlite.specs.Order.{column}
use Rattle.sqlite.specs.Term.{Term, lit, col, op1, op2}
use Rattle.sqlite.specs.Given.{IsPlain}
use Rattle.sqlite.specs.Listing.{understood}
use Rattle.wh_policy.specs.declared.attribute.Dim.{Dim}
use Rattle.wh_rows.specs.Types.{dim_number}
use Rattle.sqlite.specs.Command.TheVariants.{InsertOr}
use Rattle.sqlite.specs.Source.TheVariants.{Values}
use Rattle.sqlite_schema.specs.declared.command.Conflict.TheVariants.{Abort}
use Rattle.wh_rows.specs.Statements.{reading}
use Rattle.wh_policy.specs.declared.format.Format.{Format}
use Rattle.wh_policy.specs.declared.format.Format.TheVariants.{One, Two}
use Rattle.wh_rows.specs.Schema.{schema_in}
use Rattle.wh_rows.proofs.Formats.{same_conflicts, nothing_works}
use Rattle.wh_rows.specs.Rows.{ChangeKey}
use Rattle.wh_rows.specs.Rows as row
use Rattle.wh_rows.specs.Texts as texts
use Rattle.wh_rows.specs.Keys.{bind_change, stands_at_change}
use Rattle.wh_rows.specs.Meaning.{command_of, same_rowid, PutsOne, RemovesOne, ReadsSome, CountsAll}
use Rattle.wh_rows.specs.Raw.{ReadsStored, ReadsGreatestStored}
use Rattle.wh_rows.specs.Questions.{is_of_member, is_record_of, anchor_column}
use Rattle.wh_rows.specs.Firsts.{ReadsGreatest}
use Rattle.wh_rows.proofs.Cast.{cast_row_own}
use Rattle.wh_rows.proofs.ShownColumns.{change_shown, by_two}
use Rattle.wh_rows.proofs.Keys.{and-true, equal-Nat, sorted-Nat, then_eq, trimmed_and}

-- ---- put

abbrev put_terms : List Term
put_terms = lit Null ∷ col 0 0 ∷ col 0 1 ∷ col 0 2 ∷ col 0 3 ∷ col 0 4 ∷ col 0 5 ∷ col 0 6 ∷ col 0 7 ∷ col 0 8 ∷ col 0 9 ∷ col 0 10 ∷ col 0 11 ∷ []

abbrev put_cells : List Term
put_cells = col 1 0 ∷ col 1 1 ∷ col 1 2 ∷ col 0 16 ∷ col 0 17 ∷ col 0 18 ∷ col 0 19 ∷ col 0 20 ∷ col 0 21 ∷ col 0 22 ∷ col 0 23 ∷ col 0 24 ∷ col 0 25 ∷ []

put_means : (format : Format) → command_of (understood (schema_in format) texts.change.put)
    ≡ InsertOr 3 Abort (Values put_terms 13) (record { target = Some (1 ∷ 2 ∷ []); update = Some (record { lets = []; body = reading row.change.table.tree (same_rowid 12) (col 1 0 ∷ put_cells) [] }) } ∷ [])
unfolding understood everything first_key
put_means One = refl
put_means Two = refl

put_plain : (format : Format) → IsPlain (understood (schema_in format) texts.change.put)
unfolding understood everything first_key
put_plain One = (refl, refl)
put_plain Two = (refl, refl)

pub put : (format : Format) → PutsOne (schema_in format) row.change texts.change.put
unfolding understood everything first_key
put format = record {
  at = 3;
  table = record { has = refl; uncounted = refl; unstamped = refl; idle = nothing_works format _ };
  terms = put_terms;
  width = 13;
  target = 1 ∷ 2 ∷ [];
  here = 12;
  cells = put_cells;
  command = put_means format;
  plain = put_plain format;
  source = λ v. Null ∷ row.change.encode v;
  given = λ v. refl;
  own = λ v. cast_row_own row.change.table Null (row.change.encode v) refl refl;
  kept = λ v rows. cast_row_own row.change.table (Int (next_rowid rows)) (row.change.encode v) refl refl;
  shows = λ v rows. refl;
  test = λ v r. equal Binary (column r 0) (Int (pos v.command)) && equal Binary (column r 1) (Int (pos v.place));
  hits = λ v rows r. same_conflicts (Some (1 ∷ 2 ∷ [])) row.change.table (with_rowid Chosen rows (Null ∷ row.change.encode v)) r refl format ∙ trimmed_and _ _;
  agree = λ v w. ap₂ ◌&&◌ (equal-Nat w.command v.command) (equal-Nat w.place v.place) ∙ sym (then_eq (nat_cmp v.command w.command) (nat_cmp v.place w.place));
  finds = λ v rows id r. refl;
  over = λ v vs. column vs 0 ∷ column vs 1 ∷ drop 2 (row.change.encode v);
  writes = λ v rows id r. refl;
  remade = λ v w same r n number is. (cast_row_own row.change.table (Int n) (Int (pos w.command) ∷ Int (pos w.place) ∷ drop 2 (row.change.encode v)) refl refl, ap (λ (k : ChangeKey). Int (pos k.command) ∷ Int (pos k.place) ∷ drop 2 (row.change.encode v)) same);
}

-- ---- remove

pub remove : (format : Format) → RemovesOne (schema_in format) row.change bind_change texts.change.remove
unfolding understood everything unary
remove format = record {
  at = 3;
  table = record { has = refl; uncounted = refl; unstamped = refl; idle = nothing_works format _ };
  tests = op2 (Compare Eq Binary) (col 1 1) (op1 ToNumeric (col 0 0)) ∷ op2 (Compare Eq Binary) (col 1 2) (op1 ToNumeric (col 0 1)) ∷ [];
  command = refl;
  plain = (refl, refl);
  test = λ k r. equal Binary (column r 0) (Int (pos k.command)) && (equal Binary (column r 1) (Int (pos k.place)) && true);
  hits = λ k r. refl;
  agree = λ k w. ap₂ ◌&&◌ (equal-Nat w.command k.command) (and-true _ ∙ equal-Nat w.place k.place) ∙ sym (then_eq (nat_cmp k.command w.command) (nat_cmp k.place w.place));
}

-- ---- read, in order of key

pub all : (format : Format) → ReadsSome (schema_in format) row.change [] (λ r. true) texts.change.all
unfolding understood everything
all format = record {
  tests = [];
  project = change_shown;
  order = by_two;
  names = map (λ c. c.name) row.change.table.columns;
  command = refl;
  plain = (refl, refl);
  unlisted = refl;
  test = λ r. true;
  hits = λ r. refl;
  agree = λ v. refl;
  sorted_by = λ r. column r 0 ∷ column r 1 ∷ [];
  shows = λ r. refl;
  in_order = λ v w. ap₂ ordering_then (sorted-Nat v.command w.command) (then-Equal _ ∙ sorted-Nat v.place w.place);
}

pub get : (format : Format) (k : ChangeKey) → ReadsSome (schema_in format) row.change (bind_change k) (λ r. eq_by_cmp row.change.order k (row.change.key r)) texts.change.get
unfolding understood everything unary
get format k = record {
  tests = op2 (Compare Eq Binary) (col 1 1) (op1 ToNumeric (col 0 0)) ∷ op2 (Compare Eq Binary) (col 1 2) (op1 ToNumeric (col 0 1)) ∷ [];
  project = change_shown;
  order = by_two;
  names = map (λ c. c.name) row.change.table.columns;
  command = refl;
  plain = (refl, refl);
  unlisted = refl;
  test = λ r. equal Binary (column r 0) (Int (pos k.command)) && (equal Binary (column r 1) (Int (pos k.place)) && true);
  hits = λ r. refl;
  agree = λ w. ap₂ ◌&&◌ (equal-Nat w.command k.command) (and-true _ ∙ equal-Nat w.place k.place) ∙ sym (then_eq (nat_cmp k.command w.command) (nat_cmp k.place w.place));
  sorted_by = λ r. column r 0 ∷ column r 1 ∷ [];
  shows = λ r. refl;
  in_order = λ v w. ap₂ ordering_then (sorted-Nat v.command w.command) (then-Equal _ ∙ sorted-Nat v.place w.place);
}

-- the records of a member
pub of_member : (format : Format) (dim : Dim) (durable : ℕ) → ReadsSome (schema_in format) row.change (Int (pos (dim_number dim)) ∷ Int (pos durable) ∷ []) (λ r. eq_by_cmp nat_cmp (dim_number dim) (dim_number r.dim) && eq_by_cmp nat_cmp durable r.durable) texts.changes_of_member
unfolding understood everything unary
of_member format dim durable = record {
  tests = op2 (Compare Eq Binary) (col 1 3) (op1 ToNumeric (col 0 0)) ∷ op2 (Compare Eq Binary) (col 1 4) (op1 ToNumeric (col 0 1)) ∷ [];
  project = change_shown;
  order = by_two;
  names = map (λ c. c.name) row.change.table.columns;
  command = refl;
  plain = (refl, refl);
  unlisted = refl;
  test = λ r. equal Binary (column r 2) (Int (pos (dim_number dim))) && (equal Binary (column r 3) (Int (pos durable)) && true);
  hits = λ r. refl;
  agree = λ w. ap₂ ◌&&◌ (equal-Nat (dim_number w.dim) (dim_number dim)) (and-true _ ∙ equal-Nat w.durable durable);
  sorted_by = λ r. column r 0 ∷ column r 1 ∷ [];
  shows = λ r. refl;
  in_order = λ v w. ap₂ ordering_then (sorted-Nat v.command w.command) (then-Equal _ ∙ sorted-Nat v.place w.place);
}

-- a record of a dimension with the greatest anchor
pub greatest_anchor : (format : Format) (dim : Dim) → ReadsGreatest (schema_in format) row.change (Int (pos (dim_number dim)) ∷ []) (λ r. eq_by_cmp nat_cmp (dim_number dim) (dim_number r.dim)) (λ r. r.anchor) texts.greatest_anchor
unfolding understood everything unary
greatest_anchor format dim = record {
  tests = op2 (Compare Eq Binary) (col 1 3) (op1 ToNumeric (col 0 0)) ∷ [];
  project = change_shown;
  order = (col 1 6, record { collation = Binary; descending = true }) ∷ [];
  names = map (λ c. c.name) row.change.table.columns;
  command = refl;
  plain = (refl, refl);
  unlisted = refl;
  test = λ r. equal Binary (column r 2) (Int (pos (dim_number dim))) && true;
  hits = λ r. refl;
  agree = λ w. and-true _ ∙ equal-Nat (dim_number w.dim) (dim_number dim);
  sorted_by = λ r. column r 5 ∷ [];
  shows = λ r. refl;
  in_order = λ v w. then-Equal _ ∙ sorted-Nat w.anchor v.anchor;
}

-- ---- read, of any stored rows

pub all_stored : (format : Format) → ReadsStored (schema_in format) row.change [] (λ r. true) (λ r. true) texts.change.all
unfolding all
all_stored format = record { reads = all format; tested = λ r. refl }

pub get_stored : (format : Format) (k : ChangeKey) → ReadsStored (schema_in format) row.change (bind_change k) (stands_at_change k) (λ r. eq_by_cmp row.change.order k (row.change.key r)) texts.change.get
unfolding get
get_stored format k = record { reads = get format k; tested = λ r. refl }

pub of_member_stored : (format : Format) (dim : Dim) (durable : ℕ) → ReadsStored (schema_in format) row.change (Int (pos (dim_number dim)) ∷ Int (pos durable) ∷ []) (is_of_member dim durable) (λ r. eq_by_cmp nat_cmp (dim_number dim) (dim_number r.dim) && eq_by_cmp nat_cmp durable r.durable) texts.changes_of_member
unfolding of_member
of_member_stored format dim durable = record { reads = of_member format dim durable; tested = λ r. refl }

pub greatest_anchor_stored : (format : Format) (dim : Dim) → ReadsGreatestStored (schema_in format) anchor_column row.change (Int (pos (dim_number dim)) ∷ []) (is_record_of dim) (λ r. eq_by_cmp nat_cmp (dim_number dim) (dim_number r.dim)) (λ r. r.anchor) texts.greatest_anchor
unfolding greatest_anchor
greatest_anchor_stored format dim = record { reads = greatest_anchor format dim; tested = λ r. refl; in_order = λ r s. then-Equal _ }

-- ---- count

pub count : (format : Format) → CountsAll (schema_in format) row.change texts.change.count
unfolding understood everything
count format = record { names = codes "count(*)" ∷ []; command = refl; plain = (refl, refl); unlisted = refl }
