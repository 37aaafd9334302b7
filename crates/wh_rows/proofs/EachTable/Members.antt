-- The statements on member.
use Rattle.std.proofs.Common.{◌≡◌, ℕ, List, [], ◌∷◌, codes, map, pos, true, ◌&&◌, refl, sym, ap, ap₂, ◌∙◌, drop, inl, inr, Some}
use Rattle.std.specs.Ordering.{is_eq, eq_by_cmp, nat_cmp, ordering_then}
use Rattle.std.specs.Cmp.Lexicographic.{slice_cmp}
use Rattle.sqlite_value.specs.declared.value.Value.TheVariants.{Null, Int, Text}
use Rattle.sqlite_value.specs.Keys.{first_key}
use Rattle.sqlite_value.proofs.OrderLemmas.{then-Equal}
use Rattle.sqlite_sql.specs.declared.ops.BinaryOp.TheVariants.{Compare}
use Rattle.sqlite_sql.specs.declared.ops.CompareOp.TheVariants.{Eq}
use Rattle.sqlite_sql.specs.declared.ops.UnaryOp.TheVariants.{ToNumeric}
use Rattle.sqlite_sql.specs.Ops.{unary}
use Rattle.sqlite_schema.specs.Rules.{equal}
use Rattle.sqlite_rules.specs.Edit.{next_rowid, with_rowid}
use Rattle.sqlite_rules.specs.declared.error.Rowids.TheVariants.{Chosen}
use Rattle.sqlite_tied.specs.Compute.{everything}
use Rattle.sqlite.specs.Collation.TheVariants.{Binary}
use Rattle.sqlite.specs.Order.{column}
use Rattle.sqlite.specs.Term.{Term, lit, col, op1, op2}
use Rattle.sqlite.specs.Given.{IsPlain}
use Rattle.sqlite.specs.Listing.{understood}
use Rattle.wh_policy.specs.declared.attribute.Dim.{Dim}
use Rattle.wh_rows.specs.Types.{dim_number}
use Rattle.sqlite.specs.Command.TheVariants.{InsertOr}
use Rattle.sqlite.specs.Source.TheVariants.{Values}
use Rattle.sqlite_schema.specs.declared.command.Conflict.TheVariants.{Abort}
use Rattle.wh_rows.specs.Statements.{reading}
use Rattle.wh_policy.specs.declared.format.Format.{Format}
use Rattle.wh_policy.specs.declared.format.Format.TheVariants.{One, Two}
use Rattle.wh_rows.specs.Schema.{schema_in}
use Rattle.wh_rows.proofs.Formats.{same_conflicts, nothing_works}
use Rattle.wh_rows.specs.Rows.{MemberKey}
use Rattle.wh_rows.specs.Rows as row
use Rattle.wh_rows.specs.Texts as texts
use Rattle.wh_rows.specs.Keys.{bind_member, stands_at_member}
use Rattle.wh_rows.specs.Meaning.{command_of, same_rowid, PutsOne, KeepsApart, RemovesOne, ReadsSome, CountsAll}
use Rattle.wh_rows.specs.Raw.{ReadsStored, ReadsFrontStored}
use Rattle.wh_rows.specs.Questions.{has_natural, is_of_dim}
use Rattle.wh_rows.specs.Firsts.{last_one, ReadsFirst}
use Rattle.wh_rows.proofs.Cast.{cast_row_own}
use Rattle.wh_rows.proofs.ShownColumns.{member_shown, by_two}
use Rattle.wh_rows.proofs.Keys.{and-true, equal-Nat, equal-Text, sorted-Nat, then_eq, trimmed_and}
use Rattle.wh_rows.specs.Schema.{index}

-- ---- put

abbrev put_terms : List Term
put_terms = lit Null ∷ col 0 0 ∷ col 0 1 ∷ col 0 2 ∷ col 0 3 ∷ []

abbrev put_cells : List Term
put_cells = col 1 0 ∷ col 1 1 ∷ col 1 2 ∷ col 0 8 ∷ col 0 9 ∷ []

put_means : (format : Format) → command_of (understood (schema_in format) texts.member.put)
    ≡ InsertOr 2 Abort (Values put_terms 5) (record { target = Some (1 ∷ 2 ∷ []); update = Some (record { lets = []; body = reading row.member.table.tree (same_rowid 4) (col 1 0 ∷ put_cells) [] }) } ∷ [])
unfolding understood everything first_key
put_means One = refl
put_means Two = refl

put_plain : (format : Format) → IsPlain (understood (schema_in format) texts.member.put)
unfolding understood everything first_key
put_plain One = (refl, refl)
put_plain Two = (refl, refl)

pub put : (format : Format) → PutsOne (schema_in format) row.member texts.member.put
unfolding understood everything first_key
put format = record {
  at = 2;
  table = record { has = refl; uncounted = refl; unstamped = refl; idle = nothing_works format _ };
  terms = put_terms;
  width = 5;
  target = 1 ∷ 2 ∷ [];
  here = 4;
  cells = put_cells;
  command = put_means format;
  plain = put_plain format;
  source = λ v. Null ∷ row.member.encode v;
  given = λ v. refl;
  own = λ v. cast_row_own row.member.table Null (row.member.encode v) refl refl;
  kept = λ v rows. cast_row_own row.member.table (Int (next_rowid rows)) (row.member.encode v) refl refl;
  shows = λ v rows. refl;
  test = λ v r. equal Binary (column r 0) (Int (pos (dim_number v.dim))) && equal Binary (column r 1) (Int (pos v.durable));
  hits = λ v rows r. same_conflicts (Some (1 ∷ 2 ∷ [])) row.member.table (with_rowid Chosen rows (Null ∷ row.member.encode v)) r refl format ∙ trimmed_and _ _;
  agree = λ v w. ap₂ ◌&&◌ (equal-Nat (dim_number w.dim) (dim_number v.dim)) (equal-Nat w.durable v.durable) ∙ sym (then_eq (nat_cmp (dim_number v.dim) (dim_number w.dim)) (nat_cmp v.durable w.durable));
  finds = λ v rows id r. refl;
  over = λ v vs. column vs 0 ∷ column vs 1 ∷ drop 2 (row.member.encode v);
  writes = λ v rows id r. refl;
  remade = λ v w same r n number is. (cast_row_own row.member.table (Int n) (Int (pos (dim_number w.dim)) ∷ Int (pos w.durable) ∷ drop 2 (row.member.encode v)) refl refl, ap (λ (k : MemberKey). Int (pos (dim_number k.dim)) ∷ Int (pos k.durable) ∷ drop 2 (row.member.encode v)) same);
}

-- members of one dimension have natural keys of their own
pub own_naturals : (format : Format) → KeepsApart (schema_in format) row.member (λ v w. is_eq (nat_cmp (dim_number v.dim) (dim_number w.dim)) && is_eq (slice_cmp nat_cmp v.natural w.natural))
unfolding first_key
own_naturals format = record {
  index = index (codes "sqlite_autoindex_member_2") 6 4 (1 ∷ 3 ∷ []) true;
  among = inr (inr (inr (inl refl)));
  guards = refl;
  meets = λ r x. equal Binary (column r 0) (column x 0) && (equal Binary (column r 2) (column x 2) && true);
  agrees = λ r x. refl;
  same = λ v w. ap₂ ◌&&◌ (equal-Nat (dim_number w.dim) (dim_number v.dim)) (and-true _ ∙ equal-Text w.natural v.natural);
}

-- ---- remove

pub remove : (format : Format) → RemovesOne (schema_in format) row.member bind_member texts.member.remove
unfolding understood everything unary
remove format = record {
  at = 2;
  table = record { has = refl; uncounted = refl; unstamped = refl; idle = nothing_works format _ };
  tests = op2 (Compare Eq Binary) (col 1 1) (op1 ToNumeric (col 0 0)) ∷ op2 (Compare Eq Binary) (col 1 2) (op1 ToNumeric (col 0 1)) ∷ [];
  command = refl;
  plain = (refl, refl);
  test = λ k r. equal Binary (column r 0) (Int (pos (dim_number k.dim))) && (equal Binary (column r 1) (Int (pos k.durable)) && true);
  hits = λ k r. refl;
  agree = λ k w. ap₂ ◌&&◌ (equal-Nat (dim_number w.dim) (dim_number k.dim)) (and-true _ ∙ equal-Nat w.durable k.durable) ∙ sym (then_eq (nat_cmp (dim_number k.dim) (dim_number w.dim)) (nat_cmp k.durable w.durable));
}

-- ---- read, in order of key

pub all : (format : Format) → ReadsSome (schema_in format) row.member [] (λ r. true) texts.member.all
unfolding understood everything
all format = record {
  tests = [];
  project = member_shown;
  order = by_two;
  names = map (λ c. c.name) row.member.table.columns;
  command = refl;
  plain = (refl, refl);
  unlisted = refl;
  test = λ r. true;
  hits = λ r. refl;
  agree = λ v. refl;
  sorted_by = λ r. column r 0 ∷ column r 1 ∷ [];
  shows = λ r. refl;
  in_order = λ v w. ap₂ ordering_then (sorted-Nat (dim_number v.dim) (dim_number w.dim)) (then-Equal _ ∙ sorted-Nat v.durable w.durable);
}

pub get : (format : Format) (k : MemberKey) → ReadsSome (schema_in format) row.member (bind_member k) (λ r. eq_by_cmp row.member.order k (row.member.key r)) texts.member.get
unfolding understood everything unary
get format k = record {
  tests = op2 (Compare Eq Binary) (col 1 1) (op1 ToNumeric (col 0 0)) ∷ op2 (Compare Eq Binary) (col 1 2) (op1 ToNumeric (col 0 1)) ∷ [];
  project = member_shown;
  order = by_two;
  names = map (λ c. c.name) row.member.table.columns;
  command = refl;
  plain = (refl, refl);
  unlisted = refl;
  test = λ r. equal Binary (column r 0) (Int (pos (dim_number k.dim))) && (equal Binary (column r 1) (Int (pos k.durable)) && true);
  hits = λ r. refl;
  agree = λ w. ap₂ ◌&&◌ (equal-Nat (dim_number w.dim) (dim_number k.dim)) (and-true _ ∙ equal-Nat w.durable k.durable) ∙ sym (then_eq (nat_cmp (dim_number k.dim) (dim_number w.dim)) (nat_cmp k.durable w.durable));
  sorted_by = λ r. column r 0 ∷ column r 1 ∷ [];
  shows = λ r. refl;
  in_order = λ v w. ap₂ ordering_then (sorted-Nat (dim_number v.dim) (dim_number w.dim)) (then-Equal _ ∙ sorted-Nat v.durable w.durable);
}

-- the member that the source calls so
pub of_natural : (format : Format) (dim : Dim) (natural : List ℕ) → ReadsSome (schema_in format) row.member (Int (pos (dim_number dim)) ∷ Text natural ∷ []) (λ r. eq_by_cmp nat_cmp (dim_number dim) (dim_number r.dim) && eq_by_cmp (slice_cmp nat_cmp) natural r.natural) texts.member_of_natural
unfolding understood everything unary
of_natural format dim natural = record {
  tests = op2 (Compare Eq Binary) (col 1 1) (op1 ToNumeric (col 0 0)) ∷ op2 (Compare Eq Binary) (col 1 3) (col 0 1) ∷ [];
  project = member_shown;
  order = by_two;
  names = map (λ c. c.name) row.member.table.columns;
  command = refl;
  plain = (refl, refl);
  unlisted = refl;
  test = λ r. equal Binary (column r 0) (Int (pos (dim_number dim))) && (equal Binary (column r 2) (Text natural) && true);
  hits = λ r. refl;
  agree = λ w. ap₂ ◌&&◌ (equal-Nat (dim_number w.dim) (dim_number dim)) (and-true _ ∙ equal-Text w.natural natural);
  sorted_by = λ r. column r 0 ∷ column r 1 ∷ [];
  shows = λ r. refl;
  in_order = λ v w. ap₂ ordering_then (sorted-Nat (dim_number v.dim) (dim_number w.dim)) (then-Equal _ ∙ sorted-Nat v.durable w.durable);
}

-- the member of a dimension with the greatest durable key
pub greatest : (format : Format) (dim : Dim) → ReadsFirst (schema_in format) row.member (Int (pos (dim_number dim)) ∷ []) (λ r. eq_by_cmp nat_cmp (dim_number dim) (dim_number r.dim)) 1 true texts.last_member
unfolding understood everything unary
greatest format dim = record {
  tests = op2 (Compare Eq Binary) (col 1 1) (op1 ToNumeric (col 0 0)) ∷ [];
  project = member_shown;
  order = (col 1 1, record { collation = Binary; descending = true }) ∷ (col 1 2, record { collation = Binary; descending = true }) ∷ [];
  names = map (λ c. c.name) row.member.table.columns;
  command = refl;
  plain = (refl, refl);
  unlisted = refl;
  test = λ r. equal Binary (column r 0) (Int (pos (dim_number dim))) && true;
  hits = λ r. refl;
  agree = λ w. and-true _ ∙ equal-Nat (dim_number w.dim) (dim_number dim);
  sorted_by = λ r. column r 0 ∷ column r 1 ∷ [];
  shows = λ r. refl;
  in_order = λ v w. ap₂ ordering_then (sorted-Nat (dim_number w.dim) (dim_number v.dim)) (then-Equal _ ∙ sorted-Nat w.durable v.durable);
}

-- ---- read, of any stored rows

pub all_stored : (format : Format) → ReadsStored (schema_in format) row.member [] (λ r. true) (λ r. true) texts.member.all
unfolding all
all_stored format = record { reads = all format; tested = λ r. refl }

pub get_stored : (format : Format) (k : MemberKey) → ReadsStored (schema_in format) row.member (bind_member k) (stands_at_member k) (λ r. eq_by_cmp row.member.order k (row.member.key r)) texts.member.get
unfolding get
get_stored format k = record { reads = get format k; tested = λ r. refl }

pub of_natural_stored : (format : Format) (dim : Dim) (natural : List ℕ) → ReadsStored (schema_in format) row.member (Int (pos (dim_number dim)) ∷ Text natural ∷ []) (has_natural dim natural) (λ r. eq_by_cmp nat_cmp (dim_number dim) (dim_number r.dim) && eq_by_cmp (slice_cmp nat_cmp) natural r.natural) texts.member_of_natural
unfolding of_natural
of_natural_stored format dim natural = record { reads = of_natural format dim natural; tested = λ r. refl }

pub greatest_stored : (format : Format) (dim : Dim) → ReadsFrontStored (schema_in format) last_one row.member (Int (pos (dim_number dim)) ∷ []) (is_of_dim dim) (λ r. eq_by_cmp nat_cmp (dim_number dim) (dim_number r.dim)) texts.last_member
unfolding greatest
greatest_stored format dim = record { reads = greatest format dim; tested = λ r. refl; in_order = λ r s. refl }

-- ---- count

pub count : (format : Format) → CountsAll (schema_in format) row.member texts.member.count
unfolding understood everything
count format = record { names = codes "count(*)" ∷ []; command = refl; plain = (refl, refl); unlisted = refl }
