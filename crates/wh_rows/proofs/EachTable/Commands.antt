-- The statements on command.
use Rattle.std.proofs.Common.{◌≡◌, ℕ, List, [], ◌∷◌, codes, map, drop, pos, true, ◌&&◌, ◌||◌, refl, sym, ap, ap₂, ◌∙◌, inl, inr, Some}
use Rattle.std.specs.Ordering.{is_eq, eq_by_cmp, nat_cmp}
use Rattle.std.specs.Cmp.Lexicographic.{slice_cmp}
use Rattle.sqlite_value.specs.declared.value.Value.TheVariants.{Null, Int, Text}
use Rattle.sqlite_value.specs.Keys.{first_key}
use Rattle.sqlite_value.proofs.OrderLemmas.{then-Equal}
use Rattle.sqlite_sql.specs.declared.ops.BinaryOp.TheVariants.{Compare, Or}
use Rattle.sqlite_sql.specs.declared.ops.CompareOp.TheVariants.{Eq}
use Rattle.sqlite_schema.specs.Rules.{equal}
use Rattle.sqlite_rules.specs.Edit.{with_rowid}
use Rattle.sqlite_rules.specs.declared.error.Rowids.TheVariants.{Chosen}
use Rattle.sqlite_tied.specs.Compute.{everything}
use Rattle.sqlite.specs.Collation.TheVariants.{Binary}
use Rattle.sqlite.specs.Order.{column}
use Rattle.sqlite.specs.Term.{Term, lit, col, op2}
use Rattle.sqlite.specs.Given.{IsPlain}
use Rattle.sqlite.specs.Listing.{understood}
use Rattle.sqlite.specs.Command.TheVariants.{InsertOr}
use Rattle.sqlite.specs.Source.TheVariants.{Values}
use Rattle.sqlite_schema.specs.declared.command.Conflict.TheVariants.{Abort}
use Rattle.wh_rows.specs.Statements.{reading}
use Rattle.wh_policy.specs.declared.format.Format.{Format}
use Rattle.wh_policy.specs.declared.format.Format.TheVariants.{One, Two}
use Rattle.wh_rows.specs.Schema.{schema_in}
use Rattle.wh_rows.proofs.Formats.{same_conflicts, nothing_works}
use Rattle.wh_rows.specs.Rows as row
use Rattle.wh_rows.specs.Texts as texts
use Rattle.wh_rows.specs.Keys.{bind_number, stands_at_number}
use Rattle.wh_rows.specs.Meaning.{command_of, same_rowid, PutsOne, KeepsApart, RemovesOne, ReadsSome, CountsAll}
use Rattle.wh_rows.specs.Raw.{ReadsStored, ReadsFrontStored}
use Rattle.wh_rows.specs.Questions.{has_id, has_policy, gives_policy}
use Rattle.wh_rows.specs.Firsts.{last_one, ReadsFirst}
use Rattle.wh_rows.proofs.Cast.{cast_row_own}
use Rattle.wh_rows.proofs.ShownColumns.{command_shown, by_rowid}
use Rattle.wh_rows.proofs.Keys.{and-true, equal-Nat, equal-Text, is_text, or_true, sorted-Nat, trimmed}
use Rattle.wh_rows.specs.Schema.{index}

-- ---- put

abbrev put_terms : List Term
put_terms = col 0 0 ∷ lit Null ∷ col 0 1 ∷ col 0 2 ∷ col 0 3 ∷ col 0 4 ∷ col 0 5 ∷ []

abbrev put_cells : List Term
put_cells = col 1 0 ∷ lit Null ∷ col 0 9 ∷ col 0 10 ∷ col 0 11 ∷ col 0 12 ∷ col 0 13 ∷ []

put_means : (format : Format) → command_of (understood (schema_in format) texts.command.put)
    ≡ InsertOr 1 Abort (Values put_terms 7) (record { target = Some (0 ∷ []); update = Some (record { lets = []; body = reading row.command.table.tree (same_rowid 6) (col 1 0 ∷ put_cells) [] }) } ∷ [])
unfolding understood everything first_key
put_means One = refl
put_means Two = refl

put_plain : (format : Format) → IsPlain (understood (schema_in format) texts.command.put)
unfolding understood everything first_key
put_plain One = (refl, refl)
put_plain Two = (refl, refl)

pub put : (format : Format) → PutsOne (schema_in format) row.command texts.command.put
unfolding understood everything first_key
put format = record {
  at = 1;
  table = record { has = refl; uncounted = refl; unstamped = refl; idle = nothing_works format _ };
  terms = put_terms;
  width = 7;
  target = 0 ∷ [];
  here = 6;
  cells = put_cells;
  command = put_means format;
  plain = put_plain format;
  source = λ v. Int (pos v.number) ∷ Null ∷ drop 1 (row.command.encode v);
  given = λ v. refl;
  own = λ v. cast_row_own row.command.table (Int (pos v.number)) (Null ∷ drop 1 (row.command.encode v)) refl refl;
  kept = λ v rows. cast_row_own row.command.table (Int (pos v.number)) (Null ∷ drop 1 (row.command.encode v)) refl refl;
  shows = λ v rows. refl;
  test = λ v r. equal Binary (column r 0) (Int (pos v.number));
  hits = λ v rows r. same_conflicts (Some (0 ∷ [])) row.command.table (with_rowid Chosen rows (Int (pos v.number) ∷ Null ∷ drop 1 (row.command.encode v))) r refl format ∙ trimmed _;
  agree = λ v w. equal-Nat w.number v.number;
  finds = λ v rows id r. refl;
  over = λ v vs. Null ∷ drop 1 (row.command.encode v);
  writes = λ v rows id r. refl;
  remade = λ v w same r n number is. (
    cast_row_own row.command.table (Int n) (Null ∷ drop 1 (row.command.encode v)) refl refl,
    ap (λ id. id ∷ drop 1 (row.command.encode v)) (sym number ∙ ap (λ vs. column vs 0) is ∙ ap (λ k. Int (pos k)) same),
  );
}

-- commands have identifiers of their own
pub own_ids : (format : Format) → KeepsApart (schema_in format) row.command (λ v w. is_eq (slice_cmp nat_cmp v.id w.id))
unfolding first_key
own_ids format = record {
  index = index (codes "sqlite_autoindex_command_1") 3 2 (2 ∷ []) true;
  among = inr (inl refl);
  guards = refl;
  meets = λ r x. equal Binary (column r 1) (column x 1) && true;
  agrees = λ r x. refl;
  same = λ v w. and-true _ ∙ equal-Text w.id v.id;
}

-- ---- remove

pub remove : (format : Format) → RemovesOne (schema_in format) row.command bind_number texts.command.remove
unfolding understood everything
remove format = record {
  at = 1;
  table = record { has = refl; uncounted = refl; unstamped = refl; idle = nothing_works format _ };
  tests = op2 (Compare Eq Binary) (col 1 0) (col 0 0) ∷ [];
  command = refl;
  plain = (refl, refl);
  test = λ k r. equal Binary (column r 0) (Int (pos k)) && true;
  hits = λ k r. refl;
  agree = λ k w. and-true _ ∙ equal-Nat w.number k;
}

-- ---- read, in order of key

pub all : (format : Format) → ReadsSome (schema_in format) row.command [] (λ r. true) texts.command.all
unfolding understood everything
all format = record {
  tests = [];
  project = command_shown;
  order = by_rowid;
  names = map (λ c. c.name) row.command.table.columns;
  command = refl;
  plain = (refl, refl);
  unlisted = refl;
  test = λ r. true;
  hits = λ r. refl;
  agree = λ v. refl;
  sorted_by = λ r. column r 0 ∷ [];
  shows = λ r. refl;
  in_order = λ v w. then-Equal _ ∙ sorted-Nat v.number w.number;
}

pub get : (format : Format) (k : ℕ) → ReadsSome (schema_in format) row.command (bind_number k) (λ r. eq_by_cmp row.command.order k (row.command.key r)) texts.command.get
unfolding understood everything
get format k = record {
  tests = op2 (Compare Eq Binary) (col 1 0) (col 0 0) ∷ [];
  project = command_shown;
  order = by_rowid;
  names = map (λ c. c.name) row.command.table.columns;
  command = refl;
  plain = (refl, refl);
  unlisted = refl;
  test = λ r. equal Binary (column r 0) (Int (pos k)) && true;
  hits = λ r. refl;
  agree = λ w. and-true _ ∙ equal-Nat w.number k;
  sorted_by = λ r. column r 0 ∷ [];
  shows = λ r. refl;
  in_order = λ v w. then-Equal _ ∙ sorted-Nat v.number w.number;
}

-- the command that the sender calls so
pub of_id : (format : Format) (id : List ℕ) → ReadsSome (schema_in format) row.command (Text id ∷ []) (λ r. eq_by_cmp (slice_cmp nat_cmp) id r.id) texts.command_of_id
unfolding understood everything
of_id format id = record {
  tests = op2 (Compare Eq Binary) (col 1 2) (col 0 0) ∷ [];
  project = command_shown;
  order = by_rowid;
  names = map (λ c. c.name) row.command.table.columns;
  command = refl;
  plain = (refl, refl);
  unlisted = refl;
  test = λ r. equal Binary (column r 1) (Text id) && true;
  hits = λ r. refl;
  agree = λ w. and-true _ ∙ equal-Text w.id id;
  sorted_by = λ r. column r 0 ∷ [];
  shows = λ r. refl;
  in_order = λ v w. then-Equal _ ∙ sorted-Nat v.number w.number;
}

-- the last that gives a policy
pub last_policy : (format : Format) → ReadsFirst (schema_in format) row.command ([]) (λ r. gives_policy r.kind) 1 true texts.last_policy
unfolding understood everything
last_policy format = record {
  tests = op2 Or (op2 (Compare Eq Binary) (col 1 3) (lit (Text (codes "init")))) (op2 (Compare Eq Binary) (col 1 3) (lit (Text (codes "migrate")))) ∷ [];
  project = command_shown;
  order = (col 1 0, record { collation = Binary; descending = true }) ∷ [];
  names = map (λ c. c.name) row.command.table.columns;
  command = refl;
  plain = (refl, refl);
  unlisted = refl;
  test = has_policy;
  hits = λ r. and-true _ ∙ or_true _ _;
  agree = λ w. ap₂ (λ a b. a || b) (is_text w.kind (codes "init")) (is_text w.kind (codes "migrate"));
  sorted_by = λ r. column r 0 ∷ [];
  shows = λ r. refl;
  in_order = λ v w. then-Equal _ ∙ sorted-Nat w.number v.number;
}

-- ---- read, of any stored rows

pub all_stored : (format : Format) → ReadsStored (schema_in format) row.command [] (λ r. true) (λ r. true) texts.command.all
unfolding all
all_stored format = record { reads = all format; tested = λ r. refl }

pub get_stored : (format : Format) (k : ℕ) → ReadsStored (schema_in format) row.command (bind_number k) (stands_at_number k) (λ r. eq_by_cmp row.command.order k (row.command.key r)) texts.command.get
unfolding get
get_stored format k = record { reads = get format k; tested = λ r. refl }

pub of_id_stored : (format : Format) (id : List ℕ) → ReadsStored (schema_in format) row.command (Text id ∷ []) (has_id id) (λ r. eq_by_cmp (slice_cmp nat_cmp) id r.id) texts.command_of_id
unfolding of_id
of_id_stored format id = record { reads = of_id format id; tested = λ r. refl }

pub last_policy_stored : (format : Format) → ReadsFrontStored (schema_in format) last_one row.command [] has_policy (λ r. gives_policy r.kind) texts.last_policy
unfolding last_policy
last_policy_stored format = record { reads = last_policy format; tested = λ r. refl; in_order = λ r s. refl }

-- ---- count

pub count : (format : Format) → CountsAll (schema_in format) row.command texts.command.count
unfolding understood everything
count format = record { names = codes "count(*)" ∷ []; command = refl; plain = (refl, refl); unlisted = refl }
