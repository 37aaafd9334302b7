-- The statements on fact.
use Rattle.std.proofs.Common.{Bool, ◌≡◌, List, [], ◌∷◌, codes, map, pos, true, ◌&&◌, ◌==◌, refl, sym, ap₂, ◌∙◌, drop, ap, Some}
use Rattle.std.specs.Prelude.{IsTrue}
use Rattle.std.proofs.lemmas.Bool.{and_parts}
use Rattle.std.specs.Ordering.{eq_by_cmp, nat_cmp, ordering_then}
use Rattle.std.specs.Cmp.Lexicographic.{slice_cmp}
use Rattle.sqlite_value.specs.declared.value.Value.TheVariants.{Null, Int, Text}
use Rattle.sqlite_value.specs.Keys.{first_key}
use Rattle.sqlite_value.proofs.OrderLemmas.{then-Equal, value_cmp-Text}
use Rattle.sqlite_sql.specs.declared.ops.BinaryOp.TheVariants.{Compare}
use Rattle.sqlite_sql.specs.declared.ops.CompareOp.TheVariants.{Eq}
use Rattle.sqlite_sql.specs.declared.ops.UnaryOp.TheVariants.{ToNumeric}
use Rattle.sqlite_sql.specs.Ops.{unary}
use Rattle.sqlite_schema.specs.Rules.{equal}
use Rattle.sqlite_rules.specs.Edit.{next_rowid, with_rowid}
use Rattle.sqlite_rules.specs.declared.error.Rowids.TheVariants.{Chosen}
use Rattle.sqlite_tied.specs.Compute.{everything}
use Rattle.sqlite.specs.Collation.TheVariants.{Binary}
use Rattle.sqlite.specs.Order.{column}
use Rattle.sqlite.specs.Term.{Term, lit, col, op1, op2}
use Rattle.sqlite.specs.Given.{IsPlain}
use Rattle.sqlite.specs.Listing.{understood}
use Rattle.sqlite.specs.Command.TheVariants.{InsertOr}
use Rattle.sqlite.specs.Source.TheVariants.{Values}
use Rattle.sqlite_schema.specs.declared.command.Conflict.TheVariants.{Abort}
use Rattle.wh_rows.specs.Statements.{reading}
use Rattle.wh_policy.specs.declared.format.Format.{Format}
use Rattle.wh_policy.specs.declared.format.Format.TheVariants.{One, Two}
use Rattle.wh_rows.specs.Schema.{schema_in}
use Rattle.wh_rows.proofs.Formats.{same_conflicts, nothing_works}
use Rattle.wh_rows.specs.Rows.{LineKey, has_good_columns, is_fact}
use Rattle.wh_rows.specs.Types.{is_key, is_line, is_number, is_measure}
use Rattle.wh_rows.specs.Rows as row
use Rattle.wh_rows.specs.Texts as texts
use Rattle.wh_rows.specs.Keys.{bind_line, stands_at_line}
use Rattle.wh_rows.specs.Meaning.{command_of, same_rowid, PutsOne, MovesOne, RemovesOne, RemovesAll, ReadsSome, CountsAll}
use Rattle.wh_rows.specs.Raw.{ReadsStored}
use Rattle.wh_rows.specs.Rekey.{Rekey, rekey_text, bind_rekey, are_keys, with_keys}
use Rattle.wh_rows.proofs.Cast.{cast_row_own}
use Rattle.wh_rows.proofs.ColumnLemmas.{both}
use Rattle.wh_rows.proofs.ShownColumns.{fact_shown, by_two}
use Rattle.wh_rows.proofs.Keys.{and-true, equal-Nat, equal-Text, sorted-Nat, then_eq, trimmed_and}
use Rattle.wh_history.specs.declared.facts.Fact.{Fact}
use Rattle.wh_day.specs.Day.{is_day}

-- ---- put

abbrev put_terms : List Term
put_terms = lit Null ∷ col 0 0 ∷ col 0 1 ∷ col 0 2 ∷ col 0 3 ∷ col 0 4 ∷ col 0 5 ∷ col 0 6 ∷ col 0 7 ∷ col 0 8 ∷ col 0 9 ∷ col 0 10 ∷ col 0 11 ∷ col 0 12 ∷ []

abbrev put_cells : List Term
put_cells = col 1 0 ∷ col 1 1 ∷ col 1 2 ∷ col 0 17 ∷ col 0 18 ∷ col 0 19 ∷ col 0 20 ∷ col 0 21 ∷ col 0 22 ∷ col 0 23 ∷ col 0 24 ∷ col 0 25 ∷ col 0 26 ∷ col 0 27 ∷ []

put_means : (format : Format) → command_of (understood (schema_in format) texts.fact.put)
    ≡ InsertOr 9 Abort (Values put_terms 14) (record { target = Some (1 ∷ 2 ∷ []); update = Some (record { lets = []; body = reading row.fact.table.tree (same_rowid 13) (col 1 0 ∷ put_cells) [] }) } ∷ [])
unfolding understood everything first_key
put_means One = refl
put_means Two = refl

put_plain : (format : Format) → IsPlain (understood (schema_in format) texts.fact.put)
unfolding understood everything first_key
put_plain One = (refl, refl)
put_plain Two = (refl, refl)

pub put : (format : Format) → PutsOne (schema_in format) row.fact texts.fact.put
unfolding understood everything first_key
put format = record {
  at = 9;
  table = record { has = refl; uncounted = refl; unstamped = refl; idle = nothing_works format _ };
  terms = put_terms;
  width = 14;
  target = 1 ∷ 2 ∷ [];
  here = 13;
  cells = put_cells;
  command = put_means format;
  plain = put_plain format;
  source = λ v. Null ∷ row.fact.encode v;
  given = λ v. refl;
  own = λ v. cast_row_own row.fact.table Null (row.fact.encode v) refl refl;
  kept = λ v rows. cast_row_own row.fact.table (Int (next_rowid rows)) (row.fact.encode v) refl refl;
  shows = λ v rows. refl;
  test = λ v r. equal Binary (column r 0) (Text v.ticket) && equal Binary (column r 1) (Int (pos v.line));
  hits = λ v rows r. same_conflicts (Some (1 ∷ 2 ∷ [])) row.fact.table (with_rowid Chosen rows (Null ∷ row.fact.encode v)) r refl format ∙ trimmed_and _ _;
  agree = λ v w. ap₂ ◌&&◌ (equal-Text w.ticket v.ticket) (equal-Nat w.line v.line) ∙ sym (then_eq (slice_cmp nat_cmp v.ticket w.ticket) (nat_cmp v.line w.line));
  finds = λ v rows id r. refl;
  over = λ v vs. column vs 0 ∷ column vs 1 ∷ drop 2 (row.fact.encode v);
  writes = λ v rows id r. refl;
  remade = λ v w same r n number is. (cast_row_own row.fact.table (Int n) (Text w.ticket ∷ Int (pos w.line) ∷ drop 2 (row.fact.encode v)) refl refl, ap (λ (k : LineKey). Text k.ticket ∷ Int (pos k.line) ∷ drop 2 (row.fact.encode v)) same);
}

-- ---- other keys

pub rekey : (format : Format) → MovesOne (schema_in format) row.fact bind_rekey (λ r. r.0) with_keys rekey_text
unfolding understood everything unary
rekey format = record {
  at = 9;
  table = record { has = refl; uncounted = refl; unstamped = refl; idle = nothing_works format _ };
  tests = op2 (Compare Eq Binary) (col 1 1) (col 0 0) ∷ op2 (Compare Eq Binary) (col 1 2) (op1 ToNumeric (col 0 1)) ∷ [];
  cells = col 1 0 ∷ col 1 1 ∷ col 1 2 ∷ col 1 3 ∷ col 0 2 ∷ col 0 3 ∷ col 0 4 ∷ col 1 7 ∷ col 1 8 ∷ col 1 9 ∷ col 0 5 ∷ col 1 11 ∷ col 1 12 ∷ col 1 13 ∷ [];
  command = refl;
  plain = (refl, refl);
  test = λ p r. equal Binary (column r 0) (Text p.0.ticket) && (equal Binary (column r 1) (Int (pos p.0.line)) && true);
  hits = λ p r. refl;
  agree = λ p w. ap₂ ◌&&◌ (equal-Text w.ticket p.0.ticket) (and-true _ ∙ equal-Nat w.line p.0.line) ∙ sym (then_eq (slice_cmp nat_cmp p.0.ticket w.ticket) (nat_cmp p.0.line w.line));
  over = λ p vs. column vs 0 ∷ column vs 1 ∷ column vs 2 ∷ Int (pos p.1.store_key) ∷ Int (pos p.1.product_key) ∷ Int (pos p.1.customer_key) ∷ column vs 6 ∷ column vs 7 ∷ column vs 8 ∷ Int (pos p.1.profile)
      ∷ column vs 10 ∷ column vs 11 ∷ column vs 12 ∷ [];
  writes = λ p r. refl;
  remade = λ p w r n number is. (cast_row_own row.fact.table (Int n) (row.fact.encode (with_keys p w)) refl refl, refl);
  same_key = λ p w. refl;
}

exchanged : (front s p c sd pd cd q x y z s2 p2 c2 q2 : Bool) → (front && s && p && c && sd && pd && cd && q && x && y && z) ≡ true → (s2 && p2 && c2 && q2) ≡ true
    → (front && s2 && p2 && c2 && sd && pd && cd && q2 && x && y && z) ≡ true
exchanged front s p c sd pd cd q x y z s2 p2 c2 q2 all keys =
    let of_z = and_parts (front && s && p && c && sd && pd && cd && q && x && y) z all in
    let of_y = and_parts (front && s && p && c && sd && pd && cd && q && x) y of_z.0 in
    let of_x = and_parts (front && s && p && c && sd && pd && cd && q) x of_y.0 in
    let of_q = and_parts (front && s && p && c && sd && pd && cd) q of_x.0 in
    let of_cd = and_parts (front && s && p && c && sd && pd) cd of_q.0 in
    let of_pd = and_parts (front && s && p && c && sd) pd of_cd.0 in
    let of_sd = and_parts (front && s && p && c) sd of_pd.0 in
    let of_c = and_parts (front && s && p) c of_sd.0 in
    let of_p = and_parts (front && s) p of_c.0 in
    let of_s = and_parts front s of_p.0 in
    let last = and_parts (s2 && p2 && c2) q2 keys in
    let third = and_parts (s2 && p2) c2 last.0 in
    let two = and_parts s2 p2 third.0 in
    both (both (both (both (both (both (both (both (both (both of_s.0 two.0) two.1) third.1) of_sd.1) of_pd.1) of_cd.1) last.1) of_x.1) of_y.1) of_z.1

-- a valid fact with other keys that can be stored is valid
pub good_rekeyed : (r : Rekey) (f : Fact) → IsTrue (are_keys r.1) → IsTrue (has_good_columns f) → IsTrue (has_good_columns (with_keys r f))
good_rekeyed r f keys valid =
    exchanged (is_key 20 f.ticket && is_line f.line && is_day f.day) (is_number f.keys.store_key) (is_number f.keys.product_key) (is_number f.keys.customer_key)
    (is_number f.store_durable) (is_number f.product_durable) (is_number f.customer_durable) (is_number f.keys.profile)
    (is_measure 9999 f.quantity) (is_measure 999999999 f.amount) (is_measure 999999999 f.cost)
    (is_number r.1.store_key) (is_number r.1.product_key) (is_number r.1.customer_key) (is_number r.1.profile) valid keys

pub valid_rekeyed : (r : Rekey) (f : Fact) → IsTrue (are_keys r.1) → IsTrue (is_fact f) → IsTrue (is_fact (with_keys r f))
valid_rekeyed r f keys valid =
    let parts = and_parts (has_good_columns f) (f.discount == 0) valid in
    both (good_rekeyed r f keys parts.0) parts.1

-- ---- remove

pub remove : (format : Format) → RemovesOne (schema_in format) row.fact bind_line texts.fact.remove
unfolding understood everything unary
remove format = record {
  at = 9;
  table = record { has = refl; uncounted = refl; unstamped = refl; idle = nothing_works format _ };
  tests = op2 (Compare Eq Binary) (col 1 1) (col 0 0) ∷ op2 (Compare Eq Binary) (col 1 2) (op1 ToNumeric (col 0 1)) ∷ [];
  command = refl;
  plain = (refl, refl);
  test = λ k r. equal Binary (column r 0) (Text k.ticket) && (equal Binary (column r 1) (Int (pos k.line)) && true);
  hits = λ k r. refl;
  agree = λ k w. ap₂ ◌&&◌ (equal-Text w.ticket k.ticket) (and-true _ ∙ equal-Nat w.line k.line) ∙ sym (then_eq (slice_cmp nat_cmp k.ticket w.ticket) (nat_cmp k.line w.line));
}

pub clear : (format : Format) → RemovesAll (schema_in format) row.fact texts.clear_facts
unfolding understood everything
clear format = record {
  at = 9;
  table = record { has = refl; uncounted = refl; unstamped = refl; idle = nothing_works format _ };
  command = refl;
  plain = (refl, refl);
}

-- ---- read, in order of key

pub all : (format : Format) → ReadsSome (schema_in format) row.fact [] (λ r. true) texts.fact.all
unfolding understood everything
all format = record {
  tests = [];
  project = fact_shown;
  order = by_two;
  names = map (λ c. c.name) row.fact.table.columns;
  command = refl;
  plain = (refl, refl);
  unlisted = refl;
  test = λ r. true;
  hits = λ r. refl;
  agree = λ v. refl;
  sorted_by = λ r. column r 0 ∷ column r 1 ∷ [];
  shows = λ r. refl;
  in_order = λ v w. ap₂ ordering_then (value_cmp-Text v.ticket w.ticket) (then-Equal _ ∙ sorted-Nat v.line w.line);
}

pub get : (format : Format) (k : LineKey) → ReadsSome (schema_in format) row.fact (bind_line k) (λ r. eq_by_cmp row.fact.order k (row.fact.key r)) texts.fact.get
unfolding understood everything unary
get format k = record {
  tests = op2 (Compare Eq Binary) (col 1 1) (col 0 0) ∷ op2 (Compare Eq Binary) (col 1 2) (op1 ToNumeric (col 0 1)) ∷ [];
  project = fact_shown;
  order = by_two;
  names = map (λ c. c.name) row.fact.table.columns;
  command = refl;
  plain = (refl, refl);
  unlisted = refl;
  test = λ r. equal Binary (column r 0) (Text k.ticket) && (equal Binary (column r 1) (Int (pos k.line)) && true);
  hits = λ r. refl;
  agree = λ w. ap₂ ◌&&◌ (equal-Text w.ticket k.ticket) (and-true _ ∙ equal-Nat w.line k.line) ∙ sym (then_eq (slice_cmp nat_cmp k.ticket w.ticket) (nat_cmp k.line w.line));
  sorted_by = λ r. column r 0 ∷ column r 1 ∷ [];
  shows = λ r. refl;
  in_order = λ v w. ap₂ ordering_then (value_cmp-Text v.ticket w.ticket) (then-Equal _ ∙ sorted-Nat v.line w.line);
}

-- ---- read, of any stored rows

pub all_stored : (format : Format) → ReadsStored (schema_in format) row.fact [] (λ r. true) (λ r. true) texts.fact.all
unfolding all
all_stored format = record { reads = all format; tested = λ r. refl }

pub get_stored : (format : Format) (k : LineKey) → ReadsStored (schema_in format) row.fact (bind_line k) (stands_at_line k) (λ r. eq_by_cmp row.fact.order k (row.fact.key r)) texts.fact.get
unfolding get
get_stored format k = record { reads = get format k; tested = λ r. refl }

-- ---- count

pub count : (format : Format) → CountsAll (schema_in format) row.fact texts.fact.count
unfolding understood everything
count format = record { names = codes "count(*)" ∷ []; command = refl; plain = (refl, refl); unlisted = refl }
