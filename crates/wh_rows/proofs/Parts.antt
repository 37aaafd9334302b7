-- Reading a table a part at a time.
use Rattle.std.proofs.Common.{◌≡◌, ℕ, ℤ, pos, List, [], ◌∷◌, map, Bool, true, false, ◌&&◌, ◌||◌, Option, None, Some, refl, sym, ap, ap₂, ◌∙◌, Ordering, Less, Equal, Greater}
use Rattle.std.specs.Ordering.{is_eq, is_gt, is_ge, ordering_then}
use Rattle.sqlite_value.specs.declared.value.Value.{Value}
use Rattle.sqlite_value.specs.declared.value.Value.TheVariants.{Null, Int, Real, Text, Blob}
use Rattle.sqlite_value.specs.declared.keys.Key.{Key}
use Rattle.sqlite_value.specs.Order.{value_cmp}
use Rattle.sqlite_value.proofs.OrderLemmas.{then-Equal, value_cmp-Text}
use Rattle.sqlite_sql.specs.declared.ops.BinaryOp.TheVariants.{Compare, Or}
use Rattle.sqlite_sql.specs.declared.ops.CompareOp.TheVariants.{Ge, Gt}
use Rattle.sqlite_sql.specs.declared.ops.UnaryOp.TheVariants.{ToNumeric}
use Rattle.sqlite_sql.specs.Ops.{binary, unary, from_truth, is_true}
use Rattle.sqlite_schema.specs.Rules.{equal}
use Rattle.sqlite_tied.specs.Compute.{everything}
use Rattle.sqlite.specs.Collation.TheVariants.{Binary}
use Rattle.sqlite.specs.Order.{Row, column}
use Rattle.sqlite.specs.Term.{Term, col, op1, op2}
use Rattle.sqlite.specs.Query.{Output, output, output_cmp}
use Rattle.sqlite.specs.Command.TheVariants.{Select}
use Rattle.sqlite.specs.Given.{IsPlain}
use Rattle.sqlite.specs.Listing.{listing_schema, understood, reads_listing}
use Rattle.sqlite.specs.Schema.{Schema}
use Rattle.wh_policy.specs.declared.format.Format.{Format}
use Rattle.wh_policy.specs.declared.format.Format.TheVariants.{One, Two}
use Rattle.wh_policy.specs.Formats.{is_two}
use Rattle.wh_rows.specs.Schema.{schema_in}
use Rattle.wh_rows.specs.Rows as row
use Rattle.wh_rows.specs.Rows.{MemberKey, ChangeKey, LineKey}
use Rattle.wh_rows.specs.Types.{dim_number}
use Rattle.wh_rows.specs.Keys.{bind_text, bind_number, bind_member, bind_change, bind_line, stands_at_text, stands_at_number, stands_at_member, stands_at_change, stands_at_line}
use Rattle.wh_rows.specs.Holds.{Layout, values_of}
use Rattle.wh_rows.specs.Meaning.{Means, command_of, passes}
use Rattle.wh_rows.specs.Firsts.{reading_first}
use Rattle.wh_rows.specs.Raw.{stored_cmp, ReadsFrontStored}
use Rattle.wh_rows.specs.Questions.{at_least, greater}
use Rattle.wh_rows.specs.Parts.{forward, part_text, bind_part, PartTexts, stands_behind, is_behind, ReadsParts, IsKeyed}
use Rattle.wh_rows.specs.Parts as texts
use Rattle.wh_rows.proofs.ColumnLemmas.{both}
use Rattle.wh_rows.proofs.ShownColumns.{meta_shown, command_shown, member_shown, change_shown, dimension_shown, profile_shown, calendar_shown, fact_shown, fact2_shown, void_shown, by_rowid, by_text, by_two}
use Rattle.wh_rows.proofs.Keys.{and-true, or_true, sorted-Nat, then_after, then_tied}

-- ---- SQL's comparisons are those of its order of values, but for NULL

truth_is : (b : Bool) → is_true (from_truth (Some b)) ≡ b
truth_is true = refl
truth_is false = refl

greater-Int : (v : Value) (n : ℤ) → greater v (Int n) ≡ is_gt (value_cmp v (Int n))
unfolding binary value_cmp
greater-Int Null n = refl
greater-Int (Int m) n = truth_is (is_gt (value_cmp (Int m) (Int n)))
greater-Int (Real x) n = truth_is (is_gt (value_cmp (Real x) (Int n)))
greater-Int (Text t) n = refl
greater-Int (Blob b) n = refl

greater-Text : (v : Value) (s : List ℕ) → greater v (Text s) ≡ is_gt (value_cmp v (Text s))
unfolding binary value_cmp
greater-Text Null s = refl
greater-Text (Int m) s = refl
greater-Text (Real x) s = refl
greater-Text (Text t) s = truth_is (is_gt (value_cmp (Text t) (Text s)))
greater-Text (Blob b) s = refl

at_least-Int : (v : Value) (n : ℤ) → at_least v (Int n) ≡ is_ge (value_cmp v (Int n))
unfolding binary value_cmp
at_least-Int Null n = refl
at_least-Int (Int m) n = truth_is (is_ge (value_cmp (Int m) (Int n)))
at_least-Int (Real x) n = truth_is (is_ge (value_cmp (Real x) (Int n)))
at_least-Int (Text t) n = refl
at_least-Int (Blob b) n = refl

at_least-Text : (v : Value) (s : List ℕ) → at_least v (Text s) ≡ is_ge (value_cmp v (Text s))
unfolding binary value_cmp
at_least-Text Null s = refl
at_least-Text (Int m) s = refl
at_least-Text (Real x) s = refl
at_least-Text (Text t) s = truth_is (is_ge (value_cmp (Text t) (Text s)))
at_least-Text (Blob b) s = refl

-- what ties with a value is equal to it
is_equal : (o : Ordering) → o ≡ Equal → is_true (from_truth (Some (is_eq o))) ≡ true
is_equal Less h = absurd (cc)
is_equal Equal h = refl
is_equal Greater h = absurd (cc)

tie-Int : (v : Value) (n : ℤ) → value_cmp v (Int n) ≡ Equal → equal Binary v (Int n) ≡ true
unfolding binary value_cmp
tie-Int Null n h = absurd (cc)
tie-Int (Int m) n h = is_equal (value_cmp (Int m) (Int n)) h
tie-Int (Real x) n h = is_equal (value_cmp (Real x) (Int n)) h
tie-Int (Text t) n h = absurd (cc)
tie-Int (Blob b) n h = absurd (cc)

tie-Text : (v : Value) (s : List ℕ) → value_cmp v (Text s) ≡ Equal → equal Binary v (Text s) ≡ true
unfolding binary value_cmp
tie-Text Null s h = absurd (cc)
tie-Text (Int m) s h = absurd (cc)
tie-Text (Real x) s h = absurd (cc)
tie-Text (Text t) s h = is_equal (value_cmp (Text t) (Text s)) h
tie-Text (Blob b) s h = absurd (cc)

one_tied : (v k : Value) → (value_cmp v k ≡ Equal → equal Binary v k ≡ true) → ordering_then (value_cmp v k) Equal ≡ Equal → (equal Binary v k && true) ≡ true
one_tied v k tie same = both (tie (then_tied _ _ same).0) refl

two_tied : (v w k l : Value) → (value_cmp v k ≡ Equal → equal Binary v k ≡ true) → (value_cmp w l ≡ Equal → equal Binary w l ≡ true) → ordering_then (value_cmp v k) (ordering_then (value_cmp w l) Equal) ≡ Equal
    → (equal Binary v k && (equal Binary w l && true)) ≡ true
two_tied v w k l first second same =
    let parts = then_tied (value_cmp v k) (ordering_then (value_cmp w l) Equal) same in
    both (first parts.0) (one_tied w l second parts.1)

-- ---- tests of a key's columns

-- after a key of one column
past_one : (g : Bool) (o : Ordering) → g ≡ is_gt o → (g && true) ≡ is_gt (ordering_then o Equal)
past_one g o is = and-true g ∙ is ∙ ap is_gt (sym (then-Equal o))

-- after a key of two
past_two : (a g h : Bool) (o p : Ordering) → a ≡ is_ge o → g ≡ is_gt o → h ≡ is_gt p → (a && ((g || h) && true)) ≡ is_gt (ordering_then o (ordering_then p Equal))
past_two a g h o p least first second =
    ap₂ ◌&&◌ least (ap (λ b. b && true) (ap₂ ◌||◌ first second)) ∙ then_after o p ∙ ap (λ q. is_gt (ordering_then o q)) (sym (then-Equal p))

-- ---- a text that shows a part

-- what it computes to, whatever rows are stored
record ShowsPart {K V : Type 0} (under : Schema) (most : ℕ) (layout : Layout K V) (params : Row) (stands : Row → Bool) (text : List ℕ) : Type 0 where
  tests : List Term
  project : List Term
  order : List (Term × Key)
  names : List (List ℕ)
  command : command_of (understood under text) ≡ Select (record { lets = []; body = reading_first most layout.table.tree tests project order }) names
  plain : IsPlain (understood under text)
  unlisted : reads_listing under text ≡ false
  hits : (r : Row) → passes params tests r ≡ stands (values_of layout.table r)
  sorted_by : Row → Row
  shows : (r : Row) → ◌≡◌ {A = Output} (output (reading_first most layout.table.tree tests project order) (params ∷ r ∷ [])) (sorted_by (values_of layout.table r), values_of layout.table r)
  in_order : (r s : Row) → output_cmp (reading_first most layout.table.tree tests project order) (sorted_by r, r) (sorted_by s, s) ≡ stored_cmp layout.table false r s

module _ {K V : Type 0} (layout : Layout K V) (bind : K → Row) (stands_at : K → Row → Bool) (keyed : IsKeyed layout bind stands_at) where
  agrees : (after : Option K) (v : V) → stands_behind layout bind after (layout.encode v) ≡ is_behind layout after v
  agrees None v = refl
  agrees (Some k) v = ap is_gt (keyed.ordered v k)

module _ {under : Schema} {K V : Type 0} (layout : Layout K V) (bind : K → Row) (stands_at : K → Row → Bool) (keyed : IsKeyed layout bind stands_at) where
  part_of : (most : ℕ) (params : Row) (text : List ℕ) (after : Option K) → ShowsPart under most layout params (stands_behind layout bind after) text → ReadsFrontStored under (forward most) layout params (stands_behind layout bind after) (is_behind layout after) text
  part_of most params text after it = record {
    reads = record {
      tests = it.tests;
      project = it.project;
      order = it.order;
      names = it.names;
      command = it.command;
      plain = it.plain;
      unlisted = it.unlisted;
      test = stands_behind layout bind after;
      hits = it.hits;
      agree = agrees layout bind stands_at keyed after;
      sorted_by = it.sorted_by;
      shows = it.shows;
      in_order = λ v w. it.in_order (layout.encode v) (layout.encode w) ∙ keyed.led (layout.encode v) w ∙ keyed.ordered v (layout.key w);
    };
    tested = λ r. refl;
    in_order = it.in_order;
  }

  parts : (texts : PartTexts) → ShowsPart under texts.most layout [] (λ r. true) texts.first → ((k : K) → ShowsPart under texts.most layout (bind k) (λ r. is_gt (stored_cmp layout.table false r (bind k))) texts.after) → ReadsParts under layout bind texts
  parts texts first after None = part_of texts.most [] texts.first None first
  parts texts first after (Some k) = part_of texts.most (bind k) texts.after (Some k) (after k)

-- ---- keys of one number, which is the rowid

abbrev rowid_past : List Term
rowid_past = op2 (Compare Gt Binary) (col 1 0) (col 0 0) ∷ []

abbrev IsPastNumber : {V : Type 0} → Schema → ℕ → Layout ℕ V → ℕ → List ℕ → Type 0
IsPastNumber under most layout k text = ShowsPart under most layout (bind_number k) (λ r. is_gt (stored_cmp layout.table false r (bind_number k))) text

-- command

command_first : (format : Format) → ShowsPart (schema_in format) texts.command.most row.command [] (λ r. true) texts.command.first
unfolding understood everything
command_first format = record {
  tests = [];
  project = command_shown;
  order = by_rowid;
  names = map (λ c. c.name) row.command.table.columns;
  command = refl;
  plain = (refl, refl);
  unlisted = refl;
  hits = λ r. refl;
  sorted_by = λ r. column r 0 ∷ [];
  shows = λ r. refl;
  in_order = λ r s. refl;
}

command_after : (format : Format) (k : ℕ) → IsPastNumber (schema_in format) texts.command.most row.command k texts.command.after
unfolding understood everything
command_after format k = record {
  tests = rowid_past;
  project = command_shown;
  order = by_rowid;
  names = map (λ c. c.name) row.command.table.columns;
  command = refl;
  plain = (refl, refl);
  unlisted = refl;
  hits = λ r. past_one _ _ (greater-Int (column r 0) (pos k));
  sorted_by = λ r. column r 0 ∷ [];
  shows = λ r. refl;
  in_order = λ r s. refl;
}

pub command_keyed : IsKeyed row.command bind_number stands_at_number
command_keyed = record {
  ordered = λ v k. then-Equal _ ∙ sorted-Nat v.number k;
  led = λ r w. refl;
  tied = λ r k same. one_tied (column r 0) (Int (pos k)) (tie-Int (column r 0) (pos k)) same;
}

pub command : (format : Format) → ReadsParts (schema_in format) row.command bind_number texts.command
command format = parts row.command bind_number stands_at_number command_keyed texts.command (command_first format) (command_after format)

-- product

product_first : (format : Format) → ShowsPart (schema_in format) texts.product.most row.product [] (λ r. true) texts.product.first
unfolding understood everything
product_first format = record {
  tests = [];
  project = dimension_shown;
  order = by_rowid;
  names = map (λ c. c.name) row.product.table.columns;
  command = refl;
  plain = (refl, refl);
  unlisted = refl;
  hits = λ r. refl;
  sorted_by = λ r. column r 0 ∷ [];
  shows = λ r. refl;
  in_order = λ r s. refl;
}

product_after : (format : Format) (k : ℕ) → IsPastNumber (schema_in format) texts.product.most row.product k texts.product.after
unfolding understood everything
product_after format k = record {
  tests = rowid_past;
  project = dimension_shown;
  order = by_rowid;
  names = map (λ c. c.name) row.product.table.columns;
  command = refl;
  plain = (refl, refl);
  unlisted = refl;
  hits = λ r. past_one _ _ (greater-Int (column r 0) (pos k));
  sorted_by = λ r. column r 0 ∷ [];
  shows = λ r. refl;
  in_order = λ r s. refl;
}

pub product_keyed : IsKeyed row.product bind_number stands_at_number
product_keyed = record {
  ordered = λ v k. then-Equal _ ∙ sorted-Nat v.surrogate k;
  led = λ r w. refl;
  tied = λ r k same. one_tied (column r 0) (Int (pos k)) (tie-Int (column r 0) (pos k)) same;
}

pub product : (format : Format) → ReadsParts (schema_in format) row.product bind_number texts.product
product format = parts row.product bind_number stands_at_number product_keyed texts.product (product_first format) (product_after format)

-- store

store_first : (format : Format) → ShowsPart (schema_in format) texts.store.most row.store [] (λ r. true) texts.store.first
unfolding understood everything
store_first format = record {
  tests = [];
  project = dimension_shown;
  order = by_rowid;
  names = map (λ c. c.name) row.store.table.columns;
  command = refl;
  plain = (refl, refl);
  unlisted = refl;
  hits = λ r. refl;
  sorted_by = λ r. column r 0 ∷ [];
  shows = λ r. refl;
  in_order = λ r s. refl;
}

store_after : (format : Format) (k : ℕ) → IsPastNumber (schema_in format) texts.store.most row.store k texts.store.after
unfolding understood everything
store_after format k = record {
  tests = rowid_past;
  project = dimension_shown;
  order = by_rowid;
  names = map (λ c. c.name) row.store.table.columns;
  command = refl;
  plain = (refl, refl);
  unlisted = refl;
  hits = λ r. past_one _ _ (greater-Int (column r 0) (pos k));
  sorted_by = λ r. column r 0 ∷ [];
  shows = λ r. refl;
  in_order = λ r s. refl;
}

pub store_keyed : IsKeyed row.store bind_number stands_at_number
store_keyed = record {
  ordered = λ v k. then-Equal _ ∙ sorted-Nat v.surrogate k;
  led = λ r w. refl;
  tied = λ r k same. one_tied (column r 0) (Int (pos k)) (tie-Int (column r 0) (pos k)) same;
}

pub store : (format : Format) → ReadsParts (schema_in format) row.store bind_number texts.store
store format = parts row.store bind_number stands_at_number store_keyed texts.store (store_first format) (store_after format)

-- customer

customer_first : (format : Format) → ShowsPart (schema_in format) texts.customer.most row.customer [] (λ r. true) texts.customer.first
unfolding understood everything
customer_first format = record {
  tests = [];
  project = dimension_shown;
  order = by_rowid;
  names = map (λ c. c.name) row.customer.table.columns;
  command = refl;
  plain = (refl, refl);
  unlisted = refl;
  hits = λ r. refl;
  sorted_by = λ r. column r 0 ∷ [];
  shows = λ r. refl;
  in_order = λ r s. refl;
}

customer_after : (format : Format) (k : ℕ) → IsPastNumber (schema_in format) texts.customer.most row.customer k texts.customer.after
unfolding understood everything
customer_after format k = record {
  tests = rowid_past;
  project = dimension_shown;
  order = by_rowid;
  names = map (λ c. c.name) row.customer.table.columns;
  command = refl;
  plain = (refl, refl);
  unlisted = refl;
  hits = λ r. past_one _ _ (greater-Int (column r 0) (pos k));
  sorted_by = λ r. column r 0 ∷ [];
  shows = λ r. refl;
  in_order = λ r s. refl;
}

pub customer_keyed : IsKeyed row.customer bind_number stands_at_number
customer_keyed = record {
  ordered = λ v k. then-Equal _ ∙ sorted-Nat v.surrogate k;
  led = λ r w. refl;
  tied = λ r k same. one_tied (column r 0) (Int (pos k)) (tie-Int (column r 0) (pos k)) same;
}

pub customer : (format : Format) → ReadsParts (schema_in format) row.customer bind_number texts.customer
customer format = parts row.customer bind_number stands_at_number customer_keyed texts.customer (customer_first format) (customer_after format)

-- profile

profile_first : (format : Format) → ShowsPart (schema_in format) texts.profile.most row.profile [] (λ r. true) texts.profile.first
unfolding understood everything
profile_first format = record {
  tests = [];
  project = profile_shown;
  order = by_rowid;
  names = map (λ c. c.name) row.profile.table.columns;
  command = refl;
  plain = (refl, refl);
  unlisted = refl;
  hits = λ r. refl;
  sorted_by = λ r. column r 0 ∷ [];
  shows = λ r. refl;
  in_order = λ r s. refl;
}

profile_after : (format : Format) (k : ℕ) → IsPastNumber (schema_in format) texts.profile.most row.profile k texts.profile.after
unfolding understood everything
profile_after format k = record {
  tests = rowid_past;
  project = profile_shown;
  order = by_rowid;
  names = map (λ c. c.name) row.profile.table.columns;
  command = refl;
  plain = (refl, refl);
  unlisted = refl;
  hits = λ r. past_one _ _ (greater-Int (column r 0) (pos k));
  sorted_by = λ r. column r 0 ∷ [];
  shows = λ r. refl;
  in_order = λ r s. refl;
}

pub profile_keyed : IsKeyed row.profile bind_number stands_at_number
profile_keyed = record {
  ordered = λ v k. then-Equal _ ∙ sorted-Nat v.number k;
  led = λ r w. refl;
  tied = λ r k same. one_tied (column r 0) (Int (pos k)) (tie-Int (column r 0) (pos k)) same;
}

pub profile : (format : Format) → ReadsParts (schema_in format) row.profile bind_number texts.profile
profile format = parts row.profile bind_number stands_at_number profile_keyed texts.profile (profile_first format) (profile_after format)

-- calendar

calendar_first : (format : Format) → ShowsPart (schema_in format) texts.calendar.most row.calendar [] (λ r. true) texts.calendar.first
unfolding understood everything
calendar_first format = record {
  tests = [];
  project = calendar_shown;
  order = by_rowid;
  names = map (λ c. c.name) row.calendar.table.columns;
  command = refl;
  plain = (refl, refl);
  unlisted = refl;
  hits = λ r. refl;
  sorted_by = λ r. column r 0 ∷ [];
  shows = λ r. refl;
  in_order = λ r s. refl;
}

calendar_after : (format : Format) (k : ℕ) → IsPastNumber (schema_in format) texts.calendar.most row.calendar k texts.calendar.after
unfolding understood everything
calendar_after format k = record {
  tests = rowid_past;
  project = calendar_shown;
  order = by_rowid;
  names = map (λ c. c.name) row.calendar.table.columns;
  command = refl;
  plain = (refl, refl);
  unlisted = refl;
  hits = λ r. past_one _ _ (greater-Int (column r 0) (pos k));
  sorted_by = λ r. column r 0 ∷ [];
  shows = λ r. refl;
  in_order = λ r s. refl;
}

pub calendar_keyed : IsKeyed row.calendar bind_number stands_at_number
calendar_keyed = record {
  ordered = λ v k. then-Equal _ ∙ sorted-Nat v.date_key k;
  led = λ r w. refl;
  tied = λ r k same. one_tied (column r 0) (Int (pos k)) (tie-Int (column r 0) (pos k)) same;
}

pub calendar : (format : Format) → ReadsParts (schema_in format) row.calendar bind_number texts.calendar
calendar format = parts row.calendar bind_number stands_at_number calendar_keyed texts.calendar (calendar_first format) (calendar_after format)

-- ---- a key of one text

meta_first : (format : Format) → ShowsPart (schema_in format) texts.meta.most row.meta [] (λ r. true) texts.meta.first
unfolding understood everything
meta_first format = record {
  tests = [];
  project = meta_shown;
  order = by_text;
  names = map (λ c. c.name) row.meta.table.columns;
  command = refl;
  plain = (refl, refl);
  unlisted = refl;
  hits = λ r. refl;
  sorted_by = λ r. column r 0 ∷ [];
  shows = λ r. refl;
  in_order = λ r s. refl;
}

meta_after : (format : Format) (k : List ℕ) → ShowsPart (schema_in format) texts.meta.most row.meta (bind_text k) (λ r. is_gt (stored_cmp row.meta.table false r (bind_text k))) texts.meta.after
unfolding understood everything
meta_after format k = record {
  tests = op2 (Compare Gt Binary) (col 1 1) (col 0 0) ∷ [];
  project = meta_shown;
  order = by_text;
  names = map (λ c. c.name) row.meta.table.columns;
  command = refl;
  plain = (refl, refl);
  unlisted = refl;
  hits = λ r. past_one _ _ (greater-Text (column r 1) k);
  sorted_by = λ r. column r 0 ∷ [];
  shows = λ r. refl;
  in_order = λ r s. refl;
}

pub meta_keyed : IsKeyed row.meta bind_text stands_at_text
meta_keyed = record {
  ordered = λ v k. then-Equal _ ∙ value_cmp-Text v.name k;
  led = λ r w. refl;
  tied = λ r k same. one_tied (column r 0) (Text k) (tie-Text (column r 0) k) same;
}

pub meta : (format : Format) → ReadsParts (schema_in format) row.meta bind_text texts.meta
meta format = parts row.meta bind_text stands_at_text meta_keyed texts.meta (meta_first format) (meta_after format)

-- ---- keys of two columns

abbrev two_past : Term → Term → List Term
two_past first second = op2 (Compare Ge Binary) (col 1 1) first ∷ op2 Or (op2 (Compare Gt Binary) (col 1 1) first) (op2 (Compare Gt Binary) (col 1 2) second) ∷ []

-- member

member_first : (format : Format) → ShowsPart (schema_in format) texts.member.most row.member [] (λ r. true) texts.member.first
unfolding understood everything
member_first format = record {
  tests = [];
  project = member_shown;
  order = by_two;
  names = map (λ c. c.name) row.member.table.columns;
  command = refl;
  plain = (refl, refl);
  unlisted = refl;
  hits = λ r. refl;
  sorted_by = λ r. column r 0 ∷ column r 1 ∷ [];
  shows = λ r. refl;
  in_order = λ r s. refl;
}

member_after : (format : Format) (k : MemberKey) → ShowsPart (schema_in format) texts.member.most row.member (bind_member k) (λ r. is_gt (stored_cmp row.member.table false r (bind_member k))) texts.member.after
unfolding understood everything unary
member_after format k = record {
  tests = two_past (op1 ToNumeric (col 0 0)) (op1 ToNumeric (col 0 1));
  project = member_shown;
  order = by_two;
  names = map (λ c. c.name) row.member.table.columns;
  command = refl;
  plain = (refl, refl);
  unlisted = refl;
  hits = λ r. ap (λ c. at_least (column r 1) (Int (pos (dim_number k.dim))) && (c && true)) (or_true _ _) ∙ past_two _ _ _ _ _ (at_least-Int (column r 1) (pos (dim_number k.dim))) (greater-Int (column r 1) (pos (dim_number k.dim))) (greater-Int (column r 2) (pos k.durable));
  sorted_by = λ r. column r 0 ∷ column r 1 ∷ [];
  shows = λ r. refl;
  in_order = λ r s. refl;
}

pub member_keyed : IsKeyed row.member bind_member stands_at_member
member_keyed = record {
  ordered = λ v k. ap₂ ordering_then (sorted-Nat (dim_number v.dim) (dim_number k.dim)) (then-Equal _ ∙ sorted-Nat v.durable k.durable);
  led = λ r w. refl;
  tied = λ r k same. two_tied (column r 0) (column r 1) (Int (pos (dim_number k.dim))) (Int (pos k.durable)) (tie-Int (column r 0) (pos (dim_number k.dim))) (tie-Int (column r 1) (pos k.durable)) same;
}

pub member : (format : Format) → ReadsParts (schema_in format) row.member bind_member texts.member
member format = parts row.member bind_member stands_at_member member_keyed texts.member (member_first format) (member_after format)

-- change

change_first : (format : Format) → ShowsPart (schema_in format) texts.change.most row.change [] (λ r. true) texts.change.first
unfolding understood everything
change_first format = record {
  tests = [];
  project = change_shown;
  order = by_two;
  names = map (λ c. c.name) row.change.table.columns;
  command = refl;
  plain = (refl, refl);
  unlisted = refl;
  hits = λ r. refl;
  sorted_by = λ r. column r 0 ∷ column r 1 ∷ [];
  shows = λ r. refl;
  in_order = λ r s. refl;
}

change_after : (format : Format) (k : ChangeKey) → ShowsPart (schema_in format) texts.change.most row.change (bind_change k) (λ r. is_gt (stored_cmp row.change.table false r (bind_change k))) texts.change.after
unfolding understood everything unary
change_after format k = record {
  tests = two_past (op1 ToNumeric (col 0 0)) (op1 ToNumeric (col 0 1));
  project = change_shown;
  order = by_two;
  names = map (λ c. c.name) row.change.table.columns;
  command = refl;
  plain = (refl, refl);
  unlisted = refl;
  hits = λ r. ap (λ c. at_least (column r 1) (Int (pos k.command)) && (c && true)) (or_true _ _) ∙ past_two _ _ _ _ _ (at_least-Int (column r 1) (pos k.command)) (greater-Int (column r 1) (pos k.command)) (greater-Int (column r 2) (pos k.place));
  sorted_by = λ r. column r 0 ∷ column r 1 ∷ [];
  shows = λ r. refl;
  in_order = λ r s. refl;
}

pub change_keyed : IsKeyed row.change bind_change stands_at_change
change_keyed = record {
  ordered = λ v k. ap₂ ordering_then (sorted-Nat (v.command) (k.command)) (then-Equal _ ∙ sorted-Nat v.place k.place);
  led = λ r w. refl;
  tied = λ r k same. two_tied (column r 0) (column r 1) (Int (pos k.command)) (Int (pos k.place)) (tie-Int (column r 0) (pos k.command)) (tie-Int (column r 1) (pos k.place)) same;
}

pub change : (format : Format) → ReadsParts (schema_in format) row.change bind_change texts.change
change format = parts row.change bind_change stands_at_change change_keyed texts.change (change_first format) (change_after format)

-- fact

fact_first : (format : Format) → ShowsPart (schema_in format) texts.fact.most row.fact [] (λ r. true) texts.fact.first
unfolding understood everything
fact_first format = record {
  tests = [];
  project = fact_shown;
  order = by_two;
  names = map (λ c. c.name) row.fact.table.columns;
  command = refl;
  plain = (refl, refl);
  unlisted = refl;
  hits = λ r. refl;
  sorted_by = λ r. column r 0 ∷ column r 1 ∷ [];
  shows = λ r. refl;
  in_order = λ r s. refl;
}

fact_after : (format : Format) (k : LineKey) → ShowsPart (schema_in format) texts.fact.most row.fact (bind_line k) (λ r. is_gt (stored_cmp row.fact.table false r (bind_line k))) texts.fact.after
unfolding understood everything unary
fact_after format k = record {
  tests = two_past (col 0 0) (op1 ToNumeric (col 0 1));
  project = fact_shown;
  order = by_two;
  names = map (λ c. c.name) row.fact.table.columns;
  command = refl;
  plain = (refl, refl);
  unlisted = refl;
  hits = λ r. ap (λ c. at_least (column r 1) (Text k.ticket) && (c && true)) (or_true _ _) ∙ past_two _ _ _ _ _ (at_least-Text (column r 1) k.ticket) (greater-Text (column r 1) k.ticket) (greater-Int (column r 2) (pos k.line));
  sorted_by = λ r. column r 0 ∷ column r 1 ∷ [];
  shows = λ r. refl;
  in_order = λ r s. refl;
}

pub fact_keyed : IsKeyed row.fact bind_line stands_at_line
fact_keyed = record {
  ordered = λ v k. ap₂ ordering_then (value_cmp-Text v.ticket k.ticket) (then-Equal _ ∙ sorted-Nat v.line k.line);
  led = λ r w. refl;
  tied = λ r k same. two_tied (column r 0) (column r 1) (Text k.ticket) (Int (pos k.line)) (tie-Text (column r 0) k.ticket) (tie-Int (column r 1) (pos k.line)) same;
}

pub fact : (format : Format) → ReadsParts (schema_in format) row.fact bind_line texts.fact
fact format = parts row.fact bind_line stands_at_line fact_keyed texts.fact (fact_first format) (fact_after format)

-- fact2

fact2_first : ShowsPart (schema_in Two) texts.fact2.most row.fact2 [] (λ r. true) texts.fact2.first
unfolding understood everything
fact2_first = record {
  tests = [];
  project = fact2_shown;
  order = by_two;
  names = map (λ c. c.name) row.fact2.table.columns;
  command = refl;
  plain = (refl, refl);
  unlisted = refl;
  hits = λ r. refl;
  sorted_by = λ r. column r 0 ∷ column r 1 ∷ [];
  shows = λ r. refl;
  in_order = λ r s. refl;
}

fact2_after : (k : LineKey) → ShowsPart (schema_in Two) texts.fact2.most row.fact2 (bind_line k) (λ r. is_gt (stored_cmp row.fact2.table false r (bind_line k))) texts.fact2.after
unfolding understood everything unary
fact2_after k = record {
  tests = two_past (col 0 0) (op1 ToNumeric (col 0 1));
  project = fact2_shown;
  order = by_two;
  names = map (λ c. c.name) row.fact2.table.columns;
  command = refl;
  plain = (refl, refl);
  unlisted = refl;
  hits = λ r. ap (λ c. at_least (column r 1) (Text k.ticket) && (c && true)) (or_true _ _) ∙ past_two _ _ _ _ _ (at_least-Text (column r 1) k.ticket) (greater-Text (column r 1) k.ticket) (greater-Int (column r 2) (pos k.line));
  sorted_by = λ r. column r 0 ∷ column r 1 ∷ [];
  shows = λ r. refl;
  in_order = λ r s. refl;
}

pub fact2_keyed : IsKeyed row.fact2 bind_line stands_at_line
fact2_keyed = record {
  ordered = λ v k. ap₂ ordering_then (value_cmp-Text v.ticket k.ticket) (then-Equal _ ∙ sorted-Nat v.line k.line);
  led = λ r w. refl;
  tied = λ r k same. two_tied (column r 0) (column r 1) (Text k.ticket) (Int (pos k.line)) (tie-Text (column r 0) k.ticket) (tie-Int (column r 1) (pos k.line)) same;
}

pub fact2 : ReadsParts (schema_in Two) row.fact2 bind_line texts.fact2
fact2 = parts row.fact2 bind_line stands_at_line fact2_keyed texts.fact2 fact2_first fact2_after

-- void

void_first : ShowsPart (schema_in Two) texts.void.most row.void [] (λ r. true) texts.void.first
unfolding understood everything
void_first = record {
  tests = [];
  project = void_shown;
  order = by_two;
  names = map (λ c. c.name) row.void.table.columns;
  command = refl;
  plain = (refl, refl);
  unlisted = refl;
  hits = λ r. refl;
  sorted_by = λ r. column r 0 ∷ column r 1 ∷ [];
  shows = λ r. refl;
  in_order = λ r s. refl;
}

void_after : (k : LineKey) → ShowsPart (schema_in Two) texts.void.most row.void (bind_line k) (λ r. is_gt (stored_cmp row.void.table false r (bind_line k))) texts.void.after
unfolding understood everything unary
void_after k = record {
  tests = two_past (col 0 0) (op1 ToNumeric (col 0 1));
  project = void_shown;
  order = by_two;
  names = map (λ c. c.name) row.void.table.columns;
  command = refl;
  plain = (refl, refl);
  unlisted = refl;
  hits = λ r. ap (λ c. at_least (column r 1) (Text k.ticket) && (c && true)) (or_true _ _) ∙ past_two _ _ _ _ _ (at_least-Text (column r 1) k.ticket) (greater-Text (column r 1) k.ticket) (greater-Int (column r 2) (pos k.line));
  sorted_by = λ r. column r 0 ∷ column r 1 ∷ [];
  shows = λ r. refl;
  in_order = λ r s. refl;
}

pub void_keyed : IsKeyed row.void bind_line stands_at_line
void_keyed = record {
  ordered = λ v k. ap₂ ordering_then (value_cmp-Text v.ticket k.ticket) (then-Equal _ ∙ sorted-Nat v.line k.line);
  led = λ r w. refl;
  tied = λ r k same. two_tied (column r 0) (column r 1) (Text k.ticket) (Int (pos k.line)) (tie-Text (column r 0) k.ticket) (tie-Int (column r 1) (pos k.line)) same;
}

pub void : ReadsParts (schema_in Two) row.void bind_line texts.void
void = parts row.void bind_line stands_at_line void_keyed texts.void void_first void_after

-- ---- in any format

pub fact2_in : (format : Format) (after : Option LineKey) → Means (is_two format) (ReadsFrontStored (schema_in format) (forward texts.fact2.most) row.fact2 (bind_part bind_line after) (stands_behind row.fact2 bind_line after) (is_behind row.fact2 after) (part_text texts.fact2 after)) (understood (schema_in format) (part_text texts.fact2 after))
unfolding understood everything listing_schema
fact2_in One None = tt
fact2_in One (Some k) = tt
fact2_in Two after = fact2 after

pub void_in : (format : Format) (after : Option LineKey) → Means (is_two format) (ReadsFrontStored (schema_in format) (forward texts.void.most) row.void (bind_part bind_line after) (stands_behind row.void bind_line after) (is_behind row.void after) (part_text texts.void after)) (understood (schema_in format) (part_text texts.void after))
unfolding understood everything listing_schema
void_in One None = tt
void_in One (Some k) = tt
void_in Two after = void after
