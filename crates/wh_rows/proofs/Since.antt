-- The texts that show all facts from a day on.
use Rattle.std.proofs.Common.{Bool, ◌≡◌, ℕ, [], ◌∷◌, map, pos, refl, ◌∙◌}
use Rattle.std.specs.Ordering.{is_ge, nat_cmp}
use Rattle.sqlite_value.specs.declared.value.Value.TheVariants.{Int}
use Rattle.sqlite_sql.specs.declared.ops.BinaryOp.TheVariants.{Compare}
use Rattle.sqlite_sql.specs.declared.ops.CompareOp.TheVariants.{Ge}
use Rattle.sqlite_sql.specs.declared.ops.UnaryOp.TheVariants.{ToNumeric}
use Rattle.sqlite_sql.specs.Ops.{unary}
use Rattle.sqlite_tied.specs.Compute.{everything}
use Rattle.sqlite.specs.Collation.TheVariants.{Binary}
use Rattle.sqlite.specs.Term.{col, op1, op2}
use Rattle.sqlite.specs.Listing.{listing_schema, understood}
use Rattle.wh_policy.specs.declared.attribute.Dim.{Dim}
use Rattle.wh_policy.specs.declared.attribute.Dim.TheVariants.{Product, Store, Customer}
use Rattle.wh_policy.specs.declared.format.Format.{Format}
use Rattle.wh_policy.specs.declared.format.Format.TheVariants.{One, Two}
use Rattle.wh_policy.specs.Formats.{is_two}
use Rattle.wh_history.specs.declared.facts.Fact.{Fact}
use Rattle.wh_rows.specs.Meaning.{Means, ReadsSome}
use Rattle.wh_rows.specs.Questions.{durable_of}
use Rattle.wh_rows.specs.Raw.{ReadsStored}
use Rattle.wh_rows.specs.Rows as row
use Rattle.wh_rows.specs.Rows.{encode_fact, encode_fact2}
use Rattle.wh_rows.specs.Schema.{schema_in}
use Rattle.wh_rows.proofs.Keys.{and-true, at_least-Nat}
use Rattle.wh_rows.proofs.ShownColumns.{fact_shown, fact2_shown}
use Rattle.wh_rows.specs.Since.{is_one_of, is_of_members, is_since, sales_since, sales_since2, unordered}

-- ---- what they mean

some_since : (format : Format) (from : ℕ) → ReadsSome (schema_in format) (unordered row.fact) (Int (pos from) ∷ []) (λ f. is_ge (nat_cmp f.day from)) sales_since
unfolding understood everything unary
some_since format from = record {
  tests = op2 (Compare Ge Binary) (col 1 3) (op1 ToNumeric (col 0 0)) ∷ [];
  project = fact_shown;
  order = [];
  names = map (λ c. c.name) row.fact.table.columns;
  command = refl;
  plain = (refl, refl);
  unlisted = refl;
  test = is_since from;
  hits = λ r. refl;
  agree = λ w. and-true _ ∙ at_least-Nat w.day from;
  sorted_by = λ r. [];
  shows = λ r. refl;
  in_order = λ v w. refl;
}

pub sales_since_shown : (format : Format) (from : ℕ) → ReadsStored (schema_in format) (unordered row.fact) (Int (pos from) ∷ []) (is_since from) (λ f. is_ge (nat_cmp f.day from)) sales_since
unfolding some_since
sales_since_shown format from = record { reads = some_since format from; tested = λ r. refl }

some_since2 : (from : ℕ) → ReadsSome (schema_in Two) (unordered row.fact2) (Int (pos from) ∷ []) (λ f. is_ge (nat_cmp f.day from)) sales_since2
unfolding understood everything unary
some_since2 from = record {
  tests = op2 (Compare Ge Binary) (col 1 3) (op1 ToNumeric (col 0 0)) ∷ [];
  project = fact2_shown;
  order = [];
  names = map (λ c. c.name) row.fact2.table.columns;
  command = refl;
  plain = (refl, refl);
  unlisted = refl;
  test = is_since from;
  hits = λ r. refl;
  agree = λ w. and-true _ ∙ at_least-Nat w.day from;
  sorted_by = λ r. [];
  shows = λ r. refl;
  in_order = λ v w. refl;
}

stored_since2 : (from : ℕ) → ReadsStored (schema_in Two) (unordered row.fact2) (Int (pos from) ∷ []) (is_since from) (λ f. is_ge (nat_cmp f.day from)) sales_since2
unfolding some_since2
stored_since2 from = record { reads = some_since2 from; tested = λ r. refl }

pub sales_since_shown2 : (format : Format) (from : ℕ) → Means (is_two format) (ReadsStored (schema_in format) (unordered row.fact2) (Int (pos from) ∷ []) (is_since from) (λ f. is_ge (nat_cmp f.day from)) sales_since2) (understood (schema_in format) sales_since2)
unfolding understood everything listing_schema
sales_since_shown2 One from = tt
sales_since_shown2 Two from = stored_since2 from

-- ---- a fact stands in the columns as one of its members on its day

pub of_members : (has : ℕ → ℕ → Bool) (dim : Dim) (f : Fact) → is_of_members has dim (encode_fact f) ≡ has (durable_of dim f) f.day
unfolding is_one_of
of_members has Product f = refl
of_members has Store f = refl
of_members has Customer f = refl

pub of_members2 : (has : ℕ → ℕ → Bool) (dim : Dim) (f : Fact) → is_of_members has dim (encode_fact2 f) ≡ has (durable_of dim f) f.day
unfolding is_one_of
of_members2 has Product f = refl
of_members2 has Store f = refl
of_members2 has Customer f = refl
