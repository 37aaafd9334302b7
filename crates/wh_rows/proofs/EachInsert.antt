-- What the texts that put in sixteen rows mean, of each table.
use Rattle.std.proofs.Common.{◌≡◌, ℕ, List, [], ◌∷◌, map, drop, pos, ◌++◌, length, refl, ◌+◌, zero, suc}
use Rattle.std.specs.Prelude.{◌/◌}
use Rattle.sqlite_value.specs.declared.value.Value.TheVariants.{Null, Int}
use Rattle.sqlite_value.specs.Keys.{first_key}
use Rattle.sqlite_tied.specs.Compute.{everything}
use Rattle.sqlite.specs.Order.{Row}
use Rattle.sqlite.specs.Term.{Term, lit, col}
use Rattle.sqlite.specs.Effect.{value_rows}
use Rattle.sqlite.specs.Listing.{listing_schema, understood}
use Rattle.wh_policy.specs.declared.format.Format.{Format}
use Rattle.wh_policy.specs.declared.format.Format.TheVariants.{One, Two}
use Rattle.wh_policy.specs.Formats.{is_two}
use Rattle.wh_history.specs.declared.rows.DimRow.{DimRow}
use Rattle.wh_rows.specs.Schema.{schema_in}
use Rattle.wh_rows.specs.Rows as row
use Rattle.wh_rows.specs.Inserting.{rows_at_once, bind_rows}
use Rattle.wh_rows.specs.Inserting as inserting
use Rattle.wh_rows.specs.Meaning.{Means, InsertsEach}
use Rattle.wh_rows.proofs.Formats.{nothing_works}
use Rattle.wh_rows.proofs.Cast.{cast_row_own}
use Rattle.wh_rows.proofs.Inserts.{written_out}

-- ---- rows of parameters

-- so many parameters, from a place on
abbrev columns_from : ℕ → ℕ → List Term
columns_from zero n = []
columns_from (suc more) n = col 0 n ∷ columns_from more (n + 1)

-- a row of them, with a rowid to be chosen, or with the first of them as its rowid
abbrev chosen : ℕ → ℕ → List Term
chosen width n = lit Null ∷ columns_from width n

abbrev numbered : ℕ → ℕ → List Term
numbered more n = col 0 n ∷ lit Null ∷ columns_from more (n + 1)

-- so many rows of a width
abbrev rows_from : (ℕ → List Term) → ℕ → ℕ → ℕ → List Term
rows_from row width zero n = []
rows_from row width (suc more) n = row n ++ rows_from row width more (n + width)

-- sixteen of them
abbrev sixteen : (ℕ → List Term) → ℕ → List Term
sixteen row width = rows_from row width rows_at_once 0

-- ---- the tables of both formats

pub member : (format : Format) → InsertsEach (schema_in format) row.member rows_at_once inserting.member
unfolding understood everything first_key
member format = record {
  at = 2;
  table = record { has = refl; uncounted = refl; unstamped = refl; idle = nothing_works format _ };
  terms = sixteen (chosen 4) 4;
  width = 5;
  command = refl;
  plain = (refl, refl);
  source = λ v. Null ∷ row.member.encode v;
  given = written_out 16 (λ vs. value_rows (bind_rows row.member vs) 5 (length (sixteen (chosen 4) 4) / 5) (sixteen (chosen 4) 4) ≡ map (λ v. Null ∷ row.member.encode v) vs)
      (λ a b c d e f g h i j k l m n o p. refl);
  own = λ v. cast_row_own row.member.table Null (row.member.encode v) refl refl;
  shows = λ v rows. refl;
}

pub change : (format : Format) → InsertsEach (schema_in format) row.change rows_at_once inserting.change
unfolding understood everything first_key
change format = record {
  at = 3;
  table = record { has = refl; uncounted = refl; unstamped = refl; idle = nothing_works format _ };
  terms = sixteen (chosen 12) 12;
  width = 13;
  command = refl;
  plain = (refl, refl);
  source = λ v. Null ∷ row.change.encode v;
  given = written_out 16 (λ vs. value_rows (bind_rows row.change vs) 13 (length (sixteen (chosen 12) 12) / 13) (sixteen (chosen 12) 12) ≡ map (λ v. Null ∷ row.change.encode v) vs)
      (λ a b c d e f g h i j k l m n o p. refl);
  own = λ v. cast_row_own row.change.table Null (row.change.encode v) refl refl;
  shows = λ v rows. refl;
}

-- a row of a dimension with its surrogate key as its rowid
abbrev with_number : DimRow → Row
with_number v = Int (pos v.surrogate) ∷ Null ∷ drop 1 (row.encode_dimension v)

pub product : (format : Format) → InsertsEach (schema_in format) row.product rows_at_once inserting.product
unfolding understood everything first_key
product format = record {
  at = 4;
  table = record { has = refl; uncounted = refl; unstamped = refl; idle = nothing_works format _ };
  terms = sixteen (numbered 18) 19;
  width = 20;
  command = refl;
  plain = (refl, refl);
  source = with_number;
  given = written_out 16 (λ vs. value_rows (bind_rows row.product vs) 20 (length (sixteen (numbered 18) 19) / 20) (sixteen (numbered 18) 19) ≡ map with_number vs)
      (λ a b c d e f g h i j k l m n o p. refl);
  own = λ v. cast_row_own row.product.table (Int (pos v.surrogate)) (Null ∷ drop 1 (row.encode_dimension v)) refl refl;
  shows = λ v rows. refl;
}

pub store : (format : Format) → InsertsEach (schema_in format) row.store rows_at_once inserting.store
unfolding understood everything first_key
store format = record {
  at = 5;
  table = record { has = refl; uncounted = refl; unstamped = refl; idle = nothing_works format _ };
  terms = sixteen (numbered 18) 19;
  width = 20;
  command = refl;
  plain = (refl, refl);
  source = with_number;
  given = written_out 16 (λ vs. value_rows (bind_rows row.store vs) 20 (length (sixteen (numbered 18) 19) / 20) (sixteen (numbered 18) 19) ≡ map with_number vs)
      (λ a b c d e f g h i j k l m n o p. refl);
  own = λ v. cast_row_own row.store.table (Int (pos v.surrogate)) (Null ∷ drop 1 (row.encode_dimension v)) refl refl;
  shows = λ v rows. refl;
}

pub customer : (format : Format) → InsertsEach (schema_in format) row.customer rows_at_once inserting.customer
unfolding understood everything first_key
customer format = record {
  at = 6;
  table = record { has = refl; uncounted = refl; unstamped = refl; idle = nothing_works format _ };
  terms = sixteen (numbered 18) 19;
  width = 20;
  command = refl;
  plain = (refl, refl);
  source = with_number;
  given = written_out 16 (λ vs. value_rows (bind_rows row.customer vs) 20 (length (sixteen (numbered 18) 19) / 20) (sixteen (numbered 18) 19) ≡ map with_number vs)
      (λ a b c d e f g h i j k l m n o p. refl);
  own = λ v. cast_row_own row.customer.table (Int (pos v.surrogate)) (Null ∷ drop 1 (row.encode_dimension v)) refl refl;
  shows = λ v rows. refl;
}

pub fact : (format : Format) → InsertsEach (schema_in format) row.fact rows_at_once inserting.fact
unfolding understood everything first_key
fact format = record {
  at = 9;
  table = record { has = refl; uncounted = refl; unstamped = refl; idle = nothing_works format _ };
  terms = sixteen (chosen 13) 13;
  width = 14;
  command = refl;
  plain = (refl, refl);
  source = λ v. Null ∷ row.fact.encode v;
  given = written_out 16 (λ vs. value_rows (bind_rows row.fact vs) 14 (length (sixteen (chosen 13) 13) / 14) (sixteen (chosen 13) 13) ≡ map (λ v. Null ∷ row.fact.encode v) vs)
      (λ a b c d e f g h i j k l m n o p. refl);
  own = λ v. cast_row_own row.fact.table Null (row.fact.encode v) refl refl;
  shows = λ v rows. refl;
}

-- ---- those of the second; in the first their texts aren't understood

fact2_there : InsertsEach (schema_in Two) row.fact2 rows_at_once inserting.fact2
unfolding understood everything first_key
fact2_there = record {
  at = 10;
  table = record { has = refl; uncounted = refl; unstamped = refl; idle = λ keys olds news. refl };
  terms = sixteen (chosen 14) 14;
  width = 15;
  command = refl;
  plain = (refl, refl);
  source = λ v. Null ∷ row.fact2.encode v;
  given = written_out 16 (λ vs. value_rows (bind_rows row.fact2 vs) 15 (length (sixteen (chosen 14) 14) / 15) (sixteen (chosen 14) 14) ≡ map (λ v. Null ∷ row.fact2.encode v) vs)
      (λ a b c d e f g h i j k l m n o p. refl);
  own = λ v. cast_row_own row.fact2.table Null (row.fact2.encode v) refl refl;
  shows = λ v rows. refl;
}

pub fact2 : (format : Format) → Means (is_two format) (InsertsEach (schema_in format) row.fact2 rows_at_once inserting.fact2) (understood (schema_in format) inserting.fact2)
unfolding understood everything listing_schema
fact2 One = tt
fact2 Two = fact2_there

void_there : InsertsEach (schema_in Two) row.void rows_at_once inserting.void
unfolding understood everything first_key
void_there = record {
  at = 11;
  table = record { has = refl; uncounted = refl; unstamped = refl; idle = λ keys olds news. refl };
  terms = sixteen (chosen 3) 3;
  width = 4;
  command = refl;
  plain = (refl, refl);
  source = λ v. Null ∷ row.void.encode v;
  given = written_out 16 (λ vs. value_rows (bind_rows row.void vs) 4 (length (sixteen (chosen 3) 3) / 4) (sixteen (chosen 3) 3) ≡ map (λ v. Null ∷ row.void.encode v) vs)
      (λ a b c d e f g h i j k l m n o p. refl);
  own = λ v. cast_row_own row.void.table Null (row.void.encode v) refl refl;
  shows = λ v rows. refl;
}

pub void : (format : Format) → Means (is_two format) (InsertsEach (schema_in format) row.void rows_at_once inserting.void) (understood (schema_in format) inserting.void)
unfolding understood everything listing_schema
void One = tt
void Two = void_there
