-- Which stored rows answer a question.
use Rattle.std.specs.Prelude.{ℕ, List, [], Bool, true, ◌&&◌, ◌||◌, pos, slice_index_or, bytes_eq, codes}
use Rattle.std.specs.Ordering.{eq_by_cmp, is_ge, is_le, nat_cmp}
use Rattle.sqlite_value.specs.declared.value.Value.{Value}
use Rattle.sqlite_value.specs.declared.value.Value.TheVariants.{Int, Text}
use Rattle.sqlite_sql.specs.Ops.{binary, is_true}
use Rattle.sqlite_sql.specs.declared.ops.BinaryOp.TheVariants.{Compare}
use Rattle.sqlite_sql.specs.declared.ops.CompareOp.TheVariants.{Ge, Gt}
use Rattle.sqlite_schema.specs.Rules.{equal}
use Rattle.sqlite.specs.Collation.TheVariants.{Binary}
use Rattle.sqlite.specs.Order.{Row, column}
use Rattle.wh_policy.specs.declared.attribute.Dim.{Dim}
use Rattle.wh_policy.specs.declared.attribute.Dim.TheVariants.{Product, Store, Customer}
use Rattle.wh_history.specs.declared.facts.Fact.{Fact}
use Rattle.wh_rows.specs.Types.{dim_number}

-- whether SQL's >= is true of two values
abbrev pub at_least : Value → Value → Bool
at_least a b = is_true (binary (Compare Ge Binary) a b)

-- whether SQL's > is
abbrev pub greater : Value → Value → Bool
greater a b = is_true (binary (Compare Gt Binary) a b)

-- ---- by the columns

-- the command that its sender calls so
abbrev pub has_id : List ℕ → Row → Bool
has_id id r = equal Binary (column r 1) (Text id) && true

-- a command that gives a policy
abbrev pub has_policy : Row → Bool
has_policy r = equal Binary (column r 2) (Text (codes "init")) || equal Binary (column r 2) (Text (codes "migrate"))

-- a member of this dimension
abbrev pub is_of_dim : Dim → Row → Bool
is_of_dim dim r = equal Binary (column r 0) (Int (pos (dim_number dim))) && true

-- the member that its source calls so
abbrev pub has_natural : Dim → List ℕ → Row → Bool
has_natural dim natural r = equal Binary (column r 0) (Int (pos (dim_number dim))) && (equal Binary (column r 2) (Text natural) && true)

-- a record of a member
abbrev pub is_of_member : Dim → ℕ → Row → Bool
is_of_member dim durable r = equal Binary (column r 2) (Int (pos (dim_number dim))) && (equal Binary (column r 3) (Int (pos durable)) && true)

-- a record of this dimension
abbrev pub is_record_of : Dim → Row → Bool
is_record_of dim r = equal Binary (column r 2) (Int (pos (dim_number dim))) && true

-- in which column a record has its anchor
abbrev pub anchor_column : ℕ
anchor_column = 5

-- a row of a member
abbrev pub has_durable : ℕ → Row → Bool
has_durable durable r = equal Binary (column r 1) (Int (pos durable)) && true

-- the profile of a combination
abbrev pub has_values : List (List ℕ) → Row → Bool
has_values values r =
    equal Binary (column r 1) (Text (slice_index_or values 0 [])) && (equal Binary (column r 2) (Text (slice_index_or values 1 [])) && (equal Binary (column r 3) (Text (slice_index_or values 2 []))
    && (equal Binary (column r 4) (Text (slice_index_or values 3 [])) && (equal Binary (column r 5) (Text (slice_index_or values 4 [])) && (equal Binary (column r 6) (Text (slice_index_or values 5 [])) && true)))))

-- in which column a fact has the durable key of its member of this dimension
abbrev pub durable_column : Dim → ℕ
durable_column Product = 7
durable_column Store = 6
durable_column Customer = 8

-- ---- by the row that they are of

-- the kind of a command that gives a policy: a making or a migration
abbrev pub gives_policy : List ℕ → Bool
gives_policy kind = bytes_eq kind (codes "init") || bytes_eq kind (codes "migrate")

-- the durable key of the fact's member of this dimension
abbrev pub durable_of : Dim → Fact → ℕ
durable_of Product fact = fact.product_durable
durable_of Store fact = fact.store_durable
durable_of Customer fact = fact.customer_durable

-- whether the fact carries this durable key of a dimension, and its day is one from the first to the last
abbrev pub is_sold_between : Dim → (durable from to : ℕ) → Fact → Bool
is_sold_between dim durable from to fact = eq_by_cmp nat_cmp durable (durable_of dim fact) && (is_ge (nat_cmp fact.day from) && is_le (nat_cmp fact.day to))
