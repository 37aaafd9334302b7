-- The facts of some members, each with days of its own, out of all that are stored from a day on, in whatever order.
use Rattle.std.specs.Prelude.{ℕ, pos, Bool, true, false, ◌&&◌, List, codes}
use Rattle.std.specs.declared.cmp.Ordering.{Ordering}
use Rattle.std.specs.Ordering.{is_ge, nat_cmp}
use Rattle.sqlite_value.specs.declared.value.Value.{Value}
use Rattle.sqlite_value.specs.declared.value.Value.TheVariants.{Int}
use Rattle.sqlite.specs.Order.{Row, column}
use Rattle.wh_policy.specs.declared.attribute.Dim.{Dim}
use Rattle.wh_history.specs.declared.facts.Fact.{Fact}
use Rattle.wh_rows.specs.Holds.{Layout}
use Rattle.wh_rows.specs.Questions.{at_least, durable_column, durable_of}

-- ---- which facts

-- the values are a durable key and a day of it
unfoldable pub is_one_of : (ℕ → ℕ → Bool) → Value → Value → Bool
is_one_of has (Int (pos durable)) (Int (pos day)) = has durable day
is_one_of has _ _ = false

-- a stored fact of one of these members of a dimension on one of its days, by durable key and day
abbrev pub is_of_members : (ℕ → ℕ → Bool) → Dim → Row → Bool
is_of_members has dim r = is_one_of has (column r (durable_column dim)) (column r 2)

-- a stored fact from this day on
abbrev pub is_since : ℕ → Row → Bool
is_since from r = at_least (column r 2) (Int (pos from)) && true

-- both
abbrev pub is_sale_of : (ℕ → ℕ → Bool) → Dim → ℕ → Row → Bool
is_sale_of has dim from r = is_since from r && is_of_members has dim r

-- the same by the fact that the row is of
abbrev pub is_sold_of : (ℕ → ℕ → Bool) → Dim → ℕ → Fact → Bool
is_sold_of has dim from f = is_ge (nat_cmp f.day from) && has (durable_of dim f) f.day

-- ---- the texts

-- shows all facts from a day on, in no order
abbrev pub sales_since : List ℕ
sales_since = codes "SELECT * FROM fact WHERE day >= ?1"

-- the same of the second format
abbrev pub sales_since2 : List ℕ
sales_since2 = codes "SELECT * FROM fact2 WHERE day >= ?1"

-- a table whose rows are shown in any order
abbrev pub unordered : {K V : Type 0} → Layout K V → Layout K V
unordered layout = record { table = layout.table; order = λ _ _. Ordering.Equal; key = layout.key; encode = layout.encode; is_valid = layout.is_valid }
