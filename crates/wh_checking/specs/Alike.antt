-- Rows that stand alike in the columns.
use Rattle.std.specs.Prelude.{◌≡◌, ◌≢◌, Bool, true, false, bytes_eq}
use Rattle.std.specs.Cmp.Lexicographic.{pointwise}
use Rattle.std.specs.Ordering.{int_eq}
use Rattle.sqlite_value.specs.declared.value.Value.{Value}
use Rattle.sqlite_value.specs.declared.value.Value.TheVariants.{Int, Text, Blob}
use Rattle.sqlite.specs.Order.{Row}
use Rattle.wh_rows.specs.Holds.{Layout}

-- two integers, texts or blobs are the same
abbrev pub same_value : Value → Value → Bool
same_value (Int m) (Int n) = int_eq m n
same_value (Text s) (Text t) = bytes_eq s t
same_value (Blob a) (Blob b) = bytes_eq a b
same_value _ _ = false

abbrev pub same_values : Row → Row → Bool
same_values = pointwise same_value

-- two rows stand in the same columns, or in others
abbrev pub AreAlike : {K V : Type 0} → Layout K V → V → V → Bool → Type 0
AreAlike layout v w true = layout.encode v ≡ layout.encode w
AreAlike layout v w false = layout.encode v ≢ layout.encode w
