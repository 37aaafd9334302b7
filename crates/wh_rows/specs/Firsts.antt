-- Reading the first rows of an answer: those at either end of a table, or one with the greatest number.
use Rattle.std.specs.Prelude.{◌≡◌, ℕ, pos, max, Bool, true, false, if◌then◌else◌, List, [], ◌∷◌, reverse, take, Option, None, Some}
use Rattle.std.specs.declared.cmp.Ordering.{Ordering}
use Rattle.std.specs.Ordering.{nat_cmp}
use Rattle.sqlite.specs.Order.{Row}
use Rattle.sqlite_value.specs.declared.value.Value.TheVariants.{Int}
use Rattle.sqlite_value.specs.declared.keys.Key.{Key}
use Rattle.sqlite.specs.Term.{Term, lit}
use Rattle.sqlite.specs.Query.{Query, Output, output, output_cmp}
use Rattle.sqlite.specs.Command.TheVariants.{Select}
use Rattle.sqlite.specs.Given.{IsPlain}
use Rattle.sqlite.specs.Listing.{understood, reads_listing}
use Rattle.sqlite.specs.Schema.{Schema}
use Rattle.wh_rows.specs.Statements.{reading}
use Rattle.wh_rows.specs.Holds.{Layout, values_of}
use Rattle.wh_rows.specs.Meaning.{command_of, passes, ReadsSome}

-- up to so many rows of one tree that pass the tests, in this order
abbrev pub reading_first : ℕ → ℕ → List Term → List Term → List (Term × Key) → Query
reading_first most tree tests project order = record (reading tree tests project order) { limit = lit (Int (pos most)) }

-- a list, from its end if so
abbrev pub from_end : {X : Type 0} → Bool → List X → List X
from_end backwards xs = if backwards then reverse xs else xs

-- how many rows of an answer are asked for, and from which end
pub record Front : Type 0 where
  pub most : ℕ
  pub backwards : Bool

-- the last row alone
abbrev pub last_one : Front
last_one = record { most = 1; backwards = true }

-- the part of an answer that is asked for, which may be all of it
abbrev pub part : {X : Type 0} → Option Front → List X → List X
part None xs = xs
part (Some front) xs = take front.most (from_end front.backwards xs)

-- the greatest of the numbers, and 0 of none
abbrev pub greatest : List ℕ → ℕ
greatest [] = 0
greatest (n ∷ ns) = max n (greatest ns)

-- rows in the order of their keys, or backwards
abbrev pub keys_cmp : {K V : Type 0} → Layout K V → Bool → V → V → Ordering
keys_cmp layout backwards v w = if backwards then layout.order (layout.key w) (layout.key v) else layout.order (layout.key v) (layout.key w)

-- What a text has to mean, to show up to so many of the rows that pass a test, sorted by this comparison.
pub record ReadsSorted {K V : Type 0} (under : Schema) (layout : Layout K V) (params : Row) (keep : V → Bool) (most : ℕ) (cmp : V → V → Ordering) (text : List ℕ) : Type 0 where
  pub tests : List Term
  pub project : List Term
  pub order : List (Term × Key)
  pub names : List (List ℕ)
  pub command : command_of (understood under text) ≡ Select (record { lets = []; body = reading_first most layout.table.tree tests project order }) names
  pub plain : IsPlain (understood under text)
  pub unlisted : reads_listing under text ≡ false
  pub test : Row → Bool
  pub hits : (r : Row) → passes params tests r ≡ test (values_of layout.table r)
  pub agree : (v : V) → test (layout.encode v) ≡ keep v
  pub sorted_by : Row → Row
  pub shows : (r : Row) → ◌≡◌ {A = Output} (output (reading_first most layout.table.tree tests project order) (params ∷ r ∷ [])) (sorted_by (values_of layout.table r), values_of layout.table r)
  pub in_order : (v w : V) → output_cmp (reading_first most layout.table.tree tests project order) (sorted_by (layout.encode v), layout.encode v) (sorted_by (layout.encode w), layout.encode w) ≡ cmp v w

-- to show up to so many of them in the order of their keys, or backwards from the greatest key
abbrev pub ReadsFirst : {K V : Type 0} → Schema → Layout K V → Row → (V → Bool) → ℕ → Bool → List ℕ → Type 0
ReadsFirst under layout params keep most backwards text = ReadsSorted under layout params keep most (keys_cmp layout backwards) text

-- to show one of them, whose number is the greatest
abbrev pub ReadsGreatest : {K V : Type 0} → Schema → Layout K V → Row → (V → Bool) → (V → ℕ) → List ℕ → Type 0
ReadsGreatest under layout params keep measure text = ReadsSorted under layout params keep 1 (λ v w. nat_cmp (measure w) (measure v)) text

-- what a text has to mean, to show that part of the rows that pass a test
abbrev pub ReadsPart : {K V : Type 0} → Schema → Option Front → Layout K V → Row → (V → Bool) → List ℕ → Type 0
ReadsPart under None layout params keep text = ReadsSome under layout params keep text
ReadsPart under (Some front) layout params keep text = ReadsFirst under layout params keep front.most front.backwards text
