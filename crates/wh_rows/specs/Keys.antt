-- The keys of the tables: as the parameters of a statement, and as the first columns of a stored row.
use Rattle.std.specs.Prelude.{ℕ, List, [], ◌∷◌, Bool, true, ◌&&◌, pos}
use Rattle.sqlite_value.specs.declared.value.Value.TheVariants.{Int, Text}
use Rattle.sqlite_schema.specs.Rules.{equal}
use Rattle.sqlite.specs.Collation.TheVariants.{Binary}
use Rattle.sqlite.specs.Order.{Row, column}
use Rattle.wh_rows.specs.declared.key.MemberKey.{MemberKey}
use Rattle.wh_rows.specs.declared.key.ChangeKey.{ChangeKey}
use Rattle.wh_rows.specs.declared.key.LineKey.{LineKey}
use Rattle.wh_rows.specs.Types.{dim_number}

-- ---- as parameters

-- a text
abbrev pub bind_text : List ℕ → Row
bind_text k = Text k ∷ []

-- a number, or a day
abbrev pub bind_number : ℕ → Row
bind_number k = Int (pos k) ∷ []

abbrev pub bind_member : MemberKey → Row
bind_member k = Int (pos (dim_number k.dim)) ∷ Int (pos k.durable) ∷ []

abbrev pub bind_change : ChangeKey → Row
bind_change k = Int (pos k.command) ∷ Int (pos k.place) ∷ []

abbrev pub bind_line : LineKey → Row
bind_line k = Text k.ticket ∷ Int (pos k.line) ∷ []

-- ---- as columns

abbrev pub stands_at_text : List ℕ → Row → Bool
stands_at_text k r = equal Binary (column r 0) (Text k) && true

abbrev pub stands_at_number : ℕ → Row → Bool
stands_at_number k r = equal Binary (column r 0) (Int (pos k)) && true

abbrev pub stands_at_member : MemberKey → Row → Bool
stands_at_member k r = equal Binary (column r 0) (Int (pos (dim_number k.dim))) && (equal Binary (column r 1) (Int (pos k.durable)) && true)

abbrev pub stands_at_change : ChangeKey → Row → Bool
stands_at_change k r = equal Binary (column r 0) (Int (pos k.command)) && (equal Binary (column r 1) (Int (pos k.place)) && true)

abbrev pub stands_at_line : LineKey → Row → Bool
stands_at_line k r = equal Binary (column r 0) (Text k.ticket) && (equal Binary (column r 1) (Int (pos k.line)) && true)
