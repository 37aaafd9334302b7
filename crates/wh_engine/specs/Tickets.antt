-- The tickets of a batch, and the first line that is stored from one of them on.
use Rattle.std.specs.Prelude.{ℕ, List, [], ◌∷◌, Bool, true, false, ◌&&◌, filter, slice_get, Option, Some, None, option_map, Result, Ok, Err}
use Rattle.std.specs.Ordering.{nat_cmp, is_lt, is_le, ord_min, ord_max}
use Rattle.std.specs.Cmp.Lexicographic.{slice_cmp}
use Rattle.wh_policy.specs.declared.record.SaleRecord.{SaleRecord}
use Rattle.wh_rows.specs.Holds.{Layout}
use Rattle.wh_rows.specs.Parts.{is_behind}
use Rattle.wh_rows.specs.declared.key.LineKey.{LineKey}
use Rattle.wh_sql.specs.declared.fault.ReadFault.{ReadFault}
use Rattle.wh_sql.specs.declared.fault.ReadFault.TheVariants.{Memory, Damaged, Store}

-- ---- tickets by their bytes

-- the least of a ticket and those of sales, and the greatest
abbrev pub least_ticket : List ℕ → List SaleRecord → List ℕ
least_ticket ticket [] = ticket
least_ticket ticket (s ∷ sales) = least_ticket (ord_min (slice_cmp nat_cmp) ticket s.ticket) sales

abbrev pub greatest_ticket : List ℕ → List SaleRecord → List ℕ
greatest_ticket ticket [] = ticket
greatest_ticket ticket (s ∷ sales) = greatest_ticket (ord_max (slice_cmp nat_cmp) ticket s.ticket) sales

-- the ticket is one from the first to the last
abbrev pub is_between : List ℕ → List ℕ → List ℕ → Bool
is_between first last ticket = is_le (slice_cmp nat_cmp first ticket) && is_le (slice_cmp nat_cmp ticket last)

-- ---- the first line

-- of rows in the order of their keys, the key of the first after a key
abbrev pub first_behind : {K V : Type 0} → Layout K V → Option K → List V → Option K
first_behind layout after rows = option_map layout.key (slice_get (filter (is_behind layout after) rows) 0)

-- it is of a ticket after the last, or there is none
abbrev pub is_past : List ℕ → Option LineKey → Bool
is_past last None = true
is_past last (Some key) = is_lt (slice_cmp nat_cmp last key.ticket)

-- so it was found; nothing was where a row is damaged
abbrev pub tells_none : List ℕ → Result (Option LineKey) ReadFault → Result Bool ReadFault
tells_none last (Ok first) = Ok (is_past last first)
tells_none last (Err (Damaged table)) = Ok false
tells_none last (Err Memory) = Err Memory
tells_none last (Err (Store why)) = Err (Store why)
