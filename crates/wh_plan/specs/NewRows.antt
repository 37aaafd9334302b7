-- What the members that a batch touches say of its rows.
use Rattle.std.specs.Prelude.{ℕ, suc, ◌==◌, nat_lt, if◌then◌else◌, List, [], ◌∷◌, map, flat_map, filter, Option, Some, None, option_map, find, bytes_eq}
use Rattle.std.specs.List.{list_any, cons_option}
use Rattle.wh_policy.specs.declared.attribute.Dim.{Dim}
use Rattle.wh_policy.specs.declared.record.DimensionRecord.{DimensionRecord}
use Rattle.wh_history.specs.Accepted.{Accepted, durable_key}
use Rattle.wh_history.specs.Keys.{distinct}
use Rattle.wh_history.specs.Slots.{six}
use Rattle.wh_history.specs.Tables.{member_rows}
use Rattle.wh_history.specs.Touched.{anchor_of_day, touched_by}
use Rattle.wh_history.specs.declared.member.Member.{Member}
use Rattle.wh_history.specs.declared.rows.DimRow.{DimRow}
use Rattle.wh_rows.specs.declared.rows.MemberRow.{MemberRow}
use Rattle.wh_rows.specs.declared.rows.ChangeRow.{ChangeRow}

-- the records of a batch
abbrev pub Records : Type 0
Records = List DimensionRecord

-- what each element gives, where their places are counted from a number on
abbrev pub by_place : {X Y : Type 0} → (ℕ → X → Option Y) → ℕ → List X → List Y
by_place give place [] = []
by_place give place (x ∷ xs) = cons_option (give place x) (by_place give (suc place) xs)

-- the row of a member
abbrev pub row_of_member : Dim → Member → MemberRow
row_of_member dim m = record { dim = dim; durable = m.durable; natural = m.natural; opening = m.opening }

-- that of a member whose durable key comes after those of so many
abbrev pub new_member : Dim → ℕ → Member → Option MemberRow
new_member dim given m = if nat_lt given m.durable then Some (row_of_member dim m) else None

-- the row of a member's record, under the command's number and the record's place
abbrev pub row_of_record : Dim → ℕ → ℕ → DimensionRecord → Member → ChangeRow
row_of_record dim command place r m = record {
  command = command;
  place = place;
  dim = dim;
  durable = m.durable;
  day = r.day;
  anchor = anchor_of_day r.day m.changes;
  values = six r.values;
}

-- the first member with a natural key
abbrev pub named : List Member → List ℕ → Option Member
named members natural = find (λ m. bytes_eq m.natural natural) members

-- the row of a record whose member is among those that were touched
abbrev pub new_change : Dim → ℕ → List Member → ℕ → DimensionRecord → Option ChangeRow
new_change dim command members place r = option_map (row_of_record dim command place r) (named members r.natural)

-- a row that is of a member with one of these durable keys
abbrev pub of_members : List ℕ → Option DimRow → Option DimRow
of_members durables None = None
of_members durables (Some r) = if list_any (λ d. d == r.durable) durables then Some r else None

-- the natural keys that records name, each once
abbrev pub naturals_told : List DimensionRecord → List (List ℕ)
naturals_told records = distinct bytes_eq (map (λ r. r.natural) records)

-- the durable keys of the members that a batch touches
abbrev pub durables_touched : Dim → List Accepted → List Accepted → List DimensionRecord → List ℕ
durables_touched dim before after records = map (λ m. m.durable) (touched_by dim before after records).list

-- the rows of some members, one member after the other
abbrev pub rows_of_members : List Accepted → Dim → List (List ℕ) → List DimRow
rows_of_members commands dim naturals = flat_map (member_rows commands dim) naturals

-- those of them that commands mention
abbrev pub members_among : List Accepted → Dim → List (List ℕ) → List (List ℕ)
members_among commands dim naturals = filter (λ n. nat_lt 0 (durable_key dim commands n)) naturals
