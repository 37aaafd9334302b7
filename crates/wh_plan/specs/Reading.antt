-- What is read out of the tables of the commands that were accepted.
use Rattle.std.specs.Prelude.{◌≢◌, ℕ, ◌==◌, List, [], ◌∷◌, map, filter, length, Option, option_map, unwrap_or, bytes_eq}
use Rattle.std.specs.List.{IsDistinct, AllByRecursion}
use Rattle.wh_day.specs.Value.{none_text}
use Rattle.wh_policy.specs.declared.attribute.Dim.{Dim}
use Rattle.wh_history.specs.Keys.{place, at_place}
use Rattle.wh_history.specs.Accepted.{Accepted, opening_of, described, members, surrogate_key}
use Rattle.wh_history.specs.Tables.{dimension_table}
use Rattle.wh_history.specs.declared.member.Change.{Change}
use Rattle.wh_history.specs.declared.rows.DimRow.{DimRow}
use Rattle.wh_rows.specs.declared.rows.CommandRow.{CommandRow}
use Rattle.wh_rows.specs.declared.rows.ChangeRow.{ChangeRow}
use Rattle.wh_model.specs.Defined.{command_at}

-- no two commands have one id
abbrev pub HaveDistinctIds : List Accepted → Type 0
HaveDistinctIds commands = IsDistinct bytes_eq (map (λ c. c.id) commands)

-- no value that was accepted is the empty text
abbrev pub HaveNoEmptyValue : List Accepted → Type 0
HaveNoEmptyValue commands = (dim : Dim) → AllByRecursion (λ r. AllByRecursion (λ text. text ≢ []) r.values) (described dim commands)

-- the number of the command with an id, and 0 where none has it
abbrev pub number_by_id : List Accepted → List ℕ → ℕ
number_by_id commands id = place bytes_eq id (map (λ c. c.id) commands)

-- and its row
abbrev pub command_with : List Accepted → List ℕ → Option CommandRow
command_with commands id = command_at commands (number_by_id commands id)

-- the text of a slot that a record gave; it is stored empty where the record gave none
abbrev pub given_text : List ℕ → List ℕ
given_text [] = none_text
given_text (byte ∷ bytes) = byte ∷ bytes

-- the change that a row of change gives
abbrev pub change_in : ChangeRow → Change
change_in r = record { day = r.day; anchor = r.anchor; values = map given_text r.values }

-- the opening of the member with the greatest durable key, and 0 where there is no member
abbrev pub last_opening : Dim → List Accepted → ℕ
last_opening dim commands = unwrap_or (option_map (λ natural. surrogate_key dim commands (opening_of natural)) (at_place (length (members dim commands)) (members dim commands))) 0

-- the rows of a dimension's table that have a durable key
abbrev pub rows_with : Dim → List Accepted → ℕ → List DimRow
rows_with dim commands durable = filter (λ r. r.durable == durable) (dimension_table commands dim)
