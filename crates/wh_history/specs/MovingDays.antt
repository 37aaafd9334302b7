-- The days whose facts can move when more is accepted of a member.
use Rattle.std.specs.Prelude.{ℕ, nat_lt, ◌==◌, if◌then◌else◌, ◌&&◌, Bool, List, [], ◌∷◌, drop, length, find, Option, unwrap_or}
use Rattle.std.specs.List.{list_any}
use Rattle.std.specs.Option.{option_and_then}
use Rattle.wh_day.specs.Day.{first_day, last_day, checked_day_before}
use Rattle.wh_history.specs.Facts.{key_in}
use Rattle.wh_history.specs.Shapes.{RenderedMember}
use Rattle.wh_history.specs.declared.member.Change.{Change}

-- the earliest day of changes, and the last day of all where there is none
abbrev pub earliest : List Change → ℕ
earliest [] = last_day
earliest (c ∷ cs) = if nat_lt c.day (earliest cs) then c.day else earliest cs

-- The day since which the facts of a member can move, by its changes before a batch and with it: where one is of an earlier day than
-- all new ones, the earliest day of these, since before it nothing changes. Before the earliest change of all, that one says what holds.
abbrev pub since_first : List Change → ℕ → ℕ
since_first stored first = if list_any (λ c. nat_lt c.day first) stored then first else first_day

abbrev pub moves_since : List Change → List Change → ℕ
moves_since stored changes = since_first stored (earliest (drop (length stored) changes))

-- the latest day of changes, and the first day of all where there is none
abbrev pub latest_day : List Change → ℕ
latest_day [] = first_day
latest_day (c ∷ cs) = if nat_lt (latest_day cs) c.day then c.day else latest_day cs

-- whether a member's row of a day is the same as it is stored and as it will be
abbrev pub keeps_row : RenderedMember → RenderedMember → ℕ → Bool
keeps_row stored after day = key_in stored.rows day == key_in after.rows day

-- of a member's records that are of a later day, by the days, the first whose day keeps its row, if one does
abbrev pub first_kept : RenderedMember → RenderedMember → ℕ → Option Change
first_kept stored after last = find (λ c. nat_lt last c.day && keeps_row stored after c.day) stored.dated

-- the day before that of a record, and the last day of all where there is none
abbrev pub before_record : Option Change → ℕ
before_record kept = unwrap_or (option_and_then (λ c. checked_day_before c.day) kept) last_day

-- The last day whose facts can move: from the day of the first stored record on that is later than all new ones and whose day keeps its row,
-- nothing changes.
abbrev pub moves_until : RenderedMember → RenderedMember → ℕ
moves_until stored after = before_record (first_kept stored after (latest_day (drop (length stored.member.changes) after.member.changes)))
