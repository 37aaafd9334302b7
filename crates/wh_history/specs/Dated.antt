-- What was accepted of a member, by the days that it speaks of.
use Rattle.std.specs.Prelude.{ℕ, ◌-◌, if◌then◌else◌, not, nat_lt, nat_le, ◌==◌, List, [], ◌∷◌, map, reverse, length, Option, Some, None, unwrap_or, find, slice_get, bytes_eq}
use Rattle.wh_day.specs.Value.{none_text, unknown_text}
use Rattle.wh_history.specs.Slots.{slot}
use Rattle.wh_history.specs.declared.member.Change.{Change}

-- the changes in order of their days, with one more unless its day is there
abbrev pub keep : Change → List Change → List Change
keep c [] = c ∷ []
keep c (e ∷ es) = if nat_lt c.day e.day then c ∷ e ∷ es else if c.day == e.day then e ∷ es else e ∷ keep c es

-- the last accepted change of each day, in order of the days
abbrev pub dated : List Change → List Change
dated [] = []
dated (c ∷ cs) = keep c (dated cs)

-- of changes in order of their days, the last that is not after the day, else the first
abbrev pub in_force : ℕ → Change → List Change → Change
in_force day first [] = first
in_force day first (c ∷ cs) = if nat_le c.day day then in_force day c cs else first

-- the change that says what holds at the day
abbrev pub at : ℕ → List Change → Option Change
at day [] = None
at day (c ∷ cs) = Some (in_force day c cs)

-- the change of the greatest day
abbrev pub newest : List Change → Option Change
newest cs = slice_get cs (length cs - 1)

-- a change's value in a slot; what no change describes is unknown
abbrev pub said : ℕ → Option Change → List ℕ
said place None = unknown_text
said place (Some c) = slot c.values place

-- the value at a day
abbrev pub value_at : ℕ → ℕ → List Change → List ℕ
value_at day place changes = said place (at day (dated changes))

-- the value of the greatest day
abbrev pub latest : ℕ → List Change → List ℕ
latest place changes = said place (newest (dated changes))

-- the values in a slot
abbrev pub values_in : ℕ → List Change → List (List ℕ)
values_in place = map (λ c. slot c.values place)

-- the first that differs, if any does
abbrev pub first_other_than : List ℕ → List (List ℕ) → List ℕ
first_other_than text texts = unwrap_or (find (λ t. not (bytes_eq t text)) texts) none_text

-- the first value that was given, in order of acceptance
abbrev pub original : ℕ → List Change → List ℕ
original place [] = unknown_text
original place (c ∷ cs) = first_other_than none_text (values_in place (c ∷ cs))

-- the value of the greatest day at which it was not the latest
abbrev pub prior : ℕ → List Change → List ℕ
prior place changes = first_other_than (latest place changes) (reverse (values_in place (dated changes)))
