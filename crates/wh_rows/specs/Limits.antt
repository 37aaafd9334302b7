-- How much a warehouse may hold.
use Rattle.std.specs.Prelude.{ℕ, Bool, ◌&&◌, nat_le, if◌then◌else◌, Option, Some, None}
use Rattle.wh_history.specs.Tables.{Limits}

-- from 1 to the most
abbrev pub is_limit : ℕ → ℕ → Bool
is_limit most count = nat_le 1 count && nat_le count most

-- each limit is from 1 to its greatest
abbrev pub are_limits : Limits → Bool
are_limits l = is_limit 100000 l.commands && is_limit 1000000 l.changes && is_limit 1000000 l.facts

-- the limits with these counts, where they are limits
abbrev pub limits_of : ℕ → ℕ → ℕ → Option Limits
limits_of commands changes facts =
    let chosen : Limits = record { commands = commands; changes = changes; facts = facts } in
    if are_limits chosen then Some chosen else None

-- each at its greatest
abbrev pub greatest_limits : Limits
greatest_limits = record { commands = 100000; changes = 1000000; facts = 1000000 }
