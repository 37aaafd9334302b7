-- The facts that touched members move, as one pass over the facts finds them.
use Rattle.std.specs.Prelude.{◌≡◌, ℕ, ◌≤◌, ◌==◌, nat_le, nat_lt, Bool, true, if◌then◌else◌, ◌&&◌, List, [], ◌∷◌, filter, filter_map, find, flat_map, Option, None, Some, option_map, is_some}
use Rattle.std.specs.BTreeMap.{get}
use Rattle.std.specs.Option.{option_and_then, option_to_list}
use Rattle.std.specs.Ordering.{nat_cmp}
use Rattle.wh_history.specs.Facts.{rekeyed_fact}
use Rattle.wh_history.specs.MovingDays.{moves_since, moves_until}
use Rattle.wh_history.specs.Shapes.{RenderedMember, Shape, rendered_in, shown}
use Rattle.wh_history.specs.declared.facts.Fact.{Fact}
use Rattle.wh_history.specs.declared.member.Member.{Member}
use Rattle.wh_rows.specs.Questions.{durable_of}
use Rattle.wh_plan.specs.declared.records.moved_facts.MovingMember.{MovingMember}
use Rattle.wh_plan.specs.declared.records.moved_facts.MovingMembers.{MovingMembers}

-- ---- a touched member

-- a member as a batch shows it, and the days between which the batch can move its facts
pub record Moving : Type 0 where
  pub rows : RenderedMember
  pub since : ℕ
  pub until : ℕ

-- what a batch makes of a touched member
abbrev pub moving_of : Shape → Member × RenderedMember → Moving
moving_of shape t = record { rows = t.1; since = moves_since t.0.changes t.1.member.changes; until = moves_until (rendered_in shape t.0) t.1 }

-- the day is between those of the member
abbrev pub is_within : Moving → ℕ → Bool
is_within m day = nat_le m.since day && nat_le day m.until

-- the member, if the batch can move its facts of the day
abbrev pub on_day : Option Moving → ℕ → Option RenderedMember
on_day None day = None
on_day (Some m) day = if is_within m day then Some m.rows else None

-- of touched members that are stored, the one of a durable key
abbrev pub owner_in : List (Member × RenderedMember) → ℕ → Option (Member × RenderedMember)
owner_in touched durable = find (λ t. nat_lt 0 t.0.durable && (t.1.member.durable == durable)) touched

-- no two that are stored have one durable key
abbrev pub AreApart : List (Member × RenderedMember) → Type 0
AreApart [] = Unit {0}
AreApart (t ∷ ts) = (nat_lt 0 t.0.durable ≡ true → owner_in ts t.1.member.durable ≡ None) × AreApart ts

-- the earlier one of two days, where the second is known
abbrev pub earlier : ℕ → Option ℕ → ℕ
earlier day None = day
earlier day (Some other) = if nat_lt other day then other else day

-- the first day of which the batch can move a fact, with one more touched member
abbrev pub first_with : Member × RenderedMember → Option ℕ → Option ℕ
first_with t first = if nat_lt 0 t.0.durable then Some (earlier (moves_since t.0.changes t.1.member.changes) first) else first

-- the same of all; none if no touched member is stored
abbrev pub first_moving : List (Member × RenderedMember) → Option ℕ
first_moving [] = None
first_moving (t ∷ ts) = first_with t (first_moving ts)

-- ---- by their durable keys

abbrev pub seen : MovingMember → Moving
seen m = record { rows = shown m.rows.now; since = m.since; until = m.until }

-- the member of a durable key
abbrev pub mover : MovingMembers → ℕ → Option Moving
mover members durable = option_map seen (get nat_cmp members.by_durable durable)

-- the batch can move facts of a member of this durable key of the day
abbrev pub moves_on : (ℕ → Option Moving) → ℕ → ℕ → Bool
moves_on movers durable day = is_some (on_day (movers durable) day)

-- a fact with the keys that its member gives it, where they are others
abbrev pub moved_fact : Shape → (ℕ → Option Moving) → Fact → Option Fact
moved_fact shape movers f = option_and_then (λ rows. rekeyed_fact shape rows f) (on_day (movers (durable_of shape.dim f)) f.day)

-- ---- what was found

-- the days of a touched member, if it is stored, are asked for, and none of them is before this day
abbrev pub IsAskedFor : Shape → (ℕ → ℕ → Bool) → ℕ → Member × RenderedMember → Type 0
IsAskedFor shape has from t = nat_lt 0 t.0.durable ≡ true → ((day : ℕ) → is_within (moving_of shape t) day ≡ true → has t.1.member.durable day ≡ true) × (from ≤ moves_since t.0.changes t.1.member.changes)

-- a fact is of the touched member, and of a day on which the batch can move it
abbrev pub can_move : Shape → Member × RenderedMember → Fact → Bool
can_move shape t f = (t.1.member.durable == durable_of shape.dim f) && is_within (moving_of shape t) f.day

-- of the facts that were found those of a touched member that move; one that isn't stored has none
abbrev pub moved_of_found : Shape → List Fact → Member × RenderedMember → List Fact
moved_of_found shape found t = if nat_lt 0 t.0.durable then filter_map (rekeyed_fact shape t.1) (filter (can_move shape t) found) else []

-- a fact with the keys that a touched member gives it, where they are others
abbrev pub moved_by : Shape → Fact → Member × RenderedMember → Option Fact
moved_by shape f t = if nat_lt 0 t.0.durable && can_move shape t f then rekeyed_fact shape t.1 f else None

-- what the touched members make of a fact
abbrev pub moves_of_fact : Shape → List (Member × RenderedMember) → Fact → List Fact
moves_of_fact shape touched f = flat_map (λ t. option_to_list (moved_by shape f t)) touched
