-- What a batch of dimension records makes of the members that it touches, record by record.
use Rattle.std.specs.Prelude.{ℕ, zero, suc, ◌-◌, ◌==◌, List, [], ◌∷◌, ◌++◌, if◌then◌else◌, map, drop, length, replicate, option_map, unwrap_or, find, bytes_eq}
use Rattle.std.specs.List.{list_any}
use Rattle.wh_day.specs.Value.{none_text}
use Rattle.wh_policy.specs.declared.attribute.Dim.{Dim}
use Rattle.wh_policy.specs.declared.record.DimensionRecord.{DimensionRecord}
use Rattle.wh_history.specs.Keys.{distinct}
use Rattle.wh_history.specs.Slots.{padded}
use Rattle.wh_history.specs.Accepted.{Accepted, Describes, members, anchors, durable_key, member_of}
use Rattle.wh_history.specs.declared.member.Change.{Change}
use Rattle.wh_history.specs.declared.member.Member.{Member}

-- a number that was given, or else the next one
abbrev pub given_or : ℕ → ℕ → ℕ
given_or zero next = next
given_or (suc n) next = suc n

-- how many numbers are given once one is there that was the first number
abbrev pub grown : ℕ → ℕ → ℕ
grown zero count = suc count
grown (suc n) count = count

-- the number of a member's day among its changes, and 0 where none has the day
abbrev pub anchor_of_day : ℕ → List Change → ℕ
anchor_of_day day changes = unwrap_or (option_map (λ (c : Change). c.anchor) (find (λ (c : Change). c.day == day) changes)) 0

-- the change of a record, where so many anchors have numbers before its day
abbrev pub change_with : ℕ → List Change → DimensionRecord → Change
change_with anchors changes r = record {
  day = r.day;
  anchor = given_or (anchor_of_day r.day changes) (suc anchors);
  values = padded none_text r.values;
}

-- a member with the numbers that it has, or else with the next ones, where so many members and anchors have some
abbrev pub with_numbers : ℕ → ℕ → Member → Member
with_numbers members anchors m = record m { durable = given_or m.durable (suc members); opening = given_or m.opening (suc anchors) }

-- a member with one more record, where so many members and anchors have numbers
abbrev pub with_record : ℕ → ℕ → Member → DimensionRecord → Member
with_record members anchors m r = record {
  durable = given_or m.durable (suc members);
  natural = m.natural;
  opening = given_or m.opening (suc anchors);
  changes = m.changes ++ change_with (grown m.opening anchors) m.changes r ∷ [];
}

-- how many anchors have numbers with one more record of a member
abbrev pub anchors_with : ℕ → Member → DimensionRecord → ℕ
anchors_with anchors m r = grown (anchor_of_day r.day m.changes) (grown m.opening anchors)

-- how many numbers are given, the durable key of the member of each anchor that got one, and the members that were
-- touched, in order of first mention
pub record TouchedMembers : Type 0 where
  pub members : ℕ
  pub anchors : ℕ
  pub owners : List ℕ
  pub list : List Member

-- the member of a natural key among those that were touched, or else as it is stored
abbrev pub current : (List ℕ → Member) → List Member → List ℕ → Member
current stored list natural = unwrap_or (find (λ (m : Member). bytes_eq m.natural natural) list) (stored natural)

-- the members that were touched, with that of a natural key at the end if it was not
abbrev pub with_stored : (List ℕ → Member) → List Member → List ℕ → List Member
with_stored stored list natural = if list_any (λ (m : Member). bytes_eq m.natural natural) list then list else list ++ stored natural ∷ []

-- a member in its place, or at the end
abbrev pub with_member : Member → List Member → List Member
with_member m [] = m ∷ []
with_member m (t ∷ ts) = if bytes_eq t.natural m.natural then m ∷ ts else t ∷ with_member m ts

-- one record more
abbrev pub touch_member : TouchedMembers → Member → DimensionRecord → TouchedMembers
touch_member t m r = record {
  members = grown m.durable t.members;
  anchors = anchors_with t.anchors m r;
  owners = t.owners ++ replicate (anchors_with t.anchors m r - t.anchors) (given_or m.durable (suc t.members));
  list = with_member (with_record t.members t.anchors m r) t.list;
}

abbrev pub touch : (List ℕ → Member) → TouchedMembers → DimensionRecord → TouchedMembers
touch stored t r = touch_member t (current stored t.list r.natural) r

-- all records, in their order
abbrev pub touched : (List ℕ → Member) → TouchedMembers → List DimensionRecord → TouchedMembers
touched stored t [] = t
touched stored t (r ∷ rs) = touched stored (touch stored t r) rs

-- none yet, where so many members and anchors have numbers
abbrev pub untouched : ℕ → ℕ → TouchedMembers
untouched members anchors = record { members = members; anchors = anchors; owners = []; list = [] }

-- no member is stored
abbrev pub nothing_stored : List ℕ → Member
nothing_stored natural = record { durable = 0; natural = natural; opening = 0; changes = [] }

-- the list with a batch
abbrev pub with_batch : List Accepted → List ℕ → List ℕ → List ℕ → Dim → List DimensionRecord → List Accepted
with_batch commands id kind bytes dim records = commands ++ record { id = id; kind = kind; bytes = bytes; content = Describes dim records } ∷ []

-- what the accepted lists before and with a batch of these records say of the members that it touches
abbrev pub touched_by : Dim → List Accepted → List Accepted → List DimensionRecord → TouchedMembers
touched_by dim before after records = record {
  members = length (members dim after);
  anchors = length (anchors dim after);
  owners = map (λ a. durable_key dim after a.natural) (drop (length (anchors dim before)) (anchors dim after));
  list = map (member_of dim after) (distinct bytes_eq (map (λ r. r.natural) records));
}
