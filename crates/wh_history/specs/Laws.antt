-- What holds of the rows of every member.
use Rattle.std.specs.Prelude.{◌≡◌, ◌≢◌, ◌⊎◌, ◌↔◌, ◌<◌, ◌≤◌, ◌==◌, ⊤, ℕ, List, [], ◌∷◌, count_by, find, reverse, slice_get, Bool, true, false, Some, None, bytes_eq}
use Rattle.std.specs.List.{list_any, AllByRecursion}
use Rattle.wh_day.specs.Day.{first_day, is_day}
use Rattle.wh_policy.specs.Types.{is_tracked, is_profile, is_outrigger}
use Rattle.wh_policy.specs.declared.attribute.Dim.{Dim}
use Rattle.wh_policy.specs.declared.attribute.AttributeType.{AttributeType}
use Rattle.wh_policy.specs.declared.attribute.AttributeType.TheVariants.{RetainOriginal, Overwrite, NewRow, NewAttribute, MiniDimension, MiniDimensionOutrigger, NewRowAndOverwrite, DualKeys}
use Rattle.wh_history.specs.Dated.{dated, at, value_at, newest, latest, original, prior}
use Rattle.wh_history.specs.Keys.{at_place}
use Rattle.wh_history.specs.Profiles.{profile_number}
use Rattle.wh_history.specs.Rows.{holds, rows}
use Rattle.wh_history.specs.Slots.{picks}
use Rattle.wh_history.specs.Accepted.{Accepted, Content, Governs, Describes, Sells, Upgrades, Withdraws, anchors_by, described, mentions, same_anchor, opening_of}
use Rattle.wh_history.specs.Tables.{dimension_row}
use Rattle.wh_history.specs.declared.member.Change.{Change}
use Rattle.wh_history.specs.declared.member.Member.{Member}
use Rattle.wh_history.specs.declared.rows.DimRow.{DimRow}

-- each change has a day from 1900-01-01 to 9999-12-31
abbrev pub ChangesHaveDays : List Change → Type 0
ChangesHaveDays changes = AllByRecursion (λ c. is_day c.day ≡ true) changes

-- and so has each dimension record that was accepted
abbrev pub RecordsHaveDays : List Accepted → Type 0
RecordsHaveDays commands = (dim : Dim) → AllByRecursion (λ r. is_day r.day ≡ true) (described dim commands)

-- the days rise from one change to the next, after this day
abbrev pub RisesFrom : ℕ → List Change → Type 0
RisesFrom day [] = ⊤
RisesFrom day (c ∷ cs) = (day < c.day) × RisesFrom c.day cs

abbrev pub DaysRise : List Change → Type 0
DaysRise [] = ⊤
DaysRise (c ∷ cs) = RisesFrom c.day cs

-- whether a change speaks of the day
abbrev pub is_of : ℕ → Change → Bool
is_of day c = c.day == day

-- A dated list has of each day just the change that was accepted last, and its days rise.
abbrev pub DatedListsAreExact : Type 0
DatedListsAreExact = (changes : List Change) → ChangesHaveDays changes → DaysRise (dated changes) × ((day : ℕ) → find (is_of day) (dated changes) ≡ find (is_of day) (reverse changes))

-- of these changes it is the one of the greatest day that is not after this one, or, where all are after it, that of the least
pub record IsInForce (day : ℕ) (changes : List Change) (c : Change) : Type 0 where
  pub there : find (is_of c.day) changes ≡ Some c
  pub greatest : c.day ≤ day → AllByRecursion (λ e. e.day ≤ day → e.day ≤ c.day) changes
  pub least : day < c.day → AllByRecursion (λ e. c.day ≤ e.day) changes

-- What holds at a day is said by the change that is in force, and by none where nothing was accepted.
abbrev pub ChangesInForce : Type 0
ChangesInForce = (day : ℕ) (changes : List Change) → ChangesHaveDays changes
    → ((c : Change) → at day (dated changes) ≡ Some c → IsInForce day (dated changes) c)
    × (at day (dated changes) ≡ None → changes ≡ [])

-- exactly one row holds each day from 1900-01-01 to 9999-12-31: no two overlap, and no day is left out
abbrev pub EachDayHasOneRow : List DimRow → Type 0
EachDayHasOneRow rows = (day : ℕ) → is_day day ≡ true → count_by (holds day) rows ≡ 1

-- exactly one row is current
abbrev pub OneRowIsCurrent : List DimRow → Type 0
OneRowIsCurrent rows = count_by (λ r. r.is_current) rows ≡ 1

-- something was accepted of the day
abbrev pub IsRecorded : ℕ → List Change → Type 0
IsRecorded day changes = list_any (is_of day) changes ≡ true

-- it is the greatest of the recorded days before another
pub record IsRecordedBefore (earlier day : ℕ) (changes : List Change) : Type 0 where
  pub recorded : IsRecorded earlier changes
  pub before : earlier < day
  pub greatest : AllByRecursion (λ c. c.day < day → c.day ≤ earlier) changes

-- on the two days some tracked attribute has different values
pub record DiffersTracked (kinds : List AttributeType) (changes : List Change) (earlier day : ℕ) : Type 0 where
  pub place : ℕ
  pub kind : AttributeType
  pub there : slice_get kinds place ≡ Some kind
  pub tracked : is_tracked kind ≡ true
  pub differs : value_at earlier place changes ≢ value_at day place changes

-- the day is recorded, and so is an earlier one, and a tracked value differs from that of the last of these
pub record BringsAnew (kinds : List AttributeType) (changes : List Change) (day : ℕ) : Type 0 where
  pub recorded : IsRecorded day changes
  pub earlier : ℕ
  pub before : IsRecordedBefore earlier day changes
  pub differs : DiffersTracked kinds changes earlier day

-- one of the rows begins at the day
abbrev pub BeginsAt : ℕ → List DimRow → Type 0
BeginsAt day rows = list_any (λ r. r.from_day == day) rows ≡ true

-- A member's rows begin on the first day of all, and on each recorded day at which a tracked value differs from that of the recorded day before it; on no other day.
abbrev pub RowsBeginWhereATrackedValueDiffers : Type 0
RowsBeginWhereATrackedValueDiffers = (kinds : List AttributeType) (combinations : List (List (List ℕ))) (m : Member) (day : ℕ) → ChangesHaveDays m.changes
    → BeginsAt day (rows kinds combinations m) ↔ ((day ≡ first_day) ⊎ BringsAnew kinds m.changes day)

-- the row shows these texts of the attribute at a place, in its columns a and b
pub record Shows (r : DimRow) (place : ℕ) (main second : List ℕ) : Type 0 where
  pub a : slice_get r.a place ≡ Some main
  pub b : slice_get r.b place ≡ Some second

-- what a row shows of an attribute of each type, 0 to 7, on every row, old or current
abbrev pub ShowsByType : Member → DimRow → ℕ → AttributeType → Type 0
ShowsByType m r place RetainOriginal = Shows r place (original place m.changes) []
ShowsByType m r place Overwrite = Shows r place (latest place m.changes) []
ShowsByType m r place NewRow = Shows r place (value_at r.from_day place m.changes) []
ShowsByType m r place NewAttribute = Shows r place (latest place m.changes) (prior place m.changes)
ShowsByType m r place MiniDimension = Shows r place [] []
ShowsByType m r place MiniDimensionOutrigger = Shows r place [] []
ShowsByType m r place NewRowAndOverwrite = Shows r place (value_at r.from_day place m.changes) (latest place m.changes)
ShowsByType m r place DualKeys = Shows r place (value_at r.from_day place m.changes) []

-- Each row of a member shows each attribute as the attribute's type has it.
abbrev pub RowsShowTheirTypes : Type 0
RowsShowTheirTypes = (kinds : List AttributeType) (combinations : List (List (List ℕ))) (m : Member) (number : ℕ) (r : DimRow) (place : ℕ) (kind : AttributeType)
    → at_place number (rows kinds combinations m) ≡ Some r
    → slice_get kinds place ≡ Some kind
    → ShowsByType m r place kind

-- the row names the profile of the member's newest record, or that of unknown values where it has no record
pub record NamesTheNewest (kinds : List AttributeType) (combinations : List (List (List ℕ))) (m : Member) (r : DimRow) : Type 0 where
  pub known : (c : Change) (profile : ℕ) → newest (dated m.changes) ≡ Some c → profile_number combinations (picks is_profile kinds c.values) ≡ Some profile → r.profile_now ≡ profile
  pub unknown : newest (dated m.changes) ≡ None → r.profile_now ≡ 1

-- Where an attribute is of type 5 each row of a member names the newest profile; elsewhere none names one.
abbrev pub RowsNameTheNewestProfile : Type 0
RowsNameTheNewestProfile = (kinds : List AttributeType) (combinations : List (List (List ℕ))) (m : Member) (number : ℕ) (r : DimRow)
    → at_place number (rows kinds combinations m) ≡ Some r
    → (list_any is_outrigger kinds ≡ true → NamesTheNewest kinds combinations m r) × (list_any is_outrigger kinds ≡ false → r.profile_now ≡ 0)

-- whether a command mentions a member
abbrev pub mentions_member : Dim → Accepted → List ℕ → Bool
mentions_member dim c natural = list_any (λ a. bytes_eq a.natural natural) (anchors_by dim c.content)

-- a command mentions the member
abbrev pub IsMember : Dim → List Accepted → List ℕ → Type 0
IsMember dim commands natural = list_any (λ a. same_anchor a (opening_of natural)) (mentions dim commands) ≡ true

-- the key is that of the one row of the member that holds the day
pub record IsEffective (commands : List Accepted) (dim : Dim) (durable day key : ℕ) : Type 0 where
  pub row : DimRow
  pub there : dimension_row commands dim key ≡ Some row
  pub of_member : row.durable ≡ durable
  pub holds_day : holds day row ≡ true
  pub only : (other : ℕ) (q : DimRow) → dimension_row commands dim other ≡ Some q → q.durable ≡ durable → holds day q ≡ true → other ≡ key

-- whether a command gives a policy
abbrev pub governs : Content → Bool
governs (Governs policy) = true
governs (Describes dim records) = false
governs (Sells sales) = false
governs Upgrades = false
governs (Withdraws lines) = false
