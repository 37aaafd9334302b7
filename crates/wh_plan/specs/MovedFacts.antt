-- Which stored facts a batch of records moves.
use Rattle.std.specs.Prelude.{◌≡◌, ◌⊎◌, ◌<◌, ℕ, nat_lt, if◌then◌else◌, List, [], ◌∷◌, ◌++◌, filter, filter_map, flat_map, Option, None, Some}
use Rattle.std.specs.FinMap.{FinMap, values}
use Rattle.std.specs.List.Sorted.{IsPermutation}
use Rattle.std.specs.Ordering.{eq_by_cmp, nat_cmp}
use Rattle.wh_policy.specs.declared.attribute.Dim.{Dim}
use Rattle.wh_policy.specs.declared.attribute.Dim.TheVariants.{Product, Store, Customer}
use Rattle.wh_policy.specs.declared.record.DimensionRecord.{DimensionRecord}
use Rattle.wh_policy.specs.declared.record.SaleRecord.{SaleRecord}
use Rattle.wh_history.specs.Accepted.{Accepted, Describes, member_of, durable_key, member_of_sale, profiles_of, sold}
use Rattle.wh_history.specs.Facts.{rekeyed_fact}
use Rattle.wh_history.specs.Keys.{at_place}
use Rattle.wh_history.specs.Known.{KnowsEnough}
use Rattle.wh_history.specs.MovingDays.{moves_since, moves_until}
use Rattle.wh_history.specs.Shapes.{RenderedMember, Shape, shape_after, rendered_in, shown}
use Rattle.wh_history.specs.Tables.{Limits, fact_of}
use Rattle.wh_history.specs.declared.facts.Fact.{Fact}
use Rattle.wh_history.specs.declared.member.Member.{Member}
use Rattle.wh_rows.specs.Facts.{facts_of}
use Rattle.wh_rows.specs.Rows as row
use Rattle.wh_rows.specs.Tables.{Tables}
use Rattle.wh_rows.specs.declared.key.LineKey.{LineKey}
use Rattle.wh_rows.specs.Questions.{durable_of, is_sold_between}
use Rattle.wh_model.specs.Defined.{AreOf, fact_at}
use Rattle.wh_model.specs.Laws.{ShowsNoProfile}
use Rattle.wh_model.specs.Sound.{AreTypes, IsAccepted}
use Rattle.wh_plan.specs.BatchRows.{AreFacts, AreRekeyed}
use Rattle.wh_plan.specs.declared.records.touched.TouchedMember.{TouchedMember}
use Rattle.wh_plan.specs.NewRows.{members_among, naturals_told}

-- a fact with the keys that a member's rows of a dimension give it under these commands, where they are others than it has
abbrev pub moved_for : List Accepted → Dim → List ℕ → Fact → Option Fact
moved_for commands dim natural f = rekeyed_fact (shape_after dim commands) (rendered_in (shape_after dim commands) (member_of dim commands natural)) f

-- the facts of a table that carry a durable key of a dimension, in order of their keys
abbrev pub facts_with : FinMap row.fact.order Fact → Dim → ℕ → List Fact
facts_with table dim durable = filter (λ f. eq_by_cmp nat_cmp durable (durable_of dim f)) (values table)

-- of some facts those that move by the rows of a member, with their new keys
abbrev pub rekeyed_facts : Shape → Member → List Fact → List Fact
rekeyed_facts shape m facts = filter_map (rekeyed_fact shape (rendered_in shape m)) facts

-- of those facts the ones from one day to another
abbrev pub facts_between : FinMap row.fact.order Fact → Dim → ℕ → ℕ → ℕ → List Fact
facts_between table dim durable from to = filter (is_sold_between dim durable from to) (values table)

-- a member that a batch touches, as it is stored, and with its rows as it is after the batch
abbrev pub pair_of : TouchedMember → Member × RenderedMember
pair_of t = (t.stored.now, shown t.after)

-- of a table of facts those of a touched member that move; one that isn't stored has none
abbrev pub moved_of_touched : Shape → FinMap row.fact.order Fact → Member × RenderedMember → List Fact
moved_of_touched shape table t =
    if nat_lt 0 t.0.durable then filter_map (rekeyed_fact shape t.1) (facts_between table shape.dim t.1.member.durable (moves_since t.0.changes t.1.member.changes) (moves_until (rendered_in shape t.0) t.1))
    else []

-- of a table of the facts of some commands, those of one member that move under others, with their new keys
abbrev pub moves_of_member : List Accepted → List Accepted → FinMap row.fact.order Fact → Dim → List ℕ → List Fact
moves_of_member before after table dim natural = filter_map (moved_for after dim natural) (facts_with table dim (durable_key dim before natural))

-- those of some members, one member after the other
abbrev pub moves_of_members : List Accepted → List Accepted → FinMap row.fact.order Fact → Dim → List (List ℕ) → List Fact
moves_of_members before after table dim naturals = flat_map (moves_of_member before after table dim) naturals

-- Of the touched members that were there, the facts whose keys change, with their new keys, are exactly what leads from the facts of the commands to those with the batch; of each nothing but its keys changes.
abbrev pub MovedFactsAreExact : Type 0
MovedFactsAreExact = (limits : Limits) (commands : List Accepted) (c : Accepted) (dim : Dim) (records : List DimensionRecord) (t : Tables)
    → c.content ≡ Describes dim records
    → (dim ≡ Customer → ShowsNoProfile commands Product × ShowsNoProfile commands Store)
    → AreOf limits commands t
    → AreFacts (fact_at commands) (fact_at (commands ++ c ∷ [])) (moves_of_members commands (commands ++ c ∷ []) (facts_of t) dim (members_among commands dim (naturals_told records)))
    × AreRekeyed (fact_at commands) (moves_of_members commands (commands ++ c ∷ []) (facts_of t) dim (members_among commands dim (naturals_told records)))

-- the fact, where it carries a durable key of a dimension
abbrev pub with_durable : Dim → ℕ → Option Fact → Option Fact
with_durable dim durable None = None
with_durable dim durable (Some f) = if eq_by_cmp nat_cmp durable (durable_of dim f) then Some f else None

-- the fact of a line, where it is a member's
abbrev pub fact_of_member : List Accepted → Dim → List ℕ → LineKey → Option Fact
fact_of_member commands dim natural key = with_durable dim (durable_key dim commands natural) (fact_at commands key)

-- Of a stored member's facts, in any order, those that move by its rows with a batch of records are exactly what leads from the member's facts of the commands to its facts with the batch;
-- of each nothing but its keys changes.
abbrev pub PlannedFactsAreExact : Type 0
PlannedFactsAreExact = (limits : Limits) (commands : List Accepted) (c : Accepted) (records : List DimensionRecord) (shape : Shape) (natural : List ℕ) (t : Tables) (facts : List Fact)
    → c.content ≡ Describes shape.dim records
    → AreTypes commands shape.dim shape.kinds
    → KnowsEnough shape.dim shape.kinds shape.number (profiles_of (commands ++ c ∷ [])) (member_of shape.dim (commands ++ c ∷ []) natural)
    → AreOf limits commands t
    → 0 < durable_key shape.dim commands natural
    → IsPermutation (facts_with (facts_of t) shape.dim (durable_key shape.dim commands natural)) facts
    → AreFacts (fact_of_member commands shape.dim natural) (fact_of_member (commands ++ c ∷ []) shape.dim natural) (rekeyed_facts shape (member_of shape.dim (commands ++ c ∷ []) natural) facts)
    × AreRekeyed (fact_of_member commands shape.dim natural) (rekeyed_facts shape (member_of shape.dim (commands ++ c ∷ []) natural) facts)

-- the day is before or after those of which a touched member's facts are asked for
abbrev pub IsOutside : List Accepted → List Accepted → Dim → List ℕ → ℕ → Type 0
IsOutside before after dim natural day =
    let shape = shape_after dim after in
    let stored = rendered_in shape (member_of dim before natural) in
    let now = rendered_in shape (member_of dim after natural) in
    (day < moves_since stored.member.changes now.member.changes) ⊎ (moves_until stored now < day)

-- With a batch of records the fact of a sale of such a day has the keys that it had.
abbrev pub FactsOutsideTheDaysStay : Type 0
FactsOutsideTheDaysStay = (limits : Limits) (commands : List Accepted) (c : Accepted) (dim : Dim) (records : List DimensionRecord) (number : ℕ) (s : SaleRecord) (natural : List ℕ)
    → c.content ≡ Describes dim records
    → (dim ≡ Customer → ShowsNoProfile commands Product × ShowsNoProfile commands Store)
    → IsAccepted limits (commands ++ c ∷ [])
    → at_place number (sold commands) ≡ Some s
    → member_of_sale dim s ≡ Some natural
    → IsOutside commands (commands ++ c ∷ []) dim natural s.day
    → fact_of (commands ++ c ∷ []) s ≡ fact_of commands s
