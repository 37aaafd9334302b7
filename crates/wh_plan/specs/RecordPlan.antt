-- What is read and planned for a batch of records, out of the tables of the commands before it.
use Rattle.std.specs.Prelude.{◌≡◌, ℕ, suc, List, [], ◌∷◌, ◌++◌, map, filter_map, zip, length, Vec, None, Some, Result, IfOk}
use Rattle.std.specs.declared.alloc.Global.{Global}
use Rattle.std.specs.List.{AllByRecursion}
use Rattle.wh_policy.specs.declared.attribute.Dim.{Dim}
use Rattle.wh_policy.specs.declared.policy.Policy.{Policy}
use Rattle.wh_policy.specs.declared.record.DimensionRecord.{DimensionRecord}
use Rattle.wh_policy.specs.Written.{IsSound}
use Rattle.wh_history.specs.Accepted.{Accepted, Describes, anchors, members, member_of, policy_after, profiles_of}
use Rattle.wh_history.specs.Known.{KnowsEnough}
use Rattle.wh_history.specs.Plan.{row_of}
use Rattle.wh_history.specs.Shapes.{Shape, rendered_in, shape_of}
use Rattle.wh_history.specs.Tables.{Limits}
use Rattle.wh_history.specs.Touched.{touched_by}
use Rattle.wh_history.specs.declared.dimension.DimensionShape.{DimensionShape}
use Rattle.wh_history.specs.declared.facts.Fact.{Fact}
use Rattle.wh_history.specs.declared.member.Member.{Member}
use Rattle.wh_rows.specs.declared.rows.CommandRow.{CommandRow}
use Rattle.wh_sql.specs.declared.fault.ReadFault.{ReadFault}
use Rattle.wh_model.specs.Defined.{command_at, fact_at, profile_at}
use Rattle.wh_model.specs.Sound.{AreTypes, IsAccepted}
use Rattle.wh_plan.specs.BatchRows.{AreFacts, AreRekeyed, numbers_after}
use Rattle.wh_plan.specs.Edits.{Edits, AreEdits}
use Rattle.wh_plan.specs.MovedFacts.{pair_of}
use Rattle.wh_plan.specs.NewRows.{naturals_told, rows_of_members, members_among}
use Rattle.wh_plan.specs.declared.records.record_plan.StoredBefore.{StoredBefore}
use Rattle.wh_plan.specs.declared.records.record_plan.BatchPlan.{BatchPlan}
use Rattle.wh_plan.specs.declared.records.touched.TouchedMember.{TouchedMember}

-- the members that it touches and their rows, and how many numbers were drawn
pub record IsFound (dim : Dim) (before : List Accepted) (records : List DimensionRecord) (found : StoredBefore) : Type 0 where
  pub members_read : found.members.items ≡ map (member_of dim before) (naturals_told records)
  pub rows_read : (key : ℕ) → row_of key found.rows.items ≡ row_of key (rows_of_members before dim (members_among before dim (naturals_told records)))
  pub members_drawn : found.drawn.members ≡ length (members dim before)
  pub anchors_drawn : found.drawn.anchors ≡ length (anchors dim before)

-- The members that a batch touches: as they are stored, and with the rows that they have with it; enough is known of their profiles.
pub record AreTouched (shape : Shape) (before after : List Accepted) (records : List DimensionRecord) (touched : List TouchedMember) : Type 0 where
  pub pairs : map pair_of touched ≡ zip (map (member_of shape.dim before) (naturals_told records)) (map (rendered_in shape) (touched_by shape.dim before after records).list)
  pub enough : AllByRecursion (KnowsEnough shape.dim shape.kinds shape.number (profiles_of after)) (touched_by shape.dim before after records).list

-- What was read and planned for a batch: what was found, the members as they are after it, with their rows, the profiles that it is the first to show, and the facts that it moves.
pub record IsPlanned (dimension : DimensionShape) (records : List DimensionRecord) (before after : List Accepted) (members : List Member) (planned : BatchPlan) : Type 0 where
  pub found : IsFound dimension.dim before records planned.found.now
  pub members_after : members ≡ (touched_by dimension.dim before after records).list
  pub touched : AreTouched (shape_of dimension) before after records planned.touched.items
  pub profiles : planned.profiles.items ≡ filter_map (profile_at after) (numbers_after (suc (length (profiles_of before))) (suc (length (profiles_of after))))
  pub facts : AreFacts (fact_at before) (fact_at after) planned.facts.items
  pub rekeyed : AreRekeyed (fact_at before) planned.facts.items

-- Of a batch of records that a warehouse can accept after these commands: where these are the members that it touches, the facts are what leads from the stored ones to those with the batch, and of
-- each nothing but its keys changes.
abbrev pub MovesFacts : Limits → List Accepted → DimensionShape → List TouchedMember → Result (Vec Fact Global) ReadFault → Type 0
MovesFacts limits commands dimension touched result = (c : Accepted) (records : List DimensionRecord)
    → IsAccepted limits (commands ++ c ∷ [])
    → c.content ≡ Describes dimension.dim records
    → AreTypes commands dimension.dim dimension.types.now
    → AreTouched (shape_of dimension) commands (commands ++ c ∷ []) records touched
    → IfOk result (λ facts. AreFacts (fact_at commands) (fact_at (commands ++ c ∷ [])) facts.items × AreRekeyed (fact_at commands) facts.items)

-- Of a batch of these records that a warehouse can accept after these commands under the policy in force, with this row of its own, the edits are exact.
abbrev pub PlansRecords : Limits → List Accepted → Dim → List DimensionRecord → Policy → CommandRow → Result Edits ReadFault → Type 0
PlansRecords limits commands dim records policy command result = (c : Accepted)
    → IsAccepted limits (commands ++ c ∷ [])
    → c.content ≡ Describes dim records
    → policy_after None commands ≡ Some policy
    → IsSound policy
    → command_at (commands ++ c ∷ []) (suc (length commands)) ≡ Some command
    → IfOk result (AreEdits commands (commands ++ c ∷ []))
