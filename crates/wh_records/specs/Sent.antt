-- The commands that carry members, as they are sent to the next file.
use Rattle.std.specs.Prelude.{◌≡◌, ◌≤◌, ℕ, suc, true, List, [], ◌∷◌, length, map, flat_map, Ok, codes, bytes_eq}
use Rattle.std.specs.List.{AllByRecursion, IsDistinct}
use Rattle.wh_policy.specs.Policy.{policy_attributes, read_policy}
use Rattle.wh_policy.specs.Words.{every_dim}
use Rattle.wh_policy.specs.declared.attribute.Dim.{Dim}
use Rattle.wh_policy.specs.declared.policy.Policy.{Policy}
use Rattle.wh_policy.specs.declared.record.DimensionRecord.{DimensionRecord}
use Rattle.wh_batch.specs.declared.kind.CommandKind.TheVariants.{Batch}
use Rattle.wh_batch.specs.declared.kind.BatchKind.TheVariants.{Dimension}
use Rattle.wh_history.specs.Accepted.{Accepted}
use Rattle.wh_history.specs.Tables.{Limits}
use Rattle.wh_model.specs.Sound.{init_of}
use Rattle.wh_rows.specs.Limits.{are_limits}
use Rattle.wh_rows.specs.Types.{is_key}
use Rattle.wh_admission.specs.Admission.{AreAdmitted, accepted_after_all}
use Rattle.wh_admission.specs.declared.command.Command.{Command}
use Rattle.wh_records.specs.Texts.{records_text}
use Rattle.wh_records.specs.Parts.{batches_of}
use Rattle.wh_records.specs.Laws.{IsInForce, Carries}

-- a part of the records of a dimension
pub record DimensionPart : Type 0 where
  pub dim : Dim
  pub records : List DimensionRecord

-- the parts of all dimensions, in the order in which they are sent
abbrev pub parts_of : Policy → List Accepted → List DimensionPart
parts_of policy commands = flat_map (λ dim. map (λ part. record { dim = dim; records = part }) (batches_of policy commands dim)) every_dim

-- the command that sends a part
abbrev pub part_command : Policy → List ℕ → DimensionPart → Command
part_command policy id part = record { id = id; kind = Batch (Dimension part.dim); bytes = records_text (policy_attributes policy part.dim) part.records }

-- those of parts, under these ids in turn
abbrev pub part_commands : Policy → List (List ℕ) → List DimensionPart → List Command
part_commands policy [] parts = []
part_commands policy (id ∷ ids) [] = []
part_commands policy (id ∷ ids) (part ∷ parts) = part_command policy id part ∷ part_commands policy ids parts

-- each part has an id, good and its own and not the one of the making; and the limits leave room
pub record AreIdsFor (limits : Limits) (parts : List DimensionPart) (ids : List (List ℕ)) : Type 0 where
  pub as_many : length ids ≡ length parts
  pub good : AllByRecursion (λ id. is_key 40 id ≡ true) ids
  pub distinct : IsDistinct bytes_eq (codes "init" ∷ ids)
  pub limited : are_limits limits ≡ true
  pub commands : suc (length ids) ≤ limits.commands
  pub changes : length (flat_map (λ part. part.records) parts) ≤ limits.changes

-- the next file, made under the policy of these bytes and sent these parts
abbrev pub next_file : Limits → Policy → (bytes : List ℕ) → (ids : List (List ℕ)) → List DimensionPart → List Accepted
next_file limits policy bytes ids parts = accepted_after_all limits (init_of policy bytes ∷ []) (part_commands policy ids parts)

-- Sent to a new file under the policy in force each of the commands is accepted: none is refused, and they carry the members.
abbrev pub CarryingIsAccepted : Type 0
CarryingIsAccepted = (limits others : Limits) (commands : List Accepted) (policy : Policy) (bytes : List ℕ) (ids : List (List ℕ)) → AreAdmitted limits commands → IsInForce commands policy → read_policy bytes ≡ Ok policy
    → AreIdsFor others (parts_of policy commands) ids
    → let next = next_file others policy bytes ids (parts_of policy commands) in
    AreAdmitted others next × Carries commands next × (length next ≡ suc (length ids))
