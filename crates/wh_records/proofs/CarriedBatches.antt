-- What is carried of a dimension stands in batches.
use Rattle.std.proofs.Common.{◌≡◌, List, [], length, Option, None, ap, ◌∙◌, subst}
use Rattle.std.specs.Prelude.{unwrap_or, option_map}
use Rattle.std.specs.List.{AllByRecursion}
use Rattle.std.proofs.lemmas.List.{length-map}
use Rattle.wh_policy.specs.Policy.{policy_attributes, policy_types}
use Rattle.wh_policy.specs.Written.{IsSound}
use Rattle.wh_policy.specs.declared.attribute.Attribute.{Attribute}
use Rattle.wh_policy.specs.declared.attribute.Dim.{Dim}
use Rattle.wh_policy.specs.declared.policy.Policy.{Policy}
use Rattle.wh_history.specs.Accepted.{Accepted}
use Rattle.wh_history.specs.Tables.{Limits}
use Rattle.wh_admission.specs.Admission.{AreAdmitted}
use Rattle.wh_admission.proofs.Admitted.{admitted_sound}
use Rattle.wh_admission.proofs.Migrated.{IsSoundIf, sound_after}
use Rattle.wh_records.specs.Carried.{slots_in, firsts_of, records_of, members_between, firsts_between, records_between}
use Rattle.wh_records.specs.Laws.{IsWritable, IsInForce, CarriedRecordsAreBatches, RangesAreBatches}
use Rattle.wh_records.proofs.PartLemmas.{are_parts}
use Rattle.wh_records.proofs.WrittenRecords.{records_writable, firsts_writable, records_apart, firsts_apart, dated_writable, first_writable, dated_ones_apart, first_ones_apart, once_between}

module _ (limits : Limits) (commands : List Accepted) (policy : Policy) (it : AreAdmitted limits commands) (governed : IsInForce commands policy) where
  pub sound : IsSound policy
  sound = subst IsSoundIf governed (sound_after None commands tt (admitted_sound limits commands it).policies)

  pub slots_of : (dim : Dim) → slots_in dim commands ≡ length (policy_attributes policy dim)
  slots_of dim = ap (λ (o : Option Policy). length (unwrap_or (option_map (λ policy. policy_types policy dim) o) [])) governed ∙ length-map (policy_attributes policy dim) (λ (a : Attribute). a.kind)

pub carried_records_are_batches : CarriedRecordsAreBatches
carried_records_are_batches limits commands dim policy it governed =
    let as_wide = slots_of limits commands policy it governed dim in
    let good = sound limits commands policy it governed in (
      are_parts dim policy good (firsts_of dim commands) (subst (λ n. AllByRecursion (IsWritable n) (firsts_of dim commands)) as_wide (firsts_writable limits commands it dim)) (firsts_apart limits commands it dim),
      are_parts dim policy good (records_of dim commands) (subst (λ n. AllByRecursion (IsWritable n) (records_of dim commands)) as_wide (records_writable limits commands it dim)) (records_apart limits commands it dim),
    )

pub ranges_are_batches : RangesAreBatches
ranges_are_batches limits commands dim policy after last it governed =
    let as_wide = slots_of limits commands policy it governed dim in
    let good = sound limits commands policy it governed in
    let once = once_between limits commands it dim after last in (
      are_parts dim policy good (firsts_between dim commands after last) (subst (λ n. AllByRecursion (IsWritable n) (firsts_between dim commands after last)) as_wide (first_writable limits commands it dim (members_between dim commands after last))) (first_ones_apart limits commands it dim (members_between dim commands after last) once),
      are_parts dim policy good (records_between dim commands after last) (subst (λ n. AllByRecursion (IsWritable n) (records_between dim commands after last)) as_wide (dated_writable limits commands it dim (members_between dim commands after last))) (dated_ones_apart limits commands it dim (members_between dim commands after last) once),
    )
