-- A making under the policy in force and the batches of the parts carry the members.
use Rattle.std.proofs.Common.{◌≡◌, true, false, List, [], ◌∷◌, ◌++◌, map, Option, Some, None, refl, sym, ap, ◌∙◌, append-nil}
use Rattle.std.specs.Prelude.{flat_map}
use Rattle.std.proofs.lemmas.Grind.{flat_map-append}
use Rattle.wh_policy.specs.Policy.{policy_attributes}
use Rattle.wh_policy.specs.Words.{every_dim}
use Rattle.wh_policy.specs.declared.attribute.Dim.{Dim}
use Rattle.wh_policy.specs.declared.attribute.Dim.TheVariants.{Product, Store, Customer}
use Rattle.wh_policy.specs.declared.policy.Policy.{Policy}
use Rattle.wh_policy.specs.declared.record.DimensionRecord.{DimensionRecord}
use Rattle.wh_history.specs.Accepted.{Accepted, Content, Governs, Describes, Sells, Upgrades, Withdraws, same_dim, governed, policy_after, described, described_by}
use Rattle.wh_history.specs.Laws.{governs}
use Rattle.wh_history.specs.Tables.{Limits}
use Rattle.wh_history.proofs.Untouched.{described-last}
use Rattle.wh_admission.specs.Admission.{AreAdmitted}
use Rattle.wh_admission.proofs.Migrated.{policy_with}
use Rattle.wh_records.specs.Carried.{firsts_of, records_of, carried}
use Rattle.wh_records.specs.Parts.{parts, batches_of}
use Rattle.wh_records.specs.Laws.{IsInForce, CarryingCarries, SalesLeaveItSo}
use Rattle.wh_records.proofs.CarriedBatches.{carried_records_are_batches}

-- ---- by contents

policy_by : Option Policy → List Content → Option Policy
policy_by before [] = before
policy_by before (c ∷ cs) = policy_by (governed before c) cs

by_contents : (before : Option Policy) (next : List Accepted) → policy_after before next ≡ policy_by before (map (λ (c : Accepted). c.content) next)
unfolding policy_by
by_contents before [] = refl
by_contents before (c ∷ next) = by_contents (governed before c.content) next

policy_join : (before : Option Policy) (first second : List Content) → policy_by before (first ++ second) ≡ policy_by (policy_by before first) second
unfolding policy_by
policy_join before [] second = refl
policy_join before (c ∷ first) second = policy_join (governed before c) first second

batches_keep : (before : Option Policy) (dim : Dim) (batches : List (List DimensionRecord)) → policy_by before (map (Describes dim) batches) ≡ before
unfolding policy_by
batches_keep before dim [] = refl
batches_keep before dim (b ∷ batches) = batches_keep before dim batches

all_keep : (before : Option Policy) (batches : Dim → List (List DimensionRecord)) (dims : List Dim) → policy_by before (flat_map (λ dim. map (Describes dim) (batches dim)) dims) ≡ before
unfolding policy_by
all_keep before batches [] = refl
all_keep before batches (dim ∷ dims) =
    policy_join before (map (Describes dim) (batches dim)) (flat_map (λ d. map (Describes d) (batches d)) dims)
    ∙ ap (λ (o : Option Policy). policy_by o (flat_map (λ d. map (Describes d) (batches d)) dims)) (batches_keep before dim (batches dim))
    ∙ all_keep before batches dims

described_contents : (dim : Dim) (next : List Accepted) → described dim next ≡ flat_map (described_by dim) (map (λ (c : Accepted). c.content) next)
described_contents dim [] = refl
described_contents dim (c ∷ next) = ap (λ rs. described_by dim c.content ++ rs) (described_contents dim next)

-- ---- the records of batches

module _ (dim : Dim) where
  of_own : (other : Dim) (batches : List (List DimensionRecord)) → same_dim dim other ≡ true → flat_map (described_by dim) (map (Describes other) batches) ≡ flat_map (λ part. part) batches
  of_own other [] same = refl
  of_own other (b ∷ batches) same = rw same (ap (λ rs. b ++ rs) (of_own other batches same))

  of_another : (other : Dim) (batches : List (List DimensionRecord)) → same_dim dim other ≡ false → flat_map (described_by dim) (map (Describes other) batches) ≡ []
  of_another other [] apart = refl
  of_another other (b ∷ batches) apart = rw apart (of_another other batches apart)

of_three : (dim : Dim) (batches : Dim → List (List DimensionRecord)) → flat_map (described_by dim) (flat_map (λ d. map (Describes d) (batches d)) every_dim) ≡ flat_map (λ part. part) (batches dim)
of_three dim batches =
    let contents : Dim → List Content = λ d. map (Describes d) (batches d) in
    let split : flat_map (described_by dim) (contents Product ++ (contents Store ++ (contents Customer ++ [])))
    ≡ flat_map (described_by dim) (contents Product) ++ (flat_map (described_by dim) (contents Store) ++ (flat_map (described_by dim) (contents Customer) ++ [])) =
    flat_map-append (described_by dim) (contents Product) (contents Store ++ (contents Customer ++ []))
    ∙ ap (λ rs. flat_map (described_by dim) (contents Product) ++ rs) (flat_map-append (described_by dim) (contents Store) (contents Customer ++ [])
    ∙ ap (λ rs. flat_map (described_by dim) (contents Store) ++ rs) (flat_map-append (described_by dim) (contents Customer) [])) in
    split ∙ by_dim dim batches
  where
    by_dim : (dim : Dim) (batches : Dim → List (List DimensionRecord)) → flat_map (described_by dim) (map (Describes Product) (batches Product)) ++ (flat_map (described_by dim) (map (Describes Store) (batches Store)) ++ (flat_map (described_by dim) (map (Describes Customer) (batches Customer)) ++ []))
        ≡ flat_map (λ part. part) (batches dim)
    by_dim Product batches = rw (of_own Product Product (batches Product) refl, of_another Product Store (batches Store) refl, of_another Product Customer (batches Customer) refl) (append-nil (flat_map (λ part. part) (batches Product)))
    by_dim Store batches = rw (of_another Store Product (batches Product) refl, of_own Store Store (batches Store) refl, of_another Store Customer (batches Customer) refl) (append-nil (flat_map (λ part. part) (batches Store)))
    by_dim Customer batches = rw (of_another Customer Product (batches Product) refl, of_another Customer Store (batches Store) refl, of_own Customer Customer (batches Customer) refl) (append-nil (flat_map (λ part. part) (batches Customer)))

module _ (limits : Limits) (commands : List Accepted) (policy : Policy) (it : AreAdmitted limits commands) (governed_by : IsInForce commands policy) where
  whole : (dim : Dim) → flat_map (λ part. part) (batches_of policy commands dim) ≡ carried dim commands
  whole dim =
      let are = carried_records_are_batches limits commands dim policy it governed_by in
      let attributes = policy_attributes policy dim in
      flat_map-append (λ (part : List DimensionRecord). part) (parts attributes (firsts_of dim commands)) (parts attributes (records_of dim commands))
      ∙ ap (λ rs. rs ++ flat_map (λ part. part) (parts attributes (records_of dim commands))) are.0.whole
      ∙ ap (λ rs. firsts_of dim commands ++ rs) are.1.whole

pub carrying_carries : CarryingCarries
unfolding policy_by
carrying_carries limits commands next policy it governed_by same = record {
  policy =
      by_contents None next ∙ ap (policy_by None) same ∙ all_keep (Some policy) (batches_of policy commands) every_dim ∙ sym governed_by;
  records = λ dim.
      described_contents dim next ∙ ap (flat_map (described_by dim)) same ∙ of_three dim (batches_of policy commands) ∙ whole limits commands policy it governed_by dim;
}

-- ---- what comes behind

stays_governed : (before : Option Policy) (content : Content) → governs content ≡ false → governed before content ≡ before
stays_governed before (Governs policy) none = absurd cc
stays_governed before (Describes dim records) none = refl
stays_governed before (Sells sales) none = refl
stays_governed before Upgrades none = refl
stays_governed before (Withdraws lines) none = refl

pub sales_leave_it_so : SalesLeaveItSo
sales_leave_it_so commands next c carries none = record {
  policy = policy_with None next c ∙ stays_governed (policy_after None next) c.content none.no_policy ∙ carries.policy;
  records = λ dim.
      described-last dim next c
      ∙ ap (λ rs. described dim next ++ rs) (sym (append-nil (described_by dim c.content)) ∙ none.no_record dim)
      ∙ append-nil (described dim next) ∙ carries.records dim;
}
