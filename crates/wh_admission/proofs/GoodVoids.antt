-- The lines of a batch of voids that is read: few, each once, and none in the first format.
use Rattle.std.proofs.Common.{◌≡◌, ℕ, ◌≤◌, false, List, [], ◌∷◌, length, map, Result, Ok, refl, sym, ◌∙◌, ap, arith}
use Rattle.std.specs.List.{AllByRecursion, IsDistinct}
use Rattle.std.proofs.lemmas.List.{length-map}
use Rattle.wh_policy.specs.declared.format.Format.{Format}
use Rattle.wh_policy.specs.declared.format.Format.TheVariants.{One, Two}
use Rattle.wh_policy.specs.declared.record.VoidRecord.{VoidRecord}
use Rattle.wh_policy.specs.declared.policy.Policy.{Policy}
use Rattle.wh_batch.specs.Batch.{is_same_key}
use Rattle.wh_batch.specs.declared.kind.CommandKind.{CommandKind}
use Rattle.wh_batch.specs.declared.kind.CommandKind.TheVariants.{Batch, Migration, Upgrade}
use Rattle.wh_batch.specs.declared.kind.BatchKind.TheVariants.{Dimension, Sales, Voids}
use Rattle.wh_batch.specs.Layouts.{void_key, voids_layout, void_records}
use Rattle.wh_batch.proofs.GoodLemmas.{bind_ok, reads_batches}
use Rattle.wh_history.specs.Accepted.{Governs, Describes, Sells, Withdraws}
use Rattle.wh_admission.specs.Admission.{judged_records, judged_sales, judged_policy, content_of}
use Rattle.wh_model.specs.Sound.{same_void}
use Rattle.wh_model.proofs.SameLines.{line_turned}

none_like : (v : VoidRecord) (voids : List VoidRecord) → AllByRecursion (λ k. is_same_key (void_key v) k ≡ false) (map void_key voids) → AllByRecursion (λ w. same_void v w ≡ false) voids
none_like v [] all = tt
none_like v (w ∷ voids) all = (line_turned w.ticket v.ticket w.line v.line ∙ all.0, none_like v voids all.1)

each_once : (voids : List VoidRecord) → IsDistinct is_same_key (map void_key voids) → IsDistinct same_void voids
unfolding IsDistinct
each_once [] once = tt
each_once (v ∷ voids) once = (none_like v voids once.0, each_once voids once.1)

pub voids_once : (format : Format) (bytes : List ℕ) (voids : List VoidRecord) → void_records format bytes ≡ Ok voids → IsDistinct same_void voids
unfolding void_records
voids_once One bytes voids h = absurd cc
voids_once Two bytes voids h = let batch = (reads_batches voids_layout bytes voids).0 h in each_once voids batch.distinct

-- the first format has none
pub none_voided : (bytes : List ℕ) (voids : List VoidRecord) → void_records One bytes ≡ Ok voids → voids ≡ []
unfolding void_records
none_voided bytes voids h = absurd cc

-- what withdraws lines is of the second format
pub voids_are_second : (kind : CommandKind) (format : Format) (policy : Policy) (bytes : List ℕ) (voids : List VoidRecord) → content_of kind format policy bytes ≡ Ok (Withdraws voids) → format ≡ Two
unfolding void_records
voids_are_second (Batch (Dimension dim)) format policy bytes voids told = absurd (let (records, given, last) = bind_ok (judged_records dim policy bytes) (λ records. Ok (Describes dim records)) (Withdraws voids) told in cc)
voids_are_second (Batch Sales) format policy bytes voids told = absurd (let (sales, given, last) = bind_ok (judged_sales format policy bytes) (λ sales. Ok (Sells sales)) (Withdraws voids) told in cc)
voids_are_second (Batch Voids) One policy bytes voids told = absurd cc
voids_are_second (Batch Voids) Two policy bytes voids told = refl
voids_are_second Migration format policy bytes voids told = absurd (let (newer, given, last) = bind_ok (judged_policy policy bytes) (λ newer. Ok (Governs newer)) (Withdraws voids) told in cc)
voids_are_second Upgrade format policy bytes voids told = absurd cc
