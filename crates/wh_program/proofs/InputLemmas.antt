-- What is read of a file.
use Rattle.std.proofs.Common.{refl, inl, inr, ◌⊎◌, true, false, ◌≡◌, ◌∙◌, ◌<◌, ◌≤◌, ap, arith, ℕ, suc, List, [], ◌∷◌, ◌++◌, length, take, Some}
use Rattle.std.specs.Prelude.{IfOk, nat_lt}
use Rattle.std.proofs.lemmas.Bool.{cases_lt, lt-ltb, le-ltb}
use Rattle.std.proofs.lemmas.Result.{IfOk-weaker}
use Rattle.std.proofs.lemmas.List.{length-take, length-take-le, take_all, take-take}
use Rattle.wh_policy.specs.Document.{document_of}
use Rattle.wh_policy.specs.Policy.{policy_attributes, read_policy}
use Rattle.wh_policy.specs.declared.attribute.Dim.{Dim}
use Rattle.wh_policy.specs.declared.policy.Policy.{Policy}
use Rattle.wh_batch.specs.Batch.{Layout, batch_of}
use Rattle.wh_batch.specs.Layouts.{dimension_layout, dimension_records, sales_layout, sale_records, voids_layout, void_records}
use Rattle.wh_batch.specs.declared.kind.CommandKind.TheVariants.{Batch, Migration, Upgrade}
use Rattle.wh_batch.specs.declared.kind.BatchKind.TheVariants.{Dimension, Sales, Voids}
use Rattle.wh_policy.specs.declared.format.Format.{Format}
use Rattle.wh_policy.specs.declared.format.Format.TheVariants.{One, Two}
use Rattle.wh_program.specs.Answer.{answer_under, AnswersTrial}
use Rattle.wh_program.specs.Inputs.{Files, up_to, batch_limit, policy_limit, manifest_limit, manifest_part}
use Rattle.wh_program.specs.Warehouse.{Shown}
use Rattle.wh_program.specs.Laws.{PoliciesAreReadSo, TrialsAreReadSo, CommandsAreReadSo}

-- what counts of a manifest that is past the limit, and of one that isn't, by what was read of it
pub part-past : (bytes whole : List ℕ) → bytes ≡ take (suc manifest_limit) whole → manifest_limit < length bytes → take manifest_limit bytes ++ 255 ∷ [] ≡ manifest_part whole
unfolding manifest_part
part-past bytes whole is past =
    let longer : nat_lt manifest_limit (length whole) ≡ true = lt-ltb manifest_limit (length whole) (omega (arith, ap length is, length-take (suc manifest_limit) whole)) in
    rw longer (ap (λ part. take manifest_limit part ++ 255 ∷ []) is ∙ ap (λ (part : List ℕ). part ++ 255 ∷ []) (take-take manifest_limit (suc manifest_limit) whole (omega arith)))

pub part-whole : (bytes whole : List ℕ) → bytes ≡ take (suc manifest_limit) whole → length bytes ≤ manifest_limit → bytes ≡ manifest_part whole
unfolding manifest_part
part-whole bytes whole is within =
    let short : length whole ≤ manifest_limit = omega (arith, ap length is, length-take (suc manifest_limit) whole) in
    let test : nat_lt manifest_limit (length whole) ≡ false = le-ltb manifest_limit (length whole) short in
    rw test (is ∙ take_all (suc manifest_limit) whole (omega arith))

-- what is read of a file is past the limit as the file is, or it is the file
pub past_or_whole : (most : ℕ) (bytes : List ℕ) → ((nat_lt most (length (take (suc most) bytes)) ≡ true) × (nat_lt most (length bytes) ≡ true)) ⊎ (take (suc most) bytes ≡ bytes)
past_or_whole most bytes = elim (cases_lt most (length bytes)) [
  | inl longer ↦ inl (lt-ltb most (length (take (suc most) bytes)) (omega (arith, length-take-le (suc most) bytes longer)), lt-ltb most (length bytes) longer)
  | inr short ↦ inr (take_all (suc most) bytes (omega arith))
]

-- a trial of a batch under a policy, each as far as it is read
pub tried_under : (holds : Files) (dim : Dim) (path policy_path text batch : List ℕ) (shown : Shown) → up_to policy_limit holds policy_path (Some text) → up_to batch_limit holds path (Some batch)
    → IfOk shown (λ a. a ≡ answer_under dim batch (read_policy text)) → IfOk shown (AnswersTrial holds dim path (Some policy_path))
tried_under holds dim path policy_path text batch shown first second tells = IfOk-weaker shown _ _ (λ a is. (Some text, Some batch, first, λ there. second, is)) tells

-- ---- laws

document_so : (bytes : List ℕ) → document_of (take (suc policy_limit) bytes) ≡ document_of bytes
unfolding document_of
document_so bytes = elim (past_or_whole policy_limit bytes) [
  | inl past ↦ rw (past.0, past.1) refl
  | inr whole ↦ rw whole refl
]

pub policies_so : PoliciesAreReadSo
unfolding read_policy
policies_so bytes = rw (document_so bytes) refl

batch_so : {R : Type 0} (layout : Layout R) (bytes : List ℕ) → batch_of layout (take (suc batch_limit) bytes) ≡ batch_of layout bytes
unfolding batch_of
batch_so layout bytes = elim (past_or_whole batch_limit bytes) [
  | inl past ↦ rw (past.0, past.1) refl
  | inr whole ↦ rw whole refl
]

dimension_so : (dim : Dim) (policy : Policy) (bytes : List ℕ) → dimension_records dim policy (take (suc batch_limit) bytes) ≡ dimension_records dim policy bytes
unfolding dimension_records
dimension_so dim policy bytes = batch_so (dimension_layout (policy_attributes policy dim)) bytes

sales_so : (format : Format) (policy : Policy) (bytes : List ℕ) → sale_records policy format (take (suc batch_limit) bytes) ≡ sale_records policy format bytes
unfolding sale_records
sales_so format policy bytes = batch_so (sales_layout format policy.years) bytes

voids_so : (format : Format) (bytes : List ℕ) → void_records format (take (suc batch_limit) bytes) ≡ void_records format bytes
unfolding void_records
voids_so One bytes = refl
voids_so Two bytes = batch_so voids_layout bytes

pub trials_so : TrialsAreReadSo
trials_so dim policy bytes = rw (dimension_so dim policy bytes) refl

pub commands_so : CommandsAreReadSo
commands_so (Batch (Dimension dim)) format policy bytes = rw (dimension_so dim policy bytes) refl
commands_so (Batch Sales) format policy bytes = rw (sales_so format policy bytes) refl
commands_so (Batch Voids) format policy bytes = rw (voids_so format bytes) refl
commands_so Migration format policy bytes = rw (policies_so bytes) refl
commands_so Upgrade format policy bytes = refl
