-- What is kept of the bytes of a command says the same.
use Rattle.std.proofs.Common.{◌≡◌, ℕ, List, refl}
use Rattle.wh_policy.specs.declared.format.Format.{Format}
use Rattle.wh_policy.specs.declared.policy.Policy.{Policy}
use Rattle.wh_batch.specs.declared.kind.BatchKind.TheVariants.{Dimension, Sales, Voids}
use Rattle.wh_batch.specs.declared.kind.CommandKind.{CommandKind}
use Rattle.wh_batch.specs.declared.kind.CommandKind.TheVariants.{Batch, Migration, Upgrade}
use Rattle.wh_admission.specs.Admission.{kept_bytes, content_of}

pub kept_again : (kind : CommandKind) (bytes : List ℕ) → kept_bytes kind (kept_bytes kind bytes) ≡ kept_bytes kind bytes
kept_again (Batch kind) bytes = refl
kept_again Migration bytes = refl
kept_again Upgrade bytes = refl

pub kept_says : (kind : CommandKind) (format : Format) (policy : Policy) (bytes : List ℕ) → content_of kind format policy (kept_bytes kind bytes) ≡ content_of kind format policy bytes
kept_says (Batch (Dimension dim)) format policy bytes = refl
kept_says (Batch Sales) format policy bytes = refl
kept_says (Batch Voids) format policy bytes = refl
kept_says Migration format policy bytes = refl
kept_says Upgrade format policy bytes = refl
