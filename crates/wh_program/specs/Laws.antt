-- Nothing is lost where an input is read to its limit and a byte, and a longer manifest, or list of reports or queries, is refused.
use Rattle.std.specs.Prelude.{◌≡◌, ◌⊎◌, ◌<◌, ℕ, suc, List, length, take, true, None, Result, Err}
use Rattle.std.specs.List.{list_all}
use Rattle.wh_policy.specs.Policy.{read_policy}
use Rattle.wh_policy.specs.declared.format.Format.{Format}
use Rattle.wh_policy.specs.declared.attribute.Dim.{Dim}
use Rattle.wh_policy.specs.declared.policy.Policy.{Policy}
use Rattle.wh_batch.specs.declared.kind.CommandKind.{CommandKind}
use Rattle.wh_batch.specs.declared.manifest.BadManifest.{BadManifest}
use Rattle.wh_admission.specs.Admission.{content_of}
use Rattle.wh_program.specs.Answer.{trial_rows}
use Rattle.wh_words.specs.CommandLine.{CommandLine, Says, is_operand, task_of}
use Rattle.wh_program.specs.Inputs.{batch_limit, policy_limit, input_limit, read_within, manifest_limit, manifest_part}
use Rattle.wh_words.specs.Asked.{asked_by, no_line}

-- a policy is what is read so
abbrev pub PoliciesAreReadSo : Type 0
PoliciesAreReadSo = (bytes : List ℕ) → read_policy (take (suc policy_limit) bytes) ≡ read_policy bytes

-- a trial has the rows, or the fault, of the batch that is read so
abbrev pub TrialsAreReadSo : Type 0
TrialsAreReadSo = (dim : Dim) (policy : Policy) (bytes : List ℕ) → trial_rows dim policy (take (suc batch_limit) bytes) ≡ trial_rows dim policy bytes

-- a command says what its input says that is read so, in either format; and an upgrade, whose input isn't read, what any says
abbrev pub CommandsAreReadSo : Type 0
CommandsAreReadSo = (kind : CommandKind) (format : Format) (policy : Policy) (bytes : List ℕ) → content_of kind format policy (read_within (input_limit kind) bytes) ≡ content_of kind format policy bytes

-- a list of more bytes than a manifest may have is a bad one
abbrev pub LongListsAreBad : {E : Type 0} → (List ℕ → Result (List E) BadManifest) → Type 0
LongListsAreBad read = (bytes : List ℕ) → manifest_limit < length bytes → (bad : BadManifest) × (read (manifest_part bytes) ≡ Err bad)
