-- The files that a run reads, and how far.
use Rattle.std.specs.Prelude.{◌≡◌, ℕ, suc, List, [], ◌∷◌, ◌++◌, length, take, nat_lt, if◌then◌else◌, Option, Some, None}
use Rattle.wh_batch.specs.declared.kind.CommandKind.{CommandKind}
use Rattle.wh_batch.specs.declared.kind.CommandKind.TheVariants.{Batch, Migration, Upgrade}

-- what a host holds under a path, if a file is there
abbrev pub Files : Type 1
Files = List ℕ → Option (List ℕ) → Type 0

-- what is read of it: the bytes of the file where there are at most so many, else the first of them and one more, by which it is seen that there are more
abbrev pub up_to : ℕ → Files → Files
up_to most holds path None = holds path None
up_to most holds path (Some bytes) = (whole : List ℕ) × holds path (Some whole) × (bytes ≡ take (suc most) whole)

-- the names under which a host keeps no warehouse
abbrev pub Refusals : Type 1
Refusals = List ℕ → Type 0

-- the most bytes of a batch; one of more is too large
abbrev pub batch_limit : ℕ
batch_limit = 1_000_000

-- the most bytes of a policy; more are none
abbrev pub policy_limit : ℕ
policy_limit = 65_536

-- the most bytes that the input of a command of this kind may have; an upgrade has no input
abbrev pub input_limit : CommandKind → Option ℕ
input_limit (Batch kind) = Some batch_limit
input_limit Migration = Some policy_limit
input_limit Upgrade = None

-- what counts of the bytes of an input that is read to a limit, or isn't read
abbrev pub read_within : Option ℕ → List ℕ → List ℕ
read_within (Some most) bytes = take (suc most) bytes
read_within None bytes = []

-- what is had of an input under a path: what is read of the file; or, where it isn't read, no bytes, whatever stands there
abbrev pub had_within : Option ℕ → Files → Files
had_within (Some most) holds = up_to most holds
had_within None holds = λ path file. file ≡ Some []

-- so of the input of a command
abbrev pub as_input : CommandKind → Files → Files
as_input kind = had_within (input_limit kind)

-- the most bytes of a manifest, 64 MB
abbrev pub manifest_limit : ℕ
manifest_limit = 67_108_864

-- what counts of a manifest: all of it, or the first of its bytes and then one that is in no text, for all that follow, so that the record which is cut there is a bad one
unfoldable pub manifest_part : List ℕ → List ℕ
manifest_part bytes = if nat_lt manifest_limit (length bytes) then take manifest_limit bytes ++ 255 ∷ [] else bytes

-- that of the manifest under a path, if a file is there
abbrev pub as_manifest : Files → Files
as_manifest holds path None = holds path None
as_manifest holds path (Some bytes) = (whole : List ℕ) × holds path (Some whole) × (bytes ≡ manifest_part whole)
