-- The policies that makings and migrations give.
use Rattle.std.proofs.Common.{◌≡◌, ℕ, ◌≤◌, Bool, true, false, cond, List, [], ◌∷◌, ◌++◌, length, Option, Some, None, Result, Ok, Err, refl, ap, arith}
use Rattle.std.specs.Prelude.{IsSome, unwrap_or, option_map}
use Rattle.std.specs.List.{AllByRecursion}
use Rattle.std.proofs.lemmas.List.{length-map}
use Rattle.wh_policy.specs.Names.{fits}
use Rattle.wh_policy.specs.Policy.{policy_attributes, policy_types, read_policy}
use Rattle.wh_policy.specs.Written.{IsSound}
use Rattle.wh_policy.specs.declared.attribute.Attribute.{Attribute}
use Rattle.wh_policy.specs.declared.attribute.Dim.{Dim}
use Rattle.wh_policy.specs.declared.fault.PolicyFault.{PolicyFault}
use Rattle.wh_policy.specs.declared.policy.Policy.{Policy}
use Rattle.wh_policy.proofs.FileLaws.{policies_are_sound}
use Rattle.wh_batch.proofs.GoodLemmas.{bind_ok}
use Rattle.wh_history.specs.Accepted.{Accepted, Content, Governs, Describes, Sells, Upgrades, Withdraws, governed, policy_after}
use Rattle.wh_admission.specs.Admission.{of_file, judged_policy}
use Rattle.wh_admission.specs.declared.command.Refusal.{Refusal}
use Rattle.wh_admission.specs.declared.command.Refusal.TheVariants.{Unfit}
use Rattle.wh_model.specs.Sound.{GivesPolicy}

-- ---- one that takes the place of another

file_ok : (o : Result Policy PolicyFault) (policy : Policy) → of_file o ≡ Ok policy → o ≡ Ok policy
file_ok (Ok other) policy h = let e : other ≡ policy = cc in ap Ok e
file_ok (Err fault) policy h = absurd cc

if_fit : (b : Bool) (read newer : Policy) → cond {A = Result Policy Refusal} b (Ok read) (Err Unfit) ≡ Ok newer → (b ≡ true) × (read ≡ newer)
if_fit true read newer h = (refl, cc)
if_fit false read newer h = absurd cc

-- the bytes write it, and it fits
pub record IsTaken (older : Policy) (bytes : List ℕ) (newer : Policy) : Type 0 where
  pub written : read_policy bytes ≡ Ok newer
  pub fit : fits older newer ≡ true

pub policy_taken : (older : Policy) (bytes : List ℕ) (newer : Policy) → judged_policy older bytes ≡ Ok newer → IsTaken older bytes newer
policy_taken older bytes newer h =
    let (read, is, more) = bind_ok (of_file (read_policy bytes)) (λ other. cond (fits older other) (Ok other) (Err Unfit)) newer h in
    let (fit, same) = if_fit (fits older read) read newer more in
    rw (← same) (record { written = file_ok (read_policy bytes) read is; fit = fit })

-- ---- the one in force

pub policy_with : (before : Option Policy) (commands : List Accepted) (c : Accepted) → policy_after before (commands ++ c ∷ []) ≡ governed (policy_after before commands) c.content
policy_with before [] c = refl
policy_with before (d ∷ commands) c = policy_with (governed before d.content) commands c

pub still_governed : (o : Option Policy) (content : Content) → IsSome o → IsSome (governed o content)
still_governed o (Governs policy) some = refl
still_governed o (Describes dim records) some = some
still_governed o (Sells sales) some = some
still_governed o Upgrades some = some
still_governed o (Withdraws lines) some = some

-- up to six attributes of a dimension
abbrev pub HasSix : Dim → Option Policy → Type 0
HasSix dim o = length (unwrap_or (option_map (λ policy. policy_types policy dim) o) []) ≤ 6

pub still_six : (dim : Dim) (o : Option Policy) (kind bytes : List ℕ) (content : Content) → GivesPolicy kind bytes content → HasSix dim o → HasSix dim (governed o content)
still_six dim o kind bytes (Governs policy) gives six =
    let sound = policies_are_sound bytes policy gives.1 in
    omega (arith, length-map (policy_attributes policy dim) (λ (a : Attribute). a.kind), (sound.attributes dim).few)
still_six dim o kind bytes (Describes dimension records) gives six = six
still_six dim o kind bytes (Sells sales) gives six = six
still_six dim o kind bytes Upgrades gives six = six
still_six dim o kind bytes (Withdraws lines) gives six = six

-- the policy, if there is one, is sound
abbrev pub IsSoundIf : Option Policy → Type 0
IsSoundIf None = Unit {0}
IsSoundIf (Some policy) = IsSound policy

sound_given : (o : Option Policy) (kind bytes : List ℕ) (content : Content) → IsSoundIf o → GivesPolicy kind bytes content → IsSoundIf (governed o content)
sound_given o kind bytes (Governs policy) sound gives = policies_are_sound bytes policy gives.1
sound_given o kind bytes (Describes dim records) sound gives = sound
sound_given o kind bytes (Sells sales) sound gives = sound
sound_given o kind bytes Upgrades sound gives = sound
sound_given o kind bytes (Withdraws lines) sound gives = sound

pub sound_after : (before : Option Policy) (commands : List Accepted) → IsSoundIf before → AllByRecursion (λ c. GivesPolicy c.kind c.bytes c.content) commands → IsSoundIf (policy_after before commands)
sound_after before [] sound all = sound
sound_after before (c ∷ commands) sound all = sound_after (governed before c.content) commands (sound_given before c.kind c.bytes c.content sound all.0) all.1

-- the newer policy of a command takes the place of the one in force
pub newer_in_force : (o : Option Policy) (content : Content) (other : Policy) → unwrap_or (governed o content) other ≡ unwrap_or (governed None content) (unwrap_or o other)
newer_in_force o (Governs policy) other = refl
newer_in_force o (Describes dim records) other = refl
newer_in_force o (Sells sales) other = refl
newer_in_force o Upgrades other = refl
newer_in_force o (Withdraws lines) other = refl
