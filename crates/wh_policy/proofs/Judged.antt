-- A reading that is judged: what it gives is good, or its fault is right.
use Rattle.std.proofs.Common.{◌≡◌, ◌⊎◌, inl, inr, Bool, true, false, Result, Ok, Err, Option, Some, None, refl}
use Rattle.std.specs.Prelude.{ok_or}
use Rattle.wh_day.specs.Reading.{◌>>=◌, unless_fault}
use Rattle.wh_policy.specs.declared.fault.PolicyFault.{PolicyFault}

abbrev pub Judges : {A : Type 0} → (A → Type 0) → (PolicyFault → Type 0) → Result A PolicyFault → Type 0
Judges good bad (Ok x) = good x
Judges good bad (Err fault) = bad fault

pub record Judged {A : Type 0} (good : A → Type 0) (bad : PolicyFault → Type 0) (read : Result A PolicyFault) : Type 0 where
  pub verdict : Judges good bad read

pub judged-ok : {A : Type 0} {good : A → Type 0} {bad : PolicyFault → Type 0} (x : A) → good x → Judged good bad (Ok x)
judged-ok x h = record { verdict = h }

pub judged-bind : {A B : Type 0} {mid : A → Type 0} {good : B → Type 0} {bad : PolicyFault → Type 0} (read : Result A PolicyFault) (more : A → Result B PolicyFault)
    → Judged mid bad read → ((x : A) → mid x → Judged good bad (more x)) → Judged good bad (read >>= more)
judged-bind (Ok x) more h next = next x h.verdict
judged-bind (Err fault) more h next = record { verdict = h.verdict }

pub judged-unless : {A : Type 0} {good : A → Type 0} {bad : PolicyFault → Type 0} (holds : Bool) (fault : PolicyFault) (read : Result A PolicyFault)
    → (holds ≡ false → bad fault) → (holds ≡ true → Judged good bad read) → Judged good bad (unless_fault holds fault read)
judged-unless true fault read fails next = next refl
judged-unless false fault read fails next = record { verdict = fails refl }

pub judged-or : {A : Type 0} {good : A → Type 0} {bad : PolicyFault → Type 0} (fault : PolicyFault) (found : Option A)
    → (found ≡ None → bad fault) → ((x : A) → found ≡ Some x → good x) → Judged good bad (ok_or found fault)
judged-or fault None fails next = record { verdict = fails refl }
judged-or fault (Some x) fails next = record { verdict = next x refl }

-- what is good in one way is good in another
pub judged-more : {A : Type 0} {mid good : A → Type 0} {bad : PolicyFault → Type 0} (read : Result A PolicyFault)
    → Judged mid bad read → ((x : A) → mid x → good x) → Judged good bad read
judged-more (Ok x) h more = record { verdict = more x h.verdict }
judged-more (Err fault) h more = record { verdict = h.verdict }

-- what the verdict says of a known answer
pub at_ok : {A : Type 0} {good : A → Type 0} {bad : PolicyFault → Type 0} (read : Result A PolicyFault) (x : A) → Judged good bad read → read ≡ Ok x → good x
at_ok read x h e = (rw e at h).verdict

pub at_err : {A : Type 0} {good : A → Type 0} {bad : PolicyFault → Type 0} (read : Result A PolicyFault) (fault : PolicyFault) → Judged good bad read → read ≡ Err fault → bad fault
at_err read fault h e = (rw e at h).verdict

-- the two kinds of answer
pub answers : {A : Type 0} (read : Result A PolicyFault) → ((x : A) × (read ≡ Ok x)) ⊎ ((fault : PolicyFault) × (read ≡ Err fault))
answers (Ok x) = inl (x, refl)
answers (Err fault) = inr (fault, refl)
