-- What a write leaves.
use Rattle.std.proofs.Common.{ℕ, ◌<◌, List, Option, Ok, Err, OnOk, OnErr, ◌≡◌, length, take, subst, sym, false}
use Rattle.std.specs.Prelude.{Result, is_ok}
use Rattle.std.specs.Io.KnownBytes.{Appends}
use Rattle.std.proofs.Math.Seq.{take-length}

-- what an `Err` leaves, where the write was no `Ok`
pub left_by_failure : {T E : Type 0} (r : Result T E) (P : Type 0) → OnErr r P → false ≡ is_ok r → P
left_by_failure (Ok x) P h e = cc
left_by_failure (Err x) P h e = h

-- a write puts out a beginning of its text, which may be all of it
pub beginning_written : {T E : Type 0} (r : Result T E) (old new : Option (List ℕ)) (text : List ℕ) → OnOk r (Appends old new text)
    → OnErr r ((kept : ℕ) × (kept < length text) × Appends old new (take kept text)) → (shown : ℕ) × Appends old new (take shown text)
beginning_written (Ok x) old new text whole part = (length text, subst (Appends old new) (sym (take-length text)) whole)
beginning_written (Err x) old new text whole part = (part.0, part.2)
