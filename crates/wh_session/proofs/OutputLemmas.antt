-- What goes out of a session.
use Rattle.std.proofs.Common.{◌≡◌, ◌∙◌, ◌⊎◌, inl, inr, sym, ap, subst, ℕ, List, [], ◌++◌, append_assoc, append-nil, take, drop, Option, Some, None, Ok, Err}
use Rattle.std.specs.Prelude.{Result, IfOk, OnErr}
use Rattle.std.specs.Io.KnownBytes.{Appends, Keeps}
use Rattle.std.proofs.KnownBytes.{Appends-trans}
use Rattle.std.proofs.lemmas.List.{take-append-drop}
use Rattle.wh_program.specs.Answer.{failed}
use Rattle.wh_program.specs.Run.{Prints, out_of_memory}
use Rattle.wh_program.specs.Warehouse.{Shown, printed}
use Rattle.wh_session.specs.Session.{IsBegun, no_input_line}

pub at_err : {T E P : Type 0} (r : Result T E) → P → OnErr r P
at_err (Ok x) p = tt
at_err (Err e) p = p

-- so many bytes of the first part of a text went out
pub begun : (old new : Option (List ℕ)) (kept : ℕ) (first rest : List ℕ) → Appends old new (take kept first) → IsBegun old new (first ++ rest)
begun old new kept first rest went =
    (take kept first, drop kept first ++ rest, ap (λ (t : List ℕ). t ++ rest) (sym (take-append-drop kept first)) ∙ append_assoc (take kept first) (drop kept first) rest, went)

-- the first part went out, and a beginning of the other
pub begun_behind : (old mid new : Option (List ℕ)) (first rest : List ℕ) → Appends old mid first → IsBegun mid new rest → IsBegun old new (first ++ rest)
begun_behind old mid new first rest went other =
    (first ++ other.0, other.1, ap (λ (t : List ℕ). first ++ t) other.2 ∙ sym (append_assoc first other.0 other.1), Appends-trans old mid new first other.0 went other.3)

-- all of a text is a beginning of it
pub whole_begun : (old new : Option (List ℕ)) (text : List ℕ) → Appends old new text → IsBegun old new text
whole_begun old new text went = (text, [], sym (append-nil text), went)

-- what is flushed stays
pub flushed : (old mid new : Option (List ℕ)) (text : List ℕ) → Appends old mid text → Keeps mid new → Appends old new text
flushed old mid new text went kept = subst (Appends old new) (append-nil text) (Appends-trans old mid new text [] went (keeps_none mid new kept))
  where
    keeps_none : (mid new : Option (List ℕ)) → Keeps mid new → Appends mid new []
    keeps_none None new kept = tt
    keeps_none (Some xs) None kept = absurd kept
    keeps_none (Some xs) (Some ys) kept = kept ∙ sym (append-nil xs)

-- a failure ends with the status of one, whether its line goes out or not
pub fails_so : (old new : Option (List ℕ)) (code : ℕ) (text : List ℕ) → Prints old new code (failed text) → code ≡ 3
fails_so old new code text (inl whole) = whole.status
fails_so old new code text (inr (kept, cut)) = cut.status

-- the input is lost, and that is told; or memory ran out for the line
pub lost : (old new : Option (List ℕ)) (code : ℕ) (shown : Shown) → IfOk shown (λ a. a ≡ failed no_input_line) → Prints old new code (printed shown)
    → Prints old new 3 (failed no_input_line) ⊎ Prints old new 3 out_of_memory
lost old new code (Ok a) is went =
    let line = subst (Prints old new code) is went in
    inl (subst (λ (c : ℕ). Prints old new c (failed no_input_line)) (fails_so old new code no_input_line line) line)
lost old new code (Err e) is went = inr (subst (λ (c : ℕ). Prints old new c out_of_memory) (fails_so old new code _ went) went)
