-- What a call adds to a text.
use Rattle.std.specs.Prelude.{ℕ, ◌≡◌, ◌+◌, ◌<◌, ◌≤◌, List, ◌++◌, Result, OnOk, OnErr, vec_len, vec_capacity}
use Rattle.std.specs.declared.alloc.Global.{Global}
use Rattle.std.specs.declared.vec.Vec.{Vec}

-- the text goes on, perhaps with nothing
abbrev pub Continues : (old new : List ℕ) → Type 0
Continues old new = (more : List ℕ) × (new ≡ old ++ more)

-- A call added at most so many bytes to a text. It fails only where there was no room for them, and gives no room up.
abbrev pub Fits : {T E : Type 0} → ℕ → Result T E → (old new : Vec ℕ Global) → Type 0
Fits most result old new = (vec_capacity old ≤ vec_capacity new) × OnOk result (vec_len new ≤ vec_len old + most) × OnErr result (vec_capacity old < vec_len old + most)
