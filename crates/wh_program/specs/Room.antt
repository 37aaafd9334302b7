-- The room for the lines of an answer, which is taken before anything is kept, so that no memory is wanted once it is.
use Rattle.std.specs.Prelude.{ℕ, ◌≡◌, ◌+◌, ◌<◌, max, List, [], ◌∷◌, length, IfOk, OnErr, vec_capacity}
use Rattle.std.specs.declared.alloc.Global.{Global}
use Rattle.std.specs.declared.vec.Vec.{Vec}
use Rattle.wh_admission.specs.declared.command.Command.{Command}
use Rattle.wh_program.specs.Answer.{Printed}
use Rattle.wh_program.specs.Warehouse.{Shown}

-- the most bytes of a line, beside an id
abbrev pub longest_line : ℕ
longest_line = 128

-- those of the line of an answer to a command under an id
abbrev pub longest_answer : List ℕ → ℕ
longest_answer id = length id + longest_line

-- those of the line of the reply to any of these commands
abbrev pub longest_reply : List Command → ℕ
longest_reply [] = 0
longest_reply (c ∷ sent) = max (longest_answer c.id) (longest_reply sent)

-- an answer of at most so many bytes was made in this room, or there was no room for it
abbrev pub TellsIn : ℕ → Vec ℕ Global → Shown → Printed → Type 0
TellsIn most room shown answer = IfOk shown (λ a. a ≡ answer) × OnErr shown (vec_capacity room < most)
