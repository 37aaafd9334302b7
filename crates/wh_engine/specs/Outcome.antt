-- How a call on a warehouse ends, by its result.
use Rattle.std.specs.Prelude.{List, Result, Ok, Err}
use Rattle.wh_history.specs.Accepted.{Accepted}
use Rattle.wh_admission.specs.declared.command.Refusal.{Refusal}
use Rattle.wh_engine.specs.declared.fault.Fault.{Fault}
use Rattle.wh_engine.specs.declared.fault.Fault.TheVariants.{Refused, Memory, Store}

-- Where a call leaves a warehouse: at the tables of a list of commands; or, where the database refused a call, between two lists, of which a crash leaves the
-- one or the other.
pub data Left : Type 0 where
  At : List Accepted → Left
  Between : List Accepted → List Accepted → Left

-- The outcome of a call on a warehouse of the first list: what is answered is due, and it is left at the second list; or it is refused as is due, or memory
-- ran out, and it is left at the first; or the database refused a call, and it is left between the two. No other fault comes.
abbrev pub Outcome : {A : Type 0} → (Result A Refusal → Type 0) → List Accepted → List Accepted → Result A Fault → (Left → Type 0) → Type 0
Outcome is_due before after (Ok value) is_left = is_due (Ok value) × is_left (At after)
Outcome is_due before after (Err (Refused why)) is_left = is_due (Err why) × is_left (At before)
Outcome is_due before after (Err Memory) is_left = is_left (At before)
Outcome is_due before after (Err (Store cause)) is_left = is_left (Between before after)
Outcome is_due before after (Err fault) is_left = ⊥
