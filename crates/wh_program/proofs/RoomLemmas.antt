-- Room for the lines of answers.
use Rattle.std.proofs.Common.{◌≡◌, inl, inr, ap, arith, ℕ, ◌≤◌, List, Ok, Err}
use Rattle.std.specs.Prelude.{vec_capacity}
use Rattle.std.specs.declared.alloc.Global.{Global}
use Rattle.std.specs.declared.vec.Vec.{Vec}
use Rattle.wh_program.specs.Answer.{Printed}
use Rattle.wh_program.specs.Room.{TellsIn}
use Rattle.wh_program.specs.Standing.{DatabaseContent, Nothing, Holds, Keeps, Is, Standing}
use Rattle.wh_program.specs.Inputs.{Refusals}
use Rattle.wh_program.specs.Warehouse.{Shown, printed, Opens, AnswersWork}
use Rattle.wh_history.specs.Accepted.{Accepted}
use Rattle.wh_history.specs.Tables.{Limits}

-- where the room suffices there is an answer
pub shown_in : (most : ℕ) (room : Vec ℕ Global) (shown : Shown) (answer : Printed) → most ≤ vec_capacity room → TellsIn most room shown answer → shown ≡ Ok answer
shown_in most room (Ok a) answer enough tells = ap Ok tells.0
shown_in most room (Err e) answer enough tells = absurd (omega (arith, tells.1))

-- so it is printed
pub printed_in : (most : ℕ) (room : Vec ℕ Global) (shown : Shown) (answer : Printed) → most ≤ vec_capacity room → TellsIn most room shown answer → printed shown ≡ answer
printed_in most room shown answer enough tells = ap printed (shown_in most room shown answer enough tells)

-- ---- a visit that needs room

-- what opens what stands and needs room for it, where there is room
opens_with : (room : Type 0) (does : Limits → List Accepted → Shown → Standing → Type 0) (over : DatabaseContent → Shown → Standing → Type 0) (content : DatabaseContent) (shown : Shown) (after : Standing)
    → Opens (λ limits commands shown after. room → does limits commands shown after) (λ content shown after. room → over content shown after) content shown after → room → Opens does over content shown after
opens_with room does over Nothing shown after opens has = opens
opens_with room does over (Holds limits commands) shown after (inl did) has = inl (did has)
opens_with room does over (Holds limits commands) shown after (inr other) has = inr other
opens_with room does over (Keeps stored) shown after (inl did) has = inl (did.0, did.1 has)
opens_with room does over (Keeps stored) shown after (inr other) has = inr other
opens_with room does over (Is db) shown after (inl did) has = inl (did has)
opens_with room does over (Is db) shown after (inr other) has = inr other

-- the same of a word that works on it
pub worked_with : (room : Type 0) (does : Limits → List Accepted → Shown → Standing → Type 0) (over : DatabaseContent → Shown → Standing → Type 0) (content : DatabaseContent) (refuses : Refusals) (stands : Standing → Type 0) (file : List ℕ) (shown : Shown) → room
    → AnswersWork refuses stands (Opens (λ limits commands shown after. room → does limits commands shown after) (λ content shown after. room → over content shown after)) content file shown → AnswersWork refuses stands (Opens does over) content file shown
worked_with room does over content refuses stands file shown has (inl tried) = inl (record { after = tried.after; then_stands = tried.then_stands; did = opens_with room does over content shown tried.after tried.did has })
worked_with room does over content refuses stands file shown has (inr not) = inr not
