use Rattle.std.proofs.Common.{◌≡◌, ◌<◌, length, Ok}
use Rattle.wh_sql.specs.Answers.{ReadsOnly, state_of}
use Rattle.wh_plan.specs.Reads.{Finds}
use Rattle.wh_engine.proofs.admission.free_number.Given as goal

-- of the tables of accepted commands no number was passed over
abbrev pub invariant-numbers : goal.invariant-numbers
invariant-numbers g l =
    let old = state_of g.S.Store l.fn.tables in
    let now = state_of g.S.Store l.tables in
    record {
      reads : ReadsOnly old now (Ok l.number);
      first : Finds old now (λ _ commands. length commands < l.next → l.number ≡ l.next);
    }
