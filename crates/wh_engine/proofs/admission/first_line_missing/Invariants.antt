use Rattle.std.proofs.Common.{◌≡◌, ◌+◌, drop, Ok}
use Rattle.wh_history.specs.Accepted.{format_of, standing}
use Rattle.wh_sql.specs.Answers.{ReadsOnly, state_of}
use Rattle.wh_plan.specs.Reads.{Finds}
use Rattle.wh_admission.specs.Admission.{first_line_missing}
use Rattle.wh_engine.proofs.admission.first_line_missing.Given as goal

-- the first line that is missing among the voids that are left, counted on, is the first among all
abbrev pub invariant-loop-place : goal.invariant-loop-place
invariant-loop-place g l =
    let old = state_of g.S.Store l.fn.tables in
    let now = state_of g.S.Store l.tables in
    record {
      reads : ReadsOnly old now (Ok l.place);
      passed : Finds old now (λ _ commands. l.format ≡ format_of commands → first_line_missing (standing commands) (l.place + 1) (drop l.place l.voids) ≡ first_line_missing (standing commands) 1 l.voids);
    }
