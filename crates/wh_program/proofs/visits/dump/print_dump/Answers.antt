use Rattle.std.proofs.Common.{inr, Err}
use Rattle.wh_program.specs.Standing.{Rests}
use Rattle.wh_program.proofs.visits.dump.print_dump.Goals as goal

pub returns-in-Err-Memory-clause-answers : goal.returns-in-Err-Memory-clause-answers
returns-in-Err-Memory-clause-answers g c = λ content of_commands stood. (
  Err _,
  inr (record { same = c.in-Err-Memory.ensures.not_visited c.args.file.now (Rests content) stood; tells = tt }),
  rw c.in-Err-Memory.ensures.not_printed at c.print_answer-in-Err-Memory.ensures,
)

pub returns-in-Err-Memory-clause-shut : goal.returns-in-Err-Memory-clause-shut
returns-in-Err-Memory-clause-shut g c = λ shut. ((c.in-Err-Memory.ensures.shut shut).1, (Err _, tt, rw c.in-Err-Memory.ensures.not_printed at c.print_answer-in-Err-Memory.ensures))

pub returns-in-Err-NoFile-clause-shut : goal.returns-in-Err-NoFile-clause-shut
returns-in-Err-NoFile-clause-shut g c = λ shut. ((c.in-Err-NoFile.ensures.shut shut).1, (c.no_file.result, c.no_file.ensures, rw c.in-Err-NoFile.ensures.not_printed at c.print_answer.ensures))
