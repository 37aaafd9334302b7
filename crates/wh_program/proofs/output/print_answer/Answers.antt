use Rattle.wh_program.proofs.output.print_answer.Goals as goal

pub returns-in-Err : goal.returns-in-Err
returns-in-Err g c = rw c.in-Err.is c.print-in-Err.ensures
