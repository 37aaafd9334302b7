use Rattle.wh_program.proofs.program.run_without_words.Goals as goal

pub returns-in-OutOfMemory-clause-memory : goal.returns-in-OutOfMemory-clause-memory
returns-in-OutOfMemory-clause-memory g c short = rw (← c.code.ensures) at c.print.ensures
