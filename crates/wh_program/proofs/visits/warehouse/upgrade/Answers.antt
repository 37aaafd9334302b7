use Rattle.wh_program.proofs.visits.warehouse.upgrade.Goals as goal

pub returns-clause-answers : goal.returns-clause-answers
returns-clause-answers g c = λ content stood. rw c.in_ok-upgrade.ensures at (c.send_command.ensures.answers content stood)
