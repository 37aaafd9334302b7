use Rattle.wh_program.proofs.visits.warehouse.command_from_file.Goals as goal

pub returns : goal.returns
returns g c = (c.in-Some.text.items, rw c.in-Some.is at c.in_ok-text.ensures, rw c.deref.ensures.value at c.in_ok-new_command.ensures)
