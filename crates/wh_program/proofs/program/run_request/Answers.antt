use Rattle.std.proofs.Common.{◌≡◌, Some, Ok, refl, inl, inr, subst}
use Rattle.wh_program.specs.Answer.{done, wrong_words}
use Rattle.wh_words.specs.Request.{IsDeclined, asked_in}
use Rattle.wh_words.specs.Task.{task_in}
use Rattle.wh_program.proofs.program.run_request.Goals as goal

pub returns-in-Task-clause-runs : goal.returns-in-Task-clause-runs
returns-in-Task-clause-runs g c = λ task is.
    let asked : asked_in c.args.request ≡ Some (Ok (task_in c.in-Task.task)) = rw c.in-Task.is refl in
    let same : task_in c.in-Task.task ≡ task = cc in
    rw same at (rw (← c.code.ensures) at c.run_task.ensures.runs)

pub returns-in-Task-clause-others : goal.returns-in-Task-clause-others
returns-in-Task-clause-others g c = λ task is.
    let asked : asked_in c.args.request ≡ Some (Ok (task_in c.in-Task.task)) = rw c.in-Task.is refl in
    let same : task_in c.in-Task.task ≡ task = cc in
    rw same at c.run_task.ensures.others

pub returns-in-Task-clause-shut : goal.returns-in-Task-clause-shut
returns-in-Task-clause-shut g c = λ task is.
    let asked : asked_in c.args.request ≡ Some (Ok (task_in c.in-Task.task)) = rw c.in-Task.is refl in
    let same : task_in c.in-Task.task ≡ task = cc in
    rw same at (rw (← c.code.ensures) at c.run_task.ensures.shut)

pub returns-in-Help-clause-declined : goal.returns-in-Help-clause-declined
returns-in-Help-clause-declined g c = λ faults declined. (
  refl,
  (done c.as_bytes.result.now, (c.as_bytes.result.now, inl (subst (IsDeclined faults) c.in-Help.is declined, refl)), rw (← c.code-in-Help.ensures) at c.print.ensures),
)

pub returns-in-Usage-clause-declined : goal.returns-in-Usage-clause-declined
returns-in-Usage-clause-declined g c = λ faults declined. (
  refl,
  (wrong_words c.as_bytes-in-Usage.result.now, (c.as_bytes-in-Usage.result.now, inr (subst (IsDeclined faults) c.in-Usage.is declined, refl)), c.print_usage.ensures),
)
