use Rattle.wh_plan.proofs.PlanningOwners.{touched_rows_before, touched_rows_after}
use Rattle.wh_plan.proofs.PlanningTable.{touched_rows_are_the_plan}
use Rattle.wh_plan.proofs.laws.touched_rows_are_the_plan.Goals as goal

pub returns-clause-plan : goal.returns-clause-plan
returns-clause-plan c = touched_rows_are_the_plan

pub returns-clause-before : goal.returns-clause-before
returns-clause-before c = touched_rows_before

pub returns-clause-after : goal.returns-clause-after
returns-clause-after c = touched_rows_after
