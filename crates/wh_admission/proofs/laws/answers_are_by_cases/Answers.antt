use Rattle.wh_admission.proofs.AnswersByCases.{answer_is_by_cases, answers_are_one}
use Rattle.wh_admission.proofs.laws.answers_are_by_cases.Goals as goal

pub returns-clause-first : goal.returns-clause-first
returns-clause-first c = answer_is_by_cases

pub returns-clause-only : goal.returns-clause-only
returns-clause-only c = answers_are_one
