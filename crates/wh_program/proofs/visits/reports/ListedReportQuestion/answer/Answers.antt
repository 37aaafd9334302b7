use Rattle.std.proofs.Common.{◌≡◌, ◌∙◌, refl, ap, subst, None, Ok}
use Rattle.std.specs.Prelude.{IfOk}
use Rattle.wh_batch.specs.Mode.{mode_of_word}
use Rattle.wh_program.specs.ReportLists.{answer_in}
use Rattle.wh_program.proofs.LookingLemmas.{looks_itself}
use Rattle.wh_program.proofs.ListLemmas.{unfailed_listed}
use Rattle.wh_program.proofs.visits.reports.ListedReportQuestion.answer.Goals as goal

pub returns-in-None-clause-reported : goal.returns-in-None-clause-reported
returns-in-None-clause-reported g c = λ clean limits commands ready.
    let none : None ≡ mode_of_word c.args.self.now.mode = c.in-None.ensures ∙ ap mode_of_word c.as_str-word.ensures in
    record { read = Ok tt; serves = (refl, ready); tells = subst (λ o. IfOk c.no_mode.result (λ a. a ≡ answer_in c.args.self.now o commands)) none (rw c.as_str-word.ensures at c.no_mode.ensures) }

pub returns-in-None-clause-unfailed : goal.returns-in-None-clause-unfailed
returns-in-None-clause-unfailed g c = λ commands. unfailed_listed c.args.self.now commands

pub returns-in-Some-clause-unfailed : goal.returns-in-Some-clause-unfailed
returns-in-Some-clause-unfailed g c = λ commands. unfailed_listed c.args.self.now commands

pub returns-in-None-clause-looks : goal.returns-in-None-clause-looks
returns-in-None-clause-looks g c = looks_itself
