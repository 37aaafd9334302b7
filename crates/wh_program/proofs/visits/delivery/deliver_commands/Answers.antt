use Rattle.std.proofs.Common.{inr, Err}
use Rattle.std.proofs.lemmas.Result.{IfOk-weaker}
use Rattle.wh_program.specs.Answer.{status_code}
use Rattle.wh_program.specs.Delivery.{AnswersSent}
use Rattle.wh_program.specs.Standing.{Rests}
use Rattle.wh_program.proofs.RunLemmas.{printed_so}
use Rattle.wh_program.proofs.visits.delivery.deliver_commands.Goals as goal

pub returns-in_default-clause-answers : goal.returns-in_default-clause-answers
returns-in_default-clause-answers g c = λ content stood.
    printed_so (λ cut. AnswersSent (g.H.Host.refuses c.args.host.now) (g.H.Host.stores c.args.host.now c.args.file.now) cut content c.args.file.now c.args.commands.items) (g.W.Write.contents c.args.out.now) (g.W.Write.contents c.print_answer.new.out) (status_code c.print_answer.result) (Err _)
    (λ cut. inr (record { same = stood; tells = tt })) c.print_answer.ensures

pub returns-in-Err-NoFile-clause-answers : goal.returns-in-Err-NoFile-clause-answers
returns-in-Err-NoFile-clause-answers g c = λ content stood.
    printed_so (λ cut. AnswersSent (g.H.Host.refuses c.args.host.now) (g.H.Host.stores c.with_existing.new.self c.args.file.now) cut content c.args.file.now c.args.commands.items) (g.W.Write.contents c.args.out.now) (g.W.Write.contents c.print_answer-in-Err-NoFile.new.out) (status_code c.print_answer-in-Err-NoFile.result) c.no_file.result
    (λ cut. inr (record {
      same = c.in-Err-NoFile.ensures.not_visited c.args.file.now (Rests content) stood;
      tells = IfOk-weaker c.no_file.result _ _ (λ a is. (c.in-Err-NoFile.ensures.refused c.in-Err-NoFile.field-0-is, is)) c.no_file.ensures;
    }))
    (rw c.in-Err-NoFile.ensures.not_printed at c.print_answer-in-Err-NoFile.ensures)

pub returns-in-Err-Memory-clause-answers : goal.returns-in-Err-Memory-clause-answers
returns-in-Err-Memory-clause-answers g c = λ content stood.
    printed_so (λ cut. AnswersSent (g.H.Host.refuses c.args.host.now) (g.H.Host.stores c.with_existing.new.self c.args.file.now) cut content c.args.file.now c.args.commands.items) (g.W.Write.contents c.args.out.now) (g.W.Write.contents c.print_answer-in-Err-Memory.new.out) (status_code c.print_answer-in-Err-Memory.result) (Err _)
    (λ cut. inr (record { same = c.in-Err-Memory.ensures.not_visited c.args.file.now (Rests content) stood; tells = tt }))
    (rw c.in-Err-Memory.ensures.not_printed at c.print_answer-in-Err-Memory.ensures)

pub returns-in-Err-Memory-clause-shut : goal.returns-in-Err-Memory-clause-shut
returns-in-Err-Memory-clause-shut g c = λ shut. ((c.in-Err-Memory.ensures.shut shut).1, (Err _, tt, rw c.in-Err-Memory.ensures.not_printed at c.print_answer-in-Err-Memory.ensures))

pub returns-in-Err-NoFile-clause-shut : goal.returns-in-Err-NoFile-clause-shut
returns-in-Err-NoFile-clause-shut g c = λ shut. ((c.in-Err-NoFile.ensures.shut shut).1, (c.no_file.result, c.no_file.ensures, rw c.in-Err-NoFile.ensures.not_printed at c.print_answer-in-Err-NoFile.ensures))
