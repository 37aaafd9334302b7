use Rattle.std.proofs.Common.{Err}
use Rattle.wh_program.specs.Answer.{status_code}
use Rattle.wh_program.specs.Delivery.{AnswersRead}
use Rattle.wh_batch.specs.Manifest.{manifest_of}
use Rattle.wh_program.proofs.DeliveryLemmas.{bad_listed, not_listed}
use Rattle.wh_program.proofs.RunLemmas.{printed_so}
use Rattle.wh_program.proofs.visits.delivery.deliver_listed.Goals as goal

pub returns-in-Err-Fault-clause-answers : goal.returns-in-Err-Fault-clause-answers
returns-in-Err-Fault-clause-answers g c = λ content stood.
    printed_so (λ cut. AnswersRead (g.H.Host.holds c.args.host.now) (g.H.Host.refuses c.args.host.now) (g.H.Host.stores c.args.host.now c.args.file.now) cut content c.args.file.now (manifest_of c.args.text.now)) (g.W.Write.contents c.args.out.now) (g.W.Write.contents c.print_answer.new.out) (status_code c.print_answer.result) c.bad_manifest.result
    (λ cut. bad_listed (g.H.Host.holds c.args.host.now) (g.H.Host.refuses c.args.host.now) (g.H.Host.stores c.args.host.now c.args.file.now) cut content c.args.file.now (manifest_of c.args.text.now) c.in-Err-Fault.bad c.bad_manifest.result
    (rw c.in-Err-Fault.field-0-is at c.in-Err-Fault.ensures) stood c.bad_manifest.ensures) c.print_answer.ensures

pub returns-in-Err-Memory-clause-answers : goal.returns-in-Err-Memory-clause-answers
returns-in-Err-Memory-clause-answers g c = λ content stood.
    printed_so (λ cut. AnswersRead (g.H.Host.holds c.args.host.now) (g.H.Host.refuses c.args.host.now) (g.H.Host.stores c.args.host.now c.args.file.now) cut content c.args.file.now (manifest_of c.args.text.now)) (g.W.Write.contents c.args.out.now) (g.W.Write.contents c.print_answer-in-Err-Memory.new.out) (status_code c.print_answer-in-Err-Memory.result) (Err _)
    (λ cut. not_listed (g.H.Host.holds c.args.host.now) (g.H.Host.refuses c.args.host.now) (g.H.Host.stores c.args.host.now c.args.file.now) cut content c.args.file.now (manifest_of c.args.text.now) _ stood)
    c.print_answer-in-Err-Memory.ensures
