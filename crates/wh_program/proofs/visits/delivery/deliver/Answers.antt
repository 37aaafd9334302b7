use Rattle.std.proofs.Common.{inr, Err, ◌≡◌}
use Rattle.std.proofs.lemmas.Result.{IfOk-weaker}
use Rattle.wh_program.specs.Answer.{status_code}
use Rattle.wh_program.specs.Delivery.{AnswersDelivery, LacksListed, LacksManifest}
use Rattle.wh_program.proofs.RunLemmas.{printed_so}
use Rattle.wh_batch.specs.Manifest.{manifest_of}
use Rattle.wh_program.specs.Run.{Prints}
use Rattle.wh_program.specs.Warehouse.{printed}
use Rattle.wh_program.proofs.WarehouseLemmas.{shut_before}
use Rattle.wh_program.proofs.visits.delivery.deliver.Goals as goal

pub returns-in-Ok-None-clause-answers : goal.returns-in-Ok-None-clause-answers
returns-in-Ok-None-clause-answers g c = λ content stood.
    printed_so (λ cut. AnswersDelivery (g.H.Host.holds c.args.host.now) (g.H.Host.refuses c.args.host.now) (g.H.Host.stores c.args.host.now c.args.file.now) cut content c.args.file.now c.args.manifest.now) (g.W.Write.contents c.args.out.now) (g.W.Write.contents c.print_answer.new.out) (status_code c.print_answer.result) c.no_file.result
    (λ cut. inr (record {
      same = stood;
      tells = IfOk-weaker c.no_file.result _ _ (λ a is. (rw c.in-Ok-None.field-0-is at c.in-Ok-None.ensures, is)) c.no_file.ensures;
    })) c.print_answer.ensures

pub returns-in-Err-clause-answers : goal.returns-in-Err-clause-answers
returns-in-Err-clause-answers g c = λ content stood.
    printed_so (λ cut. AnswersDelivery (g.H.Host.holds c.args.host.now) (g.H.Host.refuses c.args.host.now) (g.H.Host.stores c.args.host.now c.args.file.now) cut content c.args.file.now c.args.manifest.now) (g.W.Write.contents c.args.out.now) (g.W.Write.contents c.print_answer-in-Err.new.out) (status_code c.print_answer-in-Err.result) (Err _)
    (λ cut. inr (record { same = stood; tells = tt })) c.print_answer-in-Err.ensures

pub returns-in-Ok-Some-clause-shut : goal.returns-in-Ok-Some-clause-shut
returns-in-Ok-Some-clause-shut g c = λ shut.
    let held = rw c.in-Ok-Some.field-0-is at c.in-Ok-Some.ensures in
    shut_before c.args.file.now (LacksListed (g.H.Host.holds c.args.host.now) (manifest_of c.in-Ok-Some.text.items)) (LacksManifest (g.H.Host.holds c.args.host.now) c.args.manifest.now) (λ a is. inr (c.in-Ok-Some.text.items, held, is))
    (c.deliver_listed.new.host ≡ c.args.host.now) (λ shown. Prints (g.W.Write.contents c.args.out.now) (g.W.Write.contents c.deliver_listed.new.out) (status_code c.deliver_listed.result) (printed shown)) (rw c.deref.ensures.value at (c.deliver_listed.ensures.shut shut))
