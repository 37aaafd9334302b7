use Rattle.std.proofs.Common.{inr, Err, ◌≡◌}
use Rattle.std.proofs.lemmas.Result.{IfOk-weaker}
use Rattle.wh_program.specs.Answer.{status_code}
use Rattle.wh_program.specs.Delivery.{AnswersListed, LacksEntry}
use Rattle.wh_program.proofs.RunLemmas.{printed_so}
use Rattle.wh_program.specs.Run.{Prints}
use Rattle.wh_program.specs.Warehouse.{printed}
use Rattle.wh_program.proofs.WarehouseLemmas.{prints_shut_or}
use Rattle.wh_program.proofs.visits.delivery.deliver_entries.Goals as goal

pub returns-in-Err-Fault-clause-answers : goal.returns-in-Err-Fault-clause-answers
returns-in-Err-Fault-clause-answers g c = λ content stood.
    printed_so (λ cut. AnswersListed (g.H.Host.holds c.args.host.now) (g.H.Host.refuses c.args.host.now) (g.H.Host.stores c.args.host.now c.args.file.now) cut content c.args.file.now c.args.entries.now) (g.W.Write.contents c.args.out.now) (g.W.Write.contents c.print_answer.new.out) (status_code c.print_answer.result) c.no_file.result
    (λ cut. inr (record {
      same = stood;
      tells = IfOk-weaker c.no_file.result _ _ (λ a is. (c.in-Err-Fault.path.now, rw c.in-Err-Fault.field-0-is at c.in-Err-Fault.ensures.missing, rw c.as_str.ensures at is)) c.no_file.ensures;
    })) c.print_answer.ensures

pub returns-in-Err-Memory-clause-answers : goal.returns-in-Err-Memory-clause-answers
returns-in-Err-Memory-clause-answers g c = λ content stood.
    printed_so (λ cut. AnswersListed (g.H.Host.holds c.args.host.now) (g.H.Host.refuses c.args.host.now) (g.H.Host.stores c.args.host.now c.args.file.now) cut content c.args.file.now c.args.entries.now) (g.W.Write.contents c.args.out.now) (g.W.Write.contents c.print_answer-in-Err-Memory.new.out) (status_code c.print_answer-in-Err-Memory.result) (Err _)
    (λ cut. inr (record { same = stood; tells = tt })) c.print_answer-in-Err-Memory.ensures

pub returns-in-Ok-clause-shut : goal.returns-in-Ok-clause-shut
returns-in-Ok-clause-shut g c = λ shut.
    prints_shut_or (c.deliver_commands.new.host ≡ c.args.host.now) c.args.file.now (LacksEntry (g.H.Host.holds c.args.host.now) c.args.entries.now) (λ shown. Prints (g.W.Write.contents c.args.out.now) (g.W.Write.contents c.deliver_commands.new.out) (status_code c.deliver_commands.result) (printed shown)) (c.deliver_commands.ensures.shut shut)
