use Rattle.std.proofs.Common.{◌≡◌, ◌∙◌, refl, inl, inr, Err, Some, ap, map, subst, sym}
use Rattle.wh_words.specs.Request.{IsReadAs}
use Rattle.wh_program.specs.Run.{GoesOut, Prints, out_of_memory}
use Rattle.wh_words.specs.Asked.{faults_in}
use Rattle.wh_program.specs.Tasks.{IsAnsweredBefore}
use Rattle.wh_words.specs.Task.{warehouse_of}
use Rattle.wh_program.specs.Warehouse.{IsNoFileOr, PrintsShut, Shown, printed}
use Rattle.wh_program.proofs.RunLemmas.{is_no_usage, not_run, parted, shut_all, spares_all}
use Rattle.wh_program.proofs.program.run.Goals as goal

pub returns-in-Ok-clause-runs : goal.returns-in-Ok-clause-runs
returns-in-Ok-clause-runs g c = λ line task says is. c.run_request.ensures.runs task (c.in-Ok.ensures.said line says.words_are says.operands ∙ ap Some is)

pub returns-in-Ok-clause-right_words : goal.returns-in-Ok-clause-right_words
returns-in-Ok-clause-right_words g c = λ line task says is. c.run_request.ensures.right_words task (c.in-Ok.ensures.said line says.words_are says.operands ∙ ap Some is)

pub returns-in-Ok-clause-wrong_words : goal.returns-in-Ok-clause-wrong_words
returns-in-Ok-clause-wrong_words g c = λ line wrong says is.
    let wrong_is = c.run_request.ensures.wrong_words wrong (c.in-Ok.ensures.said line says.words_are says.operands ∙ ap Some is) in (wrong_is.0, inl wrong_is.1)

pub returns-in-Err-clause-runs : goal.returns-in-Err-clause-runs
returns-in-Err-clause-runs g c = λ line task says is.
    not_run (g.H.Host.holds c.args.host.now) (g.H.Host.refuses c.args.host.now) (g.H.Host.stores c.args.host.now) (c.args.host.now ≡ c.args.host.now)
    (λ shown. Prints (g.W.Write.contents c.args.out.now) (g.W.Write.contents c.print.new.out) c.code.result (printed shown))
    (λ cut shown. GoesOut cut (g.W.Write.contents c.args.out.now) (g.W.Write.contents c.print.new.out) c.code.result (printed shown)) c.in-Err.field-0 task refl (rw (← c.code.ensures) at c.print.ensures)
    (parted (g.W.Write.contents c.args.out.now) (g.W.Write.contents c.print.new.out) c.code.result out_of_memory (rw (← c.code.ensures) at c.print.ensures))

pub returns-in-Err-clause-right_words : goal.returns-in-Err-clause-right_words
returns-in-Err-clause-right_words g c = λ line task says is e. is_no_usage c.print.result (sym c.code.ensures ∙ e)

pub returns-in-Err-clause-wrong_words : goal.returns-in-Err-clause-wrong_words
returns-in-Err-clause-wrong_words g c = λ line wrong says is. (refl, inr (rw (← c.code.ensures) at c.print.ensures))

pub returns-in-Ok-clause-reads : goal.returns-in-Ok-clause-reads
returns-in-Ok-clause-reads g c = λ task is.
    let asks = subst (λ asked. IsReadAs asked (faults_in (map g.S.AsStr.text c.args.words.now)) c.in-Ok.request) is c.in-Ok.ensures.read in
    (c.run_request.ensures.runs task asks, c.run_request.ensures.right_words task asks)

pub returns-in-Ok-clause-others : goal.returns-in-Ok-clause-others
returns-in-Ok-clause-others g c = λ task is.
    c.run_request.ensures.others task (subst (λ asked. IsReadAs asked (faults_in (map g.S.AsStr.text c.args.words.now)) c.in-Ok.request) is c.in-Ok.ensures.read)

pub returns-in-Ok-clause-shut : goal.returns-in-Ok-clause-shut
returns-in-Ok-clause-shut g c = λ task is.
    c.run_request.ensures.shut task (subst (λ asked. IsReadAs asked (faults_in (map g.S.AsStr.text c.args.words.now)) c.in-Ok.request) is c.in-Ok.ensures.read)

pub returns-in-Ok-clause-declines : goal.returns-in-Ok-clause-declines
returns-in-Ok-clause-declines g c = λ is.
    let faults = faults_in (map g.S.AsStr.text c.args.words.now) in
    let declined = c.run_request.ensures.declined faults (subst (λ asked. IsReadAs asked faults c.in-Ok.request) is c.in-Ok.ensures.read) in
    (declined.0, inl declined.1)

pub returns-in-Err-clause-reads : goal.returns-in-Err-clause-reads
returns-in-Err-clause-reads g c = λ task is. (
  not_run (g.H.Host.holds c.args.host.now) (g.H.Host.refuses c.args.host.now) (g.H.Host.stores c.args.host.now) (c.args.host.now ≡ c.args.host.now)
      (λ shown. Prints (g.W.Write.contents c.args.out.now) (g.W.Write.contents c.print.new.out) c.code.result (printed shown))
      (λ cut shown. GoesOut cut (g.W.Write.contents c.args.out.now) (g.W.Write.contents c.print.new.out) c.code.result (printed shown)) c.in-Err.field-0 task refl (rw (← c.code.ensures) at c.print.ensures)
      (parted (g.W.Write.contents c.args.out.now) (g.W.Write.contents c.print.new.out) c.code.result out_of_memory (rw (← c.code.ensures) at c.print.ensures)),
  (λ e. is_no_usage c.print.result (sym c.code.ensures ∙ e)),
)

pub returns-in-Err-clause-others : goal.returns-in-Err-clause-others
returns-in-Err-clause-others g c = λ task is. spares_all (g.H.Host.stores c.args.host.now) (warehouse_of task)

pub returns-in-Err-clause-shut : goal.returns-in-Err-clause-shut
returns-in-Err-clause-shut g c = λ task is.
    let prints : Shown → Type 0 = λ shown. Prints (g.W.Write.contents c.args.out.now) (g.W.Write.contents c.print.new.out) c.code.result (printed shown) in
    shut_all (g.H.Host.shut c.args.host.now) (warehouse_of task) (λ file. PrintsShut (c.args.host.now ≡ c.args.host.now) (IsNoFileOr file (IsAnsweredBefore (g.H.Host.holds c.args.host.now) task)) prints)
    (λ file. (refl, (Err c.in-Err.field-0, tt, rw (← c.code.ensures) at c.print.ensures)))

pub returns-in-Err-clause-declines : goal.returns-in-Err-clause-declines
returns-in-Err-clause-declines g c = λ is. (refl, inr (rw (← c.code.ensures) at c.print.ensures))
