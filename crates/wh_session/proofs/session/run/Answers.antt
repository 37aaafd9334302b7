use Rattle.std.proofs.Common.{◌≡◌, ◌∙◌, refl, inr, subst, sym, ℕ, Err}
use Rattle.wh_program.specs.Answer.{memory_line, status_code}
use Rattle.wh_program.specs.Run.{GoesOut, Prints, out_of_memory}
use Rattle.wh_program.specs.Tasks.{IsAnsweredBefore}
use Rattle.wh_words.specs.Task.{warehouse_of}
use Rattle.wh_program.specs.Warehouse.{IsNoFileOr, PrintsShut, printed}
use Rattle.wh_program.proofs.RunLemmas.{is_no_usage, not_run, parted, shut_all, spares_all}
use Rattle.wh_session.specs.Session.{Session}
use Rattle.wh_session.proofs.OutputLemmas.{fails_so}
use Rattle.wh_session.proofs.SessionLemmas.{input_lost, none_so_far}
use Rattle.wh_session.proofs.session.run.Goals as goal

pub returns-clause-session : goal.returns-clause-session
returns-clause-session g c = λ file lines asked heard.
    let old = g.W.Write.contents c.args.out.now in
    let new = g.W.Write.contents c.print_answer.new.out in
    let hears = g.C.Console.hears c.args.console.now in
    let failed = fails_so old new (status_code c.print_answer.result) memory_line c.print_answer.ensures in
    let shown = subst (λ (code : ℕ). Prints old new code out_of_memory) failed c.print_answer.ensures in
    subst (λ (code : ℕ). Session g.H.Host.holds g.H.Host.refuses g.H.Host.stores g.H.Host.shut file lines c.args.host.now c.args.host.now old new code) (sym (c.code.ensures ∙ failed))
    (input_lost g.H.Host.holds g.H.Host.refuses g.H.Host.stores g.H.Host.shut file lines c.args.host.now c.args.host.now old old new 0 hears
    (none_so_far g.H.Host.holds g.H.Host.refuses g.H.Host.stores g.H.Host.shut file lines c.args.host.now old hears heard) (inr (refl, shown)))

pub returns-clause-runs : goal.returns-clause-runs
returns-clause-runs g c = λ other.
    let old = g.W.Write.contents c.args.out.now in
    let new = g.W.Write.contents c.print_answer.new.out in
    let host = c.args.host.now in
    let shown = rw (← c.code.ensures) at c.print_answer.ensures in
    record {
      reads = λ task is. (
        not_run (g.H.Host.holds host) (g.H.Host.refuses host) (g.H.Host.stores host) (host ≡ host) (λ answer. Prints old new c.code.result (printed answer))
            (λ cut answer. GoesOut cut old new c.code.result (printed answer)) c.in-Err.field-0 task refl shown (parted old new c.code.result out_of_memory shown),
        (λ e. is_no_usage c.print_answer.result (sym c.code.ensures ∙ e)),
      );
      others = λ task is. spares_all (g.H.Host.stores host) (warehouse_of task);
      closed = λ task is.
          shut_all (g.H.Host.shut host) (warehouse_of task) (λ file. PrintsShut (host ≡ host) (IsNoFileOr file (IsAnsweredBefore (g.H.Host.holds host) task)) (λ answer. Prints old new c.code.result (printed answer)))
          (λ file. (refl, (Err c.in-Err.field-0, tt, shown)));
      declines = λ is. (refl, inr shown);
    }
