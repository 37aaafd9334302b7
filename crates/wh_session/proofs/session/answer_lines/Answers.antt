use Rattle.std.proofs.Common.{refl}
use Rattle.wh_session.proofs.KeepLemmas.{keeps_on, keeps_same}
use Rattle.wh_session.proofs.SessionLemmas.{all_gone, input_lost, loses, none_so_far, one_more, stopped}
use Rattle.wh_session.proofs.session.answer_lines.Goals as goal

pub returns-in-Ok-None-clause-session : goal.returns-in-Ok-None-clause-session
returns-in-Ok-None-clause-session g c = λ lines is.
    all_gone g.H.Host.holds g.H.Host.refuses g.H.Host.stores g.H.Host.shut c.args.file.now lines c.args.host.now c.lines.host (g.W.Write.contents c.args.out.now) (g.W.Write.contents c.lines.out) c.lines.greatest
    (g.C.Console.hears c.lines.console) (g.C.Console.hears c.next_line.new.self) (c.lines.invariant.0 lines is)
    (λ left heard. rw c.in-Ok-None.field-0-is at (c.in-Ok-None.ensures left heard))

pub returns-in-Err-answer_line-clause-session : goal.returns-in-Err-answer_line-clause-session
returns-in-Err-answer_line-clause-session g c = λ lines is. rw c.greater.ensures
    (stopped g.H.Host.holds g.H.Host.refuses g.H.Host.stores g.H.Host.shut c.args.file.now lines c.args.host.now c.lines.host c.answer_line.new.host
    (g.W.Write.contents c.args.out.now) (g.W.Write.contents c.lines.out) (g.W.Write.contents c.answer_line.new.out) c.lines.greatest
    (g.C.Console.hears c.lines.console) (g.C.Console.hears c.next_line.new.self) c.in-Ok-Some.line.items (c.lines.invariant.0 lines is)
    (λ left heard. rw c.in-Ok-Some.field-0-is at (c.in-Ok-Some.ensures left heard))
    (rw c.deref.ensures.value at c.in-Err-answer_line.ensures.stopped))

pub returns-in-Err-clause-session : goal.returns-in-Err-clause-session
returns-in-Err-clause-session g c = λ lines is. rw c.greater-in-Err.ensures
    (input_lost g.H.Host.holds g.H.Host.refuses g.H.Host.stores g.H.Host.shut c.args.file.now lines c.args.host.now c.lines.host
    (g.W.Write.contents c.args.out.now) (g.W.Write.contents c.lines.out) (g.W.Write.contents c.lose_input.new.out) c.lines.greatest (g.C.Console.hears c.lines.console) (c.lines.invariant.0 lines is)
    (loses g.H.Host.holds g.H.Host.refuses g.H.Host.stores g.H.Host.shut c.args.file.now c.lines.host (g.W.Write.contents c.lines.out) (g.W.Write.contents c.lose_input.new.out) c.lose_input.ensures))

pub lines-preserved : goal.lines-preserved
lines-preserved g c = (
  λ lines is. rw c.greater-greatest.ensures
      (one_more g.H.Host.holds g.H.Host.refuses g.H.Host.stores g.H.Host.shut c.args.file.now lines c.args.host.now c.lines.host c.answer_line.new.host
      (g.W.Write.contents c.args.out.now) (g.W.Write.contents c.lines.out) (g.W.Write.contents c.answer_line.new.out) c.lines.greatest c.in-Ok.status
      (g.C.Console.hears c.lines.console) (g.C.Console.hears c.next_line.new.self) c.in-Ok-Some.line.items (c.lines.invariant.0 lines is)
      (λ left heard. rw c.in-Ok-Some.field-0-is at (c.in-Ok-Some.ensures left heard))
      (rw c.deref.ensures.value at c.in-Ok.ensures.went)),
  λ plain. keeps_on g.H.Host.holds g.H.Host.refuses g.H.Host.stores g.H.Host.shut c.args.file.now c.args.host.now c.lines.host c.answer_line.new.host (c.lines.invariant.1 plain) (c.answer_line.ensures.keeps plain),
)

pub returns-clause-session : goal.returns-clause-session
returns-clause-session g c = λ lines is. rw c.greater-2.ensures
    (input_lost g.H.Host.holds g.H.Host.refuses g.H.Host.stores g.H.Host.shut c.args.file.now lines c.args.host.now c.lines.host
    (g.W.Write.contents c.args.out.now) (g.W.Write.contents c.lines.out) (g.W.Write.contents c.lose_input-2.new.out) c.lines.greatest (g.C.Console.hears c.lines.console) (c.lines.invariant.0 lines is)
    (loses g.H.Host.holds g.H.Host.refuses g.H.Host.stores g.H.Host.shut c.args.file.now c.lines.host (g.W.Write.contents c.lines.out) (g.W.Write.contents c.lose_input-2.new.out) c.lose_input-2.ensures))

pub returns-in-Err-answer_line-clause-keeps : goal.returns-in-Err-answer_line-clause-keeps
returns-in-Err-answer_line-clause-keeps g c = λ plain.
    keeps_on g.H.Host.holds g.H.Host.refuses g.H.Host.stores g.H.Host.shut c.args.file.now c.args.host.now c.lines.host c.answer_line.new.host (c.lines.invariant.1 plain) (c.answer_line.ensures.keeps plain)

pub returns-in-Ok-None-clause-keeps : goal.returns-in-Ok-None-clause-keeps
returns-in-Ok-None-clause-keeps g c = c.lines.invariant.1

pub returns-in-Err-clause-keeps : goal.returns-in-Err-clause-keeps
returns-in-Err-clause-keeps g c = c.lines.invariant.1

pub returns-clause-keeps : goal.returns-clause-keeps
returns-clause-keeps g c = c.lines.invariant.1

pub lines-init : goal.lines-init
lines-init g c = (
  λ lines is. none_so_far g.H.Host.holds g.H.Host.refuses g.H.Host.stores g.H.Host.shut c.args.file.now lines c.args.host.now (g.W.Write.contents c.args.out.now) (g.C.Console.hears c.args.console.now) is,
  λ plain. keeps_same g.H.Host.holds g.H.Host.refuses g.H.Host.stores g.H.Host.shut c.args.file.now c.args.host.now c.args.host.now refl,
)
