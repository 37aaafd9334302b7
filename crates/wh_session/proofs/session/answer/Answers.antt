use Rattle.std.proofs.Common.{refl, subst, ℕ}
use Rattle.wh_words.specs.Line.{meaning_of}
use Rattle.wh_session.specs.Session.{IsAnswered}
use Rattle.wh_session.proofs.LineLemmas.{some_is}
use Rattle.wh_session.proofs.KeepLemmas.{keeps_same}
use Rattle.wh_session.proofs.SessionLemmas.{unread}
use Rattle.wh_session.proofs.session.answer.Goals as goal

pub returns-in-Ok-NoCommand-clause-answered : goal.returns-in-Ok-NoCommand-clause-answered
returns-in-Ok-NoCommand-clause-answered g c = λ code is. subst
    (λ (status : ℕ). IsAnswered g.H.Host.holds g.H.Host.refuses g.H.Host.stores g.H.Host.shut c.args.file.now (meaning_of c.args.line.now) c.args.host.now c.args.host.now (g.W.Write.contents c.args.out.now) (g.W.Write.contents c.print_usage.new.out) status)
    (some_is c.print_usage.result code is)
    (unread g.H.Host.holds g.H.Host.refuses g.H.Host.stores g.H.Host.shut c.args.file.now (meaning_of c.args.line.now) c.args.host.now c.args.host.now (g.W.Write.contents c.args.out.now) (g.W.Write.contents c.print_usage.new.out)
    c.print_usage.result (rw c.in-Ok-NoCommand.field-0-is at c.in-Ok-NoCommand.ensures) (refl, c.print_usage.ensures))

pub returns-in-Ok-Passed-clause-keeps : goal.returns-in-Ok-Passed-clause-keeps
returns-in-Ok-Passed-clause-keeps g c = λ plain. keeps_same g.H.Host.holds g.H.Host.refuses g.H.Host.stores g.H.Host.shut c.args.file.now c.args.host.now c.args.host.now refl

pub returns-in-Ok-NoCommand-clause-keeps : goal.returns-in-Ok-NoCommand-clause-keeps
returns-in-Ok-NoCommand-clause-keeps g c = λ plain. keeps_same g.H.Host.holds g.H.Host.refuses g.H.Host.stores g.H.Host.shut c.args.file.now c.args.host.now c.args.host.now refl

pub returns-in-Err-clause-keeps : goal.returns-in-Err-clause-keeps
returns-in-Err-clause-keeps g c = λ plain. keeps_same g.H.Host.holds g.H.Host.refuses g.H.Host.stores g.H.Host.shut c.args.file.now c.args.host.now c.args.host.now refl
