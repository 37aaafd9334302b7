use Rattle.std.proofs.Common.{◌∙◌, inl, ap, refl, subst, map, List, ℕ}
use Rattle.std.specs.Prelude.{string_bytes}
use Rattle.wh_session.specs.Session.{RunsWords}
use Rattle.wh_session.proofs.KeepLemmas.{keeps_same, runs_keep}
use Rattle.wh_session.proofs.session.answer_words.Goals as goal

pub returns-in-Ok-clause-answered : goal.returns-in-Ok-clause-answered
returns-in-Ok-clause-answered g c = inl (subst (λ (words : List (List ℕ)). RunsWords g.H.Host.holds g.H.Host.refuses g.H.Host.stores g.H.Host.shut words c.args.host.now c.run.new.host (g.W.Write.contents c.args.out.now) (g.W.Write.contents c.run.new.out) c.run.result)
    (ap (map string_bytes) c.as_slice.ensures.value ∙ c.in-Ok.ensures)
    (record { reads = c.run.ensures.reads; others = c.run.ensures.others; closed = c.run.ensures.shut; declines = c.run.ensures.declines }))

pub returns-in-Ok-clause-keeps : goal.returns-in-Ok-clause-keeps
returns-in-Ok-clause-keeps g c = λ plain.
    runs_keep g.H.Host.holds g.H.Host.refuses g.H.Host.stores g.H.Host.shut c.args.file.now c.args.host.now c.run.new.host (g.W.Write.contents c.args.out.now) (g.W.Write.contents c.run.new.out) c.run.result plain
    (map string_bytes c.args.words.items)
    (subst (λ (words : List (List ℕ)). RunsWords g.H.Host.holds g.H.Host.refuses g.H.Host.stores g.H.Host.shut words c.args.host.now c.run.new.host (g.W.Write.contents c.args.out.now) (g.W.Write.contents c.run.new.out) c.run.result)
    (ap (map string_bytes) c.as_slice.ensures.value ∙ c.in-Ok.ensures)
    (record { reads = c.run.ensures.reads; others = c.run.ensures.others; closed = c.run.ensures.shut; declines = c.run.ensures.declines }))

pub returns-in-Err-clause-keeps : goal.returns-in-Err-clause-keeps
returns-in-Err-clause-keeps g c = λ plain. keeps_same g.H.Host.holds g.H.Host.refuses g.H.Host.stores g.H.Host.shut c.args.file.now c.args.host.now c.args.host.now refl
