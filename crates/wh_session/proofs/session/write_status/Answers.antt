use Rattle.std.proofs.Common.{[], ◌∷◌, ◌++◌, codes}
use Rattle.std.specs.Fmt.{decimal}
use Rattle.std.proofs.lemmas.Result.{on_err_weaker}
use Rattle.wh_session.proofs.OutputLemmas.{at_err, begun, begun_behind}
use Rattle.wh_session.proofs.session.write_status.Goals as goal

pub returns-in_err-write_whole-clause-begun : goal.returns-in_err-write_whole-clause-begun
returns-in_err-write_whole-clause-begun g c =
    let cut = c.in_err-write_whole.ensures.beginning in
    at_err c.from_residual.result (begun (g.W.Write.contents c.args.out.now) (g.W.Write.contents c.write_whole.new.out) cut.0 (codes "status ") (decimal c.args.status ++ 10 ∷ []) cut.2)

pub returns-in_err-write_whole-2-clause-begun : goal.returns-in_err-write_whole-2-clause-begun
returns-in_err-write_whole-2-clause-begun g c =
    let cut = rw (c.as_bytes.ensures.value, c.format.ensures.text) at c.in_err-write_whole-2.ensures.beginning in
    at_err c.from_residual-in_err-write_whole-2.result
    (begun_behind (g.W.Write.contents c.args.out.now) (g.W.Write.contents c.write_whole.new.out) (g.W.Write.contents c.write_whole-2.new.out) (codes "status ") (decimal c.args.status ++ 10 ∷ [])
    c.in_ok-write_whole.ensures.whole
    (begun (g.W.Write.contents c.write_whole.new.out) (g.W.Write.contents c.write_whole-2.new.out) cut.0 (decimal c.args.status) (10 ∷ []) cut.2))

pub returns-clause-begun : goal.returns-clause-begun
returns-clause-begun g c =
    let old = g.W.Write.contents c.args.out.now in
    let named = g.W.Write.contents c.write_whole.new.out in
    let numbered = g.W.Write.contents c.write_whole-2.new.out in
    let new = g.W.Write.contents c.write_whole-3.new.out in
    let digits = decimal c.args.status in
    let went = rw (c.as_bytes.ensures.value, c.format.ensures.text) at c.in_ok-write_whole-2.ensures.whole in
    on_err_weaker c.write_whole-3.result
    (λ cut. begun_behind old named new (codes "status ") (digits ++ 10 ∷ []) c.in_ok-write_whole.ensures.whole (begun_behind named numbered new digits (10 ∷ []) went (begun numbered new cut.0 (10 ∷ []) [] cut.2)))
    c.write_whole-3.ensures.beginning
