use Rattle.std.specs.Prelude.{Ok, Err}
use Rattle.std.proofs.lemmas.Result.{err_from_is_err_and}
use Rattle.wh_report.proofs.EngineReading.{through, unread, and_then, answered, faulted, handed_out, out_of_memory}
use Rattle.wh_program.proofs.visits.explain.compared.Goals as goal

pub records-init : goal.records-init
records-init g c = unread _ _ tt

pub records-preserved : goal.records-preserved
records-preserved g c = handed_out _ _ _ _ _ _ _ c.in_ok-row.field-0 c.records.invariant (through g.S.Store _ _ _ c.in_ok-row.ensures.reads c.in_ok-row.ensures.serves)

pub returns-in_err-row : goal.returns-in_err-row
returns-in_err-row g c =
    let p = err_from_is_err_and c.from_residual.result c.from_residual.ensures.1 in
    rw (p.1, p.2) (faulted _ _ _ _ _ (and_then _ _ _ _ _ _ tt (Err c.in_err-row.field-0.0) c.records.invariant (through g.S.Store _ _ _ c.in_err-row.ensures.reads c.in_err-row.ensures.serves)))

pub returns-in_default : goal.returns-in_default
returns-in_default g c = answered _ _ _ _ _ _ (and_then _ _ _ _ _ _ tt (Ok c.in_ok-row.field-0) c.records.invariant (through g.S.Store _ _ _ c.in_ok-row.ensures.reads c.in_ok-row.ensures.serves))

pub returns : goal.returns
returns g c = out_of_memory _ _ _ _ _ c.records.invariant
