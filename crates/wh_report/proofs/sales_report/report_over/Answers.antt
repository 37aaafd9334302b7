use Rattle.std.proofs.Common.{Ok, Err, ap, ◌∙◌, subst}
use Rattle.std.proofs.lemmas.Result.{err_from_is_err_and}
use Rattle.wh_report.proofs.EngineReading.{and_then, answered, faulted, format_kept, out_of_memory}
use Rattle.wh_policy.specs.declared.format.Format.{Format}
use Rattle.wh_report.specs.Reported.{ReportsTables, ReportsStored}
use Rattle.wh_report.proofs.ReadReports.{text_read, fault_read}
use Rattle.wh_report.proofs.StoredReports.{stored_text, stored_fault}
use Rattle.wh_report.proofs.sales_report.report_over.Goals as goal
use Rattle.wh_sql.proofs.Sparing.{stored_again, tables_again}

pub returns-in_err-labels-clause-reads : goal.returns-in_err-labels-clause-reads
returns-in_err-labels-clause-reads g c =
    let p = err_from_is_err_and c.from_residual.result c.from_residual.ensures.1 in
    rw (p.1, p.2) (faulted _ _ _ _ _ c.in_err-labels.ensures.reads)

pub returns-in_err-summary-clause-reads : goal.returns-in_err-summary-clause-reads
returns-in_err-summary-clause-reads g c =
    let p = err_from_is_err_and c.from_residual-in_err-summary.result c.from_residual-in_err-summary.ensures.1 in
    rw (p.1, p.2) (and_then _ _ _ _ _ _ _ _ c.in_ok-labels.ensures.reads c.in_err-summary.ensures.reads)

pub returns-in_err-summary-clause-tables : goal.returns-in_err-summary-clause-tables
returns-in_err-summary-clause-tables g c clean t at =
    let first = c.in_ok-labels.ensures in
    let second = c.in_err-summary.ensures in
    let before = second.reads.spares.clean clean in
    let p = err_from_is_err_and c.from_residual-in_err-summary.result c.from_residual-in_err-summary.ensures.1 in
    rw (p.1, p.2)
    (subst (λ (format : Format). ReportsTables format c.args.request.now c.args.column t (Err c.in_err-summary.field-0.0)) (format_kept _ _ _ _ _ first.reads)
    (fault_read _ c.args.request.now c.args.column t _ (first.labels before t at) _ (second.sums clean t (tables_again first.reads.spares before t at tt))))

pub returns-in_err-text-clause-reads : goal.returns-in_err-text-clause-reads
returns-in_err-text-clause-reads g c =
    let p = err_from_is_err_and c.from_residual-in_err-text.result c.from_residual-in_err-text.ensures.1 in
    rw (p.1, p.2) (out_of_memory _ _ _ _ _ (and_then _ _ _ _ _ _ _ _ c.in_ok-labels.ensures.reads c.in_ok-summary.ensures.reads))

pub returns-clause-reads : goal.returns-clause-reads
returns-clause-reads g c = answered _ _ _ _ _ _ (and_then _ _ _ _ _ _ _ _ c.in_ok-labels.ensures.reads c.in_ok-summary.ensures.reads)

pub returns-clause-tables : goal.returns-clause-tables
returns-clause-tables g c clean t at =
    let first = c.in_ok-labels.ensures in
    let second = c.in_ok-summary.ensures in
    let before = second.reads.spares.clean clean in
    let sums = second.sums clean t (tables_again first.reads.spares before t at tt) in
    subst (λ (format : Format). ReportsTables format c.args.request.now c.args.column t (Ok c.into_bytes.result)) (format_kept _ _ _ _ _ first.reads)
    (text_read _ _ _ t _ (first.labels before t at) c.into_bytes.result (ap (λ v. v.items) c.into_bytes.ensures.value ∙ c.in_ok-text.ensures _ sums.0) sums.1)

pub returns-in_err-summary-clause-stored : goal.returns-in_err-summary-clause-stored
returns-in_err-summary-clause-stored g c clean stored on =
    let first = c.in_ok-labels.ensures in
    let second = c.in_err-summary.ensures in
    let before = second.reads.spares.clean clean in
    let read = first.stored before stored on in
    let p = err_from_is_err_and c.from_residual-in_err-summary.result c.from_residual-in_err-summary.ensures.1 in
    rw (p.1, p.2)
    (subst (λ (format : Format). ReportsStored format c.args.request.now c.args.column stored (Err c.in_err-summary.field-0.0)) (format_kept _ _ _ _ _ first.reads)
    (stored_fault _ c.args.request.now c.args.column stored _ read.0 read.1 read.2 _ (second.stored clean stored (stored_again first.reads.spares before stored on tt))))

pub returns-clause-stored : goal.returns-clause-stored
returns-clause-stored g c clean stored on =
    let first = c.in_ok-labels.ensures in
    let second = c.in_ok-summary.ensures in
    let before = second.reads.spares.clean clean in
    let read = first.stored before stored on in
    let sums = second.stored clean stored (stored_again first.reads.spares before stored on tt) in
    subst (λ (format : Format). ReportsStored format c.args.request.now c.args.column stored (Ok c.into_bytes.result)) (format_kept _ _ _ _ _ first.reads)
    (stored_text _ c.args.request.now c.args.column stored _ read.0 read.1 read.2 c.into_bytes.result _ sums (ap (λ v. v.items) c.into_bytes.ensures.value ∙ c.in_ok-text.ensures _ sums.2))
