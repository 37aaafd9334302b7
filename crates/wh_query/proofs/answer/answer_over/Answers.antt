use Rattle.std.proofs.Common.{ℕ, Ok, Err, ap, sym, ◌∙◌, subst, map}
use Rattle.std.specs.declared.alloc.Global.{Global}
use Rattle.std.specs.declared.vec.Vec.{Vec}
use Rattle.std.proofs.lemmas.Result.{err_from_is_err_and}
use Rattle.wh_report.proofs.EngineReading.{and_then, answered, faulted, format_kept}
use Rattle.wh_policy.specs.declared.format.Format.{Format}
use Rattle.wh_query.specs.Answered.{report_fault, AnswersTables, AnswersStored, AreLeads}
use Rattle.wh_query.specs.Led.{lead_of}
use Rattle.wh_query.proofs.Read.{read_not_counted, text_read, untold_read, fault_read, text_stored, untold_stored, fault_stored}
use Rattle.wh_query.proofs.answer.answer_over.Goals as goal
use Rattle.wh_sql.proofs.Sparing.{stored_again, tables_again}

pub returns-in_err-filters-clause-reads : goal.returns-in_err-filters-clause-reads
returns-in_err-filters-clause-reads g c =
    let p = err_from_is_err_and c.from_residual.result c.from_residual.ensures.1 in
    rw (p.1, p.2) (faulted _ _ _ _ _ c.in_err-filters.ensures.reads)

pub returns-in_err-columns-clause-reads : goal.returns-in_err-columns-clause-reads
returns-in_err-columns-clause-reads g c =
    let p = err_from_is_err_and c.from_residual-in_err-columns.result c.from_residual-in_err-columns.ensures.1 in
    rw (p.1, p.2) (faulted _ _ _ _ _ (and_then _ _ _ _ _ _ _ _ c.in_ok-filters.ensures.reads c.in_err-columns.ensures.reads))

pub returns-in_err-lines-clause-reads : goal.returns-in_err-lines-clause-reads
returns-in_err-lines-clause-reads g c =
    let p = err_from_is_err_and c.from_residual-in_err-lines.result c.from_residual-in_err-lines.ensures.1 in
    rw (p.1, p.2) (and_then _ _ _ _ _ _ _ _ (and_then _ _ _ _ _ _ _ _ c.in_ok-filters.ensures.reads c.in_ok-columns.ensures.reads) c.in_err-lines.ensures.reads)

pub returns-clause-reads : goal.returns-clause-reads
returns-clause-reads g c =
    rw (c.report_fault.ensures)
    (read_not_counted (Vec ℕ Global) _ _ _ _ c.format-format.result c.in-Err.fault (answered _ _ _ _ _ tt (and_then _ _ _ _ _ _ _ _ (and_then _ _ _ _ _ _ _ _ c.in_ok-filters.ensures.reads c.in_ok-columns.ensures.reads) c.in_ok-lines.ensures.reads)))

pub returns-in-Ok-clause-reads : goal.returns-in-Ok-clause-reads
returns-in-Ok-clause-reads g c = answered _ _ _ _ _ _ (and_then _ _ _ _ _ _ _ _ (and_then _ _ _ _ _ _ _ _ c.in_ok-filters.ensures.reads c.in_ok-columns.ensures.reads) c.in_ok-lines.ensures.reads)

pub returns-in_err-lines-clause-tables : goal.returns-in_err-lines-clause-tables
returns-in_err-lines-clause-tables g c clean t at =
    let first = c.in_ok-filters.ensures in
    let second = c.in_ok-columns.ensures in
    let third = c.in_err-lines.ensures in
    let late = third.reads.spares.clean clean in
    let early = second.reads.spares.clean late in
    let then_at = tables_again first.reads.spares early t at tt in
    let p = err_from_is_err_and c.from_residual-in_err-lines.result c.from_residual-in_err-lines.ensures.1 in
    rw (p.1, p.2)
    (subst (λ (format : Format). AnswersTables format c.args.query.now c.args.filters.now c.args.columns.now t (Err c.in_err-lines.field-0.0)) (format_kept _ _ _ _ _ second.reads ∙ format_kept _ _ _ _ _ first.reads)
    (fault_read _ c.args.query.now c.args.filters.now c.args.columns.now _ _ t (ap (map lead_of) c.as_slice.ensures.value ∙ first.led early t at) (ap (map lead_of) c.as_slice-2.ensures.value ∙ second.led late t then_at) _ (third.sums clean t (tables_again second.reads.spares late t then_at tt))))

pub returns-clause-tables : goal.returns-clause-tables
returns-clause-tables g c clean t at =
    let first = c.in_ok-filters.ensures in
    let second = c.in_ok-columns.ensures in
    let third = c.in_ok-lines.ensures in
    let late = third.reads.spares.clean clean in
    let early = second.reads.spares.clean late in
    let then_at = tables_again first.reads.spares early t at tt in
    let same = format_kept _ _ _ _ _ second.reads ∙ format_kept _ _ _ _ _ first.reads in
    rw (c.report_fault.ensures ∙ ap (λ (format : Format). report_fault format c.in-Err.fault) c.format-format.ensures)
    (subst (λ (format : Format). AnswersTables format c.args.query.now c.args.filters.now c.args.columns.now t (Err (report_fault format c.in-Err.fault))) same
    (untold_read _ c.args.query.now c.args.filters.now c.args.columns.now _ _ t (ap (map lead_of) c.as_slice.ensures.value ∙ first.led early t at) (ap (map lead_of) c.as_slice-2.ensures.value ∙ second.led late t then_at) _ c.in-Err.fault c.in-Err.ensures.untold (third.sums clean t (tables_again second.reads.spares late t then_at tt))))

pub returns-in-Ok-clause-tables : goal.returns-in-Ok-clause-tables
returns-in-Ok-clause-tables g c clean t at =
    let first = c.in_ok-filters.ensures in
    let second = c.in_ok-columns.ensures in
    let third = c.in_ok-lines.ensures in
    let late = third.reads.spares.clean clean in
    let early = second.reads.spares.clean late in
    let then_at = tables_again first.reads.spares early t at tt in
    subst (λ (format : Format). AnswersTables format c.args.query.now c.args.filters.now c.args.columns.now t (Ok c.in-Ok.text)) (format_kept _ _ _ _ _ second.reads ∙ format_kept _ _ _ _ _ first.reads)
    (text_read _ c.args.query.now c.args.filters.now c.args.columns.now _ _ t (ap (map lead_of) c.as_slice.ensures.value ∙ first.led early t at) (ap (map lead_of) c.as_slice-2.ensures.value ∙ second.led late t then_at) _ c.in-Ok.text c.in-Ok.ensures.text (third.sums clean t (tables_again second.reads.spares late t then_at tt)))

pub returns-in_err-lines-clause-stored : goal.returns-in_err-lines-clause-stored
returns-in_err-lines-clause-stored g c clean stored on =
    let first = c.in_ok-filters.ensures in
    let second = c.in_ok-columns.ensures in
    let third = c.in_err-lines.ensures in
    let late = third.reads.spares.clean clean in
    let early = second.reads.spares.clean late in
    let then_on = stored_again first.reads.spares early stored on tt in
    let p = err_from_is_err_and c.from_residual-in_err-lines.result c.from_residual-in_err-lines.ensures.1 in
    rw (p.1, p.2)
    (subst (λ (format : Format). AnswersStored format c.args.query.now c.args.filters.now c.args.columns.now stored (Err c.in_err-lines.field-0.0)) (format_kept _ _ _ _ _ second.reads ∙ format_kept _ _ _ _ _ first.reads)
    (fault_stored _ c.args.query.now c.args.filters.now c.args.columns.now _ _ stored (subst (AreLeads stored c.args.filters.now) (sym (ap (map lead_of) c.as_slice.ensures.value)) (first.stored early stored on)) (subst (AreLeads stored c.args.columns.now) (sym (ap (map lead_of) c.as_slice-2.ensures.value)) (second.stored late stored then_on)) _ (third.stored clean stored (stored_again second.reads.spares late stored then_on tt))))

pub returns-clause-stored : goal.returns-clause-stored
returns-clause-stored g c clean stored on =
    let first = c.in_ok-filters.ensures in
    let second = c.in_ok-columns.ensures in
    let third = c.in_ok-lines.ensures in
    let late = third.reads.spares.clean clean in
    let early = second.reads.spares.clean late in
    let then_on = stored_again first.reads.spares early stored on tt in
    let same = format_kept _ _ _ _ _ second.reads ∙ format_kept _ _ _ _ _ first.reads in
    rw (c.report_fault.ensures ∙ ap (λ (format : Format). report_fault format c.in-Err.fault) c.format-format.ensures)
    (subst (λ (format : Format). AnswersStored format c.args.query.now c.args.filters.now c.args.columns.now stored (Err (report_fault format c.in-Err.fault))) same
    (untold_stored _ c.args.query.now c.args.filters.now c.args.columns.now _ _ stored (subst (AreLeads stored c.args.filters.now) (sym (ap (map lead_of) c.as_slice.ensures.value)) (first.stored early stored on)) (subst (AreLeads stored c.args.columns.now) (sym (ap (map lead_of) c.as_slice-2.ensures.value)) (second.stored late stored then_on)) _ c.in-Err.fault c.in-Err.ensures.untold (third.stored clean stored (stored_again second.reads.spares late stored then_on tt))))

pub returns-in-Ok-clause-stored : goal.returns-in-Ok-clause-stored
returns-in-Ok-clause-stored g c clean stored on =
    let first = c.in_ok-filters.ensures in
    let second = c.in_ok-columns.ensures in
    let third = c.in_ok-lines.ensures in
    let late = third.reads.spares.clean clean in
    let early = second.reads.spares.clean late in
    let then_on = stored_again first.reads.spares early stored on tt in
    subst (λ (format : Format). AnswersStored format c.args.query.now c.args.filters.now c.args.columns.now stored (Ok c.in-Ok.text)) (format_kept _ _ _ _ _ second.reads ∙ format_kept _ _ _ _ _ first.reads)
    (text_stored _ c.args.query.now c.args.filters.now c.args.columns.now _ _ stored (subst (AreLeads stored c.args.filters.now) (sym (ap (map lead_of) c.as_slice.ensures.value)) (first.stored early stored on)) (subst (AreLeads stored c.args.columns.now) (sym (ap (map lead_of) c.as_slice-2.ensures.value)) (second.stored late stored then_on)) _ c.in-Ok.text c.in-Ok.ensures.text (third.stored clean stored (stored_again second.reads.spares late stored then_on tt)))
