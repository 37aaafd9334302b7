use Rattle.std.proofs.Common.{◌∙◌, ap, Ok, Err}
use Rattle.std.proofs.lemmas.Result.{err_from_is_err_and}
use Rattle.wh_policy.specs.declared.format.Format.{Format}
use Rattle.wh_sql.specs.Answers.{state_of}
use Rattle.wh_report.specs.Labels.{labels_get}
use Rattle.wh_report.specs.Reported.{uncounted}
use Rattle.wh_report.specs.Summary.{Summed}
use Rattle.wh_report.proofs.EngineReading.{through, read_not_counted}
use Rattle.wh_report.proofs.StoredReports.{of_request, summed_stored, cut_stored}
use Rattle.wh_report.proofs.SummedFacts.{summed_by_labels, cut_by_labels}
use Rattle.wh_report.proofs.fact_sums.summary_of.Goals as goal

pub returns-in_err-tally_facts-clause-reads : goal.returns-in_err-tally_facts-clause-reads
returns-in_err-tally_facts-clause-reads g c =
    let p = err_from_is_err_and c.from_residual.result c.from_residual.ensures.1 in
    rw (p.1, p.2) (through g.S.Store _ _ (Err c.in_err-tally_facts.field-0.0) c.in_err-tally_facts.ensures.reads c.in_err-tally_facts.ensures.serves)

pub returns-in-Ok-clause-reads : goal.returns-in-Ok-clause-reads
returns-in-Ok-clause-reads g c = through g.S.Store _ _ (Ok tt) c.in_ok-tally_facts.ensures.reads c.in_ok-tally_facts.ensures.serves

pub returns-clause-reads : goal.returns-clause-reads
returns-clause-reads g c = rw (c.uncounted.ensures ∙ ap (λ (format : Format). uncounted format c.args.column c.in-Err.fault) c.format-format.ensures) (read_not_counted Summed _ _ _ _ c.args.engine.now.session.format c.args.column c.in-Err.fault (through g.S.Store _ _ (Ok tt) c.in_ok-tally_facts.ensures.reads c.in_ok-tally_facts.ensures.serves))

pub returns-in-Ok-clause-sums : goal.returns-in-Ok-clause-sums
returns-in-Ok-clause-sums g c clean t at =
    let counted = c.in_ok-tally_facts.ensures.tallies.counted clean t at in
    let tally = c.tally_facts.new.tally in
    summed_by_labels c.args.engine.now.session.format c.args.request.now c.args.column (labels_get c.args.labels.now) (state_of g.S.Store c.args.engine.now.tables) t at c.fact_key.result c.fact_key.ensures counted.0 counted.1 tally.request.now (ap (λ q. q.now) counted.2.request) tally.sums tally.fault counted.2.made
    c.by_label.result c.by_label.ensures c.in-Ok.summary c.in-Ok.is

pub returns-clause-sums : goal.returns-clause-sums
returns-clause-sums g c clean t at =
    let counted = c.in_ok-tally_facts.ensures.tallies.counted clean t at in
    let tally = c.tally_facts.new.tally in
    rw (c.uncounted.ensures ∙ ap (λ (format : Format). uncounted format c.args.column c.in-Err.fault) c.format-format.ensures)
    (cut_by_labels c.args.engine.now.session.format c.args.request.now c.args.column (labels_get c.args.labels.now) (state_of g.S.Store c.args.engine.now.tables) t at c.fact_key.result c.fact_key.ensures counted.0 counted.1 tally.request.now (ap (λ q. q.now) counted.2.request) tally.sums tally.fault counted.2.made
    c.by_label.result c.by_label.ensures c.in-Err.fault c.in-Err.is)

pub returns-in-Ok-clause-stored : goal.returns-in-Ok-clause-stored
returns-in-Ok-clause-stored g c clean stored on =
    let counted = c.in_ok-tally_facts.ensures.tallies.stored clean stored on in
    let tally = c.tally_facts.new.tally in
    summed_stored c.args.engine.now.session.format c.args.request.now c.args.column (labels_get c.args.labels.now) stored c.fact_key.result c.fact_key.ensures counted.0 counted.1
    c.by_label.result (of_request c.args.request.now tally.request.now (ap (λ q. q.now) counted.2.request) _ _ _ _ _ counted.2.made c.by_label.ensures) c.in-Ok.summary c.in-Ok.is

pub returns-clause-stored : goal.returns-clause-stored
returns-clause-stored g c clean stored on =
    let counted = c.in_ok-tally_facts.ensures.tallies.stored clean stored on in
    let tally = c.tally_facts.new.tally in
    rw (c.uncounted.ensures ∙ ap (λ (format : Format). uncounted format c.args.column c.in-Err.fault) c.format-format.ensures)
    (cut_stored c.args.engine.now.session.format c.args.request.now c.args.column (labels_get c.args.labels.now) stored c.fact_key.result c.fact_key.ensures counted.0 counted.1
    c.by_label.result (of_request c.args.request.now tally.request.now (ap (λ q. q.now) counted.2.request) _ _ _ _ _ counted.2.made c.by_label.ensures) c.in-Err.fault c.in-Err.is)
