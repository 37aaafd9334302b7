use Rattle.std.proofs.Common.{◌∙◌, ap, sym, map, Ok, Err, ℕ, List}
use Rattle.std.proofs.lemmas.Result.{err_from_is_err_and}
use Rattle.wh_policy.specs.declared.format.Format.{Format}
use Rattle.wh_sql.specs.Answers.{state_of}
use Rattle.wh_report.specs.Sums.{Figures}
use Rattle.wh_report.proofs.EngineReading.{through}
use Rattle.wh_query.specs.Answered.{report_fault}
use Rattle.wh_query.specs.Led.{lead_of}
use Rattle.wh_query.proofs.Counting.{made_at_rest, cut_at_rest, made_stored, cut_stored}
use Rattle.wh_query.proofs.Read.{read_not_counted}
use Rattle.wh_query.proofs.answer.lines_of.Goals as goal

pub returns-in_err-tally_links-clause-reads : goal.returns-in_err-tally_links-clause-reads
returns-in_err-tally_links-clause-reads g c =
    let p = err_from_is_err_and c.from_residual.result c.from_residual.ensures.1 in
    rw (p.1, p.2) (through g.S.Store _ _ (Err c.in_err-tally_links.field-0.0) c.in_err-tally_links.ensures.reads c.in_err-tally_links.ensures.serves)

pub returns-in-Ok-clause-reads : goal.returns-in-Ok-clause-reads
returns-in-Ok-clause-reads g c = through g.S.Store _ _ (Ok tt) c.in_ok-tally_links.ensures.reads c.in_ok-tally_links.ensures.serves

pub returns-in-Err-clause-reads : goal.returns-in-Err-clause-reads
returns-in-Err-clause-reads g c = rw (c.report_fault.ensures ∙ ap (λ (format : Format). report_fault format c.in-Err.fault) c.format-format.ensures) (read_not_counted (List (List (List ℕ) × Figures)) _ _ _ _ c.args.engine.now.session.format c.in-Err.fault (through g.S.Store _ _ (Ok tt) c.in_ok-tally_links.ensures.reads c.in_ok-tally_links.ensures.serves))

pub returns-in-Ok-clause-sums : goal.returns-in-Ok-clause-sums
returns-in-Ok-clause-sums g c clean t at =
    let counted = c.in_ok-tally_links.ensures.tallies.counted clean t at in
    let tally = c.tally_links.new.tally in
    made_at_rest c.args.query.now _ (map lead_of c.args.filters.now) _ (map lead_of c.args.columns.now) _ (ap (λ q. q.now) counted.2.query ∙ c.new-sums.ensures.query) (ap (λ f. map lead_of f.now) counted.2.filters ∙ ap (map lead_of) c.new-sums.ensures.filters) (ap (λ f. map lead_of f.now) counted.2.columns ∙ ap (map lead_of) c.new-sums.ensures.columns) c.args.engine.now.session.format tally.lines tally.fault
    (state_of g.S.Store c.args.engine.now.tables) t at counted.0 counted.1 counted.2.made c.in-Ok.lines (sym c.into_lines.ensures ∙ c.in-Ok.is)

pub returns-in-Err-clause-sums : goal.returns-in-Err-clause-sums
returns-in-Err-clause-sums g c clean t at =
    let counted = c.in_ok-tally_links.ensures.tallies.counted clean t at in
    let tally = c.tally_links.new.tally in
    rw (c.report_fault.ensures ∙ ap (λ (format : Format). report_fault format c.in-Err.fault) c.format-format.ensures)
    (cut_at_rest c.args.query.now _ (map lead_of c.args.filters.now) _ (map lead_of c.args.columns.now) _ (ap (λ q. q.now) counted.2.query ∙ c.new-sums.ensures.query) (ap (λ f. map lead_of f.now) counted.2.filters ∙ ap (map lead_of) c.new-sums.ensures.filters) (ap (λ f. map lead_of f.now) counted.2.columns ∙ ap (map lead_of) c.new-sums.ensures.columns) c.args.engine.now.session.format tally.lines tally.fault
    (state_of g.S.Store c.args.engine.now.tables) t at counted.0 counted.1 counted.2.made c.in-Err.fault (sym c.into_lines.ensures ∙ c.in-Err.is))

pub returns-in-Ok-clause-stored : goal.returns-in-Ok-clause-stored
returns-in-Ok-clause-stored g c clean stored on =
    let counted = c.in_ok-tally_links.ensures.tallies.stored clean stored on in
    let tally = c.tally_links.new.tally in
    made_stored c.args.query.now _ (map lead_of c.args.filters.now) _ (map lead_of c.args.columns.now) _ (ap (λ q. q.now) counted.2.query ∙ c.new-sums.ensures.query) (ap (λ f. map lead_of f.now) counted.2.filters ∙ ap (map lead_of) c.new-sums.ensures.filters) (ap (λ f. map lead_of f.now) counted.2.columns ∙ ap (map lead_of) c.new-sums.ensures.columns) c.args.engine.now.session.format tally.lines tally.fault
    stored counted.0 counted.1 counted.2.made c.in-Ok.lines (sym c.into_lines.ensures ∙ c.in-Ok.is)

pub returns-in-Err-clause-stored : goal.returns-in-Err-clause-stored
returns-in-Err-clause-stored g c clean stored on =
    let counted = c.in_ok-tally_links.ensures.tallies.stored clean stored on in
    let tally = c.tally_links.new.tally in
    rw (c.report_fault.ensures ∙ ap (λ (format : Format). report_fault format c.in-Err.fault) c.format-format.ensures)
    (cut_stored c.args.query.now _ (map lead_of c.args.filters.now) _ (map lead_of c.args.columns.now) _ (ap (λ q. q.now) counted.2.query ∙ c.new-sums.ensures.query) (ap (λ f. map lead_of f.now) counted.2.filters ∙ ap (map lead_of) c.new-sums.ensures.filters) (ap (λ f. map lead_of f.now) counted.2.columns ∙ ap (map lead_of) c.new-sums.ensures.columns) c.args.engine.now.session.format tally.lines tally.fault
    stored counted.0 counted.1 counted.2.made c.in-Err.fault (sym c.into_lines.ensures ∙ c.in-Err.is))
