use Rattle.wh_batch.proofs.ReportListLemmas.{report-four}
use Rattle.wh_batch.proofs.report_list.four_fields.Goals as goal

pub returns : goal.returns
returns c =
    let texts = c.in-Some-Some-Some-Some in
    rw (c.in_ok-new.ensures, c.in_ok-new-2.ensures, c.in_ok-new-3.ensures, c.in_ok-new-4.ensures)
    (report-four c.args.attribute.now c.args.mode.now c.args.from.now c.args.to.now texts.attribute.now texts.mode.now texts.from.now texts.to.now texts.ensures texts.ensures' texts.ensures'' texts.ensures''')
