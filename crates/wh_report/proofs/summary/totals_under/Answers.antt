use Rattle.wh_report.proofs.TextMaps.{lookup_by_text}
use Rattle.wh_report.proofs.summary.totals_under.Goals as goal

pub returns : goal.returns
returns c =
    let found = lookup_by_text c.args.label.now c.args.lines.now.entries in
    cc
