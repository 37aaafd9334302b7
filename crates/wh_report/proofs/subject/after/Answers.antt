use Rattle.wh_report.proofs.Prefixes.{taken}
use Rattle.wh_report.proofs.subject.after.Goals as goal

pub returns : goal.returns
returns c = taken c.args.prefix.now c.args.text.now c.strip_prefix.result c.strip_prefix.ensures.cases
