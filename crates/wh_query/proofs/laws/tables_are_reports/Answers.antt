use Rattle.wh_query.proofs.QueryLaws.{tables_end, tables_are_reports}
use Rattle.wh_query.proofs.laws.tables_are_reports.Goals as goal

pub returns-clause-totals : goal.returns-clause-totals
returns-clause-totals c = tables_end

pub returns-clause-reports : goal.returns-clause-reports
returns-clause-reports c = tables_are_reports
