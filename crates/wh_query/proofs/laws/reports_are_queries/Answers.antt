use Rattle.wh_query.proofs.QueryLaws.{report_lines, reports_are_queries}
use Rattle.wh_query.proofs.laws.reports_are_queries.Goals as goal

pub returns-clause-lines : goal.returns-clause-lines
returns-clause-lines c = report_lines

pub returns-clause-queries : goal.returns-clause-queries
returns-clause-queries c = reports_are_queries
