use Rattle.std.proofs.Common.{subst}
use Rattle.wh_report.specs.Output.{GoesOut}
use Rattle.wh_query.proofs.answer.write.Goals as goal

pub returns-clause-tables : goal.returns-clause-tables
returns-clause-tables g c clean tables rests = record {
  worked = c.query-worked.result;
  due = c.query-worked.ensures.tables clean tables rests;
  out = c.write_worked.ensures.out;
}

pub returns-clause-stored : goal.returns-clause-stored
returns-clause-stored g c clean stored rests = record {
  worked = c.query-worked.result;
  due = c.query-worked.ensures.stored clean stored rests;
  out = c.write_worked.ensures.out;
}

pub returns-clause-answered : goal.returns-clause-answered
returns-clause-answered g c clean limits commands ready = record {
  worked = c.query-worked.result;
  due = c.query-worked.ensures.answered clean limits commands ready;
  out = c.write_worked.ensures.out;
}

pub returns-clause-reopen : goal.returns-clause-reopen
returns-clause-reopen g c must =
    let same = c.query-worked.ensures.reopen must in
    let out = subst (λ worked. GoesOut worked c.write_worked.result (g.W.Write.contents c.args.out.now) (g.W.Write.contents c.write_worked.new.out)) same.0 c.write_worked.ensures.out in
    (out.0, same.1, same.2, out.1)
