use Rattle.std.proofs.Common.{inl, inr, sym, ◌∙◌, map}
use Rattle.wh_query.specs.Led.{lead_of}
use Rattle.wh_query.proofs.Counting.{not_counted, one_counted, one_refused}
use Rattle.wh_query.proofs.sums.QuerySumsLinkAggregate.count.Goals as goal
use Rattle.wh_query.proofs.sums.QuerySumsLinkAggregate.count.Goals.{then-is_some-via-then-is_some, then-is_some-via-else-is_some+then-not-contains}

pub returns-then-is_some : goal.returns-then-is_some
returns-then-is_some c first sales before = record {
  query = before.query;
  filters = before.filters;
  columns = before.columns;
  made = not_counted c.args.self.now.query.now (map lead_of c.args.self.now.filters.now) (map lead_of c.args.self.now.columns.now) sales c.args.sale c.args.self.now.lines c.args.self.now.fault
      (elim c.then-is_some.branch [
        | then-is_some-via-then-is_some w ↦ inl (sym c.is_some.ensures ∙ w.if-is_some.true)
        | then-is_some-via-else-is_some+then-not-contains w ↦ inr (sym w.contains.ensures ∙ w.if-not-contains.true)
      ]) before.made;
}

pub returns-in-Err : goal.returns-in-Err
returns-in-Err c first sales before = record {
  query = before.query;
  filters = before.filters;
  columns = before.columns;
  made = one_refused c.args.self.now.query.now (map lead_of c.args.self.now.filters.now) (map lead_of c.args.self.now.columns.now) sales c.args.sale c.args.self.now.lines c.add_sale.new.kept c.args.self.now.fault c.in-Err.fault (sym c.is_some.ensures ∙ c.if-is_some.false)
      (sym c.contains.ensures ∙ c.if-not-contains.false) before.made c.in-Err.ensures.lacks c.in-Err.ensures.damaged;
}

pub returns-in_default : goal.returns-in_default
returns-in_default c first sales before = record {
  query = before.query;
  filters = before.filters;
  columns = before.columns;
  made = one_counted c.args.self.now.query.now (map lead_of c.args.self.now.filters.now) (map lead_of c.args.self.now.columns.now) sales c.args.sale c.args.self.now.lines c.add_sale.new.kept c.args.self.now.fault (sym c.is_some.ensures ∙ c.if-is_some.false)
      (sym c.contains.ensures ∙ c.if-not-contains.false) before.made c.in_default.ensures.led c.in_default.ensures.added;
}
