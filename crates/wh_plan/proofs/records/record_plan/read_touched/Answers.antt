use Rattle.std.proofs.Common.{map, ◌∙◌, ap}
use Rattle.wh_history.specs.Accepted.{member_of}
use Rattle.wh_plan.specs.NewRows.{naturals_told}
use Rattle.wh_plan.proofs.PlanPremises.{days_before, values_before, members_before, anchors_before}
use Rattle.wh_plan.proofs.records.record_plan.read_touched.Goals as goal
use Rattle.wh_sql.proofs.Sparing.{tables_again}
use Rattle.wh_sql.proofs.InTurn.{then_failed, then_reads}

pub returns-clause-found : goal.returns-clause-found
returns-clause-found g c clean limits commands t are at batch accepted is =
    let dim = c.args.dim in
    let records = c.args.records.now in
    let second = c.in_ok-drawn.ensures.reads.spares.clean clean in
    let first = c.in_ok-rows.ensures.reads.spares.clean second in
    let at_first = tables_again c.in_ok-members.ensures.reads.spares first t at tt in
    let at_second = tables_again c.in_ok-rows.ensures.reads.spares second t at_first tt in
    let members_are = c.in_ok-members.ensures.members first limits commands t are at (values_before limits commands batch accepted) ∙ ap (map (member_of dim commands)) (c.deref.ensures.value ∙ c.in_ok-naturals.ensures) in
    let given = c.in_ok-drawn.ensures.drawn clean limits commands t are at_second (members_before limits commands batch accepted dim) (anchors_before limits commands batch accepted dim) in
    record {
      members_read = members_are;
      rows_read = c.in_ok-rows.ensures.rows second limits commands t are at_first (days_before limits commands batch accepted) (naturals_told records) (c.deref-2.ensures.value ∙ members_are);
      members_drawn = ap (λ n. n.members) given;
      anchors_drawn = ap (λ n. n.anchors) given;
    }

pub returns-in_err-rows-clause-reads : goal.returns-in_err-rows-clause-reads
returns-in_err-rows-clause-reads g c = then_failed c.in_ok-members.ensures.reads c.in_err-rows.ensures.reads c.from_residual-in_err-rows.ensures

pub returns-in_err-drawn-clause-reads : goal.returns-in_err-drawn-clause-reads
returns-in_err-drawn-clause-reads g c = then_failed (then_reads c.in_ok-members.ensures.reads c.in_ok-rows.ensures.reads) c.in_err-drawn.ensures.reads c.from_residual-in_err-drawn.ensures
