use Rattle.std.proofs.Common.{ap}
use Rattle.wh_history.specs.Accepted.{formatted, withdrawn_by}
use Rattle.wh_history.specs.Laws.{governs}
use Rattle.wh_policy.specs.declared.attribute.Dim.TheVariants.{Product, Store, Customer}
use Rattle.wh_policy.specs.declared.format.Format.TheVariants.{One}
use Rattle.wh_model.proofs.Formatted.{format_stays}
use Rattle.wh_plan.proofs.PlanPremises.{values_before}
use Rattle.wh_plan.proofs.SaleBatches.SalePremises.{lines_new, lines_distinct, numbers_small}
use Rattle.wh_plan.proofs.sales.sale_plan.plan_sales.Goals as goal
use Rattle.wh_sql.proofs.Sparing.{tables_again}
use Rattle.wh_sql.proofs.InTurn.{then_failed, then_reads}

pub returns-clause-edits : goal.returns-clause-edits
returns-clause-edits g c clean limits commands t are at before format sold accepted is governed sound command_is =
    let second = c.in_ok-customers.ensures.reads.spares.clean clean in
    let first = c.in_ok-stores.ensures.reads.spares.clean second in
    let at_first = tables_again c.in_ok-products.ensures.reads.spares first t at tt in
    let at_second = tables_again c.in_ok-stores.ensures.reads.spares second t at_first tt in
    let full = values_before limits commands sold accepted in
    let few = numbers_small limits commands sold accepted in
    c.in_ok-edits_of_batch.ensures.exact commands sold format (format_stays commands sold (ap (formatted One) is)) (ap governs is) (ap withdrawn_by is) (c.in_ok-rows.ensures commands sold is
    (c.in_ok-products.ensures.sold first limits commands t are at sold full (few Product).0 (few Product).1 is governed sound)
    (c.in_ok-stores.ensures.sold second limits commands t are at_first sold full (few Store).0 (few Store).1 is governed sound)
    (c.in_ok-customers.ensures.sold clean limits commands t are at_second sold full (few Customer).0 (few Customer).1 is governed sound)
    (lines_new limits commands sold accepted before c.args.sales.now is) (lines_distinct limits commands sold accepted c.args.sales.now is) command_is)

pub returns-in_err-stores-clause-reads : goal.returns-in_err-stores-clause-reads
returns-in_err-stores-clause-reads g c = then_failed c.in_ok-products.ensures.reads c.in_err-stores.ensures.reads c.from_residual-in_err-stores.ensures

pub returns-in_err-customers-clause-reads : goal.returns-in_err-customers-clause-reads
returns-in_err-customers-clause-reads g c = then_failed (then_reads c.in_ok-products.ensures.reads c.in_ok-stores.ensures.reads) c.in_err-customers.ensures.reads c.from_residual-in_err-customers.ensures
