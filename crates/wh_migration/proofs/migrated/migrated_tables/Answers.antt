use Rattle.std.proofs.Common.{[], ◌∷◌, ◌++◌}
use Rattle.wh_policy.specs.declared.attribute.Dim.TheVariants.{Product, Store, Customer}
use Rattle.wh_plan.proofs.PlanPremises.{days_after}
use Rattle.wh_migration.proofs.migrated.migrated_tables.Goals as goal
use Rattle.wh_sql.proofs.Sparing.{tables_again}
use Rattle.wh_sql.proofs.InTurn.{then_failed, then_reads}

pub returns-clause-edits : goal.returns-clause-edits
returns-clause-edits g c clean limits commands t are at format d ok governs members known =
    let after = commands ++ d ∷ [] in
    let ends = days_after limits commands d ok in
    let third = c.in_ok-facts.ensures.reads.spares.clean clean in
    let second = c.in_ok-customers.ensures.reads.spares.clean third in
    let first = c.in_ok-stores.ensures.reads.spares.clean second in
    let at_first = tables_again c.in_ok-products.ensures.reads.spares first t at tt in
    let at_second = tables_again c.in_ok-stores.ensures.reads.spares second t at_first tt in
    let at_third = tables_again c.in_ok-customers.ensures.reads.spares third t at_second tt in
    record {
      products = c.in_ok-products.ensures.edits first limits commands t are at Product after ends members.products known;
      stores = c.in_ok-stores.ensures.edits second limits commands t are at_first Store after ends members.stores known;
      customers = c.in_ok-customers.ensures.edits third limits commands t are at_second Customer after ends members.customers known;
      facts = c.in_ok-facts.ensures.edits clean limits commands t are at_third format d governs members known;
    }

pub returns-in_err-stores-clause-reads : goal.returns-in_err-stores-clause-reads
returns-in_err-stores-clause-reads g c = then_failed c.in_ok-products.ensures.reads c.in_err-stores.ensures.reads c.from_residual-in_err-stores.ensures

pub returns-in_err-customers-clause-reads : goal.returns-in_err-customers-clause-reads
returns-in_err-customers-clause-reads g c = then_failed (then_reads c.in_ok-products.ensures.reads c.in_ok-stores.ensures.reads) c.in_err-customers.ensures.reads c.from_residual-in_err-customers.ensures

pub returns-in_err-facts-clause-reads : goal.returns-in_err-facts-clause-reads
returns-in_err-facts-clause-reads g c = then_failed (then_reads (then_reads c.in_ok-products.ensures.reads c.in_ok-stores.ensures.reads) c.in_ok-customers.ensures.reads) c.in_err-facts.ensures.reads c.from_residual-in_err-facts.ensures
