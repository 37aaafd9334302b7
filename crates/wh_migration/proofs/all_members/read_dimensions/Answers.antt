use Rattle.wh_migration.proofs.all_members.read_dimensions.Goals as goal
use Rattle.wh_sql.proofs.Sparing.{tables_again}
use Rattle.wh_sql.proofs.InTurn.{then_failed, then_reads}

pub returns-clause-read : goal.returns-clause-read
returns-clause-read g c clean limits commands t are at d ok is =
    let second = c.in_ok-customers.ensures.reads.spares.clean clean in
    let first = c.in_ok-stores.ensures.reads.spares.clean second in
    let at_first = tables_again c.in_ok-products.ensures.reads.spares first t at tt in
    let at_second = tables_again c.in_ok-stores.ensures.reads.spares second t at_first tt in
    record {
      products = c.in_ok-products.ensures.read first limits commands t are at d ok is;
      stores = c.in_ok-stores.ensures.read second limits commands t are at_first d ok is;
      customers = c.in_ok-customers.ensures.read clean limits commands t are at_second d ok is;
    }

pub returns-in_err-customers-clause-reads : goal.returns-in_err-customers-clause-reads
returns-in_err-customers-clause-reads g c = then_failed (then_reads c.in_ok-products.ensures.reads c.in_ok-stores.ensures.reads) c.in_err-customers.ensures.reads c.from_residual-in_err-customers.ensures
