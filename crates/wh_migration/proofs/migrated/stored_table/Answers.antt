use Rattle.wh_policy.specs.declared.attribute.Dim.TheVariants.{Product, Store, Customer}
use Rattle.wh_migration.proofs.AllRows.{table_read}
use Rattle.wh_migration.proofs.migrated.stored_table.Goals as goal

pub returns-in-Product-clause-rows : goal.returns-in-Product-clause-rows
returns-in-Product-clause-rows g c clean limits commands t are at = table_read c.all.result (λ rows. rows.items) Product c.args.dim commands t.product are.product c.in-Product.is (c.all.ensures.rows clean t at)

pub returns-in-Store-clause-rows : goal.returns-in-Store-clause-rows
returns-in-Store-clause-rows g c clean limits commands t are at = table_read c.all-in-Store.result (λ rows. rows.items) Store c.args.dim commands t.store are.store c.in-Store.is (c.all-in-Store.ensures.rows clean t at)

pub returns-in-Customer-clause-rows : goal.returns-in-Customer-clause-rows
returns-in-Customer-clause-rows g c clean limits commands t are at = table_read c.all-in-Customer.result (λ rows. rows.items) Customer c.args.dim commands t.customer are.customer c.in-Customer.is (c.all-in-Customer.ensures.rows clean t at)
