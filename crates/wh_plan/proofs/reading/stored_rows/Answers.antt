use Rattle.wh_policy.specs.declared.attribute.Dim.TheVariants.{Product, Store, Customer}
use Rattle.wh_plan.proofs.FoundRows.{rows_read}
use Rattle.wh_plan.proofs.FoundOwners.{member_read}
use Rattle.wh_plan.proofs.reading.stored_rows.Goals as goal

pub returns-in-Product-clause-rows : goal.returns-in-Product-clause-rows
returns-in-Product-clause-rows g c clean limits commands t are at = rows_read c.ask.result (λ rows. rows.items) Product c.args.dim commands t.product are.product c.in-Product.is c.args.durable (c.ask.ensures.rows clean t at)

pub returns-in-Product-clause-member : goal.returns-in-Product-clause-member
returns-in-Product-clause-member g c clean limits commands t are at ends natural given is =
    member_read c.ask.result (λ rows. rows.items) c.args.dim commands natural c.args.durable ends given is (rows_read c.ask.result (λ rows. rows.items) Product c.args.dim commands t.product are.product c.in-Product.is c.args.durable (c.ask.ensures.rows clean t at))

pub returns-in-Store-clause-rows : goal.returns-in-Store-clause-rows
returns-in-Store-clause-rows g c clean limits commands t are at = rows_read c.ask-in-Store.result (λ rows. rows.items) Store c.args.dim commands t.store are.store c.in-Store.is c.args.durable (c.ask-in-Store.ensures.rows clean t at)

pub returns-in-Store-clause-member : goal.returns-in-Store-clause-member
returns-in-Store-clause-member g c clean limits commands t are at ends natural given is =
    member_read c.ask-in-Store.result (λ rows. rows.items) c.args.dim commands natural c.args.durable ends given is (rows_read c.ask-in-Store.result (λ rows. rows.items) Store c.args.dim commands t.store are.store c.in-Store.is c.args.durable (c.ask-in-Store.ensures.rows clean t at))

pub returns-in-Customer-clause-rows : goal.returns-in-Customer-clause-rows
returns-in-Customer-clause-rows g c clean limits commands t are at = rows_read c.ask-in-Customer.result (λ rows. rows.items) Customer c.args.dim commands t.customer are.customer c.in-Customer.is c.args.durable (c.ask-in-Customer.ensures.rows clean t at)

pub returns-in-Customer-clause-member : goal.returns-in-Customer-clause-member
returns-in-Customer-clause-member g c clean limits commands t are at ends natural given is =
    member_read c.ask-in-Customer.result (λ rows. rows.items) c.args.dim commands natural c.args.durable ends given is (rows_read c.ask-in-Customer.result (λ rows. rows.items) Customer c.args.dim commands t.customer are.customer c.in-Customer.is c.args.durable (c.ask-in-Customer.ensures.rows clean t at))
