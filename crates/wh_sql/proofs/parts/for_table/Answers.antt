use Rattle.wh_sql.proofs.parts.for_table.Goals as goal

pub returns-in-Meta : goal.returns-in-Meta
returns-in-Meta g c = rw c.in-Meta.is c.visit.ensures

pub returns-in-Command : goal.returns-in-Command
returns-in-Command g c = rw c.in-Command.is c.visit-in-Command.ensures

pub returns-in-Member : goal.returns-in-Member
returns-in-Member g c = rw c.in-Member.is c.visit-in-Member.ensures

pub returns-in-Change : goal.returns-in-Change
returns-in-Change g c = rw c.in-Change.is c.visit-in-Change.ensures

pub returns-in-Product : goal.returns-in-Product
returns-in-Product g c = rw c.in-Product.is c.visit-in-Product.ensures

pub returns-in-Store : goal.returns-in-Store
returns-in-Store g c = rw c.in-Store.is c.visit-in-Store.ensures

pub returns-in-Customer : goal.returns-in-Customer
returns-in-Customer g c = rw c.in-Customer.is c.visit-in-Customer.ensures

pub returns-in-Profile : goal.returns-in-Profile
returns-in-Profile g c = rw c.in-Profile.is c.visit-in-Profile.ensures

pub returns-in-Calendar : goal.returns-in-Calendar
returns-in-Calendar g c = rw c.in-Calendar.is c.visit-in-Calendar.ensures

pub returns-in-Fact : goal.returns-in-Fact
returns-in-Fact g c = rw c.in-Fact.is c.visit-in-Fact.ensures

pub returns-in-Fact2 : goal.returns-in-Fact2
returns-in-Fact2 g c = rw c.in-Fact2.is c.visit-in-Fact2.ensures

pub returns-in-Void : goal.returns-in-Void
returns-in-Void g c = rw c.in-Void.is c.visit-in-Void.ensures
