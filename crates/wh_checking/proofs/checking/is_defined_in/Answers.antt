use Rattle.std.proofs.Common.{sym, ap, ◌∙◌}
use Rattle.wh_rows.specs.Names.{is_there}
use Rattle.wh_admission.specs.Checked.{stored_in}
use Rattle.wh_checking.proofs.ComparedTables.{covered, defined, damaged}
use Rattle.wh_checking.proofs.checking.is_defined_in.Goals as goal

pub returns-clause-reads : goal.returns-clause-reads
returns-clause-reads g c = c.for_table.ensures.reads

pub returns-clause-rests : goal.returns-clause-rests
returns-clause-rests g c = c.for_table.ensures.rests

pub returns-clause-defined : goal.returns-clause-defined
returns-clause-defined g c clean stored rests covers limits commands of holds =
    let table = c.args.table in
    let twin = holds.1 in
    defined table limits commands (stored_in c.args.format stored) twin.tables c.for_table.result twin.are
    (c.for_table.ensures.same clean stored rests (covered table stored.format c.args.format covers) twin.tables (ap (is_there table) (twin.are.format ∙ sym of)) (holds.0, twin.rests))

pub returns-clause-damaged : goal.returns-clause-damaged
returns-clause-damaged g c clean stored rests = damaged c.args.table (stored_in c.args.format stored) c.for_table.result (c.for_table.ensures.damaged clean stored rests)
