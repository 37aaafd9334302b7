use Rattle.wh_report.proofs.dumps.dump.Goals as goal

pub returns-clause-reads : goal.returns-clause-reads
returns-clause-reads g c = c.for_table.ensures.reads

pub returns-clause-writes : goal.returns-clause-writes
returns-clause-writes g c = c.for_table.ensures.writes

pub returns-clause-out : goal.returns-clause-out
returns-clause-out g c = c.for_table.ensures.out

pub returns-clause-stored : goal.returns-clause-stored
returns-clause-stored g c = c.for_table.ensures.stored

pub returns-clause-reopen : goal.returns-clause-reopen
returns-clause-reopen g c = c.for_table.ensures.reopen

pub returns-clause-only : goal.returns-clause-only
returns-clause-only g c = c.for_table.ensures.only

pub returns-clause-kinds : goal.returns-clause-kinds
returns-clause-kinds g c = c.for_table.ensures.kinds
