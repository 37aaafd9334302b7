use Rattle.wh_report.proofs.dumps.WritesOutTableVisitorEngine.visit.Goals as goal

pub returns : goal.returns
returns g c = record {
  reads = c.write_table.ensures.reads;
  writes = c.write_table.ensures.writes;
  out = c.write_table.ensures.out;
  stored = c.write_table.ensures.stored;
  reopen = c.write_table.ensures.reopen;
  only = c.write_table.ensures.only;
  kinds = c.write_table.ensures.kinds;
}
