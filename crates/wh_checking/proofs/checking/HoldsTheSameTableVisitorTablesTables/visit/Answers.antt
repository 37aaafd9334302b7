use Rattle.wh_checking.proofs.checking.HoldsTheSameTableVisitorTablesTables.visit.Goals as goal

pub returns : goal.returns
returns g c = record {
  reads = c.holds_the_same.ensures.reads;
  rests = c.holds_the_same.ensures.rests;
  same = c.holds_the_same.ensures.same;
  damaged = c.holds_the_same.ensures.damaged;
}
