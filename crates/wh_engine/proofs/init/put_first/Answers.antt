use Rattle.std.proofs.Common.{arith}
use Rattle.wh_engine.proofs.init.put_first.Goals as goal

pub returns-in_err-put-clause-writes : goal.returns-in_err-put-clause-writes
returns-in_err-put-clause-writes g c = record {
  clean = λ clean. c.put.ensures.writes.clean clean;
  counts = omega (arith, c.put.ensures.writes.counts);
  left = λ clean before made at may.
      c.put.ensures.writes.left clean before made at tt;
}

pub returns-in_err-put-2-clause-writes : goal.returns-in_err-put-2-clause-writes
returns-in_err-put-2-clause-writes g c = record {
  clean = λ clean. c.put.ensures.writes.clean (c.put-2.ensures.writes.clean clean);
  counts = omega (arith, c.put.ensures.writes.counts, c.put-2.ensures.writes.counts);
  left = λ clean before made at may.
      let one = c.put-2.ensures.writes.clean clean in
      c.put-2.ensures.writes.left clean before _ (c.in_ok-put.ensures.edited one before made at may.command) tt;
}

pub returns-in_err-put_all-clause-writes : goal.returns-in_err-put_all-clause-writes
returns-in_err-put_all-clause-writes g c = record {
  clean = λ clean. c.put.ensures.writes.clean (c.put-2.ensures.writes.clean (c.put_all.ensures.writes.clean clean));
  counts = omega (arith, c.put.ensures.writes.counts, c.put-2.ensures.writes.counts, c.put_all.ensures.writes.counts);
  left = λ clean before made at may.
      let two = c.put_all.ensures.writes.clean clean in
      let one = c.put-2.ensures.writes.clean two in
      c.put_all.ensures.writes.left clean before _ (c.in_ok-put-2.ensures.edited two before _ (c.in_ok-put.ensures.edited one before made at may.command) may.customer) may.profiles;
}

pub returns-clause-put : goal.returns-clause-put
returns-clause-put g c clean before made at may =
    let three = c.put_all-2.ensures.writes.clean clean in
    let two = c.put_all.ensures.writes.clean three in
    let one = c.put-2.ensures.writes.clean two in
    c.put_all-2.ensures.edited clean before _ (c.in_ok-put_all.ensures.edited three before _ (c.in_ok-put-2.ensures.edited two before _ (c.in_ok-put.ensures.edited one before made at may.command) may.customer) may.profiles) may.calendar

pub returns-clause-writes : goal.returns-clause-writes
returns-clause-writes g c = record {
  clean = λ clean. c.put.ensures.writes.clean (c.put-2.ensures.writes.clean (c.put_all.ensures.writes.clean (c.put_all-2.ensures.writes.clean clean)));
  counts = omega (arith, c.put.ensures.writes.counts, c.put-2.ensures.writes.counts, c.put_all.ensures.writes.counts, c.put_all-2.ensures.writes.counts);
  left = λ clean before made at may.
      let three = c.put_all-2.ensures.writes.clean clean in
      let two = c.put_all.ensures.writes.clean three in
      let one = c.put-2.ensures.writes.clean two in
      c.put_all-2.ensures.writes.left clean before _ (c.in_ok-put_all.ensures.edited three before _ (c.in_ok-put-2.ensures.edited two before _ (c.in_ok-put.ensures.edited one before made at may.command) may.customer) may.profiles) may.calendar;
}
