use Rattle.std.proofs.Common.{arith}
use Rattle.wh_engine.proofs.write.write_edits.Goals as goal

pub returns-in_err-edit_commands-clause-writes : goal.returns-in_err-edit_commands-clause-writes
returns-in_err-edit_commands-clause-writes g c = record {
  clean = λ clean. c.edit_commands.ensures.writes.clean clean;
  counts = omega (arith, c.edit_commands.ensures.writes.counts);
  left = λ clean before made at may.
      c.edit_commands.ensures.writes.left clean before made at may.commands;
}

pub returns-in_err-edit_dimensions-clause-writes : goal.returns-in_err-edit_dimensions-clause-writes
returns-in_err-edit_dimensions-clause-writes g c = record {
  clean = λ clean. c.edit_commands.ensures.writes.clean (c.edit_dimensions.ensures.writes.clean clean);
  counts = omega (arith, c.edit_commands.ensures.writes.counts, c.edit_dimensions.ensures.writes.counts);
  left = λ clean before made at may.
      let first = c.edit_dimensions.ensures.writes.clean clean in
      c.edit_dimensions.ensures.writes.left clean before _ (c.in_ok-edit_commands.ensures.edited first before made at may.commands) may.dimensions;
}

pub returns-clause-written : goal.returns-clause-written
returns-clause-written g c clean before made at may =
    let second = c.edit_facts.ensures.writes.clean clean in
    let first = c.edit_dimensions.ensures.writes.clean second in
    c.edit_facts.ensures.edited clean before _ (c.in_ok-edit_dimensions.ensures.edited second before _ (c.in_ok-edit_commands.ensures.edited first before made at may.commands) may.dimensions) may.facts

pub returns-clause-writes : goal.returns-clause-writes
returns-clause-writes g c = record {
  clean = λ clean. c.edit_commands.ensures.writes.clean (c.edit_dimensions.ensures.writes.clean (c.edit_facts.ensures.writes.clean clean));
  counts = omega (arith, c.edit_commands.ensures.writes.counts, c.edit_dimensions.ensures.writes.counts, c.edit_facts.ensures.writes.counts);
  left = λ clean before made at may.
      let second = c.edit_facts.ensures.writes.clean clean in
      let first = c.edit_dimensions.ensures.writes.clean second in
      c.edit_facts.ensures.writes.left clean before _ (c.in_ok-edit_dimensions.ensures.edited second before _ (c.in_ok-edit_commands.ensures.edited first before made at may.commands) may.dimensions) may.facts;
}
