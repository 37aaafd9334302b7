use Rattle.std.proofs.Common.{◌≡◌, length, filter, arith, ◌∙◌}
use Rattle.std.specs.Prelude.{vec_len}
use Rattle.wh_sql.proofs.Reading.{last_is}
use Rattle.wh_plan.specs.Reading.{command_with}
use Rattle.wh_rows.specs.Questions.{has_id}
use Rattle.wh_rows.specs.Rows as layout
use Rattle.wh_rows.specs.declared.table.Table.TheVariants as table
use Rattle.wh_rows.proofs.Raw.{last_found}
use Rattle.wh_plan.proofs.FoundCommands.{command_of}
use Rattle.wh_plan.proofs.reading.command_with.Goals as goal

pub returns-clause-command : goal.returns-clause-command
returns-clause-command g c clean limits commands t are at distinct =
    let found = c.in_ok-found.found in
    let len : vec_len found ≡ length found.items = omega arith in
    last_is (command_with commands c.args.id.now) c.pop.result found.items c.pop.new.self.items (vec_len found) len
    (c.in_ok-found.ensures.rows clean t at ∙ command_of limits commands t are distinct c.args.id.now) c.pop.ensures.items c.pop.ensures.variant

pub returns-clause-stored : goal.returns-clause-stored
returns-clause-stored g c clean stored rests =
    let found = c.in_ok-found.found in
    let len : vec_len found ≡ length found.items = omega arith in
    last_found layout.command (filter (has_id c.args.id.now) (stored.rows table.Command)) c.pop.result found.items c.pop.new.self.items (vec_len found) len c.pop.ensures.items c.pop.ensures.variant
    (c.in_ok-found.ensures.stored clean stored rests)
