use Rattle.wh_program.proofs.DeliveryLemmas.{so_far-next, so_far-all}
use Rattle.wh_program.proofs.visits.delivery.commands_of.Goals as goal

pub loop-entry-preserved : goal.loop-entry-preserved
loop-entry-preserved g c =
    let is = rw (c.in-Some.is, c.as_str.ensures, c.as_str-in-loop-entry.ensures) at c.in_ok-command.ensures in
    rw c.in_ok-push-in-Some.ensures.items (so_far-next (g.H.Host.holds c.args.host.now) c.args.entries.now c.loop-entry.commands.items c.loop-entry.entry-index c.entry-item.result c.in-Some.command
    c.loop-entry-test.true c.entry-item.is is c.loop-entry.invariant)

pub returns-clause-all : goal.returns-clause-all
returns-clause-all g c = so_far-all (g.H.Host.holds c.args.host.now) c.args.entries.now c.loop-entry.commands.items c.loop-entry.entry-index c.loop-entry-test.false c.loop-entry.invariant
