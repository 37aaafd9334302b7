use Rattle.std.proofs.Common.{drop}
use Rattle.wh_program.proofs.DeliveryLemmas.{IsSoFar}
use Rattle.wh_program.proofs.visits.delivery.commands_of.Given as goal

abbrev pub invariant-loop-entry : goal.invariant-loop-entry
invariant-loop-entry g l = IsSoFar (g.H.Host.holds l.host) l.entries l.commands.items (drop l.entry-index l.entries)
