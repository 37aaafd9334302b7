use Rattle.std.proofs.Common.{◌≡◌, drop}
use denote.Shadow.{shadow}
use denote.Text.{Utf8}
use Rattle.wh_engine.specs.Tickets.{least_ticket}
use Rattle.wh_engine.proofs.tickets.least_ticket.Given as goal

-- that of all is that of what was passed and of the sales that are left
abbrev pub invariant-loop-sale : goal.invariant-loop-sale
invariant-loop-sale l = shadow (Utf8 l.least) × (least_ticket l.least (drop l.sale-index l.sales) ≡ least_ticket l.fn.ticket l.sales)
