use Rattle.std.proofs.Common.{◌≡◌, drop}
use denote.Shadow.{shadow}
use denote.Text.{Utf8}
use Rattle.wh_engine.specs.Tickets.{greatest_ticket}
use Rattle.wh_engine.proofs.tickets.greatest_ticket.Given as goal

-- that of all is that of what was passed and of the sales that are left
abbrev pub invariant-loop-sale : goal.invariant-loop-sale
invariant-loop-sale l = shadow (Utf8 l.greatest) × (greatest_ticket l.greatest (drop l.sale-index l.sales) ≡ greatest_ticket l.fn.ticket l.sales)
