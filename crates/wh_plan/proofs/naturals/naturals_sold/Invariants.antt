use Rattle.std.proofs.Common.{◌≡◌, take}
use Rattle.wh_plan.specs.SoldMembers.{naturals_sold}
use Rattle.wh_plan.proofs.naturals.naturals_sold.Given as goal

abbrev pub invariant-loop-sale : goal.invariant-loop-sale
invariant-loop-sale l = record {
  same : l.named.keys ≡ l.naturals.items;
  told : l.naturals.items ≡ naturals_sold l.dim (take l.sale-index l.sales);
}
