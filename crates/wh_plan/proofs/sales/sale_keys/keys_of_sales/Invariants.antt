use Rattle.std.proofs.Common.{◌≡◌, map, take, length}
use Rattle.wh_history.specs.Shapes.{shape_of, shown}
use Rattle.wh_plan.specs.SoldMembers.{keys_among}
use Rattle.wh_plan.proofs.sales.sale_keys.keys_of_sales.Given as goal

abbrev pub invariant-loop-sale : goal.invariant-loop-sale
invariant-loop-sale l = record {
  many : length l.keys.items ≡ l.sale-index;
  keys : l.keys.items ≡ map (keys_among (shape_of l.dimension) (map shown l.members)) (take l.sale-index l.sales);
}
