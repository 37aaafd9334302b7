use Rattle.std.proofs.Common.{◌≡◌, take}
use Rattle.wh_plan.specs.NewRows.{naturals_told}
use Rattle.wh_plan.proofs.naturals.naturals_told.Given as goal

abbrev pub invariant-loop-incoming : goal.invariant-loop-incoming
invariant-loop-incoming l = record {
  same : l.named.keys ≡ l.naturals.items;
  told : l.naturals.items ≡ naturals_told (take l.incoming-index l.records);
}
