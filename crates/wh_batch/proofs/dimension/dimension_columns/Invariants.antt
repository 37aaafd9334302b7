use Rattle.std.proofs.Common.{◌≡◌, ◌++◌, map, drop}
use Rattle.wh_batch.specs.declared.holds.Holds.TheVariants as holds
use Rattle.wh_batch.specs.Layouts.{column, dimension_columns}
use Rattle.wh_batch.proofs.dimension.dimension_columns.Given as goal

abbrev pub invariant-loop-attribute : goal.invariant-loop-attribute
invariant-loop-attribute l =
    l.columns.items ++ map (λ a. column a.name holds.Value) (drop l.attribute-index l.attributes) ≡ dimension_columns l.attributes
