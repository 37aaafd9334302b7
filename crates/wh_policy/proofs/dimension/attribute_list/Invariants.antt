use Rattle.std.proofs.Common.{◌≡◌, map, drop, []}
use Rattle.toml.specs.View.{table_view}
use Rattle.wh_day.proofs.Loops.{with_front}
use Rattle.wh_policy.specs.Attributes.{attribute_of}
use Rattle.wh_policy.specs.Document.{each_after}
use Rattle.wh_policy.proofs.dimension.attribute_list.Given as goal

abbrev pub invariant-loop-table : goal.invariant-loop-table
invariant-loop-table l = with_front l.attributes (each_after (attribute_of l.dim) l.attributes (map (λ t. table_view t.now) (drop l.table-index l.tables))) ≡ each_after (attribute_of l.dim) [] (map (λ t. table_view t.now) l.tables)
