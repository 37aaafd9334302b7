use Rattle.std.proofs.Common.{◌≡◌, ◌++◌, drop}
use Rattle.std.specs.Prelude.{flat_map}
use Rattle.wh_history.specs.Shapes.{shape_of, shape_rows}
use Rattle.wh_migration.specs.Migrated.{all_rows}
use Rattle.wh_migration.proofs.migrated.all_rows.Given as goal

abbrev pub invariant-loop-member : goal.invariant-loop-member
invariant-loop-member l = let shape = shape_of l.dimension in l.found.items ++ flat_map (shape_rows shape) (drop l.member-index l.members) ≡ all_rows shape l.members
