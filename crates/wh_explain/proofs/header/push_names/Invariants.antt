use Rattle.std.proofs.Common.{◌≡◌, ◌++◌, take, codes}
use Rattle.std.specs.Prelude.{flat_map}
use Rattle.wh_batch.specs.Columns.{Column}
use Rattle.wh_explain.proofs.header.push_names.Given as goal

-- the names so far of those behind the first were added, each after a comma
abbrev pub invariant-loop-column : goal.invariant-loop-column
invariant-loop-column l = l.text.items ≡ l.initial.text.items ++ flat_map (λ (other : Column). codes "," ++ other.name) (take l.column-index l.others)
