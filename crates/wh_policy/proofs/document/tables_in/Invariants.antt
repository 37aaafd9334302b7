use Rattle.std.proofs.Common.{◌≡◌, map, drop}
use Rattle.toml.specs.View.{items_view, table_view}
use Rattle.wh_day.proofs.Loops.{with_front}
use Rattle.wh_policy.specs.Document.{tables_in}
use Rattle.wh_policy.proofs.document.tables_in.Given as goal

abbrev pub invariant-loop-item : goal.invariant-loop-item
invariant-loop-item l = with_front (map (λ t. table_view t.now) l.tables.items) (tables_in l.fault (items_view (drop l.item-index l.items))) ≡ tables_in l.fault (items_view l.items)
