use Rattle.std.proofs.Common.{map, sym, ap, ◌∙◌}
use Rattle.std.proofs.lemmas.List.{map_push, drop_all}
use Rattle.toml.specs.View.{items_view, table_view, view}
use Rattle.toml.proofs.Views.{items_view-drop}
use Rattle.wh_policy.proofs.DocumentLemmas.{tables-next, tables-fault, tables-done}
use Rattle.wh_policy.proofs.document.tables_in.Goals as goal

pub returns-in-None : goal.returns-in-None
returns-in-None c =
    let here = rw (← c.item-item.is) at (items_view-drop c.args.items.now c.loop-item.item-index c.item-item.result c.loop-item-test.true) in
    rw c.fault.ensures (sym (rw here at c.loop-item.invariant) ∙ tables-fault _ c.args.fault (view c.item-item.result) _ (sym c.in-None.ensures))

pub loop-item-preserved : goal.loop-item-preserved
loop-item-preserved c =
    let here = rw (← c.item-item.is) at (items_view-drop c.args.items.now c.loop-item.item-index c.item-item.result c.loop-item-test.true) in
    let front = map (λ t. table_view t.now) c.loop-item.tables.items in
    let step = tables-next front c.args.fault (view c.item-item.result) _ (table_view c.in-Some.table.now) (sym c.in-Some.ensures) in
    rw (c.in_ok-push-in-Some.ensures.items, map_push _ c.loop-item.tables.items c.in-Some.table) (sym step ∙ rw here at c.loop-item.invariant)

pub returns : goal.returns
returns c =
    let here = ap items_view (drop_all c.loop-item.item-index c.args.items.now c.loop-item-test.false) in
    sym (rw here at c.loop-item.invariant) ∙ tables-done _ c.args.fault
