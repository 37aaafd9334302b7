use Rattle.std.proofs.Common.{◌++◌, ◌∷◌, [], ◌∙◌, ap}
use Rattle.wh_plan.specs.SoldMembers.{no_keys}
use Rattle.wh_plan.proofs.SaleBatches.SalesKeys.{facts_more}
use Rattle.wh_plan.proofs.sales.sale_keys.sold_facts.Goals as goal

pub loop-place-preserved : goal.loop-place-preserved
loop-place-preserved c commands products stores customers =
    let facts = c.loop-place.facts.items in
    facts_more commands c.args.sales.now c.loop-place.place c.index-sales-place.result c.args.products.now c.args.stores.now c.args.customers.now no_keys facts c.loop-place-test.true c.index-sales-place.is products stores customers
    (c.loop-place.invariant commands products stores customers) c.push.new.self.items (c.in_ok-push.ensures.items ∙ ap (λ f. facts ++ f ∷ []) c.in_ok-fact_with.ensures)
