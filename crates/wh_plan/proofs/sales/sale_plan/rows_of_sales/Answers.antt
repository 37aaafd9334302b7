use Rattle.std.proofs.Common.{◌≡◌, ◌++◌, ◌∷◌, [], length, None, refl, sym, ◌∙◌, ap, arith, subst}
use Rattle.std.specs.List.{AllByRecursion}
use Rattle.wh_history.specs.declared.facts.Fact.{Fact}
use Rattle.wh_rows.specs.Rows as row
use Rattle.wh_plan.specs.BatchRows.{AreFacts}
use Rattle.wh_model.specs.Defined.{fact_at}
use Rattle.wh_plan.proofs.SaleBatches.SalesEdits.{rows_sold}
use Rattle.wh_plan.proofs.SaleBatches.Selling.{sales_are_facts, facts_new}
use Rattle.wh_plan.proofs.sales.sale_plan.rows_of_sales.Goals as goal

pub returns : goal.returns
returns c commands sold is products stores customers new distinct at =
    let sales = c.args.sales.now in
    let after = commands ++ sold ∷ [] in
    let command = c.args.command in
    let all = c.in_ok-append-2.ensures.items ∙ ap (λ rs. rs ++ c.args.customers.members.items) c.in_ok-append.ensures.items in
    let count : c.len.result ≡ length c.append-2.new.self.items = let len = c.len.ensures in omega arith in
    let made = c.in_ok-sold.ensures after (c.deref.ensures.value ∙ products.keys) (c.deref-2.ensures.value ∙ stores.keys) (c.deref-3.ensures.value ∙ customers.keys) in
    let facts = subst (AreFacts (fact_at commands) (fact_at after)) (sym made) (sales_are_facts commands sold sales is new distinct) in
    let fresh = subst (AllByRecursion (λ (f : Fact). fact_at commands (row.fact.key f) ≡ None)) (sym made) (facts_new commands sold sales is sales new) in
    rows_sold commands sold sales is _ command c.len.result c.args.products.members.items c.args.stores.members.items c.args.customers.members.items
    refl
    (count ∙ ap length all) all c.new.ensures.items c.new-2.ensures.items
    (c.in_ok-facts.ensures (fact_at commands) (fact_at after) facts fresh)
    products.members stores.members customers.members products.rows stores.rows customers.rows at
