use Rattle.std.proofs.Common.{◌≡◌, List, map, take}
use Rattle.wh_policy.specs.declared.attribute.Dim.TheVariants.{Product, Store, Customer}
use Rattle.wh_history.specs.Accepted.{Accepted}
use Rattle.wh_history.specs.Tables.{fact_of}
use Rattle.wh_plan.specs.SoldMembers.{keys_sold}
use Rattle.wh_plan.proofs.sales.sale_keys.sold_facts.Given as goal

abbrev pub invariant-loop-place : goal.invariant-loop-place
invariant-loop-place l = (commands : List Accepted) → l.products ≡ map (keys_sold Product commands) l.sales → l.stores ≡ map (keys_sold Store commands) l.sales → l.customers ≡ map (keys_sold Customer commands) l.sales
    → l.facts.items ≡ map (fact_of commands) (take l.place l.sales)
