use Rattle.std.proofs.Common.{◌≡◌, Some, None, sym, ◌∙◌, ap}
use Rattle.std.specs.Option.{option_copied}
use Rattle.wh_history.specs.Accepted.{member_of_sale}
use Rattle.wh_plan.proofs.SaleBatches.SalesNaturals.{sold_more, sold_none}
use Rattle.wh_plan.proofs.naturals.naturals_sold.Goals as goal
use Rattle.wh_plan.proofs.naturals.naturals_sold.Goals.{in-Some+in_ok-add_natural, in_default}

pub loop-sale-preserved : goal.loop-sale-preserved
loop-sale-preserved c =
    let dim = c.args.dim in
    let sales = c.args.sales.now in
    let i = c.loop-sale.sale-index in
    let sale = c.sale-item.result in
    let names = c.loop-sale.naturals.items in
    let told = c.loop-sale.invariant.told in
    elim c.match-member_of_sale.branch [
      | in-Some+in_ok-add_natural w ↦
          let mentions : member_of_sale dim sale ≡ Some w.in-Some.natural.now = sym c.member_of_sale.ensures ∙ ap option_copied w.in-Some.is in
          let made = w.in_ok-add_natural.ensures in
          record {
            same = ap (λ v. v.keys) w.named-is ∙ made.same ∙ sym (ap (λ v. v.items) w.naturals-is);
            told = ap (λ v. v.items) w.naturals-is ∙ made.added ∙ sold_more dim sales i sale names c.loop-sale-test.true c.sale-item.is told w.in-Some.natural.now mentions;
          }
      | in_default w ↦
          let mentions : member_of_sale dim sale ≡ None = sym c.member_of_sale.ensures ∙ ap option_copied w.in_default.is in
          record {
            same = ap (λ v. v.keys) w.named-is ∙ c.loop-sale.invariant.same ∙ sym (ap (λ v. v.items) w.naturals-is);
            told = ap (λ v. v.items) w.naturals-is ∙ sold_none dim sales i sale names c.loop-sale-test.true c.sale-item.is told mentions;
          }
    ]
