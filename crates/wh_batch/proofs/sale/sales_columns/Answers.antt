use Rattle.std.proofs.Common.{refl}
use Rattle.wh_batch.proofs.PlaceLemmas.{first-columns}
use Rattle.wh_batch.proofs.sale.sales_columns.Goals as goal

pub returns : goal.returns
returns c =
    let ten = c.in_ok-columns.ensures.items in
    rw (c.truncate.ensures.items, c.fields_of_a_sale.ensures) (first-columns c.args.format c.in_ok-columns.columns.items
    (rw (ten, c.new.ensures, c.new-2.ensures, c.new-3.ensures, c.new-4.ensures, c.new-5.ensures, c.new-6.ensures, c.new-7.ensures, c.new-8.ensures, c.new-9.ensures, c.new-10.ensures) refl))
