use Rattle.std.proofs.Common.{◌≡◌, to_z, of_z, w64, arith, refl}
use Rattle.std.proofs.lemmas.Int.{ints}
use Rattle.wh_batch.specs.Layouts.{undiscounted}
use Rattle.wh_batch.proofs.FieldLemmas.{nine_fields}
use Rattle.wh_batch.proofs.sale.undiscounted.Goals as goal

pub returns : goal.returns
unfolding undiscounted
returns c =
    let quantity : to_z w64 (of_z w64 c.in_ok-quantity_of.field-0) ≡ c.in_ok-quantity_of.field-0 = omega (arith, ints) in
    let amount : to_z w64 (of_z w64 c.in_ok-amount_of.field-0) ≡ c.in_ok-amount_of.field-0 = omega (arith, ints) in
    let cost : to_z w64 (of_z w64 c.in_ok-amount_of-2.field-0) ≡ c.in_ok-amount_of-2.field-0 = omega (arith, ints) in
    let t = c.quantity_of.type_inv in
    rw (
      nine_fields c.args.fields.now (omega arith),
      c.in_ok-key_of.ensures,
      c.in_ok-line_of.ensures,
      c.in_ok-day_of.ensures,
      c.in_ok-key_of-2.ensures,
      c.in_ok-key_of-3.ensures,
      c.in_ok-customer_of.ensures,
      c.in_ok-quantity_of.ensures,
      c.in_ok-amount_of.ensures,
      c.in_ok-amount_of-2.ensures,
      quantity,
      amount,
      cost,
    ) refl
