use Rattle.std.proofs.Common.{arith, ◌≡◌, ◌+◌, ◌+ℤ◌, to_z, of_z, w64, refl}
use Rattle.std.proofs.lemmas.Int.{ints}
use Rattle.wh_report.proofs.totals.Totals.checked_add.Goals as goal

pub invariant_of-result : goal.invariant_of-result
invariant_of-result c =
    let sum = c.in_ok-lines.ensures in
    record {
      lines = omega (arith, sum);
      quantity = (omega (arith, ints, sum), omega (arith, ints, sum));
      amount = (omega (arith, ints, sum), omega (arith, ints, sum));
      cost = (omega (arith, ints, sum), omega (arith, ints, sum));
    }

pub returns-clause-value : goal.returns-clause-value
returns-clause-value c =
    let n : c.in_ok-lines.lines ≡ c.self.inside.lines + c.other.inside.lines = c.in_ok-lines.ensures.1 in
    let q : to_z w64 (of_z w64 (to_z w64 (of_z w64 c.self.inside.quantity) +ℤ to_z w64 (of_z w64 c.other.inside.quantity))) ≡ c.self.inside.quantity +ℤ c.other.inside.quantity = omega (arith, ints) in
    let a : to_z w64 (of_z w64 (to_z w64 (of_z w64 c.self.inside.amount) +ℤ to_z w64 (of_z w64 c.other.inside.amount))) ≡ c.self.inside.amount +ℤ c.other.inside.amount = omega (arith, ints) in
    let k : to_z w64 (of_z w64 (to_z w64 (of_z w64 c.self.inside.cost) +ℤ to_z w64 (of_z w64 c.other.inside.cost))) ≡ c.self.inside.cost +ℤ c.other.inside.cost = omega (arith, ints) in
    rw (n, q, a, k, ← c.self.view_is, ← c.other.view_is) refl
