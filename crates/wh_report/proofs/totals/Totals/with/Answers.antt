use Rattle.std.proofs.Common.{arith, ◌≡◌, ap, ◌+ℤ◌, to_z, of_z, w64, refl}
use Rattle.std.proofs.lemmas.Int.{ints}
use Rattle.wh_report.specs.Sums.{Figures}
use Rattle.wh_report.proofs.totals.Totals.with.Goals as goal

pub invariant_of-result : goal.invariant_of-result
invariant_of-result c =
    let same : c.self.inside.lines ≡ c.args.self.lines = ap (λ (t : Figures). t.lines) c.self.view_is in
    record {
      lines = omega arith;
      quantity = (omega (arith, ints), omega (arith, ints));
      amount = (omega (arith, ints), omega (arith, ints));
      cost = (omega (arith, ints), omega (arith, ints));
    }

pub returns : goal.returns
returns c =
    let q : to_z w64 (of_z w64 (to_z w64 (of_z w64 c.self.inside.quantity) +ℤ to_z w64 (of_z w64 c.measures.inside.quantity))) ≡ c.self.inside.quantity +ℤ c.measures.inside.quantity = omega (arith, ints) in
    let a : to_z w64 (of_z w64 (to_z w64 (of_z w64 c.self.inside.amount) +ℤ to_z w64 (of_z w64 c.measures.inside.amount))) ≡ c.self.inside.amount +ℤ c.measures.inside.amount = omega (arith, ints) in
    let k : to_z w64 (of_z w64 (to_z w64 (of_z w64 c.self.inside.cost) +ℤ to_z w64 (of_z w64 c.measures.inside.cost))) ≡ c.self.inside.cost +ℤ c.measures.inside.cost = omega (arith, ints) in
    rw (q, a, k, ← c.self.view_is, ← c.measures.view_is) refl
