-- Figures together.
use Rattle.std.proofs.Common.{◌≡◌, ℕ, ◌+◌, ◌≤◌, pos, ◌+ℤ◌, refl, ap, sym, ◌∙◌, arith}
use Rattle.std.proofs.lemmas.Int.{ints}
use Rattle.wh_report.specs.Sums.{Figures, nothing, plus}

pub plus_assoc : (t u v : Figures) → plus (plus t u) v ≡ plus t (plus u v)
plus_assoc t u v =
    let n : (t.lines + u.lines) + v.lines ≡ t.lines + (u.lines + v.lines) = omega arith in
    let q : (t.quantity +ℤ u.quantity) +ℤ v.quantity ≡ t.quantity +ℤ (u.quantity +ℤ v.quantity) = omega (arith, ints) in
    let a : (t.amount +ℤ u.amount) +ℤ v.amount ≡ t.amount +ℤ (u.amount +ℤ v.amount) = omega (arith, ints) in
    let k : (t.cost +ℤ u.cost) +ℤ v.cost ≡ t.cost +ℤ (u.cost +ℤ v.cost) = omega (arith, ints) in
    rw (n, q, a, k) refl

pub nothing_last : (t : Figures) → plus t nothing ≡ t
nothing_last t =
    let n : t.lines + 0 ≡ t.lines = omega arith in
    let q : t.quantity +ℤ pos 0 ≡ t.quantity = omega (arith, ints) in
    let a : t.amount +ℤ pos 0 ≡ t.amount = omega (arith, ints) in
    let k : t.cost +ℤ pos 0 ≡ t.cost = omega (arith, ints) in
    rw (n, q, a, k) refl

-- where two together are more than can be counted, all are
pub more_than : (t u rest whole : Figures) → plus t (plus u rest) ≡ whole → 4_294_967_296 ≤ t.lines + u.lines → 4_294_967_295 ≤ whole.lines
more_than t u rest whole is many =
    let n : t.lines + (u.lines + rest.lines) ≡ whole.lines = ap (λ (f : Figures). f.lines) is in
    omega (arith, n, many)
