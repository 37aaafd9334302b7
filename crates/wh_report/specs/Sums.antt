-- What the measures of sales come to.
use Rattle.std.specs.Prelude.{ℕ, ◌+◌, ◌*◌, ◌≤◌, ℤ, pos, ◌+ℤ◌, ◌-ℤ◌, ◌≤ℤ◌}

-- quantity, and amount and cost in hundredths
pub record Measured : Type 0 where
  pub quantity : ℤ
  pub amount : ℤ
  pub cost : ℤ

-- how many lines there are, and what their measures come to
pub record Figures : Type 0 where
  pub lines : ℕ
  pub quantity : ℤ
  pub amount : ℤ
  pub cost : ℤ

abbrev pub nothing : Figures
nothing = record { lines = 0; quantity = pos 0; amount = pos 0; cost = pos 0 }

-- with one line more
abbrev pub with_line : Measured → Figures → Figures
with_line m t = record {
  lines = t.lines + 1;
  quantity = t.quantity +ℤ m.quantity;
  amount = t.amount +ℤ m.amount;
  cost = t.cost +ℤ m.cost;
}

-- the figures of both
abbrev pub plus : Figures → Figures → Figures
plus t u = record {
  lines = t.lines + u.lines;
  quantity = t.quantity +ℤ u.quantity;
  amount = t.amount +ℤ u.amount;
  cost = t.cost +ℤ u.cost;
}

-- amount less cost
abbrev pub margin : Figures → ℤ
margin t = t.amount -ℤ t.cost

-- from -n to n
abbrev pub IsUpTo : ℕ → ℤ → Type 0
IsUpTo n z = (pos 0 ≤ℤ (z +ℤ pos n)) × (z ≤ℤ pos n)

-- within what a sale may have
pub record IsMeasured (m : Measured) : Type 0 where
  pub quantity : IsUpTo 9_999 m.quantity
  pub amount : IsUpTo 999_999_999 m.amount
  pub cost : IsUpTo 999_999_999 m.cost

-- within what so many lines may come to
pub record AreFigures (t : Figures) : Type 0 where
  pub lines : t.lines ≤ 4_294_967_295
  pub quantity : IsUpTo (9_999 * t.lines) t.quantity
  pub amount : IsUpTo (999_999_999 * t.lines) t.amount
  pub cost : IsUpTo (999_999_999 * t.lines) t.cost
