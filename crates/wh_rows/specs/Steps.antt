-- What steps on a table lead to.
use Rattle.std.specs.Prelude.{List, [], ◌∷◌}
use Rattle.std.specs.FinMap.{FinMap, insert}
use Rattle.wh_rows.specs.Holds.{Layout}

-- what steps lead to, the first one first
abbrev pub after_all : {E M : Type 0} → (E → M → M) → List E → M → M
after_all step [] m = m
after_all step (e ∷ es) m = after_all step es (step e m)

-- a table with a row put at its key
abbrev pub with_row : {K V : Type 0} (layout : Layout K V) → V → FinMap layout.order V → FinMap layout.order V
with_row layout row m = insert m (layout.key row) row

-- and with rows put at their keys, the first one first
abbrev pub with_rows : {K V : Type 0} (layout : Layout K V) → List V → FinMap layout.order V → FinMap layout.order V
with_rows layout = after_all (with_row layout)
