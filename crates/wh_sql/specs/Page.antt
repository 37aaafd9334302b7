-- What a question after a part of a table asks for.
use Rattle.std.specs.Prelude.{◌≡◌, Option, None, Some, IsTrue, ⊤}
use Rattle.wh_rows.specs.Holds.{Layout}

-- there is no key, or it is one that a valid row can have
abbrev pub HasKey : {K V : Type 0} → Layout K V → Option K → Type 0
HasKey layout None = ⊤
HasKey {V = V} layout (Some key) = (row : V) × IsTrue (layout.is_valid row) × (layout.key row ≡ key)
