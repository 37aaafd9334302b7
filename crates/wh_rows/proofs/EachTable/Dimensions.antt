-- What the statements on the three dimensions share.
use Rattle.std.proofs.Common.{List, [], ◌∷◌}
use Rattle.sqlite_value.specs.declared.value.Value.TheVariants.{Null}
use Rattle.sqlite.specs.Term.{Term, lit, col}

-- the columns of a row that is put, after the key that the store gives it
abbrev pub put_terms : List Term
put_terms = col 0 0 ∷ lit Null ∷ col 0 1 ∷ col 0 2 ∷ col 0 3 ∷ col 0 4 ∷ col 0 5 ∷ col 0 6 ∷ col 0 7 ∷ col 0 8 ∷ col 0 9 ∷ col 0 10 ∷ col 0 11 ∷ col 0 12 ∷ col 0 13 ∷ col 0 14 ∷ col 0 15 ∷ col 0 16 ∷ col 0 17 ∷ col 0 18 ∷ []

-- and those of the row that it is put over
abbrev pub put_cells : List Term
put_cells = col 1 0 ∷ lit Null ∷ col 0 22 ∷ col 0 23 ∷ col 0 24 ∷ col 0 25 ∷ col 0 26 ∷ col 0 27 ∷ col 0 28 ∷ col 0 29 ∷ col 0 30 ∷ col 0 31 ∷ col 0 32 ∷ col 0 33 ∷ col 0 34 ∷ col 0 35 ∷ col 0 36 ∷ col 0 37 ∷ col 0 38 ∷ col 0 39 ∷ []
