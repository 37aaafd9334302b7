-- What statements show of the rows of each table, and the orders of keys in which they do.
use Rattle.std.proofs.Common.{List, [], ◌∷◌}
use Rattle.sqlite_value.specs.declared.keys.Key.{Key}
use Rattle.sqlite_value.specs.Keys.{ascending}
use Rattle.sqlite.specs.Collation.TheVariants.{Binary}
use Rattle.sqlite.specs.Term.{Term, col}

-- ---- all columns of a row

abbrev pub meta_shown : List Term
meta_shown = col 1 1 ∷ col 1 2 ∷ []

abbrev pub command_shown : List Term
command_shown = col 1 0 ∷ col 1 2 ∷ col 1 3 ∷ col 1 4 ∷ col 1 5 ∷ col 1 6 ∷ []

abbrev pub member_shown : List Term
member_shown = col 1 1 ∷ col 1 2 ∷ col 1 3 ∷ col 1 4 ∷ []

abbrev pub change_shown : List Term
change_shown = col 1 1 ∷ col 1 2 ∷ col 1 3 ∷ col 1 4 ∷ col 1 5 ∷ col 1 6 ∷ col 1 7 ∷ col 1 8 ∷ col 1 9 ∷ col 1 10 ∷ col 1 11 ∷ col 1 12 ∷ []

abbrev pub dimension_shown : List Term
dimension_shown = col 1 0 ∷ col 1 2 ∷ col 1 3 ∷ col 1 4 ∷ col 1 5 ∷ col 1 6 ∷ col 1 7 ∷ col 1 8 ∷ col 1 9 ∷ col 1 10 ∷ col 1 11 ∷ col 1 12 ∷ col 1 13 ∷ col 1 14 ∷ col 1 15 ∷ col 1 16 ∷ col 1 17 ∷ col 1 18 ∷ col 1 19 ∷ []

abbrev pub profile_shown : List Term
profile_shown = col 1 0 ∷ col 1 2 ∷ col 1 3 ∷ col 1 4 ∷ col 1 5 ∷ col 1 6 ∷ col 1 7 ∷ []

abbrev pub calendar_shown : List Term
calendar_shown = col 1 0 ∷ col 1 2 ∷ col 1 3 ∷ col 1 4 ∷ col 1 5 ∷ col 1 6 ∷ col 1 7 ∷ col 1 8 ∷ col 1 9 ∷ col 1 10 ∷ col 1 11 ∷ []

abbrev pub fact_shown : List Term
fact_shown = col 1 1 ∷ col 1 2 ∷ col 1 3 ∷ col 1 4 ∷ col 1 5 ∷ col 1 6 ∷ col 1 7 ∷ col 1 8 ∷ col 1 9 ∷ col 1 10 ∷ col 1 11 ∷ col 1 12 ∷ col 1 13 ∷ []

abbrev pub fact2_shown : List Term
fact2_shown = col 1 1 ∷ col 1 2 ∷ col 1 3 ∷ col 1 4 ∷ col 1 5 ∷ col 1 6 ∷ col 1 7 ∷ col 1 8 ∷ col 1 9 ∷ col 1 10 ∷ col 1 11 ∷ col 1 12 ∷ col 1 13 ∷ col 1 14 ∷ []

abbrev pub void_shown : List Term
void_shown = col 1 1 ∷ col 1 2 ∷ col 1 3 ∷ []

-- ---- orders

-- by the number that a row lies under
abbrev pub by_rowid : List (Term × Key)
by_rowid = (col 1 0, ascending Binary) ∷ []

-- by the text of the first column
abbrev pub by_text : List (Term × Key)
by_text = (col 1 1, ascending Binary) ∷ []

-- by the first two columns
abbrev pub by_two : List (Term × Key)
by_two = (col 1 1, ascending Binary) ∷ (col 1 2, ascending Binary) ∷ []
