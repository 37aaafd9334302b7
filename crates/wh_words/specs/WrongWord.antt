-- The line where a word of the command line is none of those that are possible.
use Rattle.std.specs.Prelude.{ℕ, List, [], ◌∷◌, ◌++◌, codes}

-- a text with the end of its line
abbrev pub line : List ℕ → List ℕ
line text = text ++ 10 ∷ []

-- no word names a command
abbrev pub no_command_line : List ℕ
no_command_line = line (codes "error: no command was given")

-- the word that was given for an operand is none of those that are possible
abbrev pub wrong_word_line : (operand word possible : List ℕ) → List ℕ
wrong_word_line operand word possible = line (codes "error: " ++ operand ++ codes " is '" ++ word ++ codes "', and none of " ++ possible)

abbrev pub no_dimension_line : List ℕ → List ℕ
no_dimension_line word = wrong_word_line (codes "DIMENSION") word (codes "product, store and customer")

abbrev pub no_kind_line : List ℕ → List ℕ
no_kind_line word = wrong_word_line (codes "KIND") word (codes "product, store, customer, sales and void")

abbrev pub no_command_kind_line : List ℕ → List ℕ
no_command_kind_line word = wrong_word_line (codes "KIND") word (codes "product, store, customer, sales, void, migrate and upgrade")

abbrev pub no_explained_kind_line : List ℕ → List ℕ
no_explained_kind_line word = wrong_word_line (codes "KIND") word (codes "product, store, customer, sales, void, init, migrate and upgrade")

abbrev pub no_mode_line : List ℕ → List ℕ
no_mode_line word = wrong_word_line (codes "MODE") word (codes "was, is and prior")

abbrev pub no_number_line : List ℕ → List ℕ
no_number_line word = wrong_word_line (codes "FROM") word (codes "the numbers 0 to 999999999")

abbrev pub no_column_line : List ℕ → List ℕ
no_column_line word = wrong_word_line (codes "BY") word (codes "ATTRIBUTE and ATTRIBUTE:MODE, with was, is or prior as MODE")

abbrev pub no_condition_line : List ℕ → List ℕ
no_condition_line word = wrong_word_line (codes "--where") word (codes "ATTRIBUTE=LABEL and ATTRIBUTE:MODE=LABEL, with was, is or prior as MODE")

-- an operand or an option is given more often than it can be
abbrev pub too_many_columns_line : List ℕ
too_many_columns_line = line (codes "error: BY is given more than 6 times")

abbrev pub too_many_conditions_line : List ℕ
too_many_conditions_line = line (codes "error: --where is given more than 12 times")

abbrev pub no_table_line : List ℕ → List ℕ
no_table_line word = wrong_word_line (codes "TABLE") word (codes "meta, command, member, change, product, store, customer, profile, calendar, fact, fact2 and void")
