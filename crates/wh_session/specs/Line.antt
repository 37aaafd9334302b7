-- The lines that are still to come, and the words of a line as those of the program.
use Rattle.std.specs.Prelude.{◌≡◌, ℕ, suc, List, [], ◌∷◌, Bool, ◌||◌, if◌then◌else◌, Option, Some, None, bytes_eq, codes, not, take}
use Rattle.wh_words.specs.CommandLine.{is_operand}

-- the last line, if there is any of it
abbrev pub last_line : List ℕ → Option (List ℕ)
last_line [] = None
last_line (b ∷ line) = Some (b ∷ line)

-- the next byte of those that are still to come, and those behind it
abbrev pub IsNextByte : List ℕ → Option ℕ → Option (List ℕ) → Type 0
IsNextByte bytes None after = (bytes ≡ []) × (after ≡ Some [])
IsNextByte bytes (Some byte) after = (rest : List ℕ) × (bytes ≡ byte ∷ rest) × (after ≡ Some rest)

-- the next of the lines that are still to come, as far as it is read, and those behind it
abbrev pub IsNext : (most : ℕ) → List (List ℕ) → Option (List ℕ) → Option (List (List ℕ)) → Type 0
IsNext most lines None after = (lines ≡ []) × (after ≡ Some [])
IsNext most lines (Some line) after = (first : List ℕ) × (rest : List (List ℕ)) × (lines ≡ first ∷ rest) × (line ≡ take (suc most) first) × (after ≡ Some rest)

-- ---- its words as those of the program

-- words that ask for help, or for a trial, are for no warehouse
abbrev pub stands_alone : List ℕ → Bool
stands_alone word = not (is_operand word) || (bytes_eq word (codes "help") || bytes_eq word (codes "trial"))

-- with the warehouse behind the first word
abbrev pub with_file : (file : List ℕ) → List (List ℕ) → List (List ℕ)
with_file file [] = []
with_file file (w ∷ words) = if stands_alone w then w ∷ words else w ∷ file ∷ words
