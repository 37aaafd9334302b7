-- The words for the modes, in requests and in print.
use Rattle.std.specs.Prelude.{ℕ, codes, List, [], ◌∷◌, Option, find, bytes_eq}
use Rattle.wh_batch.specs.declared.mode.Mode.{Mode}
use Rattle.wh_batch.specs.declared.mode.Mode.TheVariants.{Was, Is, Prior}

-- the word for a mode
abbrev pub mode_word : Mode → List ℕ
mode_word Was = codes "was"
mode_word Is = codes "is"
mode_word Prior = codes "prior"

-- all modes
abbrev pub every_mode : List Mode
every_mode = Was ∷ Is ∷ Prior ∷ []

-- the mode of a word, if it is the word for one
abbrev pub mode_of_word : List ℕ → Option Mode
mode_of_word word = find (λ mode. bytes_eq word (mode_word mode)) every_mode
