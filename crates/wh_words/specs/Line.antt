-- The words of a line, of a session or of a list of queries.
use Rattle.std.specs.List.{position}
use Rattle.std.specs.Prelude.{◌≡◌, ⊤, ℕ, ◌+◌, List, [], ◌∷◌, ◌++◌, All, Bool, false, ◌==◌, ◌||◌, if◌then◌else◌, IsUtf8, Option, Some, None, drop, fold, length, map, nat_lt, string_bytes, take}
use Rattle.wh_words.specs.declared.line.Line.{Line}
use Rattle.wh_words.specs.declared.line.Line.TheVariants as line
use Rattle.wh_words.specs.declared.line.Place.{Place}
use Rattle.wh_words.specs.declared.line.Place.TheVariants.{Between, Bare, Quoted, Closed, Wrong}
use Rattle.wh_words.specs.declared.line.Turn.{Turn}
use Rattle.wh_words.specs.declared.line.Turn.TheVariants.{Leaves, Adds, Ends}

-- ---- words, parted by blanks; one that begins with a double quote goes to the next that isn't doubled

abbrev pub is_blank : ℕ → Bool
is_blank b = (b == 32) || ((b == 9) || (b == 13))

abbrev pub between : ℕ → Place × Turn
between b = if is_blank b then (Between, Leaves) else if b == 34 then (Quoted, Leaves) else (Bare, Adds)

abbrev pub bare : ℕ → Place × Turn
bare b = if is_blank b then (Between, Ends) else if b == 34 then (Wrong, Leaves) else (Bare, Adds)

abbrev pub quoted : ℕ → Place × Turn
quoted b = if b == 34 then (Closed, Leaves) else (Quoted, Adds)

-- behind a double quote in a word: another doubles it, and else the word ends here
abbrev pub closed : ℕ → Place × Turn
closed b = if is_blank b then (Between, Ends) else if b == 34 then (Quoted, Adds) else (Wrong, Leaves)

-- where a byte leads, and what it does to the word
abbrev pub turned : Place → ℕ → Place × Turn
turned Between b = between b
turned Bare b = bare b
turned Quoted b = quoted b
turned Closed b = closed b
turned Wrong b = (Wrong, Leaves)

-- the words that have ended, and the beginning of the next
pub record Split : Type 0 where
  pub place : Place
  pub words : List (List ℕ)
  pub word : List ℕ

abbrev pub after_turn : Split → ℕ → Place × Turn → Split
after_turn s b (place, Leaves) = record s { place = place }
after_turn s b (place, Adds) = record s { place = place; word = s.word ++ b ∷ [] }
after_turn s b (place, Ends) = record { place = place; words = s.words ++ s.word ∷ []; word = [] }

unfoldable pub after_byte : Split → ℕ → Split
after_byte s b = after_turn s b (turned s.place b)

abbrev pub none_yet : Split
none_yet = record { place = Between; words = []; word = [] }

abbrev pub ended : Split → Option (List (List ℕ))
ended s = words_at s.place s.words
  where
    words_at : Place → List (List ℕ) → Option (List (List ℕ))
    words_at Between words = Some words
    words_at _ words = None

-- the words of a text, which ends as before a blank; none where a double quote stands within a word, or lacks its partner
unfoldable pub words_of_text : List ℕ → Option (List (List ℕ))
words_of_text text = ended (after_byte (fold after_byte none_yet text) 32)

-- ---- lines

-- the most bytes of a line
abbrev pub line_limit : ℕ
line_limit = 65_536

-- what a line says: nothing, what is no command, or the words of one
pub data Meaning : Type 0 where
  Passed : Meaning
  NoCommand : Meaning
  Words : List (List ℕ) → Meaning

-- a line that begins with a number sign is a remark
abbrev pub is_remark : List ℕ → Bool
is_remark [] = false
is_remark (b ∷ rest) = b == 35

abbrev pub meant : Option (List (List ℕ)) → Meaning
meant None = NoCommand
meant (Some []) = Passed
meant (Some (w ∷ words)) = Words (w ∷ words)

unfoldable pub meaning_of : List ℕ → Meaning
meaning_of line = if nat_lt line_limit (length line) then NoCommand else if is_remark line then Passed else meant (words_of_text line)

-- with a byte in front of the first line
abbrev pub onto : ℕ → List (List ℕ) → List (List ℕ)
onto b [] = (b ∷ []) ∷ []
onto b (l ∷ lines) = (b ∷ l) ∷ lines

-- the lines of an input; the last needs no end
unfoldable pub lines_of : List ℕ → List (List ℕ)
lines_of [] = []
lines_of (b ∷ rest) = if b == 10 then [] ∷ lines_of rest else onto b (lines_of rest)

-- the bytes before the first line end, and those behind it; or all bytes
abbrev pub parted_at : Option ℕ → List ℕ → List ℕ × List ℕ
parted_at None bytes = (bytes, [])
parted_at (Some place) bytes = (take place bytes, drop (place + 1) bytes)

abbrev pub first_line : List ℕ → List ℕ × List ℕ
first_line bytes = parted_at (position (λ b. b == 10) bytes) bytes

-- what was read of a line; its words are the program's only where they are UTF-8
abbrev pub IsRead : Meaning → Line → Type 0
IsRead Passed line.Passed = ⊤
IsRead NoCommand line.NoCommand = ⊤
IsRead (Words words) (line.Words texts) = map string_bytes texts.items ≡ words
IsRead (Words words) line.NoCommand = ¬ (All IsUtf8 words)
IsRead _ _ = ⊥
