-- Which words are those of a command.
use Rattle.std.specs.Prelude.{◌≡◌, ◌⊎◌, ℕ, List, true, None}
use Rattle.std.specs.List.{list_all}
use Rattle.wh_words.specs.Asked.{asked_by, no_line}
use Rattle.wh_words.specs.CommandLine.{CommandLine, Says, is_operand, task_of}

-- the words of a command ask for what it is to do, or for nothing where one of them is none of those that are listed
abbrev pub WordsAreRead : Type 0
WordsAreRead = (words : List (List ℕ)) (line : CommandLine) → Says words line → asked_by words ≡ no_line (task_of line)

-- words none of which is an option are those of a command, or they ask for nothing
abbrev pub OtherWordsAreNone : Type 0
OtherWordsAreNone = (words : List (List ℕ)) → list_all is_operand words ≡ true → ((line : CommandLine) × Says words line) ⊎ (asked_by words ≡ None)
