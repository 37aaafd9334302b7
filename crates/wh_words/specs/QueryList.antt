-- A list of queries, each a line of the words that stand behind FILE.
use Rattle.std.specs.Prelude.{◌≡◌, ℕ, ◌+◌, Bool, true, false, List, [], ◌∷◌, ◌++◌, map, codes, string_bytes, Option, Some, Result, Ok, Err, if◌then◌else◌}
use Rattle.std.specs.List.{list_all}
use Rattle.std.specs.Str.{is_utf8}
use Rattle.wh_day.specs.Reading.{◌>>=◌}
use Rattle.wh_batch.specs.declared.manifest.BadManifest.{BadManifest}
use Rattle.wh_words.specs.Line.{Meaning, Passed, NoCommand, Words, lines_of, meaning_of}
use Rattle.wh_words.specs.Asked.{asked_by}
use Rattle.wh_words.specs.Task.{Task, Over, Query, QueryWords, query_words}
use Rattle.wh_words.specs.declared.line.Line.{Line}
use Rattle.wh_words.specs.declared.line.Line.TheVariants as read
use Rattle.wh_words.specs.declared.query_list.Said.{Said as SaidFound}
use Rattle.wh_words.specs.declared.query_list.Said.TheVariants as found

-- what a line of a list says: nothing, no query, or one
pub data Said : Type 0 where
  Nothing : Said
  NoQuery : Said
  Asks : QueryWords → Said

-- by the task that its words ask for
abbrev pub task_says : Option Task → Said
task_says (Some (Over file (Query words))) = Asks words
task_says task = NoQuery

-- words, behind `query` and any FILE
abbrev pub words_say : List (List ℕ) → Said
words_say words = if list_all is_utf8 words then task_says (asked_by (codes "query" ∷ codes "FILE" ∷ words)) else NoQuery

-- the meaning of a line; one that is passed over has to be a text, too
abbrev pub meaning_says : List ℕ → Meaning → Said
meaning_says line Passed = if is_utf8 line then Nothing else NoQuery
meaning_says line NoCommand = NoQuery
meaning_says line (Words words) = words_say words

unfoldable pub line_says : List ℕ → Said
line_says line = meaning_says line (meaning_of line)

-- the queries of lines that are numbered from number, or the first that says no query
unfoldable pub queries_from : ℕ → List Said → Result (List QueryWords) BadManifest
queries_from number [] = Ok []
queries_from number (Nothing ∷ lines) = queries_from (number + 1) lines
queries_from number (NoQuery ∷ lines) = Err (record { number = number })
queries_from number (Asks words ∷ lines) = queries_from (number + 1) lines >>= λ others. Ok (words ∷ others)

-- the queries of a list, in order, or its first line that is bad
unfoldable pub queries_of : List ℕ → Result (List QueryWords) BadManifest
queries_of bytes = queries_from 1 (map line_says (lines_of bytes))

-- ---- what is kept of a line, and said by it

-- by what a request asks for
abbrev pub says_of : Option (Result Task (List ℕ)) → Said
says_of (Some (Ok task)) = task_says (Some task)
says_of asked = NoQuery

abbrev pub said_in : SaidFound → Said
said_in found.Nothing = Nothing
said_in found.NoQuery = NoQuery
said_in (found.Query asked) = Asks (query_words asked)

-- a line whose words are those of the whole command
abbrev pub says : Line → Said
says read.Passed = Nothing
says read.NoCommand = NoQuery
says (read.Words words) = task_says (asked_by (map string_bytes words.items))

-- the query that a line says is added to those above it; or it says no query
abbrev pub IsAdded : Said → (before after : List QueryWords) → (is_good : Bool) → Type 0
IsAdded Nothing before after is_good = (is_good ≡ true) × (after ≡ before)
IsAdded NoQuery before after is_good = is_good ≡ false
IsAdded (Asks words) before after is_good = (is_good ≡ true) × (after ≡ before ++ words ∷ [])
