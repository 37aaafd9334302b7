-- What clap found in the words of a command, by the names of its operands and options.
use Rattle.std.specs.Prelude.{ℕ, Bool, false, List, [], map, Option, Some, None, option_map, Result, Ok, Err, bytes_eq, codes, find, slice_get, unwrap_or}
use Rattle.std.specs.Borrow.{Bor}
use Rattle.std.specs.Global.{Vec}
use Rattle.clap.specs.Words.{Row, Text, found_of, rows_of}
use Rattle.clap.specs.declared.parser.matches.ArgMatches.{ArgMatches}

-- the words that were given under each name
abbrev pub Given : Type 0
Given = List (Text × List Text)

abbrev pub given_by : List Row → Given
given_by rows = map (λ r. (r.id, r.values)) rows

abbrev pub given_in : ArgMatches → Given
given_in matches = given_by (rows_of (found_of matches))

-- those of a name
abbrev pub words_for : Given → Text → List Text
words_for given name = unwrap_or (option_map (λ g. g.1) (find (λ g. bytes_eq g.0 name) given)) []

-- the first, if there is one
abbrev pub optional_word : Given → Text → Option Text
optional_word given name = slice_get (words_for given name) 0

-- the word for an operand that a command can't do without; clap takes no words that lack one
abbrev pub word_for : Given → Text → Text
word_for given name = unwrap_or (optional_word given name) []

abbrev pub is_true : Option Text → Bool
is_true None = false
is_true (Some word) = bytes_eq word (codes "true")

-- whether an option that takes no value was given
abbrev pub has_flag : Given → Text → Bool
has_flag given name = is_true (optional_word given name)

-- ---- behind references

abbrev pub words_in : List (Bor Text) → List Text
words_in = map (λ word. word.now)

-- those of an option, where it is given
abbrev pub all_words_in : Option (Bor (List (Bor Text))) → List Text
all_words_in None = []
all_words_in (Some words) = words_in words.now

abbrev pub optional_text : Option (Bor Text) → Option Text
optional_text word = option_map (λ w. w.now) word

abbrev pub as_number : Result ℕ (Bor Text) → Result ℕ Text
as_number (Ok number) = Ok number
as_number (Err word) = Err word.now

-- what is given, or the word that says nothing
abbrev pub as_given : {G : Type 0} → Result (Vec G) (Bor Text) → Result (List G) Text
as_given (Ok given) = Ok given.items
as_given (Err word) = Err word.now
