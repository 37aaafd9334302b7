-- The words that the program takes.
use Rattle.std.specs.Prelude.{◌≡◌, ◌++◌, ℕ, List, [], ◌∷◌, codes, Bool, true, false, not, ◌==◌, ◌&&◌, Some, Result, Err, map}
use Rattle.std.specs.List.{list_all}
use Rattle.std.specs.Option.{option_map_or}
use Rattle.clap.specs.declared.builder.action.ArgAction.TheVariants.{Append, SetTrue}
use Rattle.clap.specs.Words.{App, Rule, Text, new_app, new_rule, with_rule, with_subcommand}
use Rattle.wh_words.specs.Given.{Given}
use Rattle.wh_words.specs.Task.{Task, Beside, Nothing, Policy, Optional, Columns, Command, command_of, every_command, asks_of}
use Rattle.wh_words.specs.WrongWord.{no_command_line}
use Rattle.wh_words.specs.declared.app.More.{More}
use Rattle.wh_words.specs.declared.app.More.TheVariants as more
use Rattle.wh_words.specs.declared.app.Subcommand.{Subcommand}

-- ---- as clap builds them

-- an operand that a command can't do without
abbrev pub operand : List ℕ → Rule
operand name = record (new_rule name) { required = true }

-- one that may be left out
abbrev pub optional_operand : List ℕ → Rule
optional_operand name = new_rule name

-- an option that takes a value
abbrev pub option_of : List ℕ → List ℕ → Rule
option_of name long = record (new_rule name) { long = Some long }

-- an option that takes none
abbrev pub flag_of : List ℕ → List ℕ → Rule
flag_of name long = record (option_of name long) { action = Some SetTrue }

-- an operand that is given once or more often
abbrev pub repeated_operand : List ℕ → Rule
repeated_operand name = record (operand name) { action = Some Append }

-- an option that takes a value each time that it is given
abbrev pub repeated_option : List ℕ → List ℕ → Rule
repeated_option name long = record (option_of name long) { action = Some Append }

-- an app with operands more, in that order
abbrev pub with_operands : App → List (List ℕ) → App
with_operands app [] = app
with_operands app (name ∷ rest) = with_operands (with_rule app (operand name)) rest

-- a command that has operands alone
abbrev pub command_app : List ℕ → List (List ℕ) → App
command_app name operands = with_operands (new_app name) operands

-- an app with what it takes beside operands that it can't do without
abbrev pub with_beside : Beside → App → App
with_beside Nothing app = app
with_beside Policy app = with_rule app (option_of (codes "POLICY") (codes "policy"))
with_beside (Optional name) app = with_rule app (optional_operand name)
with_beside Columns app = with_rule (with_rule (with_rule app (repeated_operand (codes "BY"))) (repeated_option (codes "WHERE") (codes "where"))) (flag_of (codes "TABLE") (codes "table"))

-- a command
abbrev pub app_with : Command → App
app_with c = with_beside c.beside (command_app c.name c.operands)

-- the program before it has commands: it says its version, and wants a command
unfoldable pub top_app : App
top_app = record (new_app (codes "wh")) { top = record (new_app (codes "wh")).top { no_binary_name = true; subcommand_required = true; has_version = true } }

-- an app with commands more, in that order
abbrev pub with_commands : App → List App → App
with_commands app [] = app
with_commands app (command ∷ rest) = with_commands (with_subcommand app command.top) rest

-- the whole program
unfoldable pub program_app : App
program_app = with_commands top_app (map app_with every_command)

-- ---- a row of the program's table

abbrev pub beside_of : More → Beside
beside_of more.Nothing = Nothing
beside_of more.Policy = Policy
beside_of (more.Optional name help) = Optional name.now
beside_of more.Columns = Columns

abbrev pub with_more : More → App → App
with_more m app = with_beside (beside_of m) app

-- the operands that it names
abbrev pub operands_app : Subcommand → App
operands_app s = command_app s.name.now (map (λ o. o.0.now) s.operands.now)

abbrev pub subcommand_app : Subcommand → App
subcommand_app s = with_more s.more (operands_app s)

-- ---- the words of a command

-- the word does not begin with a hyphen, so it is no option
abbrev pub is_operand : List ℕ → Bool
is_operand [] = true
is_operand (b ∷ rest) = not (b == 45)

-- the words of conditions
abbrev pub condition_words : List (List ℕ) → List (List ℕ)
condition_words [] = []
condition_words (c ∷ conditions) = codes "--where" ∷ c ∷ condition_words conditions

-- the word for a table, where one is wanted
abbrev pub table_words : Bool → List (List ℕ)
table_words true = codes "--table" ∷ []
table_words false = []

abbrev pub has_some : List (List ℕ) → Bool
has_some [] = false
has_some (word ∷ words) = true

-- what is given beside the operands that a command can't do without: nothing, a policy by its option, one operand more, or the columns, the conditions and the form of a query
pub data Extra : Type 0 where
  Bare : Extra
  Under : (policy : Text) → Extra
  With : (word : Text) → Extra
  Slice : (columns conditions : List Text) → (as_table : Bool) → Extra

-- a command, with what its words give
pub record CommandLine : Type 0 where
  pub name : Text
  pub operands : List Text
  pub extra : Extra

abbrev pub extra_words : Extra → List Text
extra_words Bare = []
extra_words (Under policy) = codes "--policy" ∷ policy ∷ []
extra_words (With word) = word ∷ []
extra_words (Slice columns conditions as_table) = columns ++ (condition_words conditions ++ table_words as_table)

-- its words
abbrev pub words_of : CommandLine → List Text
words_of line = line.name ∷ (line.operands ++ extra_words line.extra)

-- each operand that a command can't do without is given, and none of the words is an option
abbrev pub are_given : (names words : List Text) → Bool
are_given [] [] = true
are_given (name ∷ names) (word ∷ words) = is_operand word && are_given names words
are_given _ _ = false

-- what is given beside them is what the command takes, and none of its words is an option
abbrev pub is_taken : Beside → Extra → Bool
is_taken Nothing Bare = true
is_taken Policy Bare = true
is_taken Policy (Under policy) = is_operand policy
is_taken (Optional name) Bare = true
is_taken (Optional name) (With word) = is_operand word
is_taken Columns (Slice columns conditions as_table) = has_some columns && (list_all is_operand columns && list_all is_operand conditions)
is_taken _ _ = false

-- they are those of a command of this name
abbrev pub has_operands : CommandLine → Bool
has_operands line = option_map_or (λ c. are_given c.operands line.operands && is_taken c.beside line.extra) (command_of line.name) false

-- the words are those of a command, and none of its operands is an option
pub record Says (words : List Text) (line : CommandLine) : Type 0 where
  pub words_are : words ≡ words_of line
  pub operands : has_operands line ≡ true

-- ---- what they ask for

abbrev pub operands_given : (names words : List Text) → Given
operands_given (name ∷ names) (word ∷ words) = (name, word ∷ []) ∷ operands_given names words
operands_given _ _ = []

abbrev pub flag_given : Bool → Given
flag_given true = (codes "TABLE", codes "true" ∷ []) ∷ []
flag_given false = []

abbrev pub extra_given : Beside → Extra → Given
extra_given Policy (Under policy) = (codes "POLICY", policy ∷ []) ∷ []
extra_given (Optional name) (With word) = (name, word ∷ []) ∷ []
extra_given Columns (Slice columns conditions as_table) = (codes "BY", columns) ∷ (codes "WHERE", conditions) ∷ flag_given as_table
extra_given _ _ = []

-- the words, by the names of a command's operands and options
abbrev pub given_to : Command → (operands : List Text) → Extra → Given
given_to c operands extra = operands_given c.operands operands ++ extra_given c.beside extra

-- what the words of a command ask for, or the line that says which of them is none of those that are listed
abbrev pub task_of : CommandLine → Result Task Text
task_of line = option_map_or (λ c. asks_of c (given_to c line.operands line.extra)) (command_of line.name) (Err no_command_line)
