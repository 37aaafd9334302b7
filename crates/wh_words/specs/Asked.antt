-- What any words ask for.
use Rattle.std.specs.Prelude.{◌≢◌, ◌⊎◌, List, [], ◌∷◌, Option, Some, None, Result, Ok, Err}
use Rattle.std.specs.Option.{option_map_or}
use Rattle.clap.specs.Words.{IsAmong, Kinds, Row, Text, fault_of, subcommand_of}
use Rattle.clap.specs.declared.error.kind.ErrorKind.TheVariants.{DisplayHelp, DisplayVersion}
use Rattle.wh_words.specs.CommandLine.{program_app}
use Rattle.wh_words.specs.Given.{Given, given_by}
use Rattle.wh_words.specs.Task.{Task, Command, command_of, asks_of}
use Rattle.wh_words.specs.WrongWord.{no_command_line}

-- what clap finds wrong with words, a call for help or for the version among it; nothing, where it takes them
unfoldable pub faults_in : List Text → Kinds
faults_in words = fault_of program_app words

-- they may ask for help, or for the version
abbrev pub MayAskForHelp : Kinds → Type 0
MayAskForHelp faults = IsAmong DisplayHelp faults ⊎ IsAmong DisplayVersion faults

-- they are no call for help alone, and none for the version
abbrev pub MayBeWrong : Kinds → Type 0
MayBeWrong faults = (faults ≢ DisplayHelp ∷ []) × (faults ≢ DisplayVersion ∷ [])

-- what the command asks for that clap meets, with what it finds for it
abbrev pub asked_to : Option Command → Given → Result Task Text
asked_to command given = option_map_or (λ c. asks_of c given) command (Err no_command_line)

abbrev pub asked_of : Option (Text × List Row) → Result Task Text
asked_of met = option_map_or (λ m. asked_to (command_of m.0) (given_by m.1)) met (Err no_command_line)

abbrev pub when_none : Kinds → Option Task → Option Task
when_none [] task = task
when_none (fault ∷ faults) task = None

abbrev pub no_line : Result Task Text → Option Task
no_line (Ok task) = Some task
no_line (Err line) = None

-- What any words ask for, as clap reads them: it lets an option stand anywhere, and operands behind `--`. Words are no command where it finds a fault or no command in them, or where one of
-- them is none of those that are listed.
unfoldable pub asked_by : List Text → Option Task
asked_by words = when_none (faults_in words) (no_line (asked_of (subcommand_of program_app words)))
