-- What a request asks for.
use Rattle.std.specs.Prelude.{◌≡◌, Option, Some, None, Result, Ok, Err, string_bytes}
use Rattle.clap.specs.Words.{Kinds, Text}
use Rattle.wh_words.specs.Asked.{MayAskForHelp, MayBeWrong}
use Rattle.wh_words.specs.CommandLine.{CommandLine, task_of}
use Rattle.wh_words.specs.Task.{Task, task_in}
use Rattle.wh_words.specs.declared.command.Request.{Request}
use Rattle.wh_words.specs.declared.command.Request.TheVariants as request

-- the task, or the line that says what is wrong; help, and the version, are neither
abbrev pub asked_in : Request → Option (Result Task Text)
asked_in (request.Task t) = Some (Ok (task_in t))
asked_in (request.Usage text) = Some (Err (string_bytes text))
asked_in (request.Help text) = None

-- the request is what the command line asks for
abbrev pub Asks : CommandLine → Request → Type 0
Asks line request = asked_in request ≡ Some (task_of line)

-- the words are no command: help, or the version, is what they asked for, or what is wrong with them is told
abbrev pub IsDeclined : Kinds → Request → Type 0
IsDeclined faults (request.Task t) = ⊥
IsDeclined faults (request.Help text) = MayAskForHelp faults
IsDeclined faults (request.Usage text) = MayBeWrong faults

-- the request is what the words ask for, or they ask for nothing
abbrev pub IsReadAs : Option Task → Kinds → Request → Type 0
IsReadAs (Some t) faults request = asked_in request ≡ Some (Ok t)
IsReadAs None faults request = IsDeclined faults request
