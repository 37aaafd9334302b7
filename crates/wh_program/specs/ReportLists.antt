-- What the reports of a list answer.
use Rattle.std.specs.Prelude.{ℕ, List, Option, Some, None}
use Rattle.wh_batch.specs.ReportList.{reports_of}
use Rattle.wh_batch.specs.declared.report_list.ListedReport.{ListedReport}
use Rattle.wh_history.specs.Accepted.{Accepted}
use Rattle.wh_batch.specs.Mode.{mode_of_word}
use Rattle.wh_batch.specs.declared.mode.Mode.{Mode}
use Rattle.wh_program.specs.Answer.{Printed, refused}
use Rattle.wh_words.specs.WrongWord.{no_mode_line}
use Rattle.wh_program.specs.Inputs.{Files, Refusals}
use Rattle.wh_program.specs.Lists.{AnswersList, Lacks}
use Rattle.wh_program.specs.Readings.{report_answered}
use Rattle.wh_program.specs.Standing.{DatabaseContent, Standing}
use Rattle.wh_words.specs.Task.{ReportWords}
use Rattle.wh_program.specs.Warehouse.{Shown}

-- the words of a report of a list, with the mode that one of them names
abbrev pub words_in : ListedReport → Mode → ReportWords
words_in listed mode = record { attribute = listed.attribute; mode = mode; from = listed.from; to = listed.to }

-- what they answer over accepted commands, where they name a mode
abbrev pub answer_in : ListedReport → Option Mode → List Accepted → Printed
answer_in listed None commands = refused (no_mode_line listed.mode)
answer_in listed (Some mode) commands = report_answered (words_in listed mode) commands

-- what a report of a list answers over accepted commands
abbrev pub listed_answer : ListedReport → List Accepted → Printed
listed_answer listed commands = answer_in listed (mode_of_word listed.mode) commands

-- the reports that the list in a file asks for
abbrev pub AnswersReports : Files → Refusals → (Standing → Type 0) → DatabaseContent → (file list : List ℕ) → Shown → Type 0
AnswersReports = AnswersList reports_of listed_answer

-- the list isn't there, or is a bad one
abbrev pub LacksList : Files → (list : List ℕ) → Printed → Type 0
LacksList = Lacks reports_of
