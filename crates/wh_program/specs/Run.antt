-- What goes out of a run.
use Rattle.std.specs.Prelude.{◌≡◌, ◌<◌, ◌⊎◌, ℕ, List, ◌++◌, Option, Some, None, length, take}
use Rattle.std.specs.Io.KnownBytes.{Appends}
use Rattle.clap.specs.Words.{Kinds}
use Rattle.wh_program.specs.Answer.{Printed, done, wrong_words, failed, memory_line, write_line}
use Rattle.wh_words.specs.Asked.{MayAskForHelp, MayBeWrong}

-- the answer when memory ran out
abbrev pub out_of_memory : Printed
out_of_memory = failed memory_line

-- the whole answer went out
pub record PrintsWhole (old new : Option (List ℕ)) (code : ℕ) (answer : Printed) : Type 0 where
  pub status : code ≡ answer.status
  pub text : Appends old new answer.text

-- the writer failed within the answer: so many bytes of it went out, and then a beginning of the line that says so
pub record IsCutOff (kept : ℕ) (old new : Option (List ℕ)) (code : ℕ) (answer : Printed) : Type 0 where
  pub shown : ℕ
  pub cut : kept < length answer.text
  pub status : code ≡ 3
  pub text : Appends old new (take kept answer.text ++ take shown write_line)

-- what went out, and the status, are those of the answer
abbrev pub Prints : Option (List ℕ) → Option (List ℕ) → ℕ → Printed → Type 0
Prints old new status answer = PrintsWhole old new status answer ⊎ ((kept : ℕ) × IsCutOff kept old new status answer)

-- all of the answer went out; or so many bytes of it, where the writer failed
abbrev pub GoesOut : (cut : Option ℕ) → Option (List ℕ) → Option (List ℕ) → ℕ → Printed → Type 0
GoesOut None old new status answer = PrintsWhole old new status answer
GoesOut (Some kept) old new status answer = IsCutOff kept old new status answer

-- Words that are no command: help, or the version, is the answer, where they ask for it, and else what is wrong with them. The text is clap's.
abbrev pub Declines : Kinds → Printed → Type 0
Declines faults answer = (text : List ℕ) × ((MayAskForHelp faults × (answer ≡ done text)) ⊎ (MayBeWrong faults × (answer ≡ wrong_words text)))
