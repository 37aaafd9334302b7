-- A session: its lines answered one after the other, each over what the one before left.
use Rattle.std.specs.Prelude.{◌≡◌, ◌≢◌, ◌⊎◌, ℕ, List, [], ◌∷◌, ◌++◌, All, IsUtf8, Option, Some, None, Result, Ok, codes, max}
use Rattle.std.specs.Fmt.{decimal}
use Rattle.std.specs.Io.KnownBytes.{Appends}
use Rattle.wh_words.specs.Asked.{asked_by, faults_in}
use Rattle.wh_words.specs.Task.{Task, Over, Session as SessionAsked, warehouse_of}
use Rattle.wh_words.specs.WrongWord.{line}
use Rattle.wh_program.specs.Answer.{Printed, failed, no_file_line, wrong_words}
use Rattle.wh_program.specs.Inputs.{Files, Refusals}
use Rattle.wh_program.specs.Run.{Declines, GoesOut, Prints, out_of_memory}
use Rattle.wh_program.specs.Tasks.{Runs, RunsShut, SparesOthers, Stores}
use Rattle.wh_program.specs.Warehouse.{printed}
use Rattle.wh_words.specs.Line.{Meaning, Passed, NoCommand, Words, meaning_of}
use Rattle.wh_session.specs.Line.{with_file}

-- what ends an answer
abbrev pub status_line : ℕ → List ℕ
status_line status = line (codes "status " ++ decimal status)

-- what is printed for a line that is no command
abbrev pub no_command_text : List ℕ
no_command_text = line (codes "error: a line is at most 65536 bytes of UTF-8, and a word with blanks or double quotes in it stands in double quotes, each of its own doubled\n\nUsage: <COMMAND>, as in `wh help`, without FILE")

-- the line where the input could not be read
abbrev pub no_input_line : List ℕ
no_input_line = no_file_line (codes "-")

-- a beginning of the text went out
abbrev pub IsBegun : (old new : Option (List ℕ)) → List ℕ → Type 0
IsBegun old new text = (part rest : List ℕ) × (text ≡ part ++ rest) × Appends old new part

-- What stands under names but a file's is left as it was, and so is the host where it can't open the file.
pub record KeepsTo {H : Type 0} (stores : H → Stores) (shut : H → List ℕ → Type 0) (file : List ℕ) (before after : H) : Type 0 where
  pub others : SparesOthers (stores before) (stores after) (Some file)
  pub closed : shut before file → after ≡ before

-- A host is told by the files that it holds, the names that it refuses, what it stores, and the names that it can't open.
module _ {H : Type 0} (holds : H → Files) (refuses : H → Refusals) (stores : H → Stores) (shut : H → List ℕ → Type 0) where
  -- what a run of the program with any words does to a host, what the writer holds before and after, and its status
  pub record RunsWords (words : List (List ℕ)) (before after : H) (old new : Option (List ℕ)) (code : ℕ) : Type 0 where
    pub reads : (task : Task) → asked_by words ≡ Some task
        → Runs (holds before) (refuses before) (stores before) (stores after) (after ≡ before) (λ shown. Prints old new code (printed shown)) (λ cut shown. GoesOut cut old new code (printed shown)) task × (code ≢ 4)
    pub others : (task : Task) → asked_by words ≡ Some task → SparesOthers (stores before) (stores after) (warehouse_of task)
    pub closed : (task : Task) → asked_by words ≡ Some task → RunsShut (shut before) (holds before) (after ≡ before) (λ shown. Prints old new code (printed shown)) task
    pub declines : asked_by words ≡ None → (after ≡ before) × (((answer : Printed) × Declines (faults_in words) answer × Prints old new code answer) ⊎ Prints old new code out_of_memory)

  -- this is printed, and the host is as it was
  abbrev pub OnlyPrints : Printed → (before after : H) → (old new : Option (List ℕ)) → ℕ → Type 0
  OnlyPrints answer before after old new code = (after ≡ before) × Prints old new code answer

  -- what a line of the meaning answers: its words what a run with them does, over the session's warehouse; and words that aren't UTF-8 are no command
  abbrev pub Answers : (file : List ℕ) → Meaning → (before after : H) → (old new : Option (List ℕ)) → ℕ → Type 0
  Answers file Passed before after old new code = ⊥
  Answers file NoCommand before after old new code = OnlyPrints (wrong_words no_command_text) before after old new code
  Answers file (Words words) before after old new code = RunsWords (with_file file words) before after old new code ⊎ (¬ (All IsUtf8 words) × OnlyPrints (wrong_words no_command_text) before after old new code)

  -- a line was answered, or memory ran out before
  abbrev pub IsAnswered : (file : List ℕ) → Meaning → (before after : H) → (old new : Option (List ℕ)) → ℕ → Type 0
  IsAnswered file meaning before after old new code = Answers file meaning before after old new code ⊎ OnlyPrints out_of_memory before after old new code

  -- a line that says nothing is passed over
  abbrev pub IsPassed : Meaning → (before after : H) → (old new : Option (List ℕ)) → ℕ → Type 0
  IsPassed meaning before after old new code = (meaning ≡ Passed) × (after ≡ before) × (new ≡ old) × (code ≡ 0)

  -- one was answered, and the line of its status was printed; or it is passed over
  abbrev pub Goes : (file : List ℕ) → Meaning → (before after : H) → (old new : Option (List ℕ)) → ℕ → Type 0
  Goes file meaning before after old new code = IsPassed meaning before after old new code ⊎ ((mid : Option (List ℕ)) × IsAnswered file meaning before after old mid code × Appends mid new (status_line code))

  -- one was answered, and the writer failed within the line of its status, or where it was flushed
  abbrev pub Stops : (file : List ℕ) → Meaning → (before after : H) → (old new : Option (List ℕ)) → Type 0
  Stops file meaning before after old new = (mid : Option (List ℕ)) × (code : ℕ) × IsAnswered file meaning before after old mid code × IsBegun mid new (status_line code)

  -- the input could not be read further
  abbrev pub LosesInput : (before after : H) → (old new : Option (List ℕ)) → Type 0
  LosesInput before after old new = OnlyPrints (failed no_input_line) before after old new 3 ⊎ OnlyPrints out_of_memory before after old new 3

  -- All of these lines were answered, each over what the one before left. The status is the greatest of the answers'.
  abbrev pub AllGo : (file : List ℕ) → List (List ℕ) → (before after : H) → (old new : Option (List ℕ)) → ℕ → Type 0
  AllGo file [] before after old new code = (after ≡ before) × (new ≡ old) × (code ≡ 0)
  AllGo file (l ∷ lines) before after old new code =
      (mid : H) × (out : Option (List ℕ)) × (status rest : ℕ) × Goes file (meaning_of l) before mid old out status × AllGo file lines mid after out new rest × (code ≡ max status rest)

  -- a failure ends a session before these lines are answered
  abbrev pub Fails : (file : List ℕ) → List (List ℕ) → (before after : H) → (old new : Option (List ℕ)) → Type 0
  Fails file [] before after old new = LosesInput before after old new
  Fails file (l ∷ lines) before after old new = LosesInput before after old new ⊎ Stops file (meaning_of l) before after old new

  -- the first lines were answered, and then it failed; the status is at least 3
  pub record IsCutOff (file : List ℕ) (lines : List (List ℕ)) (before after : H) (old new : Option (List ℕ)) (code : ℕ) : Type 0 where
    pub first : List (List ℕ)
    pub left : List (List ℕ)
    pub parts : lines ≡ first ++ left
    pub mid : H
    pub out : Option (List ℕ)
    pub status : ℕ
    pub went : AllGo file first before mid old out status
    pub fails : Fails file left mid after out new
    pub code_is : code ≡ max status 3

  -- a session of these lines
  abbrev pub Session : (file : List ℕ) → List (List ℕ) → (before after : H) → (old new : Option (List ℕ)) → ℕ → Type 0
  Session file lines before after old new code = AllGo file lines before after old new code ⊎ IsCutOff file lines before after old new code

-- the file of the session that is asked for, if one is
abbrev pub session_of : Option (Result Task (List ℕ)) → Option (List ℕ)
session_of (Some (Ok (Over file SessionAsked))) = Some file
session_of _ = None
