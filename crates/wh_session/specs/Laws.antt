-- Laws of sessions.
use Rattle.std.specs.Prelude.{⊤, ◌≡◌, ◌<◌, ℕ, List, [], ◌∷◌, ◌++◌, All, IsUtf8, Option, Some, None, Result, max, true}
use Rattle.std.specs.Io.KnownBytes.{Appends}
use Rattle.wh_history.specs.Accepted.{Accepted}
use Rattle.wh_history.specs.Tables.{Limits}
use Rattle.wh_admission.specs.declared.command.Command.{Command}
use Rattle.wh_admission.specs.declared.command.Refusal.{Refusal}
use Rattle.wh_admission.specs.declared.command.Reply.{Reply}
use Rattle.wh_batch.specs.declared.manifest.ManifestEntry.{ManifestEntry}
use Rattle.wh_words.specs.CommandLine.{is_operand}
use Rattle.wh_words.specs.Asked.{asked_by}
use Rattle.wh_words.specs.Task.{Task, warehouse_of}
use Rattle.wh_program.specs.Delivery.{LeavesDelivered}
use Rattle.wh_program.specs.Inputs.{Files, Refusals}
use Rattle.wh_program.specs.Run.{Prints}
use Rattle.wh_program.specs.Standing.{Holds, Standing, Rests}
use Rattle.wh_program.specs.Tasks.{IsAnsweredBefore, Stores}
use Rattle.wh_program.specs.Warehouse.{IsCommandOf, IsNoFileOr, PrintsShut, printed}
use Rattle.wh_words.specs.Line.{Words, meaning_of}
use Rattle.wh_session.specs.Line.{with_file}
use Rattle.wh_session.specs.Sending.{AreSending, sent_texts}
use Rattle.wh_session.specs.Session.{AllGo, Goes, IsAnswered, KeepsTo, Session}

module _ {H : Type 0} (holds : H → Files) (refuses : H → Refusals) (stores : H → Stores) (shut : H → List ℕ → Type 0) where
  -- a session of one line does what the line does
  abbrev pub OneLineIsItsAnswer : Type 0
  OneLineIsItsAnswer = (file line : List ℕ) (before after : H) (old new : Option (List ℕ)) (code : ℕ)
      → AllGo holds refuses stores shut file (line ∷ []) before after old new code → Goes holds refuses stores shut file (meaning_of line) before after old new code

  -- a session of lines and then others is one of the lines, and one of the others over what that left
  abbrev pub LinesFollow : Type 0
  LinesFollow = (file : List ℕ) (first others : List (List ℕ)) (before after : H) (old new : Option (List ℕ)) (code : ℕ)
      → AllGo holds refuses stores shut file (first ++ others) before after old new code
      → (mid : H) × (out : Option (List ℕ)) × (status rest : ℕ) × AllGo holds refuses stores shut file first before mid old out status × AllGo holds refuses stores shut file others mid after out new rest × (code ≡ max status rest)

  -- a session over a name that begins with no hyphen keeps to it
  abbrev pub SessionsKeepToTheirFile : Type 0
  SessionsKeepToTheirFile = (file : List ℕ) (lines : List (List ℕ)) (before after : H) (old new : Option (List ℕ)) (code : ℕ)
      → is_operand file ≡ true → Session holds refuses stores shut file lines before after old new code → KeepsTo stores shut file before after

  -- Where the host can't open a session's file, a line that is a command about it is answered by the file's line, or by what is answered before it is opened; or memory ran out.
  abbrev pub ShutFilesAreReported : Type 0
  ShutFilesAreReported = (file : List ℕ) (words : List (List ℕ)) (task : Task) (before after : H) (old new : Option (List ℕ)) (code : ℕ)
      → shut before file → All IsUtf8 words → asked_by (with_file file words) ≡ Some task → warehouse_of task ≡ Some file → IsAnswered holds refuses stores shut file (Words words) before after old new code
      → PrintsShut (after ≡ before) (IsNoFileOr file (IsAnsweredBefore (holds before) task)) (λ shown. Prints old new code (printed shown))

  -- the lines send these commands: each is that of its entry, by the files that the host held when its line was answered
  abbrev pub AllSend : (file : List ℕ) → List (List ℕ) → List ManifestEntry → List Command → (before : H) → (old : Option (List ℕ)) → Type 0
  AllSend file (l ∷ lines) (e ∷ entries) (c ∷ sent) before old =
      IsCommandOf (holds before) e.kind e.id e.path (Some c) × ((mid : H) × (out : Option (List ℕ)) × (status : ℕ) × Goes holds refuses stores shut file (meaning_of l) before mid old out status × AllSend file lines entries sent mid out)
  AllSend file [] [] [] before old = ⊤
  AllSend file _ _ _ before old = ⊥

  -- Over what accepted commands left, a session whose lines send the entries of a manifest, and of which none fails, leaves what a delivery of their commands leaves, and prints their answers.
  abbrev pub SendingIsDelivering : Type 0
  SendingIsDelivering = (file : List ℕ) (entries : List ManifestEntry) (lines : List (List ℕ)) (before after : H) (old new : Option (List ℕ)) (code : ℕ) (limits : Limits) (commands : List Accepted)
      → is_operand file ≡ true → AreSending lines entries → stores before file (Rests (Holds limits commands)) → AllGo holds refuses stores shut file lines before after old new code → code < 3
      → (sent : List Command) × (answers : List (Result Reply Refusal)) × (standing : Standing) × AllSend file lines entries sent before old × LeavesDelivered limits commands sent answers None standing
      × stores after file standing × Appends old new (sent_texts sent answers)
