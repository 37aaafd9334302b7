-- What a delivery answers and leaves.
use Rattle.std.specs.Prelude.{◌≡◌, ◌⊎◌, ⊤, ℕ, suc, ◌<◌, ◌≤◌, List, [], ◌∷◌, ◌++◌, length, take, map, flat_map, codes, if◌then◌else◌, Option, Some, None, Result, Ok, Err, IfOk, is_err}
use Rattle.std.specs.Borrow.{Bor}
use Rattle.std.specs.Fmt.{decimal}
use Rattle.std.specs.List.{AllByRecursion, AllZip, list_any, zip}
use Rattle.wh_day.specs.declared.error.ParseError.{ParseError}
use Rattle.wh_day.specs.declared.error.ParseError.TheVariants as errors
use Rattle.wh_batch.specs.Manifest.{manifest_of}
use Rattle.wh_batch.specs.declared.manifest.BadManifest.{BadManifest}
use Rattle.wh_batch.specs.declared.manifest.ManifestEntry.{ManifestEntry}
use Rattle.wh_history.specs.Accepted.{Accepted}
use Rattle.wh_history.specs.Tables.{Limits}
use Rattle.wh_admission.specs.Admission.{accepted_after_all}
use Rattle.wh_engine.specs.Answered.{KeepsNothing}
use Rattle.wh_engine.specs.Delivered.{answers_to, AreAnswers, AreFewer}
use Rattle.wh_admission.specs.declared.command.Command.{Command}
use Rattle.wh_admission.specs.declared.command.Refusal.{Refusal}
use Rattle.wh_admission.specs.declared.command.Reply.{Reply}
use Rattle.wh_engine.specs.declared.fault.Fault.{Fault}
use Rattle.wh_engine.specs.declared.fault.Fault.TheVariants as fault
use Rattle.wh_program.specs.Answer.{Printed, refused, failed, no_file_line, status_code}
use Rattle.wh_words.specs.WrongWord.{line}
use Rattle.wh_program.specs.Inputs.{Files, Refusals, as_input, as_manifest}
use Rattle.wh_program.specs.Readings.{answer_after}
use Rattle.wh_program.specs.Reply.{reply_answer, refused_line, fault_answer, sent_answer}
use Rattle.wh_program.specs.Standing.{DatabaseContent, Holds, Standing, Rests, LeftAt}
use Rattle.wh_program.specs.Warehouse.{Shown, printed, Opens, IsTrueOf, LeavesReplied, IsCommandOf, AnswersWork, IsNoFile, LacksFile}
use Rattle.wh_program.specs.declared.lines.answer.Status.{Status}
use Rattle.wh_program.specs.declared.lines.answer.Status.TheVariants.{Done, Refused, Failed}

-- ---- the text

-- the line of the answer to a command under an id
abbrev pub answered_line : List ℕ → Result Reply Refusal → List ℕ
answered_line id (Ok reply) = (reply_answer id reply).text
answered_line id (Err why) = refused_line why

-- a line for each answer, in order of the commands
abbrev pub answered_lines : List Command → List (Result Reply Refusal) → List ℕ
answered_lines sent answers = flat_map (λ (p : Command × Result Reply Refusal). answered_line p.0.id p.1) (zip sent answers)

-- the line of what stopped a delivery, if something did
abbrev pub stop_line : Option Fault → List ℕ
stop_line None = []
stop_line (Some why) = (fault_answer why).text

-- the lines of the answers, and that of what stopped the delivery
abbrev pub delivery_text : List Command → List (Result Reply Refusal) → Option Fault → List ℕ
delivery_text sent answers stop = answered_lines sent answers ++ stop_line stop

-- a delivery that stopped has failed; else it was refused where one command was
abbrev pub delivery_status : List (Result Reply Refusal) → Option Fault → Status
delivery_status answers (Some why) = Failed
delivery_status answers None = if list_any is_err answers then Refused else Done

abbrev pub delivery_answer : List Command → List (Result Reply Refusal) → Option Fault → Printed
delivery_answer sent answers stop = record { status = status_code (delivery_status answers stop); text = delivery_text sent answers stop }

abbrev pub manifest_line : BadManifest → List ℕ
manifest_line bad = line (codes "refused: M1 bad manifest, record " ++ decimal bad.number)

-- ---- what is left

-- What a delivery of these commands leaves of a warehouse with those, by the answers and by what stopped it.
abbrev pub LeavesDelivered : Limits → List Accepted → List Command → List (Result Reply Refusal) → Option Fault → Standing → Type 0
LeavesDelivered limits commands sent answers None after =
    (answers ≡ answers_to limits commands sent) × (after ≡ Rests (Holds limits (accepted_after_all limits commands sent)))
LeavesDelivered limits commands sent answers (Some fault.Memory) after =
    AreAnswers limits commands sent answers × AreFewer sent answers × (after ≡ Rests (Holds limits (accepted_after_all limits commands (take (length answers) sent))))
LeavesDelivered limits commands sent answers (Some (fault.Store cause)) after =
    AreAnswers limits commands sent answers × (length answers < length sent)
    × (after ≡ LeftAt (Holds limits (accepted_after_all limits commands (take (length answers) sent))) (Holds limits (accepted_after_all limits commands (take (suc (length answers)) sent))))
LeavesDelivered limits commands sent answers (Some why) after = ⊥

-- the engine answered the commands, from the first on, and just that is told
pub record IsDelivered (sent : List Command) (limits : Limits) (commands : List Accepted) (shown : Shown) (after : Standing) : Type 0 where
  pub answers : List (Result Reply Refusal)
  pub stop : Option Fault
  pub leaves : LeavesDelivered limits commands sent answers stop after
  pub tells : printed shown ≡ delivery_answer sent answers stop

-- the lines of the answers that are due to commands
abbrev pub due_lines : Limits → List Accepted → List Command → List ℕ
due_lines limits commands sent = answered_lines sent (answers_to limits commands sent)

-- The writer failed at the line of the reply to a command, after so many bytes: the commands before it have their answers, whose lines went out whole, it has its reply, and those behind it
-- were not begun.
pub record IsBrokenOff (kept : ℕ) (sent : List Command) (limits : Limits) (commands : List Accepted) (shown : Shown) (after : Standing) : Type 0 where
  pub before : List Command
  pub c : Command
  pub behind : List Command
  pub parts : sent ≡ before ++ c ∷ behind
  pub reply : Result Reply Fault
  pub leaves : LeavesReplied limits (accepted_after_all limits commands before) c reply after
  pub whole : length (due_lines limits commands before) ≤ kept
  pub tells : shown ≡ Ok (answer_after (due_lines limits commands before) (sent_answer c.id reply))

-- a delivery of these commands, by how much of what is told went out
abbrev pub Delivers : (cut : Option ℕ) → List Command → Limits → List Accepted → Shown → Standing → Type 0
Delivers None = IsDelivered
Delivers (Some kept) = IsBrokenOff kept

-- commands, each with the reply to it
abbrev pub Replied : Type 0
Replied = List (Command × Result Reply Fault)

-- the line of each reply
abbrev pub replied_lines : Replied → List ℕ
replied_lines replied = flat_map (λ (p : Command × Result Reply Fault). (sent_answer p.0.id p.1).text) replied

-- nothing was kept by any of them
abbrev pub KeepNothing : Replied → Type 0
KeepNothing replied = AllByRecursion (λ (p : Command × Result Reply Fault). KeepsNothing p.1) replied

-- each is true of what stood
abbrev pub AreTrueOf : DatabaseContent → Replied → Type 0
AreTrueOf content replied = AllByRecursion (λ (p : Command × Result Reply Fault). IsTrueOf content p.0 p.1) replied

-- The engine replied to the first commands over what anybody wrote, and just that is told. Where nothing was kept, all is as it was, and each reply is true of it.
pub record IsDeliveredOver (sent : List Command) (content : DatabaseContent) (shown : Shown) (after : Standing) : Type 0 where
  pub replied : Replied
  pub behind : List Command
  pub first : sent ≡ map (λ (p : Command × Result Reply Fault). p.0) replied ++ behind
  pub tells : (printed shown).text ≡ replied_lines replied
  pub leaves : KeepNothing replied → (after ≡ Rests content) × AreTrueOf content replied

-- What opens what stands and delivers to it.
abbrev pub DeliversTo : (cut : Option ℕ) → List Command → DatabaseContent → Shown → Standing → Type 0
DeliversTo cut sent = Opens (Delivers cut sent) (IsDeliveredOver sent)

-- ---- the manifest and its inputs

-- each entry's command, whose bytes its file holds, as far as it is read; that of an upgrade isn't
abbrev pub AreCommandsOf : Files → List ManifestEntry → List Command → Type 0
AreCommandsOf holds entries sent = AllZip (λ (e : ManifestEntry) c. IsCommandOf holds e.kind e.id e.path (Some c)) entries sent

-- the path of the first entry whose file isn't there; an upgrade needs none
abbrev pub IsFirstMissing : Files → List ManifestEntry → List ℕ → Type 0
IsFirstMissing holds [] path = ⊥
IsFirstMissing holds (e ∷ entries) path = (as_input e.kind holds e.path None × (path ≡ e.path)) ⊎ ((bytes : List ℕ) × as_input e.kind holds e.path (Some bytes) × IsFirstMissing holds entries path)

-- why the commands of entries weren't had
abbrev pub LacksInput : Files → List ManifestEntry → ParseError (Bor (List ℕ)) → Type 0
LacksInput holds entries errors.Memory = ⊤
LacksInput holds entries (errors.Fault path) = IsFirstMissing holds entries path.now

-- ---- the word

-- nothing was sent, and the answer says why, or memory ran out before; nothing changed
pub record IsNotSent (stands : Standing → Type 0) (content : DatabaseContent) (shown : Shown) (Tells : Printed → Type 0) : Type 0 where
  pub same : stands (Rests content)
  pub tells : IfOk shown Tells

-- these commands were sent to the warehouse in a file, or the host refuses its name
abbrev pub AnswersSent : Refusals → (Standing → Type 0) → (cut : Option ℕ) → DatabaseContent → (file : List ℕ) → List Command → Shown → Type 0
AnswersSent refuses stands cut content file sent shown = AnswersWork refuses stands (DeliversTo cut sent) content file shown

-- all commands of these entries were, or an input isn't there
abbrev pub AnswersListed : Files → Refusals → (Standing → Type 0) → (cut : Option ℕ) → DatabaseContent → (file : List ℕ) → List ManifestEntry → Shown → Type 0
AnswersListed holds refuses stands cut content file entries shown =
    ((sent : List Command) × AreCommandsOf holds entries sent × AnswersSent refuses stands cut content file sent shown)
    ⊎ IsNotSent stands content shown (λ a. (path : List ℕ) × IsFirstMissing holds entries path × (a ≡ failed (no_file_line path)))

-- those of a manifest that was read, or it is a bad one
abbrev pub AnswersRead : Files → Refusals → (Standing → Type 0) → (cut : Option ℕ) → DatabaseContent → (file : List ℕ) → Result (List ManifestEntry) BadManifest → Shown → Type 0
AnswersRead holds refuses stands cut content file (Ok entries) shown = AnswersListed holds refuses stands cut content file entries shown
AnswersRead holds refuses stands cut content file (Err bad) shown = IsNotSent stands content shown (λ a. a ≡ refused (manifest_line bad))

-- A delivery of the commands that the manifest in a file lists, as far as it counts. It is read first, then its inputs in order, and then the warehouse is opened.
abbrev pub AnswersDelivery : Files → Refusals → (Standing → Type 0) → (cut : Option ℕ) → DatabaseContent → (file manifest : List ℕ) → Shown → Type 0
AnswersDelivery holds refuses stands cut content file manifest shown =
    ((bytes : List ℕ) × as_manifest holds manifest (Some bytes) × AnswersRead holds refuses stands cut content file (manifest_of bytes) shown)
    ⊎ IsNotSent stands content shown (λ a. holds manifest None × (a ≡ failed (no_file_line manifest)))

-- ---- what is answered before the warehouse is opened

-- an input of these entries isn't there
abbrev pub LacksEntry : Files → List ManifestEntry → Printed → Type 0
LacksEntry holds entries a = (path : List ℕ) × IsFirstMissing holds entries path × IsNoFile path a

-- those of a manifest that was read, or it is a bad one
abbrev pub LacksListed : Files → Result (List ManifestEntry) BadManifest → Printed → Type 0
LacksListed holds (Ok entries) a = LacksEntry holds entries a
LacksListed holds (Err bad) a = a ≡ refused (manifest_line bad)

-- the manifest isn't there, or is a bad one, or an input of it isn't there
abbrev pub LacksManifest : Files → (manifest : List ℕ) → Printed → Type 0
LacksManifest holds manifest a = LacksFile holds manifest a ⊎ ((bytes : List ℕ) × as_manifest holds manifest (Some bytes) × LacksListed holds (manifest_of bytes) a)
