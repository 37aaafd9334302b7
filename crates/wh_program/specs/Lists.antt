-- What is answered to the questions of a list, and what they leave of a warehouse. A question is here what it is answered over accepted commands.
use Rattle.std.specs.Prelude.{◌≡◌, ◌⊎◌, ◌==◌, ◌<◌, ℕ, Bool, List, [], ◌∷◌, ◌++◌, length, map, take, codes, if◌then◌else◌, Option, Some, None, Result, Ok, Err, IfErr, IfOk}
use Rattle.std.specs.List.{join_by, list_any}
use Rattle.wh_batch.specs.declared.manifest.BadManifest.{BadManifest}
use Rattle.wh_history.specs.Accepted.{Accepted}
use Rattle.wh_history.specs.Tables.{Limits}
use Rattle.wh_engine.specs.declared.fault.Fault.{Fault}
use Rattle.wh_program.specs.Answer.{Printed, refused, failed, no_file_line, status_code}
use Rattle.wh_program.specs.Delivery.{IsNotSent, manifest_line}
use Rattle.wh_program.specs.Inputs.{Files, Refusals, as_manifest}
use Rattle.wh_program.specs.Readings.{LeavesRead}
use Rattle.wh_program.specs.Reply.{fault_answer}
use Rattle.wh_program.specs.Standing.{DatabaseContent, Standing}
use Rattle.wh_program.specs.Warehouse.{Shown, Shows, AnswersWork, LacksFile}
use Rattle.wh_program.specs.declared.lines.answer.Status.{Status}
use Rattle.wh_program.specs.declared.lines.answer.Status.TheVariants.{Done, Refused, Failed}

-- ---- the answers

abbrev pub Questions : Type 0
Questions = List (List Accepted → Printed)

-- what they are answered over accepted commands
abbrev pub answers_to : List Accepted → Questions → List Printed
answers_to commands questions = map (λ question. question commands) questions

-- All are answered; or a fault stops them, after the first so many, and is answered in the place of the next.
abbrev pub answers_until : List Accepted → Questions → ℕ → Result (Unit {0}) Fault → List Printed
answers_until commands questions answered (Ok read) = answers_to commands questions
answers_until commands questions answered (Err fault) = answers_to commands (take answered questions) ++ fault_answer fault ∷ []

-- ---- the text

-- an answer of these ended so
abbrev pub is_among : List Printed → Status → Bool
is_among answers ending = list_any (λ answer. answer.status == status_code ending) answers

-- answers have failed where one of them has; else they were refused where one was
abbrev pub status_of : List Printed → Status
status_of answers = if is_among answers Failed then Failed else if is_among answers Refused then Refused else Done

-- the texts of the answers, with an empty line between two
abbrev pub answers_text : List Printed → List ℕ
answers_text answers = join_by (λ answer. answer.text) (codes "\n") answers

abbrev pub whole_answer : List Printed → Printed
whole_answer answers = record { status = status_code (status_of answers); text = answers_text answers }

-- ---- what is left

-- The warehouse was read for the questions, for all of them or up to a fault, and just their answers are printed; nothing changes.
pub record IsListed (questions : Questions) (limits : Limits) (commands : List Accepted) (shown : Shown) (after : Standing) : Type 0 where
  pub read : Result (Unit {0}) Fault
  pub answered : ℕ
  pub within : IfErr read (λ fault. answered < length questions)
  pub leaves : LeavesRead limits commands read after
  pub tells : IfOk shown (λ a. a ≡ whole_answer (answers_until commands questions answered read))

-- ---- the word

module _ {A : Type 0} (read : List ℕ → Result (List A) BadManifest) where
  -- the questions of a list that was read, each with its answer, or it is a bad one
  abbrev AnswersRead : (A → List Accepted → Printed) → Refusals → (Standing → Type 0) → DatabaseContent → (file : List ℕ) → Result (List A) BadManifest → Shown → Type 0
  AnswersRead answer refuses stands content file (Ok listed) shown = AnswersWork refuses stands (Shows (IsListed (map answer listed))) content file shown
  AnswersRead answer refuses stands content file (Err bad) shown = IsNotSent stands content shown (λ a. a ≡ refused (manifest_line bad))

  -- What the list in a file asks for, as far as it counts, which is as far as a manifest does. It is read first, and then the warehouse is opened.
  abbrev pub AnswersList : (A → List Accepted → Printed) → Files → Refusals → (Standing → Type 0) → DatabaseContent → (file list : List ℕ) → Shown → Type 0
  AnswersList answer holds refuses stands content file list shown =
      ((bytes : List ℕ) × as_manifest holds list (Some bytes) × AnswersRead answer refuses stands content file (read bytes) shown)
      ⊎ IsNotSent stands content shown (λ a. holds list None × (a ≡ failed (no_file_line list)))

  -- the list can't be read, and the answer says why
  abbrev IsBad : Result (List A) BadManifest → Printed → Type 0
  IsBad (Ok listed) a = ⊥
  IsBad (Err bad) a = a ≡ refused (manifest_line bad)

  -- the list isn't there, or is a bad one
  abbrev pub Lacks : Files → (list : List ℕ) → Printed → Type 0
  Lacks holds list a = LacksFile holds list a ⊎ ((bytes : List ℕ) × as_manifest holds list (Some bytes) × IsBad (read bytes) a)
