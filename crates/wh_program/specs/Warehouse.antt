-- What the words over a warehouse answer, and what they leave of what stood.
use Rattle.std.specs.Prelude.{◌≡◌, ◌⊎◌, ⊤, ℕ, List, [], ◌∷◌, Option, Some, None, true, false, Result, Ok, Err, IfOk}
use Rattle.std.specs.declared.alloc.AllocError.{AllocError}
use Rattle.sqlite.specs.State.{State, HasCleanDisk}
use Rattle.wh_policy.specs.Policy.{read_policy}
use Rattle.wh_policy.specs.declared.fault.PolicyFault.{PolicyFault}
use Rattle.wh_policy.specs.declared.policy.Policy.{Policy}
use Rattle.wh_history.specs.Accepted.{Accepted}
use Rattle.wh_history.specs.Tables.{Limits}
use Rattle.wh_rows.specs.Limits.{greatest_limits}
use Rattle.wh_rows.specs.Raw.{Stored}
use Rattle.wh_plan.specs.Edits.{Edits}
use Rattle.wh_model.specs.Sound.{init_of}
use Rattle.wh_admission.specs.Admission.{answer, accepted_after}
use Rattle.wh_sql.specs.Present.{is_any_taken}
use Rattle.wh_engine.specs.Answered.{counts_of, IsAgain, IsPlanOf, KeepsNothing}
use Rattle.wh_engine.specs.Outcome.{Outcome}
use Rattle.wh_engine.specs.Opened.{IsNotMade, SessionIs, IsUnopened as UnopenedBy}
use Rattle.wh_admission.specs.declared.command.Command.{Command}
use Rattle.wh_batch.specs.declared.kind.CommandKind.{CommandKind}
use Rattle.wh_batch.specs.declared.kind.CommandKind.TheVariants.{Upgrade}
use Rattle.wh_admission.specs.declared.command.Reply.{Reply}
use Rattle.wh_admission.specs.declared.command.Reply.TheVariants as replies
use Rattle.wh_engine.specs.declared.counts.Counts.{Counts}
use Rattle.wh_engine.specs.Faults.{BlamesDamage}
use Rattle.wh_engine.specs.declared.fault.Fault.{Fault}
use Rattle.wh_engine.specs.declared.fault.Fault.TheVariants as fault
use Rattle.wh_engine.specs.declared.opening.InitFault.{InitFault}
use Rattle.wh_engine.specs.declared.opening.InitFault.TheVariants as making
use Rattle.wh_engine.specs.declared.session.Session.{Session}
use Rattle.wh_store.specs.declared.fault.OpenFault.{OpenFault}
use Rattle.wh_store.specs.declared.fault.OpenFault.TheVariants as opening
use Rattle.wh_program.specs.Answer.{Printed, done, refused, failed, no_file_line, policy_line}
use Rattle.wh_program.specs.Inputs.{Files, Refusals, as_input}
use Rattle.wh_program.specs.Reply.{sent_answer, plan_answer, opening_answer, status_answer, making_answer, made_line}
use Rattle.wh_program.specs.Run.{GoesOut, out_of_memory}
use Rattle.wh_program.specs.Standing.{DatabaseContent, Nothing, Holds, Keeps, Is, Standing, Unknown, Rests, LeftAt, LeavesIt, left_standing, IsAt}

-- an answer, where there is memory for one
abbrev pub Shown : Type 0
Shown = Result Printed AllocError

-- what is printed of it
abbrev pub printed : Shown → Printed
printed (Ok a) = a
printed (Err e) = out_of_memory

-- an answer of this kind is printed, by how much of it goes out
abbrev pub PrintsAnswer : (answers : (cut : Option ℕ) → Shown → Type 0) → Option (List ℕ) → Option (List ℕ) → ℕ → Type 0
PrintsAnswer answers old new code = (cut : Option ℕ) × (shown : Shown) × answers cut shown × GoesOut cut old new code (printed shown)

-- ---- a warehouse that is opened

-- What is left of a warehouse with these commands that wasn't opened.
abbrev pub LeavesUnopened : Limits → List Accepted → OpenFault → Standing → Type 0
LeavesUnopened limits commands opening.Memory after = after ≡ Rests (Holds limits commands)
LeavesUnopened limits commands (opening.Store cause) after = after ≡ LeftAt (Holds limits commands) (Holds limits commands)
LeavesUnopened limits commands _ after = ⊥

pub record IsUnopened (limits : Limits) (commands : List Accepted) (shown : Shown) (after : Standing) : Type 0 where
  pub why : OpenFault
  pub leaves : LeavesUnopened limits commands why after
  pub tells : IfOk shown (λ a. a ≡ opening_answer why)

-- What is left of what anybody wrote, where no warehouse was opened.
abbrev pub LeavesUnread : DatabaseContent → OpenFault → Standing → Type 0
LeavesUnread content (opening.Store cause) after = after ≡ LeftAt content content
LeavesUnread content why after = after ≡ Rests content

-- They say no warehouse that is opened, and just that is printed.
pub record IsUnread (stored : Stored) (shown : Shown) (after : Standing) : Type 0 where
  pub why : OpenFault
  pub unopened : UnopenedBy stored why
  pub leaves : LeavesUnread (Keeps stored) why after
  pub tells : IfOk shown (λ a. a ≡ opening_answer why)

-- A database is no warehouse that is opened, and just that is printed.
pub record IsUnreadFile (content : DatabaseContent) (shown : Shown) (after : Standing) : Type 0 where
  pub why : OpenFault
  pub leaves : LeavesUnread content why after
  pub tells : IfOk shown (λ a. a ≡ opening_answer why)

-- They say a format that is read, limits, and a policy in force.
pub record IsOpenedBy (stored : Stored) : Type 0 where
  pub session : Session
  pub says : SessionIs stored session

-- What opens what stands and does this to a warehouse: where there is none, that is the answer, and nothing changed. Over rows that anybody wrote it says
-- whether they are opened; over them, and in a database of any schema, what is done then.
abbrev pub Opens : (Limits → List Accepted → Shown → Standing → Type 0) → (DatabaseContent → Shown → Standing → Type 0) → DatabaseContent → Shown → Standing → Type 0
Opens does over Nothing shown after = (after ≡ Rests Nothing) × IfOk shown (λ a. a ≡ opening_answer opening.NotAWarehouse)
Opens does over (Holds limits commands) shown after = does limits commands shown after ⊎ IsUnopened limits commands shown after
Opens does over (Keeps stored) shown after = (IsOpenedBy stored × over (Keeps stored) shown after) ⊎ IsUnread stored shown after
Opens does over (Is db) shown after = over (Is db) shown after ⊎ IsUnreadFile (Is db) shown after

-- What only looks leaves it, whatever it is.
abbrev pub LooksAt : DatabaseContent → Shown → Standing → Type 0
LooksAt content shown after = LeavesIt content after

-- What opens what stands and looks at it.
abbrev pub Shows : (Limits → List Accepted → Shown → Standing → Type 0) → DatabaseContent → Shown → Standing → Type 0
Shows does = Opens does LooksAt

-- ---- load, migrate and upgrade

-- What a command leaves of a warehouse with these commands, by what the engine replied: the definition's answer is due, and it leads to the list with the command.
abbrev pub LeavesReplied : Limits → List Accepted → Command → Result Reply Fault → Standing → Type 0
LeavesReplied limits commands c reply after = Outcome (λ due. answer limits commands c ≡ due) commands (accepted_after limits commands c) reply (λ left. after ≡ left_standing limits left)

-- The engine replied to the command, and just that is printed: the line of memory only where it replied so, and kept nothing.
pub record IsReplied (c : Command) (limits : Limits) (commands : List Accepted) (shown : Shown) (after : Standing) : Type 0 where
  pub reply : Result Reply Fault
  pub leaves : LeavesReplied limits commands c reply after
  pub tells : printed shown ≡ sent_answer c.id reply

-- Where nothing was accepted, and the database refused no call, all is as it was; else nothing is said.
abbrev pub LeavesRefused : DatabaseContent → Result Reply Fault → Standing → Type 0
LeavesRefused content (Ok (replies.Accepted receipt)) after = after ≡ Unknown
LeavesRefused content (Ok (replies.Already receipt)) after = after ≡ Rests content
LeavesRefused content (Err (fault.Store cause)) after = after ≡ Unknown
LeavesRefused content (Err why) after = after ≡ Rests content

-- Of rows that anybody wrote the table that is blamed stores a damaged one, and only an undamaged one is taken for the receipt of a command that came before.
abbrev pub IsTrueOf : DatabaseContent → Command → Result Reply Fault → Type 0
IsTrueOf (Keeps stored) c reply = BlamesDamage stored reply × IsAgain stored c reply
IsTrueOf content c reply = ⊤

-- So it is of what stood, and that stands still where nothing was kept.
abbrev pub RepliesOver : State → State → Command → Result Reply Fault → Type 0
RepliesOver old new c reply = HasCleanDisk new → (content : DatabaseContent) → IsAt content old → (KeepsNothing reply → IsAt content new) × IsTrueOf content c reply

-- The engine replied to the command over what anybody wrote, and just that is printed.
pub record IsRepliedOver (c : Command) (content : DatabaseContent) (shown : Shown) (after : Standing) : Type 0 where
  pub reply : Result Reply Fault
  pub leaves : LeavesRefused content reply after
  pub is_true : IsTrueOf content c reply
  pub tells : printed shown ≡ sent_answer c.id reply

-- What opens what stands and sends it the command.
abbrev pub SendsTo : Command → DatabaseContent → Shown → Standing → Type 0
SendsTo c = Opens (IsReplied c) (IsRepliedOver c)

-- ---- plan

-- What a plan of a command leaves of a warehouse with these commands, by what the engine foretold: the plan is the one that is due, and nothing changes.
abbrev pub LeavesForetold : Limits → List Accepted → Command → Result Edits Fault → Standing → Type 0
LeavesForetold limits commands c edits after = Outcome (IsPlanOf limits commands c) commands commands edits (λ left. after ≡ left_standing limits left)

-- the engine foretold what the command would write
pub record IsForetold (c : Command) (limits : Limits) (commands : List Accepted) (shown : Shown) (after : Standing) : Type 0 where
  pub edits : Result Edits Fault
  pub leaves : LeavesForetold limits commands c edits after
  pub tells : IfOk shown (λ a. a ≡ plan_answer edits)

-- ---- status

-- What a count leaves of a warehouse with these commands: it is theirs, and nothing changes.
abbrev pub LeavesCounted : Limits → List Accepted → Result Counts Fault → Standing → Type 0
LeavesCounted limits commands counts after = Outcome (λ due. due ≡ Ok (counts_of commands)) commands commands counts (λ left. after ≡ left_standing limits left)

pub record IsCounted (limits : Limits) (commands : List Accepted) (shown : Shown) (after : Standing) : Type 0 where
  pub counts : Result Counts Fault
  pub leaves : LeavesCounted limits commands counts after
  pub tells : IfOk shown (λ a. a ≡ status_answer counts)

-- ---- init

-- the warehouse was made
pub record IsMade (bytes : List ℕ) (shown : Shown) (after : Standing) : Type 0 where
  pub policy : Policy
  pub reads : read_policy bytes ≡ Ok policy
  pub then_is : after ≡ Rests (Holds greatest_limits (init_of policy bytes ∷ []))
  pub tells : shown ≡ Ok (done made_line)

-- What is left where no warehouse was made in a database with no object in it.
abbrev pub LeavesUnmade : List ℕ → InitFault → Standing → Type 0
LeavesUnmade bytes (making.Store cause) after = (policy : Policy) × (read_policy bytes ≡ Ok policy) × (after ≡ LeftAt Nothing (Holds greatest_limits (init_of policy bytes ∷ [])))
LeavesUnmade bytes why after = IsNotMade bytes false why × (after ≡ Rests Nothing)

pub record IsUnmade (bytes : List ℕ) (shown : Shown) (after : Standing) : Type 0 where
  pub why : InitFault
  pub leaves : LeavesUnmade bytes why after
  pub tells : printed shown ≡ making_answer why

-- the tables of a warehouse are there, so none is made, and nothing changed
pub record IsNotEmpty (bytes : List ℕ) (content : DatabaseContent) (shown : Shown) (after : Standing) : Type 0 where
  pub why : InitFault
  pub refused : IsNotMade bytes true why
  pub same : after ≡ Rests content
  pub tells : printed shown ≡ making_answer why

-- a making in what stands; in a database of another schema it is said where a name of the tables is taken
abbrev pub Makes : List ℕ → DatabaseContent → Shown → Standing → Type 0
Makes bytes Nothing shown after = IsMade bytes shown after ⊎ IsUnmade bytes shown after
Makes bytes (Is db) shown after = ((is_any_taken db.schema ≡ false) × (after ≡ Unknown)) ⊎ IsNotEmpty bytes (Is db) shown after
Makes bytes content shown after = IsNotEmpty bytes content shown after

-- ---- a word

-- it was tried: it did this, and that stands now
pub record IsTried (stands : Standing → Type 0) (does : Shown → Standing → Type 0) (shown : Shown) : Type 0 where
  pub after : Standing
  pub then_stands : stands after
  pub did : does shown after

-- the command whose bytes a file holds, as far as it is read, if the file is there; an upgrade has none, and needs no file
abbrev pub IsCommandOf : Files → CommandKind → (id path : List ℕ) → Option Command → Type 0
IsCommandOf holds kind id path None = as_input kind holds path None
IsCommandOf holds kind id path (Some c) = (bytes : List ℕ) × as_input kind holds path (Some bytes) × (c ≡ record { id = id; kind = kind; bytes = bytes })

-- with the bytes of its input
pub record IsTriedWith (holds : Files) (stands : Standing → Type 0) (does : List ℕ → Shown → Standing → Type 0) (path : List ℕ) (shown : Shown) : Type 0 where
  pub bytes : List ℕ
  pub held : holds path (Some bytes)
  pub tried : IsTried stands (does bytes) shown

-- the host refuses the warehouse's name, and its line is the answer
abbrev pub IsRefused : Refusals → (file : List ℕ) → Printed → Type 0
IsRefused refuses file answer = refuses file × (answer ≡ failed (no_file_line file))

-- its input isn't there, or the host refuses the warehouse's name, or memory ran out before; nothing changed
pub record IsNotTried (holds : Files) (refuses : Refusals) (stands : Standing → Type 0) (content : DatabaseContent) (file path : List ℕ) (shown : Shown) : Type 0 where
  pub same : stands (Rests content)
  pub tells : IfOk shown (λ a. (holds path None × (a ≡ failed (no_file_line path))) ⊎ IsRefused refuses file a)

-- a word with no input: the host refuses the warehouse's name, or memory ran out before; nothing changed
pub record IsNotConnected (refuses : Refusals) (stands : Standing → Type 0) (content : DatabaseContent) (file : List ℕ) (shown : Shown) : Type 0 where
  pub same : stands (Rests content)
  pub tells : IfOk shown (IsRefused refuses file)

-- what a word with an input answers and leaves
abbrev pub AnswersWith : Files → Refusals → (Standing → Type 0) → (List ℕ → DatabaseContent → Shown → Standing → Type 0) → DatabaseContent → (file path : List ℕ) → Shown → Type 0
AnswersWith holds refuses stands does content file path shown = IsTriedWith holds stands (λ bytes. does bytes content) path shown ⊎ IsNotTried holds refuses stands content file path shown

-- a load of the batch of a file, or a migration to its policy
abbrev pub Sends : CommandKind → (id bytes : List ℕ) → DatabaseContent → Shown → Standing → Type 0
Sends kind id bytes = SendsTo (record { id = id; kind = kind; bytes = bytes })

-- a plan of one
abbrev pub Plans : CommandKind → (id bytes : List ℕ) → DatabaseContent → Shown → Standing → Type 0
Plans kind id bytes = Shows (IsForetold (record { id = id; kind = kind; bytes = bytes }))

-- a word that works on what stands
abbrev pub AnswersWork : Refusals → (Standing → Type 0) → (DatabaseContent → Shown → Standing → Type 0) → DatabaseContent → (file : List ℕ) → Shown → Type 0
AnswersWork refuses stands does content file shown = IsTried stands (does content) shown ⊎ IsNotConnected refuses stands content file shown

-- a command that was sent to the warehouse in a file
abbrev pub AnswersCommand : Refusals → (Standing → Type 0) → DatabaseContent → (file : List ℕ) → Command → Shown → Type 0
AnswersCommand refuses stands content file c shown = AnswersWork refuses stands (SendsTo c) content file shown

-- an upgrade, which has no input
abbrev pub AnswersUpgrade : Refusals → (Standing → Type 0) → DatabaseContent → (file id : List ℕ) → Shown → Type 0
AnswersUpgrade refuses stands content file id shown = AnswersCommand refuses stands content file (record { id = id; kind = Upgrade; bytes = [] }) shown

-- a making under the policy of these bytes
abbrev pub AnswersMaking : Refusals → (Standing → Type 0) → DatabaseContent → (file bytes : List ℕ) → Shown → Type 0
AnswersMaking refuses stands content file bytes shown = IsTried stands (Makes bytes content) shown ⊎ IsNotConnected refuses stands content file shown

-- ---- a warehouse that can't be opened

-- nothing changed, and the answer is such a one, or memory ran out
abbrev pub AnswersShut : (same : Type 0) → (Printed → Type 0) → Shown → Type 0
AnswersShut same answers shown = same × IfOk shown answers

-- the same of an answer that is printed
abbrev pub PrintsShut : (same : Type 0) → (Printed → Type 0) → (Shown → Type 0) → Type 0
PrintsShut same answers prints = same × ((shown : Shown) × IfOk shown answers × prints shown)

-- the line of a file that can't be opened, or isn't there
abbrev pub IsNoFile : (file : List ℕ) → Printed → Type 0
IsNoFile file a = a ≡ failed (no_file_line file)

-- so of the warehouse's, or what is answered before it is opened
abbrev pub IsNoFileOr : (file : List ℕ) → (Printed → Type 0) → Printed → Type 0
IsNoFileOr file before a = IsNoFile file a ⊎ before a

-- an input isn't there
abbrev pub LacksFile : Files → (path : List ℕ) → Printed → Type 0
LacksFile holds path a = holds path None × IsNoFile path a

-- the policy isn't there, or is a bad one
abbrev pub LacksPolicy : Files → (path : List ℕ) → Printed → Type 0
LacksPolicy holds path a = LacksFile holds path a ⊎ ((bytes : List ℕ) × holds path (Some bytes) × ((fault : PolicyFault) × (read_policy bytes ≡ Err fault) × (a ≡ refused (policy_line fault))))

-- a bad policy has the line of its first fault as the answer, or memory ran out, and the host is the same as before
abbrev pub IsJudged : (same : Type 0) → Result Policy PolicyFault → Shown → Type 0
IsJudged same (Ok policy) shown = ⊤
IsJudged same (Err fault) shown = same × IfOk shown (λ a. a ≡ refused (policy_line fault))

-- The policy in a file is read and judged before anything is done, and so before the warehouse's name is: what is said of a good one stands elsewhere.
abbrev pub IsJudgedFirst : Files → (same : Type 0) → (path : List ℕ) → Shown → Type 0
IsJudgedFirst holds same path shown =
    ((bytes : List ℕ) × holds path (Some bytes) × IsJudged same (read_policy bytes) shown)
    ⊎ (same × IfOk shown (λ a. holds path None × (a ≡ failed (no_file_line path))))

abbrev pub AnswersStatus : Refusals → (Standing → Type 0) → DatabaseContent → (file : List ℕ) → Shown → Type 0
AnswersStatus refuses stands = AnswersWork refuses stands (Shows IsCounted)
