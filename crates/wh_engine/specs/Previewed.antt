-- What a kind and bytes would be answered now, whatever new id they were sent under.
use Rattle.std.specs.Prelude.{◌≡◌, ℕ, List, [], filter, Result, Ok, Err, ⊤}
use Rattle.sqlite.specs.State.{State}
use Rattle.wh_batch.specs.declared.kind.CommandKind.{CommandKind}
use Rattle.wh_history.specs.Accepted.{Accepted}
use Rattle.wh_history.specs.Tables.{Limits}
use Rattle.wh_rows.specs.Questions.{has_id}
use Rattle.wh_rows.specs.Raw.{AreRows, Stored}
use Rattle.wh_rows.specs.Rows as layout
use Rattle.wh_rows.specs.declared.table.Table.TheVariants as table
use Rattle.wh_admission.specs.Admission.{answer, accepted_after}
use Rattle.wh_admission.specs.Answers.{IsNew}
use Rattle.wh_admission.specs.declared.command.Command.{Command}
use Rattle.wh_admission.specs.declared.command.Refusal.{Refusal}
use Rattle.wh_admission.specs.declared.command.Reply.{Reply}
use Rattle.wh_admission.specs.declared.command.Reply.TheVariants.{Accepted as Accepts}
use Rattle.wh_plan.specs.Edits.{AreEdits}
use Rattle.wh_engine.specs.Answered.{IsLeft}
use Rattle.wh_engine.specs.Outcome.{Outcome}
use Rattle.wh_engine.specs.declared.fault.Fault.{Fault}
use Rattle.wh_engine.specs.declared.preview.Preview.{Preview}
use Rattle.wh_engine.specs.declared.session.Session.{Session}

-- the command of this kind and with these bytes under an id
abbrev pub named : CommandKind → (bytes id : List ℕ) → Command
named kind bytes id = record { id = id; kind = kind; bytes = bytes }

-- The answer is this under every new id: one that is good, and that no accepted command has. And there is such an id.
pub record IsAnsweredAnew (limits : Limits) (commands : List Accepted) (kind : CommandKind) (bytes : List ℕ) (said : Result Reply Refusal) : Type 0 where
  pub each : (id : List ℕ) → IsNew commands (named kind bytes id) → answer limits commands (named kind bytes id) ≡ said
  pub id : List ℕ
  pub new : IsNew commands (named kind bytes id)

-- The preview that is due: the receipt under every new id, and exactly the edits that the tables need to be those of the list after the command under one of them; or its refusal.
abbrev pub IsPreviewOf : Limits → List Accepted → CommandKind → List ℕ → Result Preview Refusal → Type 0
IsPreviewOf limits commands kind bytes (Ok preview) =
    (anew : IsAnsweredAnew limits commands kind bytes (Ok (Accepts preview.receipt))) × AreEdits commands (accepted_after limits commands (named kind bytes anew.id)) preview.edits
IsPreviewOf limits commands kind bytes (Err why) = IsAnsweredAnew limits commands kind bytes (Err why)

-- What a preview says, and what the work on it says: nothing changes.
abbrev pub IsPreviewed : Limits → List Accepted → CommandKind → List ℕ → Result Preview Fault → Session → State → Type 0
IsPreviewed limits commands kind bytes result session s = Outcome (IsPreviewOf limits commands kind bytes) commands commands result (IsLeft limits session s)

abbrev pub IsForeseenAnew : Limits → List Accepted → CommandKind → List ℕ → Result Preview Fault → Type 0
IsForeseenAnew limits commands kind bytes result = Outcome (IsPreviewOf limits commands kind bytes) commands commands result (λ left. ⊤)

-- no row with the id stands among the stored commands
abbrev pub HasNoCommandOf : Stored → List ℕ → Type 0
HasNoCommandOf stored id = AreRows layout.command (filter (has_id id) (stored.rows table.Command)) []
