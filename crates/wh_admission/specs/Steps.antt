-- Admission step by step: a list was admitted where each command comes after those before it.
use Rattle.std.specs.Prelude.{◌≡◌, ⊤, true, ℕ, suc, List, [], ◌∷◌, ◌++◌, length, find, Some, None, bytes_eq, Ok}
use Rattle.wh_policy.specs.Policy.{read_policy}
use Rattle.wh_policy.specs.declared.policy.Policy.{Policy}
use Rattle.wh_batch.specs.BatchKind.{command_kind_word}
use Rattle.wh_batch.specs.declared.kind.CommandKind.{CommandKind}
use Rattle.wh_history.specs.Accepted.{Accepted, format_of}
use Rattle.wh_history.specs.Tables.{Limits}
use Rattle.wh_model.specs.Defined.{command_at}
use Rattle.wh_rows.specs.Limits.{are_limits}
use Rattle.wh_rows.specs.declared.rows.CommandRow.{CommandRow}
use Rattle.wh_model.specs.Sound.{init_of}
use Rattle.wh_rows.specs.Types.{is_key}
use Rattle.wh_admission.specs.Admission.{current_policy, content_of, kept_bytes, number_for, AreAdmitted}

-- The command is one that is accepted after these: its id is good and new, it says what its kind and bytes give in the format and under the policy in force, it has no other bytes than are kept, and there is room for it.
pub record ComesAfter (limits : Limits) (before : List Accepted) (a : Accepted) : Type 0 where
  pub kind : CommandKind
  pub kind_is : a.kind ≡ command_kind_word kind
  pub good : is_key 40 a.id ≡ true
  pub new : find (λ (b : Accepted). bytes_eq b.id a.id) before ≡ None
  pub read : content_of kind (format_of before) (current_policy before) a.bytes ≡ Ok a.content
  pub kept : kept_bytes kind a.bytes ≡ a.bytes
  pub numbered : number_for limits before a.content ≡ Ok (suc (length before))

-- each comes after those before it
abbrev pub ComeAfter : Limits → List Accepted → List Accepted → Type 0
ComeAfter limits before [] = ⊤
ComeAfter limits before (a ∷ later) = ComesAfter limits before a × ComeAfter limits (before ++ a ∷ []) later

-- it begins with a making under the policy of its bytes, and each other command comes after those before it
pub record AreStepped (limits : Limits) (commands : List Accepted) : Type 0 where
  pub limited : are_limits limits ≡ true
  pub policy : Policy
  pub bytes : List ℕ
  pub written : read_policy bytes ≡ Ok policy
  pub later : List Accepted
  pub begins : commands ≡ init_of policy bytes ∷ later
  pub come : ComeAfter limits (init_of policy bytes ∷ []) later

-- That is what it is to have been admitted.
abbrev pub AdmittedIsStepped : Type 0
AdmittedIsStepped = (limits : Limits) (commands : List Accepted) → (AreAdmitted limits commands → AreStepped limits commands) × (AreStepped limits commands → AreAdmitted limits commands)

-- ---- the command table, row by row

-- no command yet, or a list that was admitted
abbrev pub IsBegunWith : Limits → List Accepted → Type 0
IsBegunWith limits [] = are_limits limits ≡ true
IsBegunWith limits (a ∷ commands) = AreAdmitted limits (a ∷ commands)

-- the command comes next, and this is its row
pub record IsNextRow (limits : Limits) (commands : List Accepted) (row : CommandRow) (a : Accepted) : Type 0 where
  pub admitted : AreAdmitted limits (commands ++ a ∷ [])
  pub row_is : command_at (commands ++ a ∷ []) (suc (length commands)) ≡ Some row
