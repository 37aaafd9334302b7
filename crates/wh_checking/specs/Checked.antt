-- What a check of a warehouse says of any stored rows.
use Rattle.std.specs.Prelude.{◌≡◌, List, Result, Ok, Err, ⊤}
use Rattle.sqlite.specs.State.{State}
use Rattle.wh_history.specs.Accepted.{Accepted}
use Rattle.wh_history.specs.Tables.{Limits}
use Rattle.wh_rows.specs.Raw.{Stored}
use Rattle.wh_sql.specs.declared.fault.ReadFault.TheVariants as reading
use Rattle.wh_checking.specs.Judged.{IsJudged}
use Rattle.wh_checking.specs.declared.verdict.Verdict.{Verdict}
use Rattle.wh_checking.specs.declared.verdict.Verdict.TheVariants.{Clean}
use Rattle.wh_engine.specs.Answered.{IsLeft}
use Rattle.wh_engine.specs.Outcome.{Outcome}
use Rattle.wh_engine.specs.declared.session.Session.{Session}
use Rattle.wh_engine.specs.declared.fault.Fault.{Fault}
use Rattle.wh_engine.specs.declared.fault.Fault.TheVariants.{Refused, Damaged, Memory, Store, Reopen}

-- the verdict is the one that is due, or the table is named as damaged that is due; or memory ran out, or the database refused a call. No other fault comes
-- of the work.
abbrev pub IsChecked : Stored → Result Verdict Fault → Type 0
IsChecked stored (Ok verdict) = IsJudged stored (Ok verdict)
IsChecked stored (Err (Refused why)) = ⊥
IsChecked stored (Err (Damaged table)) = IsJudged stored (Err (reading.Damaged table))
IsChecked stored (Err Memory) = ⊤
IsChecked stored (Err (Store cause)) = ⊤
IsChecked stored (Err Reopen) = ⊥

-- What a check says of a warehouse that has accepted these commands: it is clean, and nothing changes.
abbrev pub IsCheckedOf : Limits → List Accepted → Result Verdict Fault → Session → State → Type 0
IsCheckedOf limits commands result session s = Outcome (λ due. due ≡ Ok Clean) commands commands result (IsLeft limits session s)
