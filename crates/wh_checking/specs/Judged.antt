-- What a check says of whatever is stored.
use Rattle.std.specs.Prelude.{◌≡◌, Result, Ok, Err, ⊤}
use Rattle.wh_rows.specs.Raw.{Stored, HasDamageIn}
use Rattle.wh_sql.specs.declared.fault.ReadFault.{ReadFault}
use Rattle.wh_sql.specs.declared.fault.ReadFault.TheVariants.{Memory, Damaged, Store}
use Rattle.wh_admission.specs.Checked.{IsSoundStored, IsFirstWrong}
use Rattle.wh_checking.specs.declared.verdict.Verdict.{Verdict}
use Rattle.wh_checking.specs.declared.verdict.Verdict.TheVariants.{Clean, Wrong}

-- It is sound; or a table is the first that isn't as it should be, and none of its rows is damaged; or a table is the first, and stores a damaged row. Or
-- memory ran out, or the database refused a call.
abbrev pub IsJudged : Stored → Result Verdict ReadFault → Type 0
IsJudged stored (Ok Clean) = IsSoundStored stored
IsJudged stored (Ok (Wrong table)) = IsFirstWrong stored table × (¬ HasDamageIn stored table)
IsJudged stored (Err (Damaged table)) = IsFirstWrong stored table × HasDamageIn stored table
IsJudged stored (Err Memory) = ⊤
IsJudged stored (Err (Store cause)) = ⊤

-- it was judged, and not given up
abbrev pub IsDecided : Result Verdict ReadFault → Type 0
IsDecided (Ok verdict) = ⊤
IsDecided (Err (Damaged table)) = ⊤
IsDecided (Err Memory) = ⊥
IsDecided (Err (Store cause)) = ⊥

-- What is stored is judged in one way: so each answer comes exactly where it is due.
abbrev pub VerdictsAreOne : Type 0
VerdictsAreOne = (stored : Stored) (one other : Result Verdict ReadFault) → IsDecided one → IsDecided other → IsJudged stored one → IsJudged stored other → one ≡ other
