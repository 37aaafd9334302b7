-- Reports of a file that carries the members of another.
use Rattle.std.specs.Prelude.{◌≡◌, ℕ, List, ◌++◌}
use Rattle.wh_policy.specs.declared.record.SaleRecord.{SaleRecord}
use Rattle.wh_history.specs.Accepted.{Accepted}
use Rattle.wh_history.specs.Tables.{Limits}
use Rattle.wh_admission.specs.Admission.{AreAdmitted}
use Rattle.wh_records.specs.Laws.{Carries}
use Rattle.wh_report.specs.Asked.{Asked}
use Rattle.wh_report.specs.Label.{label, labelled, text_asked}
use Rattle.wh_report.specs.Laws.{Reads}
use Rattle.wh_batch.specs.declared.mode.Mode.{Mode}
use Rattle.wh_report.specs.declared.subject.Reading.{Reading}
use Rattle.wh_report.specs.declared.subject.Subject.{Subject}

-- Each sale, of either file or of none, has the same label in both, for each attribute and mode that has a reading.
abbrev pub LabelsAreCarried : Type 0
LabelsAreCarried = (limits : Limits) (commands next : List Accepted) (words : List ℕ) (mode : Mode) (subject : Subject) (which : Reading) (s : SaleRecord)
    → AreAdmitted limits commands
    → Carries commands next
    → Reads commands words mode subject which
    → label next subject which s ≡ label commands subject which s

-- So any sales come to the same report.
abbrev pub ReportsAreCarried : Type 0
ReportsAreCarried = (limits : Limits) (commands next : List Accepted) (words : List ℕ) (mode : Mode) (subject : Subject) (which : Reading) (r : Asked) (sales : List SaleRecord)
    → AreAdmitted limits commands
    → Carries commands next
    → Reads commands words mode subject which
    → text_asked r (labelled next subject which r sales) ≡ text_asked r (labelled commands subject which r sales)

-- And so it stays with whatever both files accept further: of each sale the next file has the label that the older one would have had, if that had gone on.
abbrev pub LabelsGoOn : Type 0
LabelsGoOn = (limits others : Limits) (commands next more : List Accepted) (words : List ℕ) (mode : Mode) (subject : Subject) (which : Reading) (s : SaleRecord)
    → AreAdmitted limits commands
    → Carries commands next
    → AreAdmitted others (next ++ more)
    → Reads commands words mode subject which
    → label (next ++ more) subject which s ≡ label (commands ++ more) subject which s

abbrev pub ReportsGoOn : Type 0
ReportsGoOn = (limits others : Limits) (commands next more : List Accepted) (words : List ℕ) (mode : Mode) (subject : Subject) (which : Reading) (r : Asked) (sales : List SaleRecord)
    → AreAdmitted limits commands
    → Carries commands next
    → AreAdmitted others (next ++ more)
    → Reads commands words mode subject which
    → text_asked r (labelled (next ++ more) subject which r sales) ≡ text_asked r (labelled (commands ++ more) subject which r sales)
