-- What the views show of attributes, beside what reports read.
use Rattle.std.specs.Prelude.{◌≡◌, ℕ, ◌+◌, List, [], ◌∷◌, ◌++◌, codes, MatchOption}
use Rattle.std.specs.Fmt.{decimal}
use Rattle.wh_policy.specs.Words.{dim_word}
use Rattle.wh_policy.specs.declared.attribute.Attribute.{Attribute}
use Rattle.wh_policy.specs.declared.attribute.Dim.{Dim}
use Rattle.wh_batch.specs.declared.mode.Mode.{Mode}
use Rattle.wh_batch.specs.declared.mode.Mode.TheVariants.{Was, Is, Prior}
use Rattle.wh_report.specs.Joined.{column_of}
use Rattle.wh_report.specs.Subject.{reading_of}
use Rattle.wh_report.specs.declared.column.LabelColumn.{LabelColumn}
use Rattle.wh_report.specs.declared.column.LabelColumn.TheVariants as label
use Rattle.wh_report.specs.declared.subject.Subject.{Subject}
use Rattle.wh_report.specs.declared.subject.Subject.TheVariants as subject
use Rattle.wh_explain.specs.Views.{attribute_name, mode_columns}

-- the attribute in a place of a dimension, from 0, as reports are asked for it
abbrev pub subject_at : Dim → (place : ℕ) → Attribute → Subject
subject_at dim place attribute = subject.Attribute (record { dim = dim; place = place; kind = attribute.kind })

-- the column in which a report finds labels, in the views' SQL, whichever row it stands in
abbrev pub label_text : LabelColumn → List ℕ
label_text (label.Main dim place) = dim_word dim ++ codes ".a" ++ decimal (place + 1)
label_text (label.Second dim place) = dim_word dim ++ codes ".b" ++ decimal (place + 1)
label_text (label.CurrentMain dim place) = dim_word dim ++ codes ".a" ++ decimal (place + 1)
label_text (label.FactProfile place) = codes "profile.v" ++ decimal (place + 1)
label_text (label.CurrentProfile place) = codes "profile.v" ++ decimal (place + 1)
label_text label.CalendarMonth = codes "substr(calendar.iso, 1, 7)"
label_text label.CalendarHoliday = codes "calendar.holiday"

-- what a mode's column of an attribute is called
abbrev pub name_in : Mode → Dim → (name : List ℕ) → List ℕ
name_in Was dim name = attribute_name [] dim name
name_in Is dim name = attribute_name [] dim name
name_in Prior dim name = attribute_name (codes "prior_") dim name

-- For a mode the views have a column of an attribute just where reports have the reading, and it shows the column that these read.
abbrev pub ShowsWhatReportsRead : Mode → Dim → (place : ℕ) → Attribute → Type 0
ShowsWhatReportsRead mode dim place attribute =
    MatchOption (reading_of (subject_at dim place attribute) mode)
    (mode_columns mode dim (place + 1) attribute ≡ [])
    (λ reading. mode_columns mode dim (place + 1) attribute ≡ record { shows = label_text (column_of (subject_at dim place attribute) reading); name = name_in mode dim attribute.name } ∷ [])

abbrev pub ViewsShowWhatReportsRead : Type 0
ViewsShowWhatReportsRead = (mode : Mode) (dim : Dim) (place : ℕ) (attribute : Attribute) → ShowsWhatReportsRead mode dim place attribute
