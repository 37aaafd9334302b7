-- What the views show of attributes, by mode and type.
use Rattle.std.proofs.Common.{refl, ℕ, List}
use Rattle.wh_policy.specs.declared.attribute.AttributeType.{AttributeType}
use Rattle.wh_policy.specs.declared.attribute.AttributeType.TheVariants.{RetainOriginal}
use Rattle.wh_batch.specs.declared.mode.Mode.{Mode}
use Rattle.wh_batch.specs.declared.mode.Mode.TheVariants.{Was, Is, Prior}
use Rattle.wh_program.specs.ViewsBesideReports.{ShowsWhatReportsRead, ViewsShowWhatReportsRead}

-- the first type tells the others apart
pub views_show_what_reports_read : ViewsShowWhatReportsRead
views_show_what_reports_read mode dim place attribute = by mode attribute.name attribute.kind
  where
    by : (mode : Mode) (name : List ℕ) (kind : AttributeType) → ShowsWhatReportsRead mode dim place (record { name = name; kind = kind })
    by Was name RetainOriginal = refl
    by Is name RetainOriginal = refl
    by Prior name RetainOriginal = refl
    by mode name kind = refl
