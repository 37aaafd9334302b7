-- A list of reports, each as it is asked for.
use Rattle.std.specs.Prelude.{ℕ, ◌&&◌, if◌then◌else◌, List, [], ◌∷◌, Option, Some, None, Result}
use Rattle.std.specs.Str.{is_utf8}
use Rattle.wh_batch.specs.Entries.{list_of}
use Rattle.wh_batch.specs.declared.manifest.BadManifest.{BadManifest}
use Rattle.wh_batch.specs.declared.report_list.ListedReport.{ListedReport}

-- an attribute, a mode, a first day and a last one, each any text
unfoldable pub listed_report : List (List ℕ) → Option ListedReport
listed_report (attribute ∷ mode ∷ from ∷ to ∷ []) =
    if is_utf8 attribute && is_utf8 mode && is_utf8 from && is_utf8 to then Some (record { attribute = attribute; mode = mode; from = from; to = to }) else None
listed_report _ = None

-- the reports of a list, in order, or the first record that is none
abbrev pub reports_of : List ℕ → Result (List ListedReport) BadManifest
reports_of bytes = list_of listed_report bytes
