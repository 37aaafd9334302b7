-- The reports of a list.
use Rattle.std.proofs.Common.{◌≡◌, ℕ, List, [], ◌∷◌, Some, None, refl}
use Rattle.std.specs.Prelude.{if◌then◌else◌}
use Rattle.std.specs.Str.{is_utf8}
use Rattle.wh_batch.specs.ReportList.{listed_report}
use Rattle.wh_batch.proofs.EntryLemmas.{field-text}

-- four texts
pub report-four : (attribute mode from to attribute_text mode_text from_text to_text : List ℕ)
    → Some attribute_text ≡ (if is_utf8 attribute then Some attribute else None) → Some mode_text ≡ (if is_utf8 mode then Some mode else None)
    → Some from_text ≡ (if is_utf8 from then Some from else None) → Some to_text ≡ (if is_utf8 to then Some to else None)
    → Some (record { attribute = attribute_text; mode = mode_text; from = from_text; to = to_text }) ≡ listed_report (attribute ∷ mode ∷ from ∷ to ∷ [])
unfolding listed_report
report-four attribute mode from to attribute_text mode_text from_text to_text of_attribute of_mode of_from of_to =
    let a = field-text (is_utf8 attribute) attribute attribute_text of_attribute in
    let m = field-text (is_utf8 mode) mode mode_text of_mode in
    let f = field-text (is_utf8 from) from from_text of_from in
    let t = field-text (is_utf8 to) to to_text of_to in
    rw (a.0, m.0, f.0, t.0, ← a.1, ← m.1, ← f.1, ← t.1) refl
