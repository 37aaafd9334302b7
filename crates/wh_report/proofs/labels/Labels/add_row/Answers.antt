use Rattle.std.proofs.Common.{refl}
use Rattle.wh_report.specs.Labels.{labels_get, entry, row_key, row_text}
use Rattle.wh_report.proofs.Entries.{with_row}
use Rattle.wh_report.proofs.labels.Labels.add_row.Goals as goal

pub returns : goal.returns
returns c = λ rows are.
    with_row (λ r. entry (row_key c.args.column r) (row_text c.args.column (labels_get c.args.profiles.now) r)) rows c.args.row.now _ _ _ _ (rw (c.row_key.ensures, c.row_text.ensures) refl) (c.put_entry.ensures _ are)
