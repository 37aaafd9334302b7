use Rattle.std.proofs.Common.{Some, refl}
use Rattle.std.specs.Prelude.{option_map}
use Rattle.wh_report.specs.Labels.{entry, date_text}
use Rattle.wh_report.proofs.Entries.{with_row}
use Rattle.wh_report.proofs.labels.Labels.add_date.Goals as goal

pub returns : goal.returns
returns c = λ days are.
    with_row (λ d. entry (Some d.date_key) (date_text c.args.column d)) days c.args.row.now (Some c.from.result) (option_map (λ t. t.now) c.as_ref.result) _ _ (rw (c.from.ensures, c.key.ensures.value, c.as_ref.ensures.value, c.in_ok-text.ensures) refl) (c.put_entry.ensures _ are)
