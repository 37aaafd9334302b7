use Rattle.std.proofs.Common.{Some, refl}
use Rattle.std.specs.Prelude.{option_map}
use Rattle.wh_report.specs.Labels.{entry, value_text}
use Rattle.wh_report.proofs.Entries.{with_row}
use Rattle.wh_report.proofs.labels.Labels.add_profile.Goals as goal

pub returns : goal.returns
returns c = λ profiles are.
    with_row (λ p. entry (Some p.number) (value_text c.args.column p.values)) profiles c.args.row.now (Some c.args.row.now.number) (option_map (λ t. t.now) c.value_text.result) _ _ (rw c.value_text.ensures refl) (c.put_entry.ensures _ are)
