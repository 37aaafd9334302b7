use Rattle.std.proofs.Common.{◌∙◌, ap, map}
use Rattle.sqlite.specs.Values.{bound}
use Rattle.wh_report.specs.Dump.{value_field}
use Rattle.wh_report.proofs.Parts.{on_ok}
use Rattle.wh_report.proofs.fields.put_row.Goals as goal

pub returns-in-Ok : goal.returns-in-Ok
returns-in-Ok g c = on_ok c.put_values.result (λ has. has.are ∙ ap (λ vs. map value_field (bound vs)) c.deref.ensures.value ∙ ap (map value_field) c.in-Ok.ensures.ok) c.put_values.ensures
