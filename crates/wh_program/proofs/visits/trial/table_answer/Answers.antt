use Rattle.std.proofs.Common.{◌∙◌, ap, List}
use Rattle.wh_history.specs.Tables.{dimension_table, trial_commands}
use Rattle.wh_policy.specs.declared.record.DimensionRecord.{DimensionRecord}
use Rattle.wh_program.specs.Answer.{done}
use Rattle.wh_report.specs.Dump.{dimension_text}
use Rattle.wh_program.proofs.visits.trial.table_answer.Goals as goal

pub returns-in_ok-table-in-Ok : goal.returns-in_ok-table-in-Ok
returns-in_ok-table-in-Ok c =
    let table = λ (records : List DimensionRecord). dimension_table (trial_commands c.args.policy.now c.args.dim records) c.args.dim in
    rw c.in-Ok.ensures
    (c.new.ensures ∙ ap done (c.in_ok-table-in-Ok.ensures ∙ ap dimension_text (c.deref.ensures.value ∙ c.in_ok-rows-in-Ok.ensures ∙ ap table c.as_slice.ensures)))
