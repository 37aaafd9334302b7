use Rattle.std.proofs.Common.{◌++◌, ◌∷◌, [], length, sym, ◌∙◌, ap, subst}
use Rattle.std.specs.Prelude.{filter_map}
use Rattle.wh_history.specs.Accepted.{records_by}
use Rattle.wh_history.specs.Plan.{row_of}
use Rattle.wh_history.specs.Shapes.{shape_of}
use Rattle.wh_model.specs.Defined.{change_at, fact_at}
use Rattle.wh_plan.specs.BatchRows.{BatchRows, numbers_after, AreBatchRows}
use Rattle.wh_plan.proofs.OneDimension.{members_told, all_planned}
use Rattle.wh_plan.proofs.PlanEdits.{own_number}
use Rattle.wh_plan.proofs.records.record_plan.rows_of_batch.Goals as goal

pub returns : goal.returns
returns c commands sent is typed days days_after at planned =
    let records = c.args.records.now in
    let dim = c.args.dimension.now.dim in
    let after = commands ++ sent ∷ [] in
    let command = c.args.command in
    let number = own_number commands sent command at in
    let plan = c.in_ok-edits.ensures (shape_of c.args.dimension.now) commands sent records is typed days days_after planned.touched (λ key. ap (row_of key) c.deref.ensures.value ∙ planned.found.rows_read key) in
    let others : BatchRows = record {
      command = command;
      members = c.in_ok-members.members.items;
      changes = c.in_ok-changes.changes.items;
      profiles = c.args.planned.profiles.items;
      facts = c.in_ok-facts.facts.items;
      products = c.new.result.items;
      stores = c.new-2.result.items;
      customers = c.new-3.result.items;
    } in
    subst (AreBatchRows commands sent) (sym c.set_rows.ensures) (record {
      command = at;
      members = c.in_ok-members.ensures.planned commands sent records is planned.members_after planned.found.members_drawn ∙ sym (members_told dim commands sent records is);
      changes = c.in_ok-changes.ensures.planned commands sent is planned.members_after number
          ∙ ap (λ k. filter_map (λ n. change_at after (record { command = k; place = n })) (numbers_after 0 (length records))) number
          ∙ sym (ap (λ content. filter_map (λ n. change_at after (record { command = length after; place = n })) (numbers_after 0 (records_by content))) is);
      rows = all_planned dim commands sent records is typed.policy typed.governed typed.sound others c.in_ok-edits.edits.items c.new.ensures.items c.new-2.ensures.items c.new-3.ensures.items plan;
      profiles = planned.profiles;
      facts = c.in_ok-facts.ensures (fact_at commands) (fact_at after) planned.facts planned.rekeyed;
    })
