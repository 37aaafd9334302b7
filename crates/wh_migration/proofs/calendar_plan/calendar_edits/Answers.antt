use Rattle.std.proofs.Common.{◌∙◌, sym, subst}
use Rattle.wh_rows.specs.Rows as row
use Rattle.wh_model.specs.Defined.{day_at}
use Rattle.wh_plan.specs.Edits.{IsTablePlan}
use Rattle.wh_migration.specs.Migration.{edit_on}
use Rattle.wh_migration.proofs.NumberedPlans.{one_made, none_made, all_made}
use Rattle.wh_migration.proofs.PlanCalendar.{calendar_plan}
use Rattle.wh_migration.proofs.calendar_plan.calendar_edits.Goals as goal
use Rattle.wh_migration.proofs.calendar_plan.calendar_edits.Goals.{in-Some+in_ok-push, in_default}

pub loop-number-preserved : goal.loop-number-preserved
loop-number-preserved c =
    let make = edit_on c.args.older.now c.args.newer.now in
    let number = c.loop-number.number in
    let at = c.loop-number.invariant in
    elim c.match-branch-2.branch [
      | in-Some+in_ok-push w ↦ record {
        to = at.to;
        whole = rw (w.edits-is, w.in_ok-push.ensures.items) (one_made make number _ c.loop-number.edits.items w.in-Some.edit _ c.loop-number-test.true (sym c.in_ok-edit.ensures ∙ w.in-Some.is) at.whole);
      }
      | in_default w ↦ record { to = at.to; whole = rw w.edits-is (none_made make number _ c.loop-number.edits.items _ c.loop-number-test.true (sym c.in_ok-edit.ensures ∙ w.in_default.is) at.whole) }
    ]

pub returns : goal.returns
returns c fit =
    let all = all_made (edit_on c.args.older.now c.args.newer.now) c.loop-number.number _ c.loop-number.edits.items _ c.loop-number-test.false c.loop-number.invariant.whole in
    subst (IsTablePlan row.calendar (day_at c.args.older.now) (day_at c.args.newer.now)) (sym all) (calendar_plan c.args.older.now c.args.newer.now fit)
