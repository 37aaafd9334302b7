use Rattle.std.proofs.Common.{◌≡◌, ◌∙◌, sym, ap, arith, pos, to_z, w64}
use Rattle.std.proofs.lemmas.Int.{to_z_pos}
use Rattle.wh_day.specs.Day.{day_of_key, day_of_number}
use Rattle.wh_engine.proofs.MadeCalendar.{one_day, no_day}
use Rattle.wh_engine.proofs.init.calendar_rows.Goals as goal
use Rattle.wh_engine.proofs.init.calendar_rows.Goals.{in-Some+in_ok-date_row+in_ok-push, in_default}

pub loop-number-preserved : goal.loop-number-preserved
loop-number-preserved c =
    let number = c.loop-number.number in
    let at = c.loop-number.invariant in
    let signed : to_z w64 number ≡ pos number = to_z_pos w64 number (omega arith) in
    let read : c.from_key.result ≡ day_of_number number = c.from_key.ensures ∙ ap day_of_key signed in
    elim c.match-from_key.branch [
      | in-Some+in_ok-date_row+in_ok-push w ↦ record {
        to = at.to;
        behind = omega (arith, at.behind);
        whole =
            rw (w.rows-is, w.in_ok-push.ensures.items)
            (one_day c.args.policy.now number _ w.in-Some.day c.loop-number.rows.items w.in_ok-date_row.field-0 at.behind at.to c.loop-number-test.true (sym read ∙ w.in-Some.is) w.in_ok-date_row.ensures at.whole);
      }
      | in_default w ↦ record {
        to = at.to;
        behind = omega (arith, at.behind);
        whole = rw w.rows-is (no_day c.args.policy.now number _ c.loop-number.rows.items c.loop-number-test.true (sym read ∙ w.in_default.is) at.whole);
      }
    ]
