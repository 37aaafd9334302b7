use Rattle.std.proofs.Common.{Ok, Err, refl, ap, ◌∙◌, rules, take, map}
use Rattle.std.proofs.lemmas.List.{take_all, take_more}
use Rattle.std.proofs.lemmas.Result.{err_from_is_err_and}
use Rattle.wh_report.proofs.EngineReading.{unread, and_then, answered, faulted}
use Rattle.wh_query.specs.Answered.{lead_in}
use Rattle.wh_query.proofs.Read.{led_more, stored_more}
use Rattle.wh_query.proofs.answer.led_columns.Goals as goal
use Rattle.wh_sql.proofs.Sparing.{stored_again, tables_again}

pub columns-init : goal.columns-init
columns-init g c = record {
  reads = unread _ _ tt;
  writes = refl;
  led = λ clean t at. search rules;
  stored = λ clean stored on. search rules;
}

pub columns-preserved : goal.columns-preserved
columns-preserved g c =
    let kept = c.columns.invariant in
    let read = c.in_ok-labels.ensures in
    record {
      reads = answered _ _ _ _ _ _ (and_then _ _ _ _ _ _ tt (Ok c.in_ok-labels.labels) kept.reads read.reads);
      writes = read.writes ∙ kept.writes;
      led = λ clean t at.
          let before = read.reads.spares.clean clean in
          led_more t c.columns.leds.items c.push_led.new.leds.items (take c.columns.column-index c.args.columns.now) _ _ c.in_ok-labels.labels c.in_ok-push_led.ensures (take_more c.args.columns.now c.columns.column-index _ c.columns-test.true) (kept.led before t at) (read.labels clean t (tables_again kept.reads.spares before t at tt));
      stored = λ clean stored on.
          let before = read.reads.spares.clean clean in
          stored_more stored c.columns.leds.items c.push_led.new.leds.items (take c.columns.column-index c.args.columns.now) _ _ c.in_ok-labels.labels c.in_ok-push_led.ensures (take_more c.args.columns.now c.columns.column-index _ c.columns-test.true) (kept.stored before stored on) (read.stored clean stored (stored_again kept.reads.spares before stored on tt));
    }

pub returns-in_err-labels-clause-reads : goal.returns-in_err-labels-clause-reads
returns-in_err-labels-clause-reads g c =
    let p = err_from_is_err_and c.from_residual.result c.from_residual.ensures.1 in
    rw (p.1, p.2) (faulted _ _ _ _ _ (and_then _ _ _ _ _ _ tt (Err c.in_err-labels.field-0.0) c.columns.invariant.reads c.in_err-labels.ensures.reads))

pub returns-clause-led : goal.returns-clause-led
returns-clause-led g c clean t at = c.columns.invariant.led clean t at ∙ ap (map (lead_in t)) (take_all c.columns.column-index c.args.columns.now c.columns-test.false)
