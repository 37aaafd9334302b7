use Rattle.std.proofs.Common.{Bor, List, ℕ, map, rules, arith, subst}
use Rattle.sqlite.specs.Held.{state}
use Rattle.wh_sql.specs.Present.{IsMaking}
use Rattle.wh_rows.specs.AtRest.{IsCauseOf}
use Rattle.wh_sql.specs.Refused.{IsOneRefused, bare}
use Rattle.wh_sql.proofs.Creating.{next_extends, nothing_left, is_among}
use Rattle.wh_sql.proofs.schema.create_all.Goals as goal

pub returns-then-is_autocommit-clause-left : goal.returns-then-is_autocommit-clause-left
returns-then-is_autocommit-clause-left g c clean before least rows from to leads at = at.left

pub returns-in_err-create_one-clause-left : goal.returns-in_err-create_one-clause-left
returns-in_err-create_one-clause-left g c clean before least rows from to leads at =
    let here = c.loop-text.invariant.making (c.create_one.ensures.clean clean) before least rows from to leads at in
    let next = next_extends (λ text. text.now) c.args.texts.now c.loop-text.text-index _ least here.0 to c.loop-text-test.true here.1 in
    c.create_one.ensures.left clean before least rows here.0 next.0 next.1 here.2

pub loop-text-preserved : goal.loop-text-preserved
loop-text-preserved g c = record {
  clean = λ clean. c.loop-text.invariant.clean (c.create_one.ensures.clean clean);
  counts = omega (arith, c.loop-text.invariant.counts, c.in_ok-create_one.ensures.counts);
  making = λ clean before least rows from to leads at.
      let here = c.loop-text.invariant.making (c.create_one.ensures.clean clean) before least rows from to leads at in
      let next = next_extends (λ text. text.now) c.args.texts.now c.loop-text.text-index _ least here.0 to c.loop-text-test.true here.1 in
      (next.0, next.3, c.in_ok-create_one.ensures.made clean before least rows here.0 next.0 next.1 next.2 here.2);
}

pub returns-in_err-create_one-clause-cause : goal.returns-in_err-create_one-clause-cause
returns-in_err-create_one-clause-cause g c clean inside =
    let one : IsOneRefused g.S.Store IsCauseOf (bare (map (λ (text : Bor (List ℕ)). text.now) c.args.texts.now)) c.args.conn.now c.create_one.new.conn c.in_err-create_one.field-0.0 = record {
      statement = _;
      among = is_among (λ text. text.now) c.args.texts.now c.loop-text.text-index _ c.loop-text-test.true;
      before = c.loop-text.conn;
      since = c.loop-text.invariant.counts;
      refused = c.in_err-create_one.ensures.cause clean;
    } in
    search rules

pub returns-clause-made : goal.returns-clause-made
returns-clause-made g c clean before least rows from to leads at =
    let here = c.loop-text.invariant.making clean before least rows from to leads at in
    let last = nothing_left (λ (text : Bor (List ℕ)). text.now) c.args.texts.now c.loop-text.text-index least here.0 to (omega (arith, c.loop-text-test.false)) here.1 in
    (subst (λ schema. IsMaking before least rows schema (state g.S.Store c.loop-text.conn)) last here.2)

pub returns-clause-left : goal.returns-clause-left
returns-clause-left g c clean before least rows from to leads at = (c.loop-text.invariant.making clean before least rows from to leads at).2.left
