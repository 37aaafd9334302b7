use Rattle.std.proofs.Common.{◌≡◌, ◌∙◌, sym, subst, rules, arith}
use Rattle.wh_records.specs.Carried.{carried_between}
use Rattle.wh_records.specs.Filled.{IsFilled}
use Rattle.wh_records.proofs.FilledParts.{still_full}
use Rattle.wh_records.proofs.ReadMembers.{ranges_join}
use Rattle.wh_engine.proofs.carried.fill.Goals as goal
use Rattle.wh_sql.proofs.Sparing.{tables_again}
use Rattle.wh_sql.proofs.InTurn.{then_failed}

pub loop-after-init : goal.loop-after-init
loop-after-init g c = record {
  reads = search rules;
  upto = omega arith;
  filled = λ clean limits commands t are at admitted types attributes place is. is;
}

pub loop-after-preserved : goal.loop-after-preserved
loop-after-preserved g c =
    let kept = c.loop-after.invariant in
    let read = c.in_ok-fill_between.ensures in
    record {
      reads = search rules;
      upto = search rules;
      filled = λ clean limits commands t are at admitted types attributes place is.
          let before = read.reads.spares.clean clean in
          let still = tables_again kept.reads.spares before t at tt in
          read.filled clean limits commands t are still admitted types attributes place (kept.filled before limits commands t are at admitted types attributes place is);
    }

pub returns-then-is_full-clause-filled : goal.returns-then-is_full-clause-filled
returns-then-is_full-clause-filled g c clean limits commands t are at admitted types attributes place is =
    let kind = c.args.source.now.kind in
    let dim = c.args.source.now.dim in
    let kept = c.loop-after.invariant in
    let so_far = kept.filled clean limits commands t are at admitted types attributes place is in
    let full = still_full attributes place (carried_between kind dim commands 0 c.loop-after.after) (carried_between kind dim commands c.loop-after.after c.args.last) c.loop-after.filling so_far (sym c.is_full.ensures ∙ c.if-is_full.true) in
    subst (λ rs. IsFilled attributes place rs c.loop-after.filling) (sym (ranges_join dim commands kind 0 c.loop-after.after c.args.last (omega arith) kept.upto)) full

pub returns-clause-filled : goal.returns-clause-filled
returns-clause-filled g c clean limits commands t are at admitted types attributes place is =
    let past = c.loop-after-test.false in
    let within = c.loop-after.invariant.upto in
    let all : c.loop-after.after ≡ c.args.last = omega arith in
    subst (λ n. IsFilled attributes place (carried_between c.args.source.now.kind c.args.source.now.dim commands 0 n) c.loop-after.filling) all (c.loop-after.invariant.filled clean limits commands t are at admitted types attributes place is)

pub returns-in_err-fill_between-clause-reads : goal.returns-in_err-fill_between-clause-reads
returns-in_err-fill_between-clause-reads g c = then_failed c.loop-after.invariant.reads c.in_err-fill_between.ensures.reads c.from_residual.ensures
