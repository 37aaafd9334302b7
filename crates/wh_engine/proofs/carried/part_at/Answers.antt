use Rattle.std.proofs.Common.{sym, ◌∙◌, subst}
use Rattle.wh_policy.specs.Policy.{policy_attributes}
use Rattle.wh_records.specs.Carried.{records_of}
use Rattle.wh_records.specs.Filled.{IsFilled}
use Rattle.wh_records.specs.Parts.{IsPartAt}
use Rattle.wh_records.proofs.FilledParts.{first_part, dated_part}
use Rattle.wh_engine.proofs.carried.part_at.Goals as goal
use Rattle.wh_sql.proofs.Sparing.{tables_again}
use Rattle.wh_sql.proofs.InTurn.{then_failed}

pub returns-then-is_begun-clause-part : goal.returns-then-is_begun-clause-part
returns-then-is_begun-clause-part g c clean limits commands t are at admitted same =
    let filled = c.in_ok-firsts.ensures.filled clean limits commands t are at admitted same in
    subst (IsPartAt c.args.policy.now commands c.args.dim c.args.place) (sym c.into_part.ensures)
    (first_part c.args.policy.now commands c.args.dim c.args.place c.in_ok-firsts.firsts filled (sym c.is_begun.ensures ∙ c.if-is_begun.true))

pub returns-clause-part : goal.returns-clause-part
returns-clause-part g c clean limits commands t are at admitted same =
    let before = c.in_ok-dated.ensures.reads.spares.clean clean in
    let firsts = c.in_ok-firsts.ensures.filled before limits commands t are at admitted same in
    let still = tables_again c.in_ok-firsts.ensures.reads.spares before t at tt in
    let dated = c.in_ok-dated.ensures.filled clean limits commands t are still admitted same in
    subst (IsPartAt c.args.policy.now commands c.args.dim c.args.place) (sym c.into_part-2.ensures)
    (dated_part c.args.policy.now commands c.args.dim c.args.place c.in_ok-firsts.firsts firsts c.in_ok-dated.dated (sym c.is_begun.ensures ∙ c.if-is_begun.false)
    (subst (λ n. IsFilled (policy_attributes c.args.policy.now c.args.dim) n (records_of c.args.dim commands) c.in_ok-dated.dated) c.before-2.ensures dated))

pub returns-in_err-dated-clause-reads : goal.returns-in_err-dated-clause-reads
returns-in_err-dated-clause-reads g c = then_failed c.in_ok-firsts.ensures.reads c.in_err-dated.ensures.reads c.from_residual-in_err-dated.ensures
