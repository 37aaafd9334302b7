use Rattle.std.proofs.Common.{List, ◌++◌, ◌∙◌, sym, ap, subst, arith}
use Rattle.wh_policy.specs.declared.record.DimensionRecord.{DimensionRecord}
use Rattle.wh_records.specs.Carried.{carried_between}
use Rattle.wh_records.specs.Filled.{IsFilled}
use Rattle.wh_records.proofs.ReadMembers.{ranges_join}
use Rattle.wh_engine.proofs.carried.fill_between.Goals as goal

pub returns-clause-filled : goal.returns-clause-filled
returns-clause-filled g c clean limits commands t are at admitted types attributes place so_far =
    let kind = c.args.source.now.kind in
    let dim = c.args.source.now.dim in
    let found = c.in_ok-found.ensures.records clean limits commands t are at admitted types in
    let before : List DimensionRecord = carried_between kind dim commands 0 c.args.after in
    let further = c.in_ok-add.ensures attributes place before so_far in
    subst (λ rs. IsFilled attributes place rs c.add.new.self)
    (ap (λ rs. before ++ rs) (c.deref.ensures.value ∙ found) ∙ sym (ranges_join dim commands kind 0 c.args.after c.args.last (omega arith) c.requires))
    further
