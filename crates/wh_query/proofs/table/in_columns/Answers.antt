use Rattle.std.proofs.Common.{◌∙◌, ap, ap₂, ◌++◌, map, sym, arith}
use Rattle.std.specs.Prelude.{flat_map}
use Rattle.std.proofs.lemmas.List.{take_all}
use Rattle.wh_query.specs.Table.{in_column}
use Rattle.wh_query.proofs.Columns.{all_behind}
use Rattle.wh_query.proofs.table.in_columns.Goals as goal

pub returns : goal.returns
returns g c =
    c.in_ok-push_str.ensures.bytes ∙ ap₂ ◌++◌ c.others.invariant c.as_str-2.ensures
    ∙ ap (λ xs. flat_map in_column (map g.S.AsStr.text xs) ++ g.S.AsStr.text c.in-Some.last.now) (take_all c.others.text-index c.in-Some.others.now (omega (arith, c.others-test.false)))
    ∙ sym (all_behind g.S.AsStr.text c.args.texts.now c.in-Some.others.now c.in-Some.last.now c.in-Some.ensures.cases.0)
