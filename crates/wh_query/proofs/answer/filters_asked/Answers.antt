use Rattle.std.proofs.Common.{◌++◌, ◌∷◌, [], sym, ◌∙◌, ap, ap₂, take}
use Rattle.std.specs.Option.{option_to_list}
use Rattle.std.proofs.lemmas.List.{take_more}
use Rattle.wh_report.specs.Reported.{column_asked}
use Rattle.wh_query.specs.Asked.{alone}
use Rattle.wh_query.proofs.Read.{conditions_more}
use Rattle.wh_query.proofs.answer.filters_asked.Goals as goal

pub conditions-preserved : goal.conditions-preserved
conditions-preserved c =
    let done = take c.conditions.condition-index c.args.conditions.now in
    c.in_ok-push_some.ensures ∙ ap₂ (λ a b. a ++ option_to_list b) c.conditions.invariant (c.column_asked.ensures ∙ ap (λ d. column_asked c.args.policy.now (alone d)) c.column.ensures)
    ∙ sym (conditions_more c.args.policy.now done _ c.condition-item.result (take_more c.args.conditions.now c.conditions.condition-index c.condition-item.result c.conditions-test.true ∙ ap (λ x. done ++ x ∷ []) (sym c.condition-item.is)))
