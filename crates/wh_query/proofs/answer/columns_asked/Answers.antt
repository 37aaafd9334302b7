use Rattle.std.proofs.Common.{◌++◌, ◌∷◌, [], sym, ◌∙◌, ap, ap₂, take}
use Rattle.std.specs.Option.{option_to_list}
use Rattle.std.proofs.lemmas.List.{take_more}
use Rattle.wh_query.proofs.Read.{asked_more}
use Rattle.wh_query.proofs.answer.columns_asked.Goals as goal

pub columns-preserved : goal.columns-preserved
columns-preserved c =
    let done = take c.columns.column-index c.args.columns.now in
    c.in_ok-push_some.ensures ∙ ap₂ (λ a b. a ++ option_to_list b) c.columns.invariant c.column_asked.ensures
    ∙ sym (asked_more c.args.policy.now done _ c.column-item.result (take_more c.args.columns.now c.columns.column-index c.column-item.result c.columns-test.true ∙ ap (λ x. done ++ x ∷ []) (sym c.column-item.is)))
