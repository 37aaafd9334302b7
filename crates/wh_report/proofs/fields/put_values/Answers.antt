use Rattle.std.proofs.Common.{◌∷◌, [], List, ◌∙◌, sym, ap, subst, map, take, get_or}
use Rattle.std.proofs.lemmas.List.{take_more, map-append}
use Rattle.sqlite.specs.Values.{bound, bound_value}
use Rattle.sqlite_value.specs.Value.{owned}
use Rattle.sqlite_value.specs.declared.value.ValueRef.{ValueRef}
use Rattle.sqlite_value.specs.declared.value.ValueRef.TheVariants as lent
use Rattle.wh_report.specs.Dump.{value_field}
use Rattle.wh_report.specs.Fields.{HasFields}
use Rattle.wh_report.proofs.fields.put_values.Goals as goal

pub loop-value-preserved : goal.loop-value-preserved
loop-value-preserved c =
    let values = c.args.values.now in
    let done = take c.loop-value.value-index values in
    let value = get_or values c.loop-value.value-index lent.Null in
    subst (HasFields c.push_value.new.fields)
    (sym (
    ap (λ (vs : List ValueRef). map value_field (bound vs)) (take_more values c.loop-value.value-index lent.Null c.loop-value-test.true)
    ∙ ap (map value_field) (map-append (λ (v : ValueRef). bound_value (owned v)) done (value ∷ []))
    ∙ map-append value_field (bound done) (bound (value ∷ []))
    ))
    (c.in_ok-push_value.ensures _ c.loop-value.invariant)
