use Rattle.std.proofs.Common.{◌≡◌, ◌++◌, ◌∷◌, [], ℕ, List, length, map, sym, ◌∙◌, ap, subst}
use Rattle.std.specs.Prelude.{filter_map}
use Rattle.std.specs.List.{AllByRecursion}
use Rattle.wh_policy.specs.declared.attribute.AttributeType.{AttributeType}
use Rattle.wh_history.specs.Accepted.{members, profiles_of, types_in}
use Rattle.wh_history.specs.Known.{number_in, KnowsEnough}
use Rattle.wh_history.specs.Profiles.{profile_number}
use Rattle.wh_history.specs.Shapes.{RenderedMember, shape_after, rendered_in, shown}
use Rattle.wh_history.specs.declared.dimension.RenderedRows.{RenderedRows}
use Rattle.wh_history.specs.declared.member.Member.{Member}
use Rattle.wh_history.specs.declared.plan.Edit.TheVariants.{Put}
use Rattle.wh_plan.specs.NewRows.{new_member}
use Rattle.wh_plan.specs.SoldMembers.{placeholder}
use Rattle.wh_plan.proofs.SaleBatches.SalesKeys.{keys_planned}
use Rattle.wh_plan.proofs.SaleBatches.SalesRows.{members_sold, placeholders_known, placeholders_sold, types_sold}
use Rattle.wh_plan.proofs.SaleBatches.Selling.{profiles_kept}
use Rattle.wh_plan.proofs.sales.sold_dimension.sold_dimension_of.Goals as goal

pub returns-clause-sold : goal.returns-clause-sold
returns-clause-sold c commands sent is typed enough before mentioned =
    let dimension = c.args.dimension.now in
    let dim = dimension.dim in
    let kinds = dimension.types.now in
    let sales = c.args.sales.now in
    let after = commands ++ sent ∷ [] in
    let ms = c.args.mentioned.now in
    let number = number_in dimension.profiles.now in
    let all = profile_number (profiles_of after) in
    let list = c.in_ok-rendered.ensures in
    let types : kinds ≡ types_in dim after = typed.are ∙ types_sold dim commands sent sales is typed.policy typed.governed in
    let enough_after = subst (λ (combinations : List (List (List ℕ))). AllByRecursion (KnowsEnough dim kinds number combinations) ms) (sym (profiles_kept commands sent sales is)) enough in
    let count = length (members dim commands) in
    record {
      keys = keys_planned dim kinds number ms sales (map shown c.deref.result.now) c.in_ok-keys_of_sales.field-0.items
          c.in_ok-keys_of_sales.ensures.keys (ap (λ (rs : List RenderedRows). map shown rs) c.deref.ensures.value ∙ list) after mentioned types enough_after;
      members = members_sold dim commands sent sales is c.in_ok-new_member_rows.field-0.items
          (c.in_ok-new_member_rows.ensures.rows ∙ ap (λ n. filter_map (new_member dim n) ms) before ∙ ap (filter_map (new_member dim count)) mentioned);
      rows = c.in_ok-placeholders.ensures
          ∙ ap (λ (rs : List RenderedRows). map Put (filter_map (placeholder c.args.members_before) (map shown rs))) c.deref-2.ensures.value
          ∙ ap (λ (rs : List RenderedMember). map Put (filter_map (placeholder c.args.members_before) rs)) list
          ∙ ap (map Put) (placeholders_known dim kinds number (profiles_of after) c.args.members_before ms enough_after)
          ∙ ap (λ (ks : List AttributeType). map Put (filter_map (placeholder c.args.members_before) (map (rendered_in (record { dim = dim; kinds = ks; number = all })) ms))) types
          ∙ ap (λ n. map Put (filter_map (placeholder n) (map (rendered_in (shape_after dim after)) ms))) before
          ∙ ap (λ (qs : List Member). map Put (filter_map (placeholder count) (map (rendered_in (shape_after dim after)) qs))) mentioned
          ∙ ap (map Put) (placeholders_sold dim commands sent sales is);
    }
