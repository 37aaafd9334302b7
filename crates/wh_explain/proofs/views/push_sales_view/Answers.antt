use Rattle.std.specs.Prelude.{◌++◌}
use Rattle.wh_explain.specs.Views.{all_dimension_columns, day_columns, discounts, figures, first_column, joins, sales_view, sales_with_days, view_head, view_name, view_source}
use Rattle.wh_explain.proofs.ViewParts.{in_parts}
use Rattle.wh_explain.proofs.views.push_sales_view.Goals as goal

pub returns : goal.returns
unfolding sales_view
returns c =
    let view = c.args.view in
    let format = c.args.format in
    rw (c.in_ok-push_source.ensures, c.joins.ensures, c.in_ok-push_discounts.ensures, c.in_ok-push_figures.ensures, c.in_ok-push_dimensions.ensures, c.in_ok-push_days.ensures, c.in_ok-push_sales_head.ensures)
    (in_parts c.args.text.now.items (view_head (view_name view)) (view_source (sales_with_days format ++ joins view)) first_column day_columns (all_dimension_columns view c.args.policy.now) figures (discounts format))
