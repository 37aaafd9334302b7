use Rattle.std.specs.Prelude.{◌++◌, codes}
use Rattle.wh_explain.specs.Views.{list_text, month_columns, month_view, sales_with_days, view_head, view_source}
use Rattle.wh_explain.proofs.ViewParts.{three}
use Rattle.wh_explain.proofs.views.push_month_view.Goals as goal

pub returns : goal.returns
unfolding month_view
returns c = rw (c.in_ok-push_source.ensures, c.in_ok-push_months.ensures, c.in_ok-push_head.ensures)
    (three c.args.text.now.items (view_head (codes "sales_by_month")) (list_text month_columns) (view_source (sales_with_days c.args.format ++ codes "\nGROUP BY substr(calendar.iso, 1, 7)")))
