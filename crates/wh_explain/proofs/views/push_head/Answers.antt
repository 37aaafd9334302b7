use Rattle.std.specs.Prelude.{codes}
use Rattle.wh_explain.specs.Views.{view_head}
use Rattle.wh_explain.proofs.ViewParts.{three}
use Rattle.wh_explain.proofs.views.push_head.Goals as goal

pub returns : goal.returns
unfolding view_head
returns c = rw (c.in_ok-extend_from_slice-3.ensures.items, c.in_ok-extend_from_slice-2.ensures.items, c.as_bytes.ensures.value, c.in_ok-extend_from_slice.ensures.items)
    (three c.args.text.now.items (codes "CREATE TEMP VIEW ") c.args.name.now (codes " AS\nSELECT\n    "))
