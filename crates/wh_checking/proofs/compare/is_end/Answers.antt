use Rattle.std.proofs.Common.{not, ap, subst, ◌∙◌}
use Rattle.wh_store.specs.Scan.{rows_left}
use Rattle.wh_checking.specs.Compared.{IsEnd}
use Rattle.wh_checking.proofs.Comparing.{handed_end}
use Rattle.wh_checking.proofs.compare.is_end.Goals as goal
use Rattle.wh_admission.proofs.StaysAccepted.{turned_twice}

pub returns-clause-end : goal.returns-clause-end
returns-clause-end g c t same at =
    let layout = g.T.StoredTable.layout in
    let rows = g.T.StoredTable.rows t in
    let left = rows_left layout rows c.args.ahead.now in
    subst (IsEnd left) (ap not c.is_none.ensures ∙ turned_twice c.is_none.result) (handed_end left (rows_left layout rows c.next_expected.new.ahead) c.in_ok-found.found (c.in_ok-found.ensures.row t same at))
