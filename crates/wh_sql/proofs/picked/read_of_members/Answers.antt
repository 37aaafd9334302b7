-- A row that is no fact of the members adds nothing.
use Rattle.std.proofs.Common.{◌≡◌, true, false, IfOk, sym, subst, ◌∙◌}
use Rattle.wh_rows.specs.Since.{is_of_members}
use Rattle.wh_sql.specs.Reads.{AreRead}
use Rattle.wh_sql.proofs.Picking.{one_picked, one_passed}
use Rattle.wh_sql.proofs.picked.read_of_members.Goals as goal

pub returns-then-is_of_members-clause-read : goal.returns-then-is_of_members-clause-read
returns-then-is_of_members-clause-read g c rows are =
    let pick = is_of_members (g.M.SomeMembers.among c.args.members.now) c.args.dim in
    let is : pick c.args.row.now ≡ true = sym c.is_of_members.ensures ∙ c.if-is_of_members.true in
    subst (λ l. IfOk c.read_on.result (AreRead g.T.StoredTable.layout l)) (sym (one_picked pick rows c.args.row.now is)) (c.read_on.ensures.read _ are)

pub returns-else-is_of_members-clause-read : goal.returns-else-is_of_members-clause-read
returns-else-is_of_members-clause-read g c rows are =
    let pick = is_of_members (g.M.SomeMembers.among c.args.members.now) c.args.dim in
    let is : pick c.args.row.now ≡ false = sym c.is_of_members.ensures ∙ c.if-is_of_members.false in
    subst (λ l. AreRead g.T.StoredTable.layout l c.args.read) (sym (one_passed pick rows c.args.row.now is)) are
