use Rattle.std.proofs.Common.{Bool, [], sym, subst, ◌∙◌}
use Rattle.std.specs.Prelude.{if◌then◌else◌}
use Rattle.std.specs.FinMap.{get}
use Rattle.wh_sql.specs.Answers.{state_of}
use Rattle.wh_store.proofs.Absent.{none_typed}
use Rattle.wh_admission.specs.Checked.{AreRowsAt}
use Rattle.wh_checking.proofs.ListedMaps.{none_listed}
use Rattle.wh_checking.proofs.compare.holds_the_same.Goals as goal

pub returns-then-not-is_in-clause-same : goal.returns-then-not-is_in-clause-same
returns-then-not-is_in-clause-same g c clean stored at has t there rest =
    let layout = g.T.StoredTable.layout in
    let rows = g.T.StoredTable.rows in
    let name = g.T.KeyedTable.name in
    let absent = sym (rw c.table.ensures at c.is_in.ensures) ∙ c.if-not-is_in.true in
    let none = none_typed layout rows g.T.StoredTable.with_rows name g.met.T.KeyedTable.means.placed (state_of g.M.Store c.args.expected.now) t rest.1 (there ∙ absent) in
    subst (λ (is : Bool). AreRowsAt layout (get (rows t)) (if is then stored.rows name else [])) (sym absent) (none_listed layout (rows t) none)
