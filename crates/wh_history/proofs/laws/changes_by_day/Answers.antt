use Rattle.wh_history.proofs.DatedLists.{dated_lists_are_exact, changes_in_force}
use Rattle.wh_history.proofs.laws.changes_by_day.Goals as goal

pub returns : goal.returns
returns c = record { dated = dated_lists_are_exact; in_force = changes_in_force }
