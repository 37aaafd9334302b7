use Rattle.wh_history.proofs.ShownTypes.{rows_show_their_types, rows_name_the_newest_profile}
use Rattle.wh_history.proofs.laws.rows_show_their_types.Goals as goal

pub returns-clause-attributes : goal.returns-clause-attributes
returns-clause-attributes c = rows_show_their_types

pub returns-clause-profile : goal.returns-clause-profile
returns-clause-profile c = rows_name_the_newest_profile
