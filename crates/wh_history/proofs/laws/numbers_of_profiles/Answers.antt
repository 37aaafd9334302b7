use Rattle.wh_history.proofs.Knowing.{number_all, rows_known}
use Rattle.wh_history.proofs.laws.numbers_of_profiles.Goals as goal

pub returns : goal.returns
returns c = record { all = number_all; rows = rows_known }
