use Rattle.wh_records.proofs.CarriedMembers.{members_are_carried}
use Rattle.wh_records.proofs.CarriedProfiles.{no_combination_comes_about}
use Rattle.wh_records.proofs.CarriedRows.{rows_are_carried}
use Rattle.wh_records.proofs.laws.members_are_carried.Goals as goal

pub returns-clause-says : goal.returns-clause-says
returns-clause-says c = members_are_carried

pub returns-clause-rows : goal.returns-clause-rows
returns-clause-rows c = rows_are_carried

pub returns-clause-profiles : goal.returns-clause-profiles
returns-clause-profiles c = no_combination_comes_about
