use Rattle.wh_history.specs.Profiles.{profile_now}
use Rattle.wh_history.proofs.Spans.{each_day_has_one_row, one_row_is_current}
use Rattle.wh_history.proofs.laws.one_row_a_day.Goals as goal

pub returns-clause-days : goal.returns-clause-days
returns-clause-days c kinds combinations m days = each_day_has_one_row kinds (profile_now kinds combinations m) m days

pub returns-clause-current : goal.returns-clause-current
returns-clause-current c kinds combinations m days = one_row_is_current kinds (profile_now kinds combinations m) m days
