use Rattle.std.proofs.Common.{◌+◌, ap, refl}
use Rattle.jiff_core.proofs.CalendarLemmas.{weekday_number-add}
use Rattle.wh_day.proofs.Days.{parts, follows}
use Rattle.wh_day.proofs.OnLiterals.{day_on_literals}
use Rattle.wh_day.proofs.laws.weekdays_follow.Goals as goal

pub returns-clause-first : goal.returns-clause-first
unfolding day_on_literals
returns-clause-first c = refl

pub returns-clause-next : goal.returns-clause-next
returns-clause-next c = λ day is later. ap (λ w. w + 1) (weekday_number-add _ _ 1 (follows day (parts day is) later).counted)
