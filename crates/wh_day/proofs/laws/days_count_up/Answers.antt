use Rattle.std.proofs.Common.{◌∙◌, arith}
use Rattle.jiff_core.proofs.CalendarLemmas.{day_of_year-january}
use Rattle.wh_day.proofs.Days.{parts, follows}
use Rattle.wh_day.proofs.laws.days_count_up.Goals as goal

pub returns-clause-first : goal.returns-clause-first
returns-clause-first c = λ day is january first. day_of_year-january _ _ _ january ∙ first

pub returns-clause-next : goal.returns-clause-next
returns-clause-next c = λ day is within. (follows day (parts day is) (λ e. within (omega arith, omega arith))).in_year within
