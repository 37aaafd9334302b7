-- What a lemma unfolds to compute this crate's definitions on a literal.
use Rattle.std.specs.Prelude.{⊤}
use Rattle.std.specs.Str.{is_utf8, chars}
use Rattle.jiff_core.specs.Calendar.{days_from_civil, day_count, days_of_years, days_of_months, weekday_number}
use Rattle.wh_day.specs.Calendar.{date_row}
use Rattle.wh_day.specs.Day.{is_day, read_day, day_before}
use Rattle.wh_day.specs.Value.{read_value, is_plain, none_text, unknown_text, no_card_text}
use lib.Utf8.{encode}

unfoldable pub day_on_literals : ⊤
unfolding is_utf8 chars encode days_from_civil day_count days_of_years days_of_months weekday_number date_row is_day read_day day_before read_value is_plain none_text unknown_text no_card_text
day_on_literals = tt
