-- What a lemma unfolds to compute this crate's definitions on a literal.
use Rattle.std.specs.Prelude.{⊤}
use Rattle.std.specs.Str.{is_utf8, chars}
use Rattle.wh_day.specs.Day.{is_day}
use Rattle.wh_day.specs.Value.{read_value, is_plain, none_text, unknown_text, no_card_text}
use Rattle.wh_rows.specs.Types.{is_special, is_slot}
use Rattle.wh_rows.specs.Columns.{integer_of, number_of, discount_of, line_of, measure_of, day_of, flag_of, dim_of, blob_of, text_of, tested_of, slot_of, slots_of}
use Rattle.wh_rows.specs.Stored.{read_meta, read_command, read_member, read_change, read_dimension, read_profile, read_date, read_fact, read_fact2, read_void}
use Rattle.wh_rows.specs.KeyedSales.{key_in, keyed_of}
use lib.Utf8.{encode}

unfoldable pub rows_on_literals : ⊤
unfolding is_utf8 chars encode is_day read_value is_plain none_text unknown_text no_card_text is_special is_slot integer_of number_of discount_of line_of measure_of day_of flag_of dim_of blob_of text_of tested_of slot_of slots_of read_meta read_command read_member read_change read_dimension read_profile read_date read_fact read_fact2 read_void key_in keyed_of
rows_on_literals = tt
