-- When rows of one key are the same.
use Rattle.std.specs.Prelude.{Bool}
use Rattle.wh_history.specs.Slots.{are_same}
use Rattle.wh_rows.specs.declared.rows.ProfileRow.{ProfileRow}

-- two profiles of one number are the same where their values are
abbrev pub same_values : ProfileRow → ProfileRow → Bool
same_values q r = are_same q.values r.values
