use Rattle.std.proofs.Common.{◌≡◌, drop}
use Rattle.wh_day.proofs.Loops.{with_front}
use Rattle.wh_query.specs.Reading.{read_column, read_each}
use Rattle.wh_query.proofs.reading.read_columns.Given as goal

-- those so far, before what is still read, are all
abbrev pub invariant-columns : goal.invariant-columns
invariant-columns l = with_front l.shown.items (read_each (read_column l.policy l.from l.to) (drop l.words-index l.columns)) ≡ read_each (read_column l.policy l.from l.to) l.columns
