use Rattle.std.proofs.Common.{◌≡◌, drop}
use Rattle.wh_day.proofs.Loops.{with_front}
use Rattle.wh_query.specs.Reading.{read_condition, read_each}
use Rattle.wh_query.proofs.reading.read_conditions.Given as goal

-- those so far, before what is still read, are all
abbrev pub invariant-conditions : goal.invariant-conditions
invariant-conditions l = with_front l.held.items (read_each (read_condition l.policy l.from l.to) (drop l.words-index l.conditions)) ≡ read_each (read_condition l.policy l.from l.to) l.conditions
