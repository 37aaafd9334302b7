use Rattle.std.proofs.Common.{◌≡◌, drop}
use Rattle.wh_query.specs.Asked.{holds_from, holds, words_of}
use Rattle.wh_query.proofs.asked.holds.Given as goal

-- those so far held, and what is left decides
abbrev pub invariant-conditions : goal.invariant-conditions
invariant-conditions l = holds_from l.conditions (drop l.at l.conditions) (words_of (drop l.at l.labels)) ≡ holds l.conditions (words_of l.labels)
