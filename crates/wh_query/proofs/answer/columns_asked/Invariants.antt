use Rattle.std.proofs.Common.{◌≡◌, take}
use Rattle.wh_query.specs.Answered.{columns_asked}
use Rattle.wh_query.proofs.answer.columns_asked.Given as goal

-- those of the columns so far
abbrev pub invariant-columns : goal.invariant-columns
invariant-columns l = l.found.items ≡ columns_asked l.policy (take l.column-index l.columns)
