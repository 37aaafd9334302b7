use Rattle.std.proofs.Common.{◌≡◌, take}
use Rattle.wh_query.specs.Answered.{columns_asked}
use Rattle.wh_query.specs.Asked.{condition_columns}
use Rattle.wh_query.proofs.answer.filters_asked.Given as goal

-- those of the conditions so far
abbrev pub invariant-conditions : goal.invariant-conditions
invariant-conditions l = l.found.items ≡ columns_asked l.policy (condition_columns (take l.condition-index l.conditions))
