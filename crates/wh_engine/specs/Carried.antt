-- What carried records are read from.
use Rattle.std.specs.Prelude.{◌≡◌, List}
use Rattle.wh_history.specs.Accepted.{Accepted, types_in}
use Rattle.wh_engine.specs.declared.carried.Source.{Source}

-- it has the types that the slots of its dimension have under the policy in force
abbrev pub IsSourceOf : List Accepted → Source → Type 0
IsSourceOf commands source = source.types.items ≡ types_in source.dim commands
