-- Values under names.
use Rattle.std.specs.Prelude.{ℕ, List, [], ◌∷◌, Option, Some, None, if◌then◌else◌, bytes_eq}
use Rattle.std.specs.String.{string_bytes}
use Rattle.wh_memory_host.specs.declared.named.NamedValue.{NamedValue}

-- the first value of a name
abbrev pub named : {T : Type 0} → List (NamedValue T) → List ℕ → Option T
named [] name = None
named (item ∷ items) name = if bytes_eq (string_bytes item.name) name then Some item.value else named items name
