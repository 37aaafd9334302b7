-- Files and warehouses in memory, under their names.
use Rattle.std.specs.Prelude.{ℕ, List, Option, None, option_map, unwrap_or}
use Rattle.std.specs.Global.{Vec}
use Rattle.sqlite.specs.Held.{Held}
use Rattle.sqlite_trees.specs.declared.memory.MemStore.{MemStore}
use Rattle.wh_memory_host.specs.declared.named.NamedValue.{NamedValue}
use Rattle.wh_memory_host.specs.Named.{named}

-- the bytes of the file of a name
abbrev pub file_named : List (NamedValue (Vec ℕ)) → List ℕ → Option (List ℕ)
file_named files name = option_map (λ bytes. bytes.items) (named files name)

-- the connection that is kept at the place of a name
abbrev pub kept_named : List (NamedValue (Option (Held MemStore))) → List ℕ → Option (Held MemStore)
kept_named places name = unwrap_or (named places name) None
