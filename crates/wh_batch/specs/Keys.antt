-- Keys that are kept in memory.
use Rattle.std.specs.Prelude.{◌≡◌, List, Result, Ok, Err}
use Rattle.std.specs.Bool.{⊤}
use Rattle.std.specs.List.{list_any}
use Rattle.wh_day.specs.declared.error.ParseError.{ParseError}
use Rattle.wh_day.specs.declared.error.ParseError.TheVariants as errors
use Rattle.wh_batch.specs.Batch.{Key, is_same_key}
use Rattle.wh_batch.specs.declared.keys.RecordKey.{RecordKey}

-- the bytes and the number of a key
abbrev pub key_of : RecordKey → Key
key_of key = record { text = key.text; number = key.number }

-- the same keys, in any order and any number of times
pub record AreSameKeys (keys others : List Key) : Type 0 where
  pub same : (key : Key) → list_any (is_same_key key) keys ≡ list_any (is_same_key key) others

-- this holds where memory didn't run out
abbrev pub UnlessMemory : {X F : Type 0} → Result X (ParseError F) → Type 0 → Type 0
UnlessMemory (Ok x) holds = holds
UnlessMemory (Err (errors.Fault f)) holds = holds
UnlessMemory (Err errors.Memory) holds = ⊤
