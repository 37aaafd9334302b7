-- Lists of entries, a record of CSV each.
use Rattle.std.specs.Prelude.{ℕ, ◌+◌, List, [], ◌∷◌, Option, Result, Ok, ok_or}
use Rattle.csv.specs.Reading.{records, default_config, strip_bom}
use Rattle.wh_day.specs.Reading.{◌>>=◌}
use Rattle.wh_batch.specs.Rows.{Table}
use Rattle.wh_batch.specs.declared.manifest.BadManifest.{BadManifest}

-- what the fields of a record write, if they write an entry
abbrev pub Writes : Type 0 → Type 0
Writes E = List (List ℕ) → Option E

-- the entries of the records, numbered from number
unfoldable pub entries_from : {E : Type 0} → Writes E → ℕ → Table → Result (List E) BadManifest
entries_from entry number [] = Ok []
entries_from entry number (fields ∷ rows) = do
  first ← ok_or (entry fields) (record { number = number })
  others ← entries_from entry (number + 1) rows
  Ok (first ∷ others)

-- the entries of a list, which has no header, in order, or the first record that is none
unfoldable pub list_of : {E : Type 0} → Writes E → List ℕ → Result (List E) BadManifest
list_of entry bytes = entries_from entry 1 (records default_config (strip_bom bytes))
