-- A manifest: the commands of a delivery, each with the file that it is in.
use Rattle.std.specs.Prelude.{ℕ, ◌&&◌, if◌then◌else◌, List, [], ◌∷◌, Option, None, option_map, Result}
use Rattle.std.specs.Str.{is_utf8}
use Rattle.wh_batch.specs.Entries.{list_of}
use Rattle.wh_batch.specs.BatchKind.{command_kind_of_word}
use Rattle.wh_batch.specs.declared.manifest.ManifestEntry.{ManifestEntry}
use Rattle.wh_batch.specs.declared.manifest.BadManifest.{BadManifest}

-- the word of a kind, an id and a path, each a text
unfoldable pub entry_of : List (List ℕ) → Option ManifestEntry
entry_of (word ∷ id ∷ path ∷ []) =
    if is_utf8 word && is_utf8 id && is_utf8 path then option_map (λ kind. record { kind = kind; id = id; path = path }) (command_kind_of_word word) else None
entry_of _ = None

-- the commands of a manifest, in order, or the first record that is none
abbrev pub manifest_of : List ℕ → Result (List ManifestEntry) BadManifest
manifest_of bytes = list_of entry_of bytes
