-- The entries of a manifest.
use Rattle.std.proofs.Common.{◌≡◌, ℕ, List, [], ◌∷◌, Some, None, refl}
use Rattle.std.specs.Prelude.{if◌then◌else◌}
use Rattle.std.specs.Str.{is_utf8}
use Rattle.wh_batch.specs.declared.kind.CommandKind.{CommandKind}
use Rattle.wh_batch.specs.BatchKind.{command_kind_of_word}
use Rattle.wh_batch.specs.Manifest.{entry_of}
use Rattle.wh_batch.proofs.EntryLemmas.{field-text}

-- three texts, of which the first is the word of a kind
pub entry-three : (word id path word_text id_text path_text : List ℕ) (kind : CommandKind)
    → Some word_text ≡ (if is_utf8 word then Some word else None) → Some id_text ≡ (if is_utf8 id then Some id else None) → Some path_text ≡ (if is_utf8 path then Some path else None)
    → Some kind ≡ command_kind_of_word word_text
    → Some (record { kind = kind; id = id_text; path = path_text }) ≡ entry_of (word ∷ id ∷ path ∷ [])
unfolding entry_of
entry-three word id path word_text id_text path_text kind of_word of_id of_path of_kind =
    let w = field-text (is_utf8 word) word word_text of_word in
    let i = field-text (is_utf8 id) id id_text of_id in
    let p = field-text (is_utf8 path) path path_text of_path in
    rw (w.0, i.0, p.0, ← w.1, ← i.1, ← p.1, ← of_kind) refl
