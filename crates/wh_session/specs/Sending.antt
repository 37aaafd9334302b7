-- Lines of a session that send what a manifest lists.
use Rattle.std.specs.Prelude.{◌≡◌, ℕ, List, [], ◌∷◌, ◌++◌, codes, flat_map, true, None, Result}
use Rattle.std.specs.List.{AllZip, zip}
use Rattle.wh_admission.specs.declared.command.Command.{Command}
use Rattle.wh_admission.specs.declared.command.Refusal.{Refusal}
use Rattle.wh_admission.specs.declared.command.Reply.{Reply}
use Rattle.wh_batch.specs.BatchKind.{kind_word}
use Rattle.wh_batch.specs.declared.kind.CommandKind.{CommandKind}
use Rattle.wh_batch.specs.declared.kind.CommandKind.TheVariants.{Batch, Migration, Upgrade}
use Rattle.wh_batch.specs.declared.manifest.ManifestEntry.{ManifestEntry}
use Rattle.wh_program.specs.Answer.{status_code}
use Rattle.wh_program.specs.Delivery.{answered_line, delivery_status}
use Rattle.wh_words.specs.CommandLine.{is_operand}
use Rattle.wh_words.specs.Line.{Words, meaning_of}
use Rattle.wh_session.specs.Session.{status_line}

-- the words that send an input of a kind to the session's warehouse
abbrev pub sending_words : CommandKind → (id path : List ℕ) → List (List ℕ)
sending_words (Batch kind) id path = codes "load" ∷ kind_word kind ∷ id ∷ path ∷ []
sending_words Migration id path = codes "migrate" ∷ id ∷ path ∷ []
sending_words Upgrade id path = codes "upgrade" ∷ id ∷ []

-- the line sends what an entry of a manifest names, whose id and path begin with no hyphen
pub record IsSending (line : List ℕ) (e : ManifestEntry) : Type 0 where
  pub says : meaning_of line ≡ Words (sending_words e.kind e.id e.path)
  pub id_plain : is_operand e.id ≡ true
  pub path_plain : is_operand e.path ≡ true

-- each of these lines sends an entry
abbrev pub AreSending : List (List ℕ) → List ManifestEntry → Type 0
AreSending lines entries = AllZip IsSending lines entries

-- what is printed of an answer, with the line of its status
abbrev pub sent_text : Command → Result Reply Refusal → List ℕ
sent_text c answer = answered_line c.id answer ++ status_line (status_code (delivery_status (answer ∷ []) None))

-- so of commands that have these answers
abbrev pub sent_texts : List Command → List (Result Reply Refusal) → List ℕ
sent_texts sent answers = flat_map (λ (p : Command × Result Reply Refusal). sent_text p.0 p.1) (zip sent answers)
