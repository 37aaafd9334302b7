-- The last of the stored rows of an id is that of a command that came before.
use Rattle.std.proofs.Common.{◌≡◌, Bool, true, false, List, [], ◌∷◌, ◌++◌, map, Some, Ok, Err, refl, sym, ◌∙◌, inl, inr}
use Rattle.std.specs.Prelude.{ℕ, filter, bytes_eq, ◌&&◌, if◌then◌else◌}
use Rattle.std.specs.Cmp.Lexicographic.{slice_cmp}
use Rattle.std.specs.List.{list_all}
use Rattle.std.specs.Ordering.{eq_by_cmp, nat_cmp}
use Rattle.std.proofs.lemmas.Bool.{and_parts}
use Rattle.std.proofs.lemmas.Slice.Eq.{bytes_eq-Decides}
use Rattle.sqlite.specs.Order.{Row}
use Rattle.sqlite_rules.specs.Lists.{Has}
use Rattle.sqlite_rules.proofs.ListLemmas.{has_filtered}
use Rattle.wh_batch.specs.BatchKind.{command_kind_word}
use Rattle.wh_rows.specs.Questions.{has_id}
use Rattle.wh_rows.specs.Raw.{Stored, IsLastOf}
use Rattle.wh_rows.specs.Rows as layout
use Rattle.wh_policy.specs.declared.format.Format.TheVariants.{One}
use Rattle.wh_rows.specs.declared.rows.CommandRow.{CommandRow}
use Rattle.wh_rows.specs.declared.table.Table.TheVariants as table
use Rattle.wh_model.proofs.FoundPlaces.{same_text_is}
use Rattle.wh_rows.proofs.EachTable.Commands.{of_id_stored}
use Rattle.wh_rows.proofs.Raw.{has_again}
use Rattle.wh_admission.specs.Admission.{kept_bytes, receipt_again}
use Rattle.wh_admission.specs.Repeated.{IsKept}
use Rattle.wh_admission.specs.declared.command.Command.{Command}
use Rattle.wh_admission.specs.declared.command.Receipt.{Receipt}
use Rattle.wh_admission.specs.declared.command.Refusal.TheVariants.{Reused}

pub last_valid : {V : Type 0} (p : V → Bool) (before : List V) (v : V) → list_all p (before ++ v ∷ []) ≡ true → p v ≡ true
last_valid p [] v all = (and_parts (p v) true all).0
last_valid p (b ∷ before) v all = last_valid p before v (and_parts (p b) (list_all p (before ++ v ∷ [])) all).1

has_last : {V : Type 0} (f : V → Row) (before : List V) (v : V) → Has (map f (before ++ v ∷ [])) (f v)
has_last f [] v = inl refl
has_last f (b ∷ before) v = inr (has_last f before v)

receipt_of_alike : (kind bytes : List ℕ) (c : Command) (kept receipt : Receipt) → receipt_again kind bytes c kept ≡ Ok receipt → (kind ≡ command_kind_word c.kind) × (bytes ≡ kept_bytes c.kind c.bytes) × (receipt ≡ kept)
receipt_of_alike kind bytes c kept receipt is = go (bytes_eq kind (command_kind_word c.kind)) (bytes_eq bytes (kept_bytes c.kind c.bytes)) refl refl is
  where
    go : (same_kind same_bytes : Bool) → bytes_eq kind (command_kind_word c.kind) ≡ same_kind → bytes_eq bytes (kept_bytes c.kind c.bytes) ≡ same_bytes → (if same_kind && same_bytes then Ok kept else Err Reused) ≡ Ok receipt
        → (kind ≡ command_kind_word c.kind) × (bytes ≡ kept_bytes c.kind c.bytes) × (receipt ≡ kept)
    go true true k b is = ((bytes_eq-Decides kind (command_kind_word c.kind)).0 k, (bytes_eq-Decides bytes (kept_bytes c.kind c.bytes)).0 b, cc)
    go true false k b is = absurd cc
    go false same_bytes k b is = absurd cc

pub last_is_kept : (stored : Stored) (c : Command) (row : CommandRow) (receipt : Receipt) → IsLastOf layout.command (filter (has_id c.id) (stored.rows table.Command)) (Some row)
    → receipt_again row.kind row.bytes c (record { number = row.number; records = row.records; placeholders = row.placeholders }) ≡ Ok receipt → IsKept stored c receipt
last_is_kept stored c row receipt last is =
    let rows = stored.rows table.Command in
    let there : Has (filter (has_id c.id) rows) (layout.command.encode row) = has_again _ _ (layout.command.encode row) last.1.same (has_last layout.command.encode last.0 row) in
    let from = has_filtered (has_id c.id) rows (layout.command.encode row) there in
    let reading = of_id_stored One c.id in
    let tested : eq_by_cmp (slice_cmp nat_cmp) c.id row.id ≡ true = sym (reading.reads.agree row) ∙ reading.tested (layout.command.encode row) ∙ from.1 in
    let alike = receipt_of_alike row.kind row.bytes c (record { number = row.number; records = row.records; placeholders = row.placeholders }) receipt is in
    record {
      row = row;
      valid = last_valid layout.command.is_valid last.0 row last.1.valid;
      stands = from.0;
      id = sym (same_text_is c.id row.id tested);
      kind = alike.0;
      bytes = alike.1;
      receipt_is = alike.2;
    }
