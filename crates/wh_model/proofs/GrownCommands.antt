-- The command table grows by the new command.
use Rattle.std.proofs.Common.{◌≡◌, ℕ, ◌-◌, ◌<◌, ◌≤◌, List, [], ◌∷◌, ◌++◌, length, Some, None, refl, ◌∙◌, ap, arith}
use Rattle.std.specs.Prelude.{option_map}
use Rattle.std.proofs.lemmas.List.{take-append-le}
use Rattle.wh_history.specs.Keys.{at_place}
use Rattle.wh_history.specs.Accepted.{Accepted, Content, Governs, Describes, Sells, Upgrades, Withdraws, placeholders_by, records_by}
use Rattle.wh_history.specs.Tables.{command_row}
use Rattle.wh_history.specs.Tables as history
use Rattle.wh_rows.specs.declared.rows.CommandRow.{CommandRow}
use Rattle.wh_rows.specs.Rows as row
use Rattle.wh_model.specs.Defined.{command_at}
use Rattle.wh_model.proofs.Growing.{Grows}
use Rattle.wh_model.proofs.GrownKeys.{at_front, at_past, map_same, keyed_map, grows_behind}

pub command_keyed : (commands : List Accepted) (k : ℕ) (v : CommandRow) → command_at commands k ≡ Some v → row.command.key v ≡ k
command_keyed commands k v is = keyed_map row.command.key k (λ (c : history.CommandRow). record { number = k; id = c.id; kind = c.kind; bytes = c.bytes; records = c.records; placeholders = c.placeholders }) (λ _. refl) (command_row commands k) v is

-- what the row of a command says, among these commands and under this number
abbrev pub row_with : List Accepted → ℕ → Accepted → history.CommandRow
row_with list n d = record { id = d.id; kind = d.kind; bytes = d.bytes; records = records_by d.content; placeholders = placeholders_by list n d.content }

-- the row under its number
abbrev pub placed : ℕ → history.CommandRow → CommandRow
placed n r = record { number = n; id = r.id; kind = r.kind; bytes = r.bytes; records = r.records; placeholders = r.placeholders }

module _ (commands : List Accepted) (c : Accepted) where
  abbrev after : List Accepted
  after = commands ++ c ∷ []

  -- what commands first mentioned does not change after them
  placeholders_stay : (n : ℕ) (content : Content) → n ≤ length commands → placeholders_by after n content ≡ placeholders_by commands n content
  placeholders_stay n (Governs policy) h = refl
  placeholders_stay n (Describes dim records) h = refl
  placeholders_stay n Upgrades h = refl
  placeholders_stay n (Withdraws lines) h = refl
  placeholders_stay n (Sells sales) h =
      let here = take-append-le n commands (c ∷ []) h in
      let before = take-append-le (n - 1) commands (c ∷ []) (omega arith) in
      rw (here, before) refl

  row_stays : (n : ℕ) → n ≤ length commands → command_row after n ≡ command_row commands n
  row_stays n h =
      ap (option_map (row_with after n)) (at_front n commands (c ∷ []) h)
      ∙ map_same (row_with after n) (row_with commands n) (at_place n commands) (λ d _. rw (placeholders_stay n d.content h) refl)

  pub none_past : (list : List Accepted) (n : ℕ) → length list < n → command_at list n ≡ None
  none_past list n h = ap (λ o. option_map (placed n) (option_map (row_with list n) o)) (at_past n list h)

  -- the rows of the older commands stay
  pub command_grows : (n : ℕ) → Grows (λ n. n) (length commands) (length after) (command_at commands) (command_at after) n
  command_grows n = grows_behind (λ n. n) (length commands) (length after) (command_at commands) (command_at after) n
      (λ front. ap (option_map (placed n)) (row_stays n front)) (none_past commands n) (none_past after n)
