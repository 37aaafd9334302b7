-- The rows of withdrawn lines can be stored.
use Rattle.std.proofs.Common.{◌≡◌, ℕ, suc, ◌+◌, ◌≤◌, ◌==◌, ◌&&◌, ◌||◌, Bool, true, false, cond, List, [], ◌∷◌, length, Option, Some, None, refl, sym, ◌∙◌, ap, arith}
use Rattle.std.specs.Prelude.{bytes_eq, option_map, is_some}
use Rattle.std.specs.List.{AllByRecursion, list_any}
use Rattle.std.proofs.lemmas.Bool.{and_parts, eqb-true}
use Rattle.std.proofs.lemmas.Slice.Eq.{bytes_eq-Decides}
use Rattle.wh_policy.specs.declared.record.SaleRecord.{SaleRecord}
use Rattle.wh_policy.specs.declared.record.VoidRecord.{VoidRecord}
use Rattle.wh_history.specs.Accepted.{Accepted, sold, withdrawn, withdrawn_by, withdraws_line}
use Rattle.wh_history.specs.Tables.{Limits, withdrawn_from, void_row}
use Rattle.wh_history.proofs.Standing.{withdrawn_found}
use Rattle.wh_rows.specs.declared.key.LineKey.{LineKey}
use Rattle.wh_rows.specs.declared.rows.VoidRow.{VoidRow}
use Rattle.wh_rows.specs.Rows.{is_void}
use Rattle.wh_rows.specs.Types.{is_key, is_line, is_number}
use Rattle.wh_model.specs.Defined.{void_at}
use Rattle.wh_model.specs.Sound.{IsGoodSale, IsAccepted, is_sold_line}
use Rattle.wh_model.proofs.SmallNumbers.{is_small, commands_few}
use Rattle.wh_model.proofs.ValidTables.{made_of}

-- the number of a command of the list
within : (number : ℕ) (commands : List Accepted) (ticket : List ℕ) (line n : ℕ) → withdrawn_from number commands ticket line ≡ Some n → n ≤ number + length commands
within number [] ticket line n is = absurd cc
within number (c ∷ commands) ticket line n is =
    elim (withdraws_line ticket line (withdrawn_by c.content)) as (λ b. cond b (Some number) (withdrawn_from (suc number) commands ticket line) ≡ Some n → n ≤ number + suc (length commands)) [
      | true ↦ λ here. let same : number ≡ n = cc in omega (arith, same)
      | false ↦ λ later. let rest = within (suc number) commands ticket line n later in omega (arith, rest)
    ] is

-- a line that was sold is a sale's
of_sale : (ticket : List ℕ) (line : ℕ) (sales : List SaleRecord) → AllByRecursion IsGoodSale sales → list_any (λ s. bytes_eq s.ticket ticket && (s.line == line)) sales ≡ true → (is_key 20 ticket ≡ true) × (is_line line ≡ true)
of_sale ticket line [] good is = absurd cc
of_sale ticket line (s ∷ sales) good is =
    elim (bytes_eq s.ticket ticket && (s.line == line)) as (λ b. ((bytes_eq s.ticket ticket && (s.line == line)) ≡ b) → (b || list_any (λ s. bytes_eq s.ticket ticket && (s.line == line)) sales) ≡ true → (is_key 20 ticket ≡ true) × (is_line line ≡ true)) [
      | true ↦ λ here _.
          let (texts, numbers) = and_parts (bytes_eq s.ticket ticket) (s.line == line) here in
          (sym (ap (is_key 20) ((bytes_eq-Decides s.ticket ticket).0 texts)) ∙ good.0.ticket, sym (ap is_line (eqb-true s.line line numbers)) ∙ good.0.line)
      | false ↦ λ _ later. of_sale ticket line sales good.1 later
    ] refl is

of_void : (ticket : List ℕ) (line : ℕ) (sales : List SaleRecord) (voids : List VoidRecord) → AllByRecursion IsGoodSale sales → AllByRecursion (λ v. is_sold_line sales v ≡ true) voids → withdraws_line ticket line voids ≡ true → (is_key 20 ticket ≡ true) × (is_line line ≡ true)
of_void ticket line sales [] good all is = absurd cc
of_void ticket line sales (v ∷ voids) good all is =
    elim (bytes_eq v.ticket ticket && (v.line == line)) as (λ b. ((bytes_eq v.ticket ticket && (v.line == line)) ≡ b) → (b || withdraws_line ticket line voids) ≡ true → (is_key 20 ticket ≡ true) × (is_line line ≡ true)) [
      | true ↦ λ here _.
          let (texts, numbers) = and_parts (bytes_eq v.ticket ticket) (v.line == line) here in
          let own = of_sale v.ticket v.line sales good all.0 in
          (sym (ap (is_key 20) ((bytes_eq-Decides v.ticket ticket).0 texts)) ∙ own.0, sym (ap is_line (eqb-true v.line line numbers)) ∙ own.1)
      | false ↦ λ _ later. of_void ticket line sales voids good all.1 later
    ] refl is

module _ (limits : Limits) (commands : List Accepted) (ok : IsAccepted limits commands) where
  pub void_valid : (key : LineKey) (v : VoidRow) → void_at commands key ≡ Some v → is_void v ≡ true
  void_valid key v is =
      let made = made_of (λ number. record { ticket = key.ticket; line = key.line; command = number }) (void_row commands key.ticket key.line) v is in
      let gone : withdraws_line key.ticket key.line (withdrawn commands) ≡ true = sym (withdrawn_found 1 commands key.ticket key.line) ∙ ap is_some made.1 in
      let own = of_void key.ticket key.line (sold commands) (withdrawn commands) ok.sales ok.withdrawn_sold gone in
      let few = commands_few limits commands ok in
      let low = within 1 commands key.ticket key.line made.0 made.1 in
      let small : is_number made.0 ≡ true = is_small made.0 (omega (arith, few, low)) in
      ap is_void made.2 ∙ rw (own.0, own.1, small) refl
