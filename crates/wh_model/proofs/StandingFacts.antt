-- The facts of the sales that stand and the rows of withdrawn lines, after one command more.
use Rattle.std.proofs.Common.{◌≡◌, ℕ, suc, ◌==◌, ◌&&◌, Bool, true, false, cond, List, [], ◌∷◌, ◌++◌, length, Option, None, Some, refl, ap, ◌∙◌}
use Rattle.std.specs.Prelude.{option_map, find, bytes_eq}
use Rattle.std.specs.Option.{option_or}
use Rattle.wh_policy.specs.declared.record.SaleRecord.{SaleRecord}
use Rattle.wh_history.specs.Accepted.{Accepted, sold_by, withdrawn_by, withdraws_line, standing_but, standing}
use Rattle.wh_history.specs.Tables.{fact_of, void_row}
use Rattle.wh_history.specs.declared.facts.Fact.{Fact}
use Rattle.wh_history.proofs.Standing.{standing-kept, standing-voided, found_standing, void-kept, void-last}
use Rattle.wh_rows.specs.declared.key.LineKey.{LineKey}
use Rattle.wh_rows.specs.declared.rows.VoidRow.{VoidRow}
use Rattle.wh_model.specs.Defined.{fact_at, void_at}

-- the fact of the first sale of a line
abbrev pub fact_among : List Accepted → List SaleRecord → LineKey → Option Fact
fact_among list sales key = option_map (fact_of list) (find (λ s. bytes_eq s.ticket key.ticket && (s.line == key.line)) sales)

abbrev pub void_with : LineKey → Option ℕ → Option VoidRow
void_with key o = option_map (λ number. record { ticket = key.ticket; line = key.line; command = number }) o

module _ (commands : List Accepted) (c : Accepted) (same : (s : SaleRecord) → fact_of (commands ++ c ∷ []) s ≡ fact_of commands s) where
  by_sale : (o : Option SaleRecord) → option_map (fact_of (commands ++ c ∷ [])) o ≡ option_map (fact_of commands) o
  by_sale None = refl
  by_sale (Some s) = ap Some (same s)

  -- what changes no fact, sells nothing and withdraws nothing leaves the facts
  pub fact_kept : withdrawn_by c.content ≡ [] → sold_by c.content ≡ [] → (key : LineKey) → fact_at (commands ++ c ∷ []) key ≡ fact_at commands key
  fact_kept none unsold key =
      ap (λ (ss : List SaleRecord). fact_among (commands ++ c ∷ []) ss key) (standing-kept commands c none unsold)
      ∙ by_sale (find (λ (s : SaleRecord). bytes_eq s.ticket key.ticket && (s.line == key.line)) (standing commands))

  -- what changes no fact and sells nothing takes out those of the lines that it withdraws
  pub fact_voided : sold_by c.content ≡ [] → (key : LineKey) → fact_at (commands ++ c ∷ []) key ≡ cond (withdraws_line key.ticket key.line (withdrawn_by c.content)) None (fact_at commands key)
  fact_voided unsold key =
      ap (λ (ss : List SaleRecord). fact_among (commands ++ c ∷ []) ss key) (standing-voided commands c unsold)
      ∙ by_sale (find (λ (s : SaleRecord). bytes_eq s.ticket key.ticket && (s.line == key.line)) (standing_but (withdrawn_by c.content) (standing commands)))
      ∙ ap (option_map (fact_of commands)) (found_standing (withdrawn_by c.content) key.ticket key.line (standing commands))
      ∙ elim (withdraws_line key.ticket key.line (withdrawn_by c.content)) as (λ b. option_map (fact_of commands) (cond b None (find (λ (s : SaleRecord). bytes_eq s.ticket key.ticket && (s.line == key.line)) (standing commands))) ≡ cond b None (fact_at commands key)) [
        | true ↦ refl
        | false ↦ refl
      ]

module _ (commands : List Accepted) (c : Accepted) where
  pub void_at_kept : withdrawn_by c.content ≡ [] → (key : LineKey) → void_at (commands ++ c ∷ []) key ≡ void_at commands key
  void_at_kept none key = ap (void_with key) (void-kept commands c key.ticket key.line none)

  -- a line that is withdrawn gets the number of the command, where it had none
  pub void_at_voided : (key : LineKey) → void_at (commands ++ c ∷ []) key ≡ option_or (void_at commands key) (void_with key (cond (withdraws_line key.ticket key.line (withdrawn_by c.content)) (Some (suc (length commands))) None))
  void_at_voided key =
      ap (void_with key) (void-last commands c key.ticket key.line)
      ∙ elim (void_row commands key.ticket key.line) as (λ o. void_with key (option_or o (cond (withdraws_line key.ticket key.line (withdrawn_by c.content)) (Some (suc (length commands))) None)) ≡ option_or (void_with key o) (void_with key (cond (withdraws_line key.ticket key.line (withdrawn_by c.content)) (Some (suc (length commands))) None))) [
        | None ↦ refl
        | Some number ↦ refl
      ]
