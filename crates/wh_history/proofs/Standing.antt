-- The sales that stand, and the lines that were withdrawn, after one command more.
use Rattle.std.proofs.Common.{◌≡◌, ℕ, zero, suc, ◌+◌, ◌==◌, ◌&&◌, ◌||◌, Bool, true, false, not, cond, List, [], ◌∷◌, ◌++◌, filter, length, Option, Some, None, refl, sym, ◌∙◌, ap, append-nil, arith}
use Rattle.std.specs.Prelude.{find, bytes_eq, is_some}
use Rattle.std.specs.Option.{option_or}
use Rattle.std.specs.List.{list_any, AllByRecursion}
use Rattle.std.proofs.lemmas.Bool.{and_parts, eqb-true}
use Rattle.std.proofs.lemmas.Grind.{flat_map-append}
use Rattle.std.proofs.lemmas.List.Elements.{filter-append}
use Rattle.std.proofs.lemmas.List.Folds.{list_any-append}
use Rattle.std.proofs.lemmas.Slice.Eq.{bytes_eq-Decides}
use Rattle.wh_policy.specs.declared.record.SaleRecord.{SaleRecord}
use Rattle.wh_policy.specs.declared.record.VoidRecord.{VoidRecord}
use Rattle.wh_history.specs.Accepted.{Accepted, sold, sold_by, withdrawn, withdrawn_by, withdraws_line, standing_but, standing}
use Rattle.wh_history.specs.Tables.{withdrawn_from, void_row}

-- ---- sales and voids

-- it names the line
abbrev pub names_line : List ℕ → ℕ → VoidRecord → Bool
names_line ticket line v = bytes_eq v.ticket ticket && (v.line == line)

-- sales of which no line is withdrawn all stand
pub all_stand : (voids : List VoidRecord) (sales : List SaleRecord) → AllByRecursion (λ s. withdraws_line s.ticket s.line voids ≡ false) sales → standing_but voids sales ≡ sales
all_stand voids [] apart = refl
all_stand voids (s ∷ sales) apart = ap (λ b. cond (not b) (s ∷ standing_but voids sales) (standing_but voids sales)) apart.0 ∙ ap (λ ss. s ∷ ss) (all_stand voids sales apart.1)

pub none_withdrawn : (sales : List SaleRecord) → standing_but [] sales ≡ sales
none_withdrawn [] = refl
none_withdrawn (s ∷ sales) = ap (λ ss. s ∷ ss) (none_withdrawn sales)

-- sales stand that neither some voids nor others withdraw
pub stand_but_both : (voids others : List VoidRecord) (sales : List SaleRecord) → standing_but (voids ++ others) sales ≡ standing_but others (standing_but voids sales)
stand_but_both voids others [] = refl
stand_but_both voids others (s ∷ sales) =
    let rest = stand_but_both voids others sales in
    ap (λ b. cond (not b) (s ∷ standing_but (voids ++ others) sales) (standing_but (voids ++ others) sales)) (list_any-append (names_line s.ticket s.line) voids others)
    ∙ ap (λ ss. cond (not (withdraws_line s.ticket s.line voids || withdraws_line s.ticket s.line others)) (s ∷ ss) ss) rest
    ∙ elim (withdraws_line s.ticket s.line voids) as (λ b. cond (not (b || withdraws_line s.ticket s.line others)) (s ∷ standing_but others (standing_but voids sales)) (standing_but others (standing_but voids sales)) ≡ standing_but others (cond (not b) (s ∷ standing_but voids sales) (standing_but voids sales))) [
      | true ↦ refl
      | false ↦ refl
    ]

-- the sale that stands at a line is the one that was sold there, where the line was not withdrawn
pub found_standing : (voids : List VoidRecord) (ticket : List ℕ) (line : ℕ) (sales : List SaleRecord)
    → find (λ s. bytes_eq s.ticket ticket && (s.line == line)) (standing_but voids sales) ≡ cond (withdraws_line ticket line voids) None (find (λ s. bytes_eq s.ticket ticket && (s.line == line)) sales)
found_standing voids ticket line [] = elim (withdraws_line ticket line voids) as (λ b. ◌≡◌ {A = Option SaleRecord} None (cond b None None)) [
  | true ↦ refl
  | false ↦ refl
]
found_standing voids ticket line (s ∷ sales) =
    let on : SaleRecord → Bool = λ s. bytes_eq s.ticket ticket && (s.line == line) in
    let rest = found_standing voids ticket line sales in
    elim (on s) as (λ b. (on s ≡ b) → find on (standing_but voids (s ∷ sales)) ≡ cond (withdraws_line ticket line voids) None (cond b (Some s) (find on sales))) [
      | true ↦ λ here.
          let same = and_parts (bytes_eq s.ticket ticket) (s.line == line) here in
          let own : withdraws_line s.ticket s.line voids ≡ withdraws_line ticket line voids =
          ap (λ t. withdraws_line t s.line voids) ((bytes_eq-Decides s.ticket ticket).0 same.0) ∙ ap (λ n. withdraws_line ticket n voids) (eqb-true s.line line same.1) in
          ap (λ b. find on (cond (not b) (s ∷ standing_but voids sales) (standing_but voids sales))) own
          ∙ elim (withdraws_line ticket line voids) as (λ b. (withdraws_line ticket line voids ≡ b) → find on (cond (not b) (s ∷ standing_but voids sales) (standing_but voids sales)) ≡ cond b None (Some s)) [
            | true ↦ λ gone. rest ∙ ap (λ b. cond b None (find on sales)) gone
            | false ↦ λ _. ap (λ b. cond b (Some s) (find on (standing_but voids sales))) here
          ] refl
      | false ↦ λ elsewhere.
          elim (withdraws_line s.ticket s.line voids) as (λ b. find on (cond (not b) (s ∷ standing_but voids sales) (standing_but voids sales)) ≡ cond (withdraws_line ticket line voids) None (find on sales)) [
            | true ↦ rest
            | false ↦ ap (λ b. cond b (Some s) (find on (standing_but voids sales))) elsewhere ∙ rest
          ]
    ] refl

-- so it was sold, and its line is not withdrawn
pub stands_sold : (voids : List VoidRecord) (ticket : List ℕ) (line : ℕ) (sales : List SaleRecord) (s : SaleRecord)
    → find (λ s. bytes_eq s.ticket ticket && (s.line == line)) (standing_but voids sales) ≡ Some s
    → (find (λ s. bytes_eq s.ticket ticket && (s.line == line)) sales ≡ Some s) × (withdraws_line ticket line voids ≡ false)
stands_sold voids ticket line sales s found =
    elim (withdraws_line ticket line voids) as (λ b. cond b None (find (λ (s : SaleRecord). bytes_eq s.ticket ticket && (s.line == line)) sales) ≡ Some s
    → (find (λ (s : SaleRecord). bytes_eq s.ticket ticket && (s.line == line)) sales ≡ Some s) × (b ≡ false)) [
      | true ↦ λ none. absurd cc
      | false ↦ λ some. (some, refl)
    ] (sym (found_standing voids ticket line sales) ∙ found)

-- what holds of each sale holds of each that stands
pub all_standing : (P : SaleRecord → Type 0) (voids : List VoidRecord) (sales : List SaleRecord) → AllByRecursion P sales → AllByRecursion P (standing_but voids sales)
all_standing P voids [] all = tt
all_standing P voids (s ∷ sales) all =
    let rest = all_standing P voids sales all.1 in
    elim (withdraws_line s.ticket s.line voids) as (λ b. AllByRecursion P (cond (not b) (s ∷ standing_but voids sales) (standing_but voids sales))) [
      | true ↦ rest
      | false ↦ (all.0, rest)
    ]

-- ---- one command more

module _ (commands : List Accepted) (c : Accepted) where
  pub sold-last : sold (commands ++ c ∷ []) ≡ sold commands ++ sold_by c.content
  sold-last = flat_map-append (λ (d : Accepted). sold_by d.content) commands (c ∷ []) ∙ ap (λ ss. sold commands ++ ss) (append-nil (sold_by c.content))

  pub withdrawn-last : withdrawn (commands ++ c ∷ []) ≡ withdrawn commands ++ withdrawn_by c.content
  withdrawn-last = flat_map-append (λ (d : Accepted). withdrawn_by d.content) commands (c ∷ []) ∙ ap (λ vs. withdrawn commands ++ vs) (append-nil (withdrawn_by c.content))

  pub withdrawn-kept : withdrawn_by c.content ≡ [] → withdrawn (commands ++ c ∷ []) ≡ withdrawn commands
  withdrawn-kept none = withdrawn-last ∙ ap (λ vs. withdrawn commands ++ vs) none ∙ append-nil (withdrawn commands)

  -- a command that withdraws nothing leaves all that stand, and its own sales come behind them
  pub standing-last : withdrawn_by c.content ≡ [] → standing (commands ++ c ∷ []) ≡ standing commands ++ standing_but (withdrawn commands) (sold_by c.content)
  standing-last none =
      ap (λ vs. standing_but vs (sold (commands ++ c ∷ []))) (withdrawn-kept none)
      ∙ ap (standing_but (withdrawn commands)) sold-last
      ∙ filter-append (λ s. not (withdraws_line s.ticket s.line (withdrawn commands))) (sold commands) (sold_by c.content)

  pub standing-kept : withdrawn_by c.content ≡ [] → sold_by c.content ≡ [] → standing (commands ++ c ∷ []) ≡ standing commands
  standing-kept none unsold = standing-last none ∙ ap (λ ss. standing commands ++ standing_but (withdrawn commands) ss) unsold ∙ append-nil (standing commands)

  -- a command that sells nothing takes out those that it withdraws
  pub standing-voided : sold_by c.content ≡ [] → standing (commands ++ c ∷ []) ≡ standing_but (withdrawn_by c.content) (standing commands)
  standing-voided unsold =
      ap (standing_but (withdrawn (commands ++ c ∷ []))) (sold-last ∙ ap (λ ss. sold commands ++ ss) unsold ∙ append-nil (sold commands))
      ∙ ap (λ vs. standing_but vs (sold commands)) withdrawn-last
      ∙ stand_but_both (withdrawn commands) (withdrawn_by c.content) (sold commands)

-- ---- the commands that withdrew lines

pub withdrawn_from-append : (number : ℕ) (commands others : List Accepted) (ticket : List ℕ) (line : ℕ)
    → withdrawn_from number (commands ++ others) ticket line ≡ option_or (withdrawn_from number commands ticket line) (withdrawn_from (number + length commands) others ticket line)
withdrawn_from-append number [] others ticket line = ap (λ n. withdrawn_from n others ticket line) (omega arith)
withdrawn_from-append number (c ∷ commands) others ticket line =
    let rest = withdrawn_from-append (suc number) commands others ticket line in
    let count : suc number + length commands ≡ number + suc (length commands) = omega arith in
    elim (withdraws_line ticket line (withdrawn_by c.content)) as (λ b. cond b (Some number) (withdrawn_from (suc number) (commands ++ others) ticket line)
    ≡ option_or (cond b (Some number) (withdrawn_from (suc number) commands ticket line)) (withdrawn_from (number + suc (length commands)) others ticket line)) [
      | true ↦ refl
      | false ↦ rest ∙ ap (λ n. option_or (withdrawn_from (suc number) commands ticket line) (withdrawn_from n others ticket line)) count
    ]

-- a line has a row in void exactly where it was withdrawn
pub withdrawn_found : (number : ℕ) (commands : List Accepted) (ticket : List ℕ) (line : ℕ) → is_some (withdrawn_from number commands ticket line) ≡ withdraws_line ticket line (withdrawn commands)
withdrawn_found number [] ticket line = refl
withdrawn_found number (c ∷ commands) ticket line =
    let rest = withdrawn_found (suc number) commands ticket line in
    elim (withdraws_line ticket line (withdrawn_by c.content)) as (λ b. is_some (cond b (Some number) (withdrawn_from (suc number) commands ticket line)) ≡ (b || withdraws_line ticket line (withdrawn commands))) [
      | true ↦ refl
      | false ↦ rest
    ]
    ∙ sym (list_any-append (names_line ticket line) (withdrawn_by c.content) (withdrawn commands))

module _ (commands : List Accepted) (c : Accepted) (ticket : List ℕ) (line : ℕ) where
  -- the row of a line after one command more
  pub void-last : void_row (commands ++ c ∷ []) ticket line ≡ option_or (void_row commands ticket line) (cond (withdraws_line ticket line (withdrawn_by c.content)) (Some (suc (length commands))) None)
  void-last =
      let number : 1 + length commands ≡ suc (length commands) = omega arith in
      withdrawn_from-append 1 commands (c ∷ []) ticket line ∙ ap (λ n. option_or (void_row commands ticket line) (withdrawn_from n (c ∷ []) ticket line)) number

  pub void-kept : withdrawn_by c.content ≡ [] → void_row (commands ++ c ∷ []) ticket line ≡ void_row commands ticket line
  void-kept none =
      void-last
      ∙ ap (λ vs. option_or (void_row commands ticket line) (cond (withdraws_line ticket line vs) (Some (suc (length commands))) None)) none
      ∙ elim (void_row commands ticket line) as (λ o. option_or o None ≡ o) [
        | None ↦ refl
        | Some number ↦ refl
      ]
