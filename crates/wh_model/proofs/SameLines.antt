-- Lines that are the same, in either order, and lines that are stored.
use Rattle.std.proofs.Common.{◌≡◌, ℕ, ◌==◌, ◌&&◌, ◌||◌, Bool, true, false, cond, List, [], ◌∷◌, Option, Some, None, refl, sym, ◌∙◌, ap}
use Rattle.std.specs.Prelude.{bytes_eq, find, is_some, option_map}
use Rattle.std.specs.List.{AllByRecursion, list_any}
use Rattle.std.proofs.lemmas.Bool.{and_parts, eqb-true, eq-eqb}
use Rattle.std.proofs.lemmas.Slice.Eq.{bytes_eq-Decides}
use Rattle.wh_policy.specs.declared.record.SaleRecord.{SaleRecord}
use Rattle.wh_policy.specs.declared.record.VoidRecord.{VoidRecord}
use Rattle.wh_history.specs.Accepted.{Accepted, sold, standing, withdrawn, withdraws_line}
use Rattle.wh_history.specs.Tables.{Limits, fact_of, void_row}
use Rattle.wh_history.proofs.Records.{or_false}
use Rattle.wh_history.proofs.Standing.{found_standing, withdrawn_found}
use Rattle.wh_rows.specs.declared.key.LineKey.{LineKey}
use Rattle.wh_model.specs.Defined.{fact_at, void_at}
use Rattle.wh_model.specs.Laws.{WithdrawnLinesStaySold}
use Rattle.wh_model.specs.Sound.{IsAccepted, same_line, is_sold_line}

-- one line of one ticket
abbrev is_one : (ticket other : List ℕ) (line another : ℕ) → Bool
is_one ticket other line another = bytes_eq ticket other && (line == another)

turned_back : (ticket other : List ℕ) (line another : ℕ) → is_one ticket other line another ≡ true → is_one other ticket another line ≡ true
turned_back ticket other line another h =
    let (texts, numbers) = and_parts (bytes_eq ticket other) (line == another) h in
    let tickets : bytes_eq other ticket ≡ true = (bytes_eq-Decides other ticket).1 (sym ((bytes_eq-Decides ticket other).0 texts)) in
    let lines : (another == line) ≡ true = eq-eqb another line (sym (eqb-true line another numbers)) in
    rw (tickets, lines) refl

pub line_turned : (ticket other : List ℕ) (line another : ℕ) → (bytes_eq ticket other && (line == another)) ≡ (bytes_eq other ticket && (another == line))
line_turned ticket other line another = elim (is_one ticket other line another) as (λ t. (is_one ticket other line another ≡ t) → t ≡ is_one other ticket another line) [
  | true ↦ λ e. sym (turned_back ticket other line another e)
  | false ↦ λ e. elim (is_one other ticket another line) as (λ u. (is_one other ticket another line ≡ u) → false ≡ u) [
    | true ↦ λ back. let same = turned_back other ticket another line back in cc
    | false ↦ λ _. refl
  ] refl
] refl

pub line_joined : (ticket other third : List ℕ) (line another last : ℕ) → (bytes_eq ticket other && (line == another)) ≡ true → (bytes_eq other third && (another == last)) ≡ true → (bytes_eq ticket third && (line == last)) ≡ true
line_joined ticket other third line another last one two =
    let (texts, numbers) = and_parts (bytes_eq ticket other) (line == another) one in
    ap (λ t. bytes_eq t third && (line == last)) ((bytes_eq-Decides ticket other).0 texts) ∙ ap (λ n. bytes_eq other third && (n == last)) (eqb-true line another numbers) ∙ two

pub same_either : (a b : SaleRecord) → same_line a b ≡ same_line b a
same_either a b = line_turned b.ticket a.ticket b.line a.line

-- ---- a line that is stored

some_mapped : {X Y : Type 0} (f : X → Y) (o : Option X) → is_some (option_map f o) ≡ is_some o
some_mapped f None = refl
some_mapped f (Some x) = refl

-- a line has a row in void where it was withdrawn
pub void_stored : (commands : List Accepted) (key : LineKey) → is_some (void_at commands key) ≡ withdraws_line key.ticket key.line (withdrawn commands)
void_stored commands key = some_mapped (λ number. record { ticket = key.ticket; line = key.line; command = number }) (void_row commands key.ticket key.line) ∙ withdrawn_found 1 commands key.ticket key.line

any_found : {X : Type 0} (p : X → Bool) (xs : List X) → is_some (find p xs) ≡ list_any p xs
any_found p [] = refl
any_found p (x ∷ xs) =
    let rest = any_found p xs in
    elim (p x) as (λ b. is_some (cond b (Some x) (find p xs)) ≡ b || list_any p xs) [
      | true ↦ refl
      | false ↦ rest
    ]

-- and a fact where a sale of it stands
pub fact_stored : (commands : List Accepted) (key : LineKey) → is_some (fact_at commands key) ≡ list_any (λ s. bytes_eq s.ticket key.ticket && (s.line == key.line)) (standing commands)
fact_stored commands key = some_mapped (fact_of commands) (find (λ (s : SaleRecord). bytes_eq s.ticket key.ticket && (s.line == key.line)) (standing commands)) ∙ any_found (λ s. bytes_eq s.ticket key.ticket && (s.line == key.line)) (standing commands)

module _ (commands : List Accepted) (s : SaleRecord) where
  abbrev on : SaleRecord → Bool
  on t = bytes_eq t.ticket s.ticket && (t.line == s.line)

  sold_on : (sales : List SaleRecord) → list_any on sales ≡ list_any (λ t. same_line t s) sales
  sold_on [] = refl
  sold_on (t ∷ sales) = ap (λ b. b || list_any on sales) (same_either s t) ∙ ap (λ b. same_line t s || b) (sold_on sales)

  among : (sales : List SaleRecord) → is_some (find on sales) ≡ list_any (λ t. same_line t s) sales
  among sales = any_found on sales ∙ sold_on sales

  pub line_stored : is_some (fact_at commands (record { ticket = s.ticket; line = s.line })) ≡ list_any (λ t. same_line t s) (standing commands)
  line_stored = some_mapped (fact_of commands) (find on (standing commands)) ∙ among (standing commands)

  -- a line that is withdrawn was sold
  pub once_sold : (voids : List VoidRecord) → AllByRecursion (λ v. is_sold_line (sold commands) v ≡ true) voids → withdraws_line s.ticket s.line voids ≡ true → list_any (λ t. same_line t s) (sold commands) ≡ true
  once_sold [] all is = absurd cc
  once_sold (v ∷ voids) all is =
      elim (bytes_eq v.ticket s.ticket && (v.line == s.line)) as (λ b. ((bytes_eq v.ticket s.ticket && (v.line == s.line)) ≡ b) → (b || withdraws_line s.ticket s.line voids) ≡ true → list_any (λ t. same_line t s) (sold commands) ≡ true) [
        | true ↦ λ here _.
            let (texts, numbers) = and_parts (bytes_eq v.ticket s.ticket) (v.line == s.line) here in
            sym (sold_on (sold commands))
            ∙ ap (λ ticket. list_any (λ t. bytes_eq t.ticket ticket && (t.line == s.line)) (sold commands)) (sym ((bytes_eq-Decides v.ticket s.ticket).0 texts))
            ∙ ap (λ line. list_any (λ t. bytes_eq t.ticket v.ticket && (t.line == line)) (sold commands)) (sym (eqb-true v.line s.line numbers))
            ∙ all.0
        | false ↦ λ _ later. once_sold voids all.1 later
      ] refl is

  -- its line was sold before where a fact stands at it, or it was withdrawn
  pub line_known : (limits : Limits) → IsAccepted limits commands
      → list_any (λ t. same_line t s) (sold commands) ≡ (is_some (fact_at commands (record { ticket = s.ticket; line = s.line })) || is_some (void_at commands (record { ticket = s.ticket; line = s.line })))
  line_known limits ok =
      let gone = withdraws_line s.ticket s.line (withdrawn commands) in
      let voided = void_stored commands (record { ticket = s.ticket; line = s.line }) in
      let shown = some_mapped (fact_of commands) (find on (standing commands)) ∙ ap is_some (found_standing (withdrawn commands) s.ticket s.line (sold commands)) in
      elim (withdraws_line s.ticket s.line (withdrawn commands)) as (λ b. (withdraws_line s.ticket s.line (withdrawn commands) ≡ b) → list_any (λ t. same_line t s) (sold commands) ≡ (is_some (cond b None (find on (sold commands))) || b)) [
        | true ↦ λ is. once_sold (withdrawn commands) ok.withdrawn_sold is
        | false ↦ λ _. sym (among (sold commands)) ∙ sym (or_false (is_some (find on (sold commands))))
      ] refl
      ∙ sym (ap (λ b. b || is_some (void_at commands (record { ticket = s.ticket; line = s.line }))) shown ∙ ap (λ b. is_some (cond gone None (find on (sold commands))) || b) voided)

pub withdrawn_lines_stay_sold : WithdrawnLinesStaySold
withdrawn_lines_stay_sold limits commands s ok is = once_sold commands s (withdrawn commands) ok.withdrawn_sold is
