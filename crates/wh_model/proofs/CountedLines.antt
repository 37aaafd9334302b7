-- How many facts and how many withdrawn lines the tables of accepted commands hold.
use Rattle.std.proofs.Common.{◌≡◌, ℕ, ◌+◌, ◌-◌, ◌==◌, ◌&&◌, ◌||◌, Bool, true, false, cond, zero, suc, ◌≤◌, List, [], ◌∷◌, map, length, Option, Some, None, refl, sym, ◌∙◌, ap, subst, arith}
use Rattle.std.specs.Prelude.{bytes_eq, find, is_some, option_map}
use Rattle.std.specs.Cmp.{eq_by_cmp_equiv, Equal-is}
use Rattle.std.specs.FinMap.{FinMap, get, remove, empty, len, get-empty, get-remove, len-empty, len-remove, empty_of_len, same_map}
use Rattle.std.specs.List.{AllByRecursion, IsDistinct, list_any}
use Rattle.std.specs.Ordering.{eq_by_cmp}
use Rattle.std.proofs.lemmas.Bool.{and_parts, eqb-true, eq-eqb}
use Rattle.std.proofs.lemmas.List.{length-map}
use Rattle.std.proofs.lemmas.Slice.Eq.{bytes_eq-Decides}
use Rattle.wh_policy.specs.declared.format.Format.{Format}
use Rattle.wh_policy.specs.declared.format.Format.TheVariants.{One, Two}
use Rattle.wh_policy.specs.declared.record.SaleRecord.{SaleRecord}
use Rattle.wh_policy.specs.declared.record.VoidRecord.{VoidRecord}
use Rattle.wh_history.specs.Accepted.{Accepted, format_of, sold, withdrawn, standing}
use Rattle.wh_history.specs.Tables.{Limits, fact_of}
use Rattle.wh_rows.proofs.Orders.{line_cmp_total, line_cmp-IsAntisymmetric}
use Rattle.wh_rows.specs.Facts.{facts_in}
use Rattle.wh_rows.specs.Rows as row
use Rattle.wh_rows.specs.Tables.{Tables}
use Rattle.wh_rows.specs.declared.key.LineKey.{LineKey}
use Rattle.wh_model.specs.Defined.{fact_at, void_at, AreOf}
use Rattle.wh_model.specs.Sound.{IsAccepted, same_line, same_void}
use Rattle.wh_model.proofs.CountedSales.{standing_once, standing_counted}
use Rattle.wh_model.proofs.Formatted.{facts_in_are}
use Rattle.wh_model.proofs.SameLines.{void_stored, fact_stored}

-- ---- keys of a map

abbrev key_of : List ℕ → ℕ → LineKey
key_of ticket line = record { ticket = ticket; line = line }

abbrev one_line : LineKey → LineKey → Bool
one_line k j = bytes_eq j.ticket k.ticket && (j.line == k.line)

-- keys that tie are one line of one ticket
tied : (k j : LineKey) → eq_by_cmp row.line_cmp k j ≡ one_line k j
tied k j =
    elim (one_line k j) as (λ b. (one_line k j ≡ b) → eq_by_cmp row.line_cmp k j ≡ b) [
      | true ↦ λ same.
          let (texts, numbers) = and_parts (bytes_eq j.ticket k.ticket) (j.line == k.line) same in
          let ticket = (bytes_eq-Decides j.ticket k.ticket).0 texts in
          let line = eqb-true j.line k.line numbers in
          rw (ticket, line) ((eq_by_cmp_equiv line_cmp_total).refl k)
      | false ↦ λ other. elim (eq_by_cmp row.line_cmp k j) as (λ b. (eq_by_cmp row.line_cmp k j ≡ b) → b ≡ false) [
        | true ↦ λ tie.
            let same : k ≡ j = line_cmp-IsAntisymmetric k j ((Equal-is (row.line_cmp k j)).0 tie) in
            let own : one_line j j ≡ true = rw ((bytes_eq-Decides j.ticket j.ticket).1 refl, eq-eqb j.line j.line refl) refl in
            let one : one_line k j ≡ true = ap (λ i. one_line i j) same ∙ own in
            absurd cc
        | false ↦ λ _. refl
      ] refl
    ] refl

-- what is not there is none
pub is_absent : {X : Type 0} (o : Option X) → is_some o ≡ false → o ≡ None
is_absent None h = refl
is_absent (Some x) h = absurd cc

none_tied : (k : LineKey) (keys : List LineKey) → AllByRecursion (λ j. eq_by_cmp row.line_cmp k j ≡ false) keys → list_any (eq_by_cmp row.line_cmp k) keys ≡ false
none_tied k [] all = refl
none_tied k (j ∷ keys) all = rw all.0 (none_tied k keys all.1)

module _ {V : Type 0} where
  -- a map that has a row at just these keys has as many
  keys_counted : (keys : List LineKey) (m : FinMap row.line_cmp V) → IsDistinct (eq_by_cmp row.line_cmp) keys → ((k : LineKey) → is_some (get m k) ≡ list_any (eq_by_cmp row.line_cmp k) keys) → len m ≡ length keys
  unfolding IsDistinct
  keys_counted [] m once shows =
      ap len (same_map line_cmp_total line_cmp-IsAntisymmetric m empty (λ k. is_absent (get m k) (shows k) ∙ sym (get-empty row.line_cmp k))) ∙ len-empty row.line_cmp V
  keys_counted (k ∷ keys) m once shows =
      let there : is_some (get m k) ≡ true = shows k ∙ ap (λ b. b || list_any (eq_by_cmp row.line_cmp k) keys) ((eq_by_cmp_equiv line_cmp_total).refl k) in
      let rest = keys_counted keys (remove m k) once.1 left in
      let less : len (remove m k) ≡ len m - 1 = len-remove line_cmp_total m k ∙ ap (λ b. cond b (len m - 1) (len m)) there in
      let some = not_none (len m) refl there in
      omega (arith, rest, less, some)
    where
      not_none : (n : ℕ) → len m ≡ n → is_some (get m k) ≡ true → 1 ≤ n
      not_none zero none there = let gone : get m k ≡ None = ap (λ q. get q k) (empty_of_len m none) ∙ get-empty row.line_cmp k in absurd cc
      not_none (suc n) some there = omega arith

      left : (q : LineKey) → is_some (get (remove m k) q) ≡ list_any (eq_by_cmp row.line_cmp q) keys
      left q =
          ap is_some (get-remove line_cmp_total m k q)
          ∙ elim (eq_by_cmp row.line_cmp q k) as (λ b. (eq_by_cmp row.line_cmp q k ≡ b) → is_some (cond b None (get m q)) ≡ list_any (eq_by_cmp row.line_cmp q) keys) [
            | true ↦ λ tie.
                let same : q ≡ k = line_cmp-IsAntisymmetric q k ((Equal-is (row.line_cmp q k)).0 tie) in
                sym (ap (λ j. list_any (eq_by_cmp row.line_cmp j) keys) same ∙ none_tied k keys once.0)
            | false ↦ λ other. shows q ∙ ap (λ b. b || list_any (eq_by_cmp row.line_cmp q) keys) other
          ] refl

-- ---- keys of sales and of voids

abbrev sale_keys : List SaleRecord → List LineKey
sale_keys sales = map (λ s. key_of s.ticket s.line) sales

abbrev void_keys : List VoidRecord → List LineKey
void_keys voids = map (λ v. key_of v.ticket v.line) voids

sales_apart : (s : SaleRecord) (sales : List SaleRecord) → AllByRecursion (λ t. same_line s t ≡ false) sales → AllByRecursion (λ j. eq_by_cmp row.line_cmp (key_of s.ticket s.line) j ≡ false) (sale_keys sales)
sales_apart s [] all = tt
sales_apart s (t ∷ sales) all = (tied (key_of s.ticket s.line) (key_of t.ticket t.line) ∙ all.0, sales_apart s sales all.1)

sales_once : (sales : List SaleRecord) → IsDistinct same_line sales → IsDistinct (eq_by_cmp row.line_cmp) (sale_keys sales)
unfolding IsDistinct
sales_once [] once = tt
sales_once (s ∷ sales) once = (sales_apart s sales once.0, sales_once sales once.1)

sales_tied : (k : LineKey) (sales : List SaleRecord) → list_any (λ s. bytes_eq s.ticket k.ticket && (s.line == k.line)) sales ≡ list_any (eq_by_cmp row.line_cmp k) (sale_keys sales)
sales_tied k [] = refl
sales_tied k (s ∷ sales) = ap (λ b. b || list_any (λ s. bytes_eq s.ticket k.ticket && (s.line == k.line)) sales) (sym (tied k (key_of s.ticket s.line))) ∙ ap (λ b. eq_by_cmp row.line_cmp k (key_of s.ticket s.line) || b) (sales_tied k sales)

voids_apart : (v : VoidRecord) (voids : List VoidRecord) → AllByRecursion (λ w. same_void v w ≡ false) voids → AllByRecursion (λ j. eq_by_cmp row.line_cmp (key_of v.ticket v.line) j ≡ false) (void_keys voids)
voids_apart v [] all = tt
voids_apart v (w ∷ voids) all = (tied (key_of v.ticket v.line) (key_of w.ticket w.line) ∙ all.0, voids_apart v voids all.1)

voids_once : (voids : List VoidRecord) → IsDistinct same_void voids → IsDistinct (eq_by_cmp row.line_cmp) (void_keys voids)
unfolding IsDistinct
voids_once [] once = tt
voids_once (v ∷ voids) once = (voids_apart v voids once.0, voids_once voids once.1)

voids_tied : (k : LineKey) (voids : List VoidRecord) → list_any (λ v. bytes_eq v.ticket k.ticket && (v.line == k.line)) voids ≡ list_any (eq_by_cmp row.line_cmp k) (void_keys voids)
voids_tied k [] = refl
voids_tied k (v ∷ voids) = ap (λ b. b || list_any (λ v. bytes_eq v.ticket k.ticket && (v.line == k.line)) voids) (sym (tied k (key_of v.ticket v.line))) ∙ ap (λ b. eq_by_cmp row.line_cmp k (key_of v.ticket v.line) || b) (voids_tied k voids)

-- ---- the tables

module _ (limits : Limits) (commands : List Accepted) (t : Tables) (are : AreOf limits commands t) (ok : IsAccepted limits commands) where
  -- a fact for each sale that stands
  pub facts_counted : (format : Format) → format ≡ format_of commands → len (facts_in format t) ≡ length (standing commands)
  facts_counted format same =
      keys_counted (sale_keys (standing commands)) (facts_in format t) (sales_once (standing commands) (standing_once limits commands ok))
      (λ k. ap is_some (facts_in_are limits commands t are format same k) ∙ fact_stored commands k ∙ sales_tied k (standing commands))
      ∙ length-map (standing commands) (λ s. key_of s.ticket s.line)

  -- a row for each line that was withdrawn
  pub voids_counted : len t.void ≡ length (withdrawn commands)
  voids_counted =
      keys_counted (void_keys (withdrawn commands)) t.void (voids_once (withdrawn commands) ok.withdrawn_once)
      (λ k. ap is_some (are.void k) ∙ void_stored commands k ∙ voids_tied k (withdrawn commands))
      ∙ length-map (withdrawn commands) (λ v. key_of v.ticket v.line)

  -- both together are the sales, in each format
  pub lines_counted : (format : Format) → format ≡ format_of commands → len (facts_in format t) + len t.void ≡ length (sold commands)
  lines_counted format same = let facts = facts_counted format same in let voids = voids_counted in let all = standing_counted limits commands ok in omega (arith, facts, voids, all)
