-- The edits of a batch of voids.
use Rattle.std.proofs.Common.{◌≡◌, suc, ◌==◌, ◌&&◌, ◌||◌, Bool, true, false, cond, List, [], ◌∷◌, ◌++◌, length, map, Option, Some, None, refl, sym, ap, subst, ◌∙◌, ℕ}
use Rattle.std.specs.Prelude.{find, bytes_eq, option_map}
use Rattle.std.specs.List.{AllByRecursion, IsDistinct, list_any}
use Rattle.std.specs.List.Sorted.{IsPermutation, IsSorted}
use Rattle.std.specs.Option.{option_or}
use Rattle.std.proofs.lemmas.Bool.{and_parts, eqb-true}
use Rattle.std.proofs.lemmas.Cmp.{nat_cmp_total}
use Rattle.std.proofs.lemmas.Slice.Eq.{bytes_eq-Decides}
use Rattle.wh_policy.proofs.Options.{option_or-none}
use Rattle.wh_policy.specs.declared.attribute.Dim.{Dim}
use Rattle.wh_policy.specs.declared.attribute.Dim.TheVariants.{Product, Store, Customer}
use Rattle.wh_policy.specs.declared.format.Format.TheVariants.{One, Two}
use Rattle.wh_policy.specs.declared.record.SaleRecord.{SaleRecord}
use Rattle.wh_policy.specs.declared.record.VoidRecord.{VoidRecord}
use Rattle.wh_history.specs.Accepted.{Accepted, Withdraws, format_of, sold, withdrawn, withdraws_line, standing}
use Rattle.wh_history.specs.Laws.{governs}
use Rattle.wh_history.specs.Plan.{Needs, IsRowPlan, edited}
use Rattle.wh_history.specs.Tables.{dimension_row, fact_of}
use Rattle.wh_history.specs.declared.facts.Fact.{Fact}
use Rattle.wh_history.specs.declared.plan.Edit.TheVariants.{Put}
use Rattle.wh_history.proofs.Standing.{stands_sold}
use Rattle.wh_rows.proofs.Orders.{member_cmp_total, change_cmp_total}
use Rattle.wh_rows.specs.Rows as row
use Rattle.wh_rows.specs.declared.key.LineKey.{LineKey}
use Rattle.wh_rows.specs.declared.rows.CommandRow.{CommandRow}
use Rattle.wh_rows.specs.declared.rows.VoidRow.{VoidRow}
use Rattle.wh_model.specs.Defined.{command_at, member_at, change_at, profile_at, calendar_at, fact_at, void_at}
use Rattle.wh_model.specs.Sound.{is_sold_line, same_void}
use Rattle.wh_model.proofs.QuietLists.{IsQuiet}
use Rattle.wh_model.proofs.QuietRows.{dimension_same, member_same, change_same, profile_same, calendar_same}
use Rattle.wh_model.proofs.SameLines.{void_stored}
use Rattle.wh_model.proofs.StandingFacts.{void_with}
use Rattle.wh_model.proofs.WithdrawnRows.{quiet, no_policy, format_same, fact_gone, void_new}
use Rattle.wh_model.proofs.CountedLines.{is_absent}
use Rattle.wh_plan.specs.Edits.{AreEdits, IsTablePlan, IsFactPlan, NeedsFact, edited_line, rows_of_dimension}
use Rattle.wh_plan.specs.VoidEdits.{by_line, fact_removed, void_edits, void_of}
use Rattle.wh_plan.proofs.BatchPlans.{meta_stays}
use Rattle.wh_plan.proofs.FactPlans as facts
use Rattle.wh_plan.proofs.Lines.{on_line, Once, edits_ascend, edit_of_line}
use Rattle.wh_plan.proofs.OwnRow.{own_row_plan}
use Rattle.wh_plan.proofs.Plans.{empty_plan, none_needed, put_needed}

any_found : {X : Type 0} (p : X → Bool) (xs : List X) → list_any p xs ≡ true → (x : X) × (find p xs ≡ Some x)
any_found p [] some = absurd cc
any_found p (x ∷ xs) some =
    elim (p x) as (λ b. (b || list_any p xs) ≡ true → (y : _) × (cond b (Some x) (find p xs) ≡ Some y)) [
      | true ↦ λ _. (x, refl)
      | false ↦ λ later. any_found p xs later
    ] some

-- ---- their rows

module _ (number : ℕ) where
  apart : (v : VoidRecord) (vs : List VoidRecord) → AllByRecursion (λ w. same_void v w ≡ false) vs → AllByRecursion (λ r. on_line row.void.key (row.void.key (void_of number v)) r ≡ false) (map (void_of number) vs)
  apart v [] all = tt
  apart v (w ∷ vs) all = (all.0, apart v vs all.1)

  -- no two have one line
  rows_once : (vs : List VoidRecord) → IsDistinct same_void vs → Once row.void.key (map (void_of number) vs)
  unfolding IsDistinct
  rows_once [] once = tt
  rows_once (v ∷ vs) once = (apart v vs once.0, rows_once vs once.1)

  row_is : (line : LineKey) (v : VoidRecord) → (bytes_eq v.ticket line.ticket && (v.line == line.line)) ≡ true → ◌≡◌ {A = VoidRow} (void_of number v) (record { ticket = line.ticket; line = line.line; command = number })
  row_is line v here =
      let parts = and_parts (bytes_eq v.ticket line.ticket) (v.line == line.line) here in
      let ticket : v.ticket ≡ line.ticket = (bytes_eq-Decides v.ticket line.ticket).0 parts.0 in
      let place : v.line ≡ line.line = eqb-true v.line line.line parts.1 in
      λ i. record { ticket = ticket i; line = place i; command = number }

  -- a line has one where it is withdrawn
  row_found : (line : LineKey) (vs : List VoidRecord) → find (on_line row.void.key line) (map (void_of number) vs) ≡ void_with line (cond (withdraws_line line.ticket line.line vs) (Some number) None)
  row_found line [] = refl
  row_found line (v ∷ vs) =
      elim (bytes_eq v.ticket line.ticket && (v.line == line.line)) as (λ b. ((bytes_eq v.ticket line.ticket && (v.line == line.line)) ≡ b)
      → cond b (Some (void_of number v)) (find (on_line row.void.key line) (map (void_of number) vs)) ≡ void_with line (cond (b || withdraws_line line.ticket line.line vs) (Some number) None)) [
        | true ↦ λ here. ap Some (row_is line v here)
        | false ↦ λ _. row_found line vs
      ] refl

-- ---- what stands at their lines

module _ (commands : List Accepted) (line : LineKey) where
  sold_there : (vs : List VoidRecord) → AllByRecursion (λ v. is_sold_line (standing commands) v ≡ true) vs → withdraws_line line.ticket line.line vs ≡ true → list_any (λ (s : SaleRecord). bytes_eq s.ticket line.ticket && (s.line == line.line)) (standing commands) ≡ true
  sold_there [] all gone = absurd cc
  sold_there (v ∷ vs) all gone =
      elim (bytes_eq v.ticket line.ticket && (v.line == line.line)) as (λ b. ((bytes_eq v.ticket line.ticket && (v.line == line.line)) ≡ b) → (b || withdraws_line line.ticket line.line vs) ≡ true
      → list_any (λ (s : SaleRecord). bytes_eq s.ticket line.ticket && (s.line == line.line)) (standing commands) ≡ true) [
        | true ↦ λ here _.
            let parts = and_parts (bytes_eq v.ticket line.ticket) (v.line == line.line) here in
            ap (λ ticket. list_any (λ (s : SaleRecord). bytes_eq s.ticket ticket && (s.line == line.line)) (standing commands)) (sym ((bytes_eq-Decides v.ticket line.ticket).0 parts.0))
            ∙ ap (λ n. list_any (λ (s : SaleRecord). bytes_eq s.ticket v.ticket && (s.line == n)) (standing commands)) (sym (eqb-true v.line line.line parts.1))
            ∙ all.0
        | false ↦ λ _ later. sold_there vs all.1 later
      ] refl gone

  -- a fact, and no void
  stands : (vs : List VoidRecord) → AllByRecursion (λ v. is_sold_line (standing commands) v ≡ true) vs → withdraws_line line.ticket line.line vs ≡ true → (f : Fact) × (fact_at commands line ≡ Some f) × (void_at commands line ≡ None)
  stands vs all gone =
      let found = any_found (λ (s : SaleRecord). bytes_eq s.ticket line.ticket && (s.line == line.line)) (standing commands) (sold_there vs all gone) in
      let kept = (stands_sold (withdrawn commands) line.ticket line.line (sold commands) found.0 found.1).1 in
      (fact_of commands found.0, ap (option_map (fact_of commands)) found.1, is_absent (void_at commands line) (void_stored commands line ∙ kept))

module _ (commands : List Accepted) (c : Accepted) (lines : List VoidRecord) (is : c.content ≡ Withdraws lines)
    (all : AllByRecursion (λ v. is_sold_line (standing commands) v ≡ true) lines) (once : IsDistinct same_void lines) where
  abbrev after : List Accepted
  after = commands ++ c ∷ []

  abbrev number : ℕ
  number = suc (length commands)

  abbrev rows : List VoidRow
  rows = map (void_of number) lines

  -- ---- their facts

  fact_needed : (line : LineKey) → NeedsFact line (fact_at commands line) (fact_at after line) (option_map fact_removed (find (on_line row.void.key line) rows))
  fact_needed line =
      subst (λ o. NeedsFact line (fact_at commands line) (fact_at after line) (option_map fact_removed o)) (sym (row_found number line lines))
      (subst (λ o. NeedsFact line (fact_at commands line) o (option_map fact_removed (void_with line (cond (withdraws_line line.ticket line.line lines) (Some number) None)))) (sym (fact_gone commands c lines is line))
      (elim (withdraws_line line.ticket line.line lines) as (λ b. (withdraws_line line.ticket line.line lines ≡ b) → NeedsFact line (fact_at commands line) (cond b None (fact_at commands line)) (option_map fact_removed (void_with line (cond b (Some number) None)))) [
        | true ↦ λ gone.
            let there = stands commands line lines all gone in
            subst (λ o. NeedsFact line o None (Some (fact_removed (record { ticket = line.ticket; line = line.line; command = number })))) (sym there.1) refl
        | false ↦ λ _. facts.none_needed line (fact_at commands line) (fact_at commands line) refl
      ] refl))

  -- each is taken out, and no other
  removed : (fs : List VoidRow) → IsPermutation rows fs → IsSorted by_line fs → IsFactPlan (fact_at commands) (fact_at after) (map fact_removed fs)
  removed fs moved sorted = record {
    ordered = edits_ascend row.void.key edited_line fact_removed (λ v. refl) rows fs (rows_once number lines once) moved sorted;
    exact = λ line. subst (NeedsFact line (fact_at commands line) (fact_at after line)) (sym (edit_of_line row.void.key edited_line fact_removed (λ v. refl) rows fs (rows_once number lines once) moved line)) (fact_needed line);
  }

  -- ---- their rows of void

  row_needed : (line : LineKey) → Needs line (void_at commands line) (void_at after line) (option_map Put (find (on_line row.void.key line) rows))
  row_needed line =
      subst (λ o. Needs line (void_at commands line) (void_at after line) (option_map Put o)) (sym (row_found number line lines))
      (subst (λ o. Needs line (void_at commands line) o (option_map Put (void_with line (cond (withdraws_line line.ticket line.line lines) (Some number) None)))) (sym (void_new commands c lines is line))
      (elim (withdraws_line line.ticket line.line lines) as (λ b. (withdraws_line line.ticket line.line lines ≡ b) → Needs line (void_at commands line) (option_or (void_at commands line) (void_with line (cond b (Some number) None))) (option_map Put (void_with line (cond b (Some number) None)))) [
        | true ↦ λ gone.
            let there = stands commands line lines all gone in
            let new : Option VoidRow = Some (record { ticket = line.ticket; line = line.line; command = number }) in
            subst (λ o. Needs line o (option_or o new) (option_map Put new)) (sym there.2) (put_needed line new)
        | false ↦ λ _. none_needed line (void_at commands line) (option_or (void_at commands line) None) (option_or-none (void_at commands line))
      ] refl))

  rows_put : (fs : List VoidRow) → IsPermutation rows fs → IsSorted by_line fs → IsTablePlan row.void (void_at commands) (void_at after) (map Put fs)
  rows_put fs moved sorted = record {
    ordered = edits_ascend row.void.key (edited row.void.key) Put (λ v. refl) rows fs (rows_once number lines once) moved sorted;
    exact = λ line. subst (Needs line (void_at commands line) (void_at after line)) (sym (edit_of_line row.void.key (edited row.void.key) Put (λ v. refl) rows fs (rows_once number lines once) moved line)) (row_needed line);
  }

  -- ---- all tables

  still : IsQuiet c.content
  still = quiet commands c lines is

  unruled : governs c.content ≡ false
  unruled = no_policy commands c lines is

  pub void_plan : format_of commands ≡ Two → (own : CommandRow) (fs : List VoidRow) → command_at (commands ++ c ∷ []) (suc (length commands)) ≡ Some own → IsPermutation (map (void_of (suc (length commands))) lines) fs → IsSorted by_line fs
      → AreEdits commands (commands ++ c ∷ []) (void_edits own fs)
  void_plan second own fs at moved sorted = record {
    upgrades = format_same commands c lines is;
    meta = meta_stays commands after (format_same commands c lines is);
    commands = own_row_plan commands c own at;
    members = empty_plan row.member member_cmp_total (member_at commands) (member_at after) (member_same commands c still unruled);
    changes = empty_plan row.change change_cmp_total (change_at commands) (change_at after) (change_same commands c still unruled);
    rows = each_dimension;
    profiles = empty_plan row.profile nat_cmp_total (profile_at commands) (profile_at after) (profile_same commands c still unruled);
    calendar = empty_plan row.calendar nat_cmp_total (calendar_at commands) (calendar_at after) (calendar_same commands c still unruled);
    facts = facts.plan_in_table commands after One Two (map fact_removed fs) (sym second) (format_same commands c lines is) (removed fs moved sorted);
    facts2 = facts.plan_in_table commands after Two Two (map fact_removed fs) (sym second) (format_same commands c lines is) (removed fs moved sorted);
    voids = rows_put fs moved sorted;
  }
    where
      each_dimension : (dim : Dim) → IsRowPlan (dimension_row commands dim) (dimension_row after dim) (rows_of_dimension dim (void_edits own fs))
      each_dimension Product = empty_plan row.product nat_cmp_total (dimension_row commands Product) (dimension_row after Product) (dimension_same commands c still unruled Product)
      each_dimension Store = empty_plan row.product nat_cmp_total (dimension_row commands Store) (dimension_row after Store) (dimension_same commands c still unruled Store)
      each_dimension Customer = empty_plan row.product nat_cmp_total (dimension_row commands Customer) (dimension_row after Customer) (dimension_same commands c still unruled Customer)
