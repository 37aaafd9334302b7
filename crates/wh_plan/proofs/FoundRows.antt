-- The rows of product, store and customer, and those of one member.
use Rattle.std.proofs.Common.{◌≡◌, ℕ, zero, suc, ◌+◌, ◌<◌, ◌≤◌, ◌==◌, Bool, true, false, cond, List, filter, length, Option, Some, None, Result, IfOk, is_eq, ◌∷◌, refl, sym, ◌∙◌, ap, arith, inl, inr}
use Rattle.std.specs.Prelude.{filter_map}
use Rattle.std.specs.Option.{option_and_then}
use Rattle.std.specs.List.{range_with_len, cons_option}
use Rattle.std.specs.Ordering.{eq_by_cmp, nat_cmp}
use Rattle.std.specs.FinMap.{FinMap, values, get}
use Rattle.std.proofs.lemmas.Bool.{cases_lt, cases_eq, eqb-true, eq-eqb, ne_eqb}
use Rattle.std.proofs.lemmas.Result.{IfOk-weaker}
use Rattle.std.proofs.lemmas.List.Elements.{filter_agree}
use Rattle.wh_policy.specs.declared.attribute.Dim.{Dim}
use Rattle.wh_policy.specs.declared.attribute.Dim.TheVariants.{Product, Store, Customer}
use Rattle.wh_history.specs.Keys.{at_place}
use Rattle.wh_history.specs.Plan.{row_of}
use Rattle.wh_history.specs.Accepted.{Accepted, Anchor, anchors}
use Rattle.wh_history.specs.Tables.{member_rows, numbered_row, dimension_row, dimension_table}
use Rattle.wh_history.specs.declared.rows.DimRow.{DimRow}
use Rattle.wh_history.proofs.Basics.{some_is, find_passes}
use Rattle.wh_history.proofs.Effective.{came_from}
use Rattle.wh_plan.specs.Reading.{rows_with}
use Rattle.wh_model.proofs.Listed.{kept, values-numbered}
use Rattle.wh_model.proofs.FoundPlaces.{same_number_is, number_ties}
use Rattle.wh_model.proofs.GrownKeys.{at_past}

-- ---- the table in order of its keys

module _ (commands : List Accepted) where
  numbered_key : (dim : Dim) (key : ℕ) (r : DimRow) → numbered_row commands dim key ≡ Some r → r.surrogate ≡ key
  numbered_key dim key r is =
      let from = came_from dim commands key r (at_place key (anchors dim commands)) refl is in
      eqb-true r.surrogate key (find_passes (λ (r : DimRow). r.surrogate == key) r (member_rows commands dim from.0.natural) from.1)

  numbered_past : (dim : Dim) (key : ℕ) → length (anchors dim commands) < key → numbered_row commands dim key ≡ None
  numbered_past dim key past = ap (option_and_then (λ (a : Anchor). row_of key (member_rows commands dim a.natural))) (at_past key (anchors dim commands) past)

  pub row_key : (dim : Dim) (key : ℕ) (r : DimRow) → dimension_row commands dim key ≡ Some r → r.surrogate ≡ key
  row_key Product key r is = numbered_key Product key r is
  row_key Store key r is = numbered_key Store key r is
  row_key Customer zero r is = sym (ap (λ (q : DimRow). q.surrogate) (some_is _ _ is))
  row_key Customer (suc n) r is = numbered_key Customer (suc n) r is

  pub row_past : (dim : Dim) (key : ℕ) → length (anchors dim commands) < key → dimension_row commands dim key ≡ None
  row_past Product key past = numbered_past Product key past
  row_past Store key past = numbered_past Store key past
  row_past Customer zero past = absurd (omega arith)
  row_past Customer (suc n) past = numbered_past Customer (suc n) past

  pub table_listed : (dim : Dim) (m : FinMap nat_cmp DimRow) → ((key : ℕ) → get m key ≡ dimension_row commands dim key) → values m ≡ dimension_table commands dim
  table_listed dim m held = values-numbered (λ (r : DimRow). r.surrogate) m (dimension_row commands dim) held (row_key dim) (length (anchors dim commands)) (row_past dim)

same_test : (durable other : ℕ) → eq_by_cmp nat_cmp durable other ≡ (other == durable)
same_test durable other =
    elim (cases_eq other durable) [
      | inl same ↦ ap (λ n. eq_by_cmp nat_cmp durable n) same ∙ ap is_eq (number_ties durable durable refl) ∙ sym (eq-eqb other durable same)
      | inr apart ↦
          sym (ne_eqb other durable apart ∙ elim (eq_by_cmp nat_cmp durable other) as (λ b. eq_by_cmp nat_cmp durable other ≡ b → false ≡ b) [
            | true ↦ λ t. absurd (apart (sym (same_number_is durable other t)))
            | false ↦ λ _. refl
          ] refl)
    ]

-- a search by a durable key finds the rows that have it
pub rows_found : (dim : Dim) (commands : List Accepted) (m : FinMap nat_cmp DimRow) → ((key : ℕ) → get m key ≡ dimension_row commands dim key) → (durable : ℕ) → filter (λ r. eq_by_cmp nat_cmp durable r.durable) (values m) ≡ rows_with dim commands durable
rows_found dim commands m held durable =
    ap (filter (λ (r : DimRow). eq_by_cmp nat_cmp durable r.durable)) (table_listed commands dim m held)
    ∙ filter_agree (λ (r : DimRow). eq_by_cmp nat_cmp durable r.durable) (λ (r : DimRow). r.durable == durable) (λ r. same_test durable r.durable) (dimension_table commands dim)

-- the same of what a table of this dimension answers
pub rows_read : {X E : Type 0} (r : Result X E) (items : X → List DimRow) (own dim : Dim) (commands : List Accepted) (m : FinMap nat_cmp DimRow) → ((key : ℕ) → get m key ≡ dimension_row commands own key) → dim ≡ own → (durable : ℕ)
    → IfOk r (λ x. items x ≡ filter (λ q. eq_by_cmp nat_cmp durable q.durable) (values m)) → IfOk r (λ x. items x ≡ rows_with dim commands durable)
rows_read r items own dim commands m held same durable read =
    IfOk-weaker r (λ x. items x ≡ filter (λ (q : DimRow). eq_by_cmp nat_cmp durable q.durable) (values m)) (λ x. items x ≡ rows_with dim commands durable)
    (λ x is. is ∙ rows_found own commands m held durable ∙ ap (λ (d : Dim). rows_with d commands durable) (sym same)) read

-- ---- the row under a key among those that pass

module _ (row : ℕ → Option DimRow) (at : (n : ℕ) (r : DimRow) → row n ≡ Some r → r.surrogate ≡ n) (keep : DimRow → Bool) (key : ℕ) where
  abbrev passing : ℕ → ℕ → List DimRow
  passing from count = filter keep (filter_map row (range_with_len from count))

  -- the row of another key is passed over
  passed_over : (n : ℕ) (rest : List DimRow) → ¬ (n ≡ key) → row_of key (filter keep (cons_option (row n) rest)) ≡ row_of key (filter keep rest)
  passed_over n rest other =
      elim (row n) as (λ o. row n ≡ o → row_of key (filter keep (cons_option o rest)) ≡ row_of key (filter keep rest)) [
        | None ↦ λ _. refl
        | Some r ↦ λ is.
            let apart : (r.surrogate == key) ≡ false = ne_eqb r.surrogate key (λ same. other (sym (at n r is) ∙ same)) in
            elim (keep r) as (λ b. row_of key (cond b (r ∷ filter keep rest) (filter keep rest)) ≡ row_of key (filter keep rest)) [
              | true ↦ ap (λ b. cond b (Some r) (row_of key (filter keep rest))) apart
              | false ↦ refl
            ]
      ] refl

  -- its own row is found if it passes
  own_found : (rest : List DimRow) → row_of key (filter keep rest) ≡ None → row_of key (filter keep (cons_option (row key) rest)) ≡ kept keep (row key)
  own_found rest none =
      elim (row key) as (λ o. row key ≡ o → row_of key (filter keep (cons_option o rest)) ≡ kept keep o) [
        | None ↦ λ _. none
        | Some r ↦ λ is.
            let same : (r.surrogate == key) ≡ true = eq-eqb r.surrogate key (at key r is) in
            elim (keep r) as (λ b. row_of key (cond b (r ∷ filter keep rest) (filter keep rest)) ≡ cond b (Some r) None) [
              | true ↦ ap (λ b. cond b (Some r) (row_of key (filter keep rest))) same
              | false ↦ none
            ]
      ] refl

  none_before : (from count : ℕ) → key < from → row_of key (passing from count) ≡ None
  none_before from zero less = refl
  none_before from (suc count) less = passed_over from (filter_map row (range_with_len (from + 1) count)) (λ same. absurd (omega arith)) ∙ none_before (from + 1) count (omega arith)

  pub none_behind : (from count : ℕ) → from + count ≤ key → row_of key (passing from count) ≡ None
  none_behind from zero past = refl
  none_behind from (suc count) past = passed_over from (filter_map row (range_with_len (from + 1) count)) (λ same. absurd (omega arith)) ∙ none_behind (from + 1) count (omega arith)

  pub under_key : (from count : ℕ) → from ≤ key → key < from + count → row_of key (passing from count) ≡ kept keep (row key)
  under_key from zero low high = absurd (omega arith)
  under_key from (suc count) low high =
      let rest = filter_map row (range_with_len (from + 1) count) in
      elim (cases_lt from key) [
        | inl less ↦ passed_over from rest (λ same. absurd (omega arith)) ∙ under_key (from + 1) count (omega arith) (omega arith)
        | inr up ↦
            let same : from ≡ key = omega arith in
            ap (λ n. row_of key (filter keep (cons_option (row n) rest))) same ∙ own_found rest (none_before (from + 1) count (omega arith))
      ]

-- the row under a key, if it has the durable key
abbrev pub owned : ℕ → Option DimRow → Option DimRow
owned durable o = kept (λ r. r.durable == durable) o

pub row_with : (dim : Dim) (commands : List Accepted) (durable key : ℕ) → row_of key (rows_with dim commands durable) ≡ owned durable (dimension_row commands dim key)
row_with dim commands durable key =
    let count = length (anchors dim commands) in
    let keep = λ (r : DimRow). r.durable == durable in
    elim (cases_lt count key) [
      | inl past ↦ none_behind (dimension_row commands dim) (row_key commands dim) keep key 0 (suc count) (omega arith) ∙ sym (ap (kept keep) (row_past commands dim key past))
      | inr within ↦ under_key (dimension_row commands dim) (row_key commands dim) keep key 0 (suc count) (omega arith) (omega arith)
    ]
