-- Facts and their lines.
use Rattle.std.proofs.Common.{◌≡◌, ◌==◌, ◌&&◌, true, false, cond, List, [], ◌∷◌, map, Some, None, refl, ◌∙◌, ap, subst}
use Rattle.std.specs.Prelude.{find, bytes_eq, option_map}
use Rattle.std.specs.FinMap.{FinMap, get, insert, get-insert}
use Rattle.std.specs.List.{AllByRecursion, IsDistinct}
use Rattle.std.specs.Option.{option_or}
use Rattle.std.specs.Ordering.{eq_by_cmp}
use Rattle.wh_policy.specs.declared.record.SaleRecord.{SaleRecord}
use Rattle.wh_history.specs.Accepted.{Accepted}
use Rattle.wh_history.specs.Tables.{fact_of}
use Rattle.wh_history.specs.declared.facts.Fact.{Fact}
use Rattle.wh_rows.proofs.Orders.{line_cmp_total}
use Rattle.wh_rows.specs.Rows as row
use Rattle.wh_rows.specs.declared.key.LineKey.{LineKey}
use Rattle.wh_plan.specs.BatchRows.{has_line}
use Rattle.wh_model.specs.Sound.{same_line}
use Rattle.wh_rows.specs.Steps.{with_rows}
use Rattle.wh_plan.proofs.Lines as lines

-- ---- the key of a fact

pub own_line : (f : Fact) → has_line (row.fact.key f) f ≡ true
own_line = lines.own_line row.fact.key

pub line_is : (key : LineKey) (f : Fact) → has_line key f ≡ true → row.fact.key f ≡ key
line_is = lines.line_is row.fact.key

pub line_tied : (key : LineKey) (f : Fact) → eq_by_cmp row.line_cmp key (row.fact.key f) ≡ has_line key f
line_tied = lines.line_tied row.fact.key

-- ---- facts of which no two have one key

abbrev pub Once : List Fact → Type 0
Once facts = IsDistinct (λ f. has_line (row.fact.key f)) facts

none_there : (key : LineKey) (facts : List Fact) → AllByRecursion (λ g. has_line key g ≡ false) facts → find (has_line key) facts ≡ None
none_there key [] all = refl
none_there key (g ∷ gs) all = rw all.0 (none_there key gs all.1)

-- what the table then shows under a key
pub facts_put : (facts : List Fact) (m : FinMap row.line_cmp Fact) (key : LineKey) → Once facts → get (with_rows row.fact facts m) key ≡ option_or (find (has_line key) facts) (get m key)
unfolding IsDistinct
facts_put [] m key once = refl
facts_put (f ∷ fs) m key once =
    let got : get (insert m (row.fact.key f) f) key ≡ cond (has_line key f) (Some f) (get m key) =
    get-insert line_cmp_total m (row.fact.key f) f key ∙ ap (λ b. cond b (Some f) (get m key)) (line_tied key f) in
    let rest = facts_put fs (insert m (row.fact.key f) f) key once.1 ∙ ap (option_or (find (has_line key) fs)) got in
    rest ∙ elim (has_line key f) as (λ b. (has_line key f ≡ b) → option_or (find (has_line key) fs) (cond b (Some f) (get m key)) ≡ option_or (cond b (Some f) (find (has_line key) fs)) (get m key)) [
      | true ↦ λ has.
          let none : find (has_line key) fs ≡ None = none_there key fs (subst (λ k. AllByRecursion (λ g. has_line k g ≡ false) fs) (line_is key f has) once.0) in
          ap (λ o. option_or o (Some f)) none
      | false ↦ λ _. refl
    ] refl

-- each is found under its own key
pub found_each : (facts : List Fact) → Once facts → AllByRecursion (λ g. find (has_line (row.fact.key g)) facts ≡ Some g) facts
found_each = lines.found_each row.fact.key

-- ---- the facts of sales

module _ (commands : List Accepted) where
  -- the fact of the first sale on a line is the first fact with that line
  pub found_mapped : (key : LineKey) (sales : List SaleRecord) → find (has_line key) (map (fact_of commands) sales) ≡ option_map (fact_of commands) (find (λ s. bytes_eq s.ticket key.ticket && (s.line == key.line)) sales)
  found_mapped key [] = refl
  found_mapped key (s ∷ sales) =
      elim (bytes_eq s.ticket key.ticket && (s.line == key.line)) as (λ b. cond b (Some (fact_of commands s)) (find (has_line key) (map (fact_of commands) sales)) ≡ option_map (fact_of commands) (cond b (Some s) (find (λ (t : SaleRecord). bytes_eq t.ticket key.ticket && (t.line == key.line)) sales))) [
        | true ↦ refl
        | false ↦ found_mapped key sales
      ]

  apart_mapped : (s : SaleRecord) (sales : List SaleRecord) → AllByRecursion (λ t. same_line s t ≡ false) sales → AllByRecursion (λ g. has_line (row.fact.key (fact_of commands s)) g ≡ false) (map (fact_of commands) sales)
  apart_mapped s [] all = tt
  apart_mapped s (t ∷ sales) all = (all.0, apart_mapped s sales all.1)

  -- where no two sales have one line, no two of their facts have one key
  pub facts_once : (sales : List SaleRecord) → IsDistinct same_line sales → Once (map (fact_of commands) sales)
  unfolding IsDistinct
  facts_once [] once = tt
  facts_once (s ∷ sales) once = (apart_mapped s sales once.0, facts_once sales once.1)
