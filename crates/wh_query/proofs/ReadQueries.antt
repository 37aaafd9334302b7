-- Laws of the queries that words ask for.
use Rattle.std.proofs.Common.{◌≡◌, ℕ, Bool, true, cond, ◌&&◌, List, [], ◌∷◌, map, Option, Some, None, Result, Ok, Err, refl, ◌∙◌, ap, ap₂, subst}
use Rattle.std.specs.Prelude.{is_some}
use Rattle.std.specs.List.{list_all}
use Rattle.wh_day.specs.Day.{read_day}
use Rattle.wh_day.specs.Reading.{◌>>=◌}
use Rattle.wh_policy.specs.declared.policy.Policy.{Policy}
use Rattle.wh_report.specs.Asked.{Asked}
use Rattle.wh_report.specs.Request.{read_request, range_makes, has_reading, subject_reads}
use Rattle.wh_report.specs.Subject.{subject_in}
use Rattle.wh_batch.specs.declared.mode.Mode.TheVariants.{Was, Is}
use Rattle.wh_report.specs.declared.request.RequestFault.{RequestFault}
use Rattle.wh_report.specs.declared.subject.Subject.{Subject}
use Rattle.wh_report.specs.declared.subject.Subject.TheVariants.{Attribute, Month, Holiday}
use Rattle.wh_report.proofs.TypeReadings.{mode_found}
use Rattle.wh_report.proofs.Ranges.{days_made, given, given_is, range_there}
use Rattle.wh_query.specs.Asked.{ColumnAsked, ConditionAsked, QueryAsked, alone, have_readings, query_reads}
use Rattle.wh_query.specs.declared.form.Form.TheVariants.{Csv}
use Rattle.wh_query.specs.Reading.{mode_meant, read_each, read_column, read_condition, read_query}
use Rattle.wh_batch.specs.QueryWords.{ColumnGiven, ConditionGiven}
use Rattle.wh_query.specs.Laws.{QueriesHaveReadings, NoModeIsNeeded, of_request, ReadAsRequests}

-- ---- each column has a reading

given_by : {A B : Type 0} (read : Result A RequestFault) (more : A → Result B RequestFault) (made : B) → (read >>= more) ≡ Ok made → (x : A) × (read ≡ Ok x) × (more x ≡ Ok made)
given_by (Ok x) more made is = (x, refl, is)
given_by (Err fault) more made is = absurd (cc)

each_passes : {A B : Type 0} (read : A → Result B RequestFault) (test : B → Bool) → ((x : A) (made : B) → read x ≡ Ok made → test made ≡ true) → (xs : List A) (all : List B) → read_each read xs ≡ Ok all → list_all test all ≡ true
each_passes read test passes [] all is = subst (λ ys. list_all test ys ≡ true) (given_is [] all is) refl
each_passes read test passes (x ∷ xs) all is =
    let first = given_by (read x) (λ y. read_each read xs >>= λ ys. Ok (y ∷ ys)) all is in
    let others = given_by (read_each read xs) (λ ys. Ok (first.0 ∷ ys)) all first.2 in
    subst (λ ys. list_all test ys ≡ true) (given_is (first.0 ∷ others.0) all others.2) (ap₂ ◌&&◌ (passes x first.0 first.1) (each_passes read test passes xs others.0 others.1))

of_columns : (policy : Policy) (conditions : List ConditionAsked) → have_readings policy (map (λ (d : ConditionAsked). d.column) conditions) ≡ list_all (λ (d : ConditionAsked). has_reading policy (alone d.column)) conditions
of_columns policy [] = refl
of_columns policy (d ∷ conditions) = ap (λ b. has_reading policy (alone d.column) && b) (of_columns policy conditions)

module _ (policy : Policy) (from to : List ℕ) where
  column_reads : (c : ColumnGiven) (column : ColumnAsked) → read_column policy from to c ≡ Ok column → has_reading policy (alone column) ≡ true
  column_reads c column is =
      let read = given_by (read_request policy c.attribute (mode_meant policy c) from to) (λ (r : Asked). Ok (record { words = r.words; mode = r.mode })) column is in
      let request : Asked = read.0 in
      subst (λ (k : ColumnAsked). has_reading policy (alone k) ≡ true) (given_is (record { words = request.words; mode = request.mode }) column read.2) (given policy c.attribute (mode_meant policy c) from to request read.1).reads

  condition_reads : (c : ConditionGiven) (condition : ConditionAsked) → read_condition policy from to c ≡ Ok condition → has_reading policy (alone condition.column) ≡ true
  condition_reads c condition is =
      let read = given_by (read_column policy from to c.column) (λ (k : ColumnAsked). Ok (record { column = k; label = c.label })) condition is in
      subst (λ (d : ConditionAsked). has_reading policy (alone d.column) ≡ true) (given_is (record { column = read.0; label = c.label }) condition read.2) (column_reads c.column read.0 read.1)

abbrev query_of : List ColumnAsked → List ConditionAsked → ℕ → ℕ → QueryAsked
query_of columns conditions first last = record { columns = columns; conditions = conditions; from = first; to = last; form = Csv }

whole_reads : (policy : Policy) (q : QueryAsked) (columns : List ColumnAsked) (conditions : List ConditionAsked) (first last : ℕ) → q ≡ query_of columns conditions first last
    → have_readings policy columns ≡ true → list_all (λ (d : ConditionAsked). has_reading policy (alone d.column)) conditions ≡ true → query_reads policy q ≡ true
whole_reads policy q columns conditions first last is shown held = ap (query_reads policy) is ∙ ap₂ ◌&&◌ shown (of_columns policy conditions ∙ held)

pub queries_have_readings : QueriesHaveReadings
unfolding read_query
queries_have_readings policy columns conditions from to q is =
    let shown = given_by (read_each (read_column policy from to) columns) (λ ks. read_each (read_condition policy from to) conditions >>= λ ds. range_makes from to (query_of ks ds)) q is in
    let held = given_by (read_each (read_condition policy from to) conditions) (λ ds. range_makes from to (query_of shown.0 ds)) q shown.2 in
    let made = days_made (read_day from) (read_day to) (query_of shown.0 held.0) q held.2 in
    whole_reads policy q shown.0 held.0 made.0 made.1 made.2 (each_passes (read_column policy from to) (λ (k : ColumnAsked). has_reading policy (alone k)) (column_reads policy from to) columns shown.0 shown.1)
    (each_passes (read_condition policy from to) (λ (d : ConditionAsked). has_reading policy (alone d.column)) (condition_reads policy from to) conditions held.0 held.1)

-- ---- a mode is found

one_reads : (found : Option Subject) → is_some found ≡ true → subject_reads (cond (subject_reads Was found) Was Is) found ≡ true
one_reads None there = absurd (cc)
one_reads (Some (Attribute a)) there = mode_found a.kind
one_reads (Some Month) there = refl
one_reads (Some Holiday) there = refl

pub no_mode_is_needed : NoModeIsNeeded
no_mode_is_needed policy attribute there = one_reads (subject_in policy attribute) there

-- ---- one column alone

pub read_as_requests : ReadAsRequests
unfolding read_query
read_as_requests policy c from to =
    elim (read_request policy c.attribute (mode_meant policy c) from to) as (λ o. (read_request policy c.attribute (mode_meant policy c) from to ≡ o)
    → (((o >>= λ (r : Asked). Ok (record { words = r.words; mode = r.mode })) >>= λ (k : ColumnAsked). Ok (k ∷ [])) >>= λ ks. range_makes from to (query_of ks [])) ≡ (o >>= λ (r : Asked). Ok (of_request r))) [
      | Ok r ↦ λ is. range_there from to (r.from, r.to) (query_of (record { words = r.words; mode = r.mode } ∷ []) []) (given policy c.attribute (mode_meant policy c) from to r is).range
      | Err fault ↦ λ is. refl
    ] refl
