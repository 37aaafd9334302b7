-- Queries that words ask for, and their first faults, on literals.
use Rattle.std.proofs.Common.{◌≡◌, ℕ, List, [], ◌∷◌, Option, Some, None, Ok, Err, refl}
use Rattle.std.specs.Prelude.{codes}
use Rattle.wh_policy.specs.declared.attribute.AttributeType.TheVariants.{NewRow}
use Rattle.wh_policy.proofs.OnLiterals.{policy_on_literals}
use Rattle.wh_report.specs.Request.{read_request}
use Rattle.wh_report.specs.Subject.{subject_in}
use Rattle.wh_batch.specs.declared.mode.Mode.{Mode}
use Rattle.wh_batch.specs.declared.mode.Mode.TheVariants.{Was, Is, Prior}
use Rattle.wh_report.specs.declared.request.RequestFault.TheVariants.{NoAttribute, NoReading, NoDateReading, BadRange}
use Rattle.wh_report.proofs.Worked.{policy}
use Rattle.wh_query.specs.Asked.{column_name}
use Rattle.wh_query.specs.declared.form.Form.TheVariants.{Csv}
use Rattle.wh_query.specs.Reading.{read_query}
use Rattle.wh_batch.specs.QueryWords.{ColumnGiven, ConditionGiven}

abbrev by : List ℕ → Option Mode → ColumnGiven
by attribute mode = record { attribute = attribute; mode = mode }

abbrev only : ColumnGiven → List ℕ → ConditionGiven
only column label = record { column = column; label = label }

abbrev first : List ℕ
first = codes "2024-01-01"

abbrev last : List ℕ
last = codes "2024-12-31"

-- the supplier has no `was`, and the day of sale needs no mode
modes_meant : read_query policy (by (codes "product.brand") None ∷ by (codes "product.supplier") None ∷ by (codes "date.month") None ∷ by (codes "product.category") (Some Is) ∷ []) (only (by (codes "store.city") None) (codes "Bern, Gare") ∷ []) first last
    ≡ Ok (record {
      columns = record { words = codes "product.brand"; mode = Was } ∷ record { words = codes "product.supplier"; mode = Is } ∷ record { words = codes "date.month"; mode = Was } ∷ record { words = codes "product.category"; mode = Is } ∷ [];
      conditions = record { column = record { words = codes "store.city"; mode = Was }; label = codes "Bern, Gare" } ∷ [];
      from = 20240101;
      to = 20241231;
      form = Csv;
    })
unfolding read_query read_request subject_in policy_on_literals
modes_meant = refl

-- a given mode isn't changed
brands_as_they_are : read_query policy (by (codes "product.brand") (Some Is) ∷ by (codes "product.city") None ∷ []) [] first last ≡ Err (NoReading NewRow Is)
unfolding read_query read_request subject_in policy_on_literals
brands_as_they_are = refl

-- the faults come in the order of the words
second_column : read_query policy (by (codes "date.month") None ∷ by (codes "product.city") None ∷ by (codes "date.month") (Some Prior) ∷ []) (only (by (codes "product.brand") (Some Is)) [] ∷ []) first last ≡ Err NoAttribute
unfolding read_query read_request subject_in policy_on_literals
second_column = refl

of_a_condition : read_query policy (by (codes "date.month") None ∷ []) (only (by (codes "store.city") None) [] ∷ only (by (codes "date.month") (Some Prior)) [] ∷ only (by (codes "product.city") None) [] ∷ []) first last ≡ Err (NoDateReading Prior)
unfolding read_query read_request subject_in policy_on_literals
of_a_condition = refl

-- the report by the first column is refused for its range
range_before_the_second : read_query policy (by (codes "date.month") None ∷ by (codes "product.city") None ∷ []) [] last first ≡ Err BadRange
unfolding read_query read_request subject_in policy_on_literals
range_before_the_second = refl

range_alone : read_query policy [] [] last first ≡ Err BadRange
unfolding read_query policy_on_literals
range_alone = refl

by_nothing : read_query policy [] [] first first ≡ Ok (record { columns = []; conditions = []; from = 20240101; to = 20240101; form = Csv })
unfolding read_query policy_on_literals
by_nothing = refl

names : column_name (record { words = codes "product.brand"; mode = Is }) ∷ column_name (record { words = codes "date.holiday"; mode = Is }) ∷ column_name (record { words = codes "date.month"; mode = Was }) ∷ []
    ≡ codes "product.brand:is" ∷ codes "date.holiday" ∷ codes "date.month" ∷ []
names = refl
