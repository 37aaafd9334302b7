-- The fields of a line that is made.
use Rattle.std.specs.Prelude.{◌≡◌, ℕ, List, []}
use Rattle.csv.specs.Records.{Row, fields_of, partial_of}

-- a record has these fields, and no part of a further one
pub record HasFields (row : Row) (fields : List (List ℕ)) : Type 0 where
  pub are : fields_of row ≡ fields
  pub whole : partial_of row ≡ []
