-- What the queries of a list answer: each what the words of a query alone do.
use Rattle.std.specs.Prelude.{ℕ, List}
use Rattle.wh_program.specs.Answer.{Printed}
use Rattle.wh_program.specs.Inputs.{Files, Refusals}
use Rattle.wh_program.specs.Lists.{AnswersList, Lacks}
use Rattle.wh_program.specs.Readings.{query_answered}
use Rattle.wh_program.specs.Standing.{DatabaseContent, Standing}
use Rattle.wh_program.specs.Warehouse.{Shown}
use Rattle.wh_words.specs.QueryList.{queries_of}

-- the queries that the list in a file asks for
abbrev pub AnswersQueries : Files → Refusals → (Standing → Type 0) → DatabaseContent → (file list : List ℕ) → Shown → Type 0
AnswersQueries = AnswersList queries_of query_answered

-- the list isn't there, or is a bad one
abbrev pub LacksQueries : Files → (list : List ℕ) → Printed → Type 0
LacksQueries = Lacks queries_of
