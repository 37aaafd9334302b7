use Rattle.std.proofs.Common.{◌≡◌, ◌++◌, ℕ, List}
use Rattle.wh_report.specs.CsvBuffer.{Gathers}
use Rattle.wh_query.specs.Answer.{lines_text, answer_text}
use Rattle.wh_query.specs.Words.{by_words}
use Rattle.wh_query.proofs.text.answer_text.Given as goal

-- what is gathered, before what is still there
abbrev pub invariant-loop-labels : goal.invariant-loop-labels
invariant-loop-labels l = (done : List ℕ) × Gathers l.text done × (done ++ lines_text (by_words l.labels-iterator) ≡ answer_text l.query.columns l.lines)
