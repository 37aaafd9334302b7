use Rattle.std.proofs.Common.{◌≡◌, ◌++◌, take, codes}
use Rattle.std.specs.Prelude.{flat_map}
use Rattle.wh_program.specs.Answer.{Printed}
use Rattle.wh_program.proofs.lines.reports_text.answers_text.Given as goal

-- the texts so far of those behind the first were added, each after an empty line
abbrev pub invariant-loop-answer : goal.invariant-loop-answer
invariant-loop-answer l = l.text.items ≡ l.initial.text.items ++ flat_map (λ (other : Printed). codes "\n" ++ other.text) (take l.answer-index l.others)
