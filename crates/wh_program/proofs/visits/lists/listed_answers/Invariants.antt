use Rattle.std.proofs.Common.{take}
use Rattle.wh_engine.specs.Scanned.{WhenReady}
use Rattle.wh_program.specs.Looking.{Looks}
use Rattle.wh_program.proofs.ListLemmas.{AreSoFar}
use Rattle.wh_program.proofs.visits.lists.listed_answers.Given as goal

-- the questions so far are answered, and the engine is ready for the next
abbrev pub invariant-loop-question : goal.invariant-loop-question
invariant-loop-question g l =
    Looks g.S.Store l.fn.engine l.engine
    × WhenReady g.S.Store l.fn.engine l.engine (λ limits commands session s. AreSoFar g.Q.Question.answered limits commands session s (take l.question-index l.listed) l.answers.items)
