use Rattle.std.proofs.Common.{Ok}
use Rattle.wh_sql.specs.Answers.{ReadsOnly, state_of}
use Rattle.wh_engine.proofs.preview.free_id.Given as goal

abbrev pub invariant-numbers : goal.invariant-numbers
invariant-numbers g l = ReadsOnly (state_of g.S.Store l.fn.tables) (state_of g.S.Store l.tables) (Ok l.number)
