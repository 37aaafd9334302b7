use Rattle.std.specs.Prelude.{Ok}
use Rattle.wh_engine.specs.Scanned.{EngineReadsThrough}
use Rattle.wh_program.proofs.visits.explain.compared.Given as goal

-- the engine was read, and no more
abbrev pub invariant-records : goal.invariant-records
invariant-records g l = EngineReadsThrough {A = Unit {0}} g.S.Store l.fn.engine l.engine (Ok tt)
