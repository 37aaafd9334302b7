use Rattle.std.proofs.Common.{inl, refl, arith}
use Rattle.wh_sql.proofs.write.execute.Goals as goal

pub returns-then-is_autocommit-clause-survives : goal.returns-then-is_autocommit-clause-survives
returns-then-is_autocommit-clause-survives g c = record {
  clean = omega arith;
  shield = λ shielded. shielded;
  counts = omega arith;
  limit = refl;
  closes = λ clean is_open. inl is_open;
  crash = λ clean trees may. inl may;
}
