-- What two calls keep, one after the other.
use Rattle.sqlite_trees.specs.declared.store.Store.{Ghosts}
use Rattle.wh_sql.specs.declared.at_rest.Tables.{Tables}
use Rattle.std.specs.Prelude.{⊤}
use Rattle.wh_sql.specs.Answers.{Spares, state_of}
use Rattle.wh_engine.specs.Scanned.{Keeps}
use Rattle.wh_sql.proofs.Sparing.{then_as_it_was}

module _ {S : Type 0} (g : Ghosts S) where
  -- where it is so, the call was one that looks
  pub keeps_spares : (old new : Tables S) {calm : Type 0} → calm → Keeps g old new calm → Spares (state_of g old) (state_of g new) ⊤
  keeps_spares old new so keeps = record { clean = keeps.clean; same = λ clean served. keeps.same clean so; crash = λ clean. keeps.crash clean so }

  pub keeps_where : (old new : Tables S) (P Q : Type 0) → (Q → P) → Keeps g old new P → Keeps g old new Q
  keeps_where old new P Q so keeps = record {
    clean = keeps.clean;
    same = λ clean calm. keeps.same clean (so calm);
    crash = λ clean calm. keeps.crash clean (so calm);
  }

  pub keeps_on : (old mid new : Tables S) (P Q R : Type 0) → (R → P) → (R → Q) → Keeps g old mid P → Keeps g mid new Q → Keeps g old new R
  keeps_on old mid new P Q R first next before after = record {
    clean = λ clean. before.clean (after.clean clean);
    same = λ clean calm. then_as_it_was (before.same (after.clean clean) (first calm)) (after.same clean (next calm));
    crash = λ clean calm trees may. before.crash (after.clean clean) (first calm) trees (after.crash clean (next calm) trees may);
  }
