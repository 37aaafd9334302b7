-- What looks at what stands leaves it, whatever it is.
use Rattle.std.proofs.Common.{◌≡◌, ◌∙◌, ◌||◌, Bool, true, false, Ok, Err, Result, Some, None, inl, inr, refl, sym, ap, subst}
use Rattle.sqlite_trees.specs.declared.store.Store.{Ghosts}
use Rattle.sqlite.specs.State.{State, HasCleanDisk}
use Rattle.sqlite.specs.Tree.{Trees}
use Rattle.wh_rows.specs.AtRest.{Has, IsAtRest, Leaves}
use Rattle.wh_rows.specs.Raw.{LeavesStored}
use Rattle.wh_sql.specs.Answers.{IsAsItWas, Spares, state_of}
use Rattle.wh_sql.specs.declared.at_rest.Tables.{Tables}
use Rattle.wh_sql.proofs.Sparing.{spares_itself, then_as_it_was, tables_left, tables_again, stored_left, stored_again}
use Rattle.wh_engine.specs.Answered as engine
use Rattle.wh_engine.specs.Faults.{IsServed, stops}
use Rattle.wh_engine.specs.Scanned.{noting, EngineReads, Keeps as KeepsIt, ReadsThrough}
use Rattle.wh_engine.specs.declared.engine.Engine.{Engine}
use Rattle.wh_engine.specs.declared.fault.Fault.{Fault}
use Rattle.wh_engine.specs.declared.fault.Fault.TheVariants as fault
use Rattle.wh_engine.specs.declared.session.Session.{Session}
use Rattle.wh_program.specs.Looking.{Looks}
use Rattle.wh_program.specs.Standing.{DatabaseContent, Nothing, Holds, Keeps, Is, Standing, Rests, LeftAt, LeavesEither, LeavesIt, IsAt, Stands}

-- ---- what is left of what stands

module _ {old new : State} {calm : Type 0} (it : Spares old new calm) (clean : HasCleanDisk new) where
  -- a crash leaves what it would have left before
  pub left_so : (content : DatabaseContent) → IsAt content old → LeavesEither content content new
  left_so Nothing at = record { each = λ trees may. inl (at.left.each trees (it.crash clean trees may)) }
  left_so (Holds limits commands) at = record { each = λ trees may. inl (record { tables = at.1.tables; are = at.1.are; trees_are = at.1.rests.left.each trees (it.crash clean trees may) }) }
  left_so (Keeps stored) at = record { each = λ trees may. inl (at.left.each trees (it.crash clean trees may)) }
  left_so (Is db) at = record { each = λ trees may. inl (at.left trees (it.crash clean trees may)) }

  -- and where the call was calm, it still stands
  pub stands_so : (content : DatabaseContent) → IsAt content old → calm → IsAt content new
  stands_so Nothing at still =
      let same = it.same clean still in
      record {
        is_open = rw same.is_open at.is_open;
        autocommit = same.mode ∙ at.autocommit;
        unmarked = same.marks ∙ at.unmarked;
        now = subst (Has None) (sym same.now) at.now;
        committed = same.committed ∙ (at.committed ∙ sym same.now);
        left = record { each = λ trees may. at.left.each trees (it.crash clean trees may) };
      }
  stands_so (Holds limits commands) at still = (at.0, record { tables = at.1.tables; are = at.1.are; rests = tables_again it clean at.1.tables at.1.rests still })
  stands_so (Keeps stored) at still = stored_again it clean stored at still
  stands_so (Is db) at still =
      let same = it.same clean still in
      record {
        is_open = rw same.is_open at.is_open;
        autocommit = same.mode ∙ at.autocommit;
        unmarked = same.marks ∙ at.unmarked;
        now = same.now ∙ at.now;
        committed = same.committed ∙ at.committed;
        left = λ trees may. at.left trees (it.crash clean trees may);
      }

-- what a call that may write leaves where it was calm
pub kept_so : {S : Type 0} {g : Ghosts S} {old new : Tables S} {calm : Type 0} → KeepsIt g old new calm → HasCleanDisk (state_of g new) → (content : DatabaseContent) → IsAt content (state_of g old) → calm → IsAt content (state_of g new)
kept_so {S} {g} {old} {new} {calm} keeps clean content at still =
    let spares : Spares (state_of g old) (state_of g new) (Unit {0}) = record { clean = keeps.clean; same = λ clean calm. keeps.same clean still; crash = λ clean trees may. keeps.crash clean still trees may } in
    stands_so spares clean content at tt

-- ---- what looks

pub looks_itself : {S : Type 0} {g : Ghosts S} {e : Engine S} → Looks g e e
looks_itself = record { spares = spares_itself; stays = λ unflagged. unflagged }

pub then_looks : {S : Type 0} {g : Ghosts S} {old mid new : Engine S} → Looks g old mid → Looks g mid new → Looks g old new
then_looks before after = record {
  spares = record {
    clean = λ clean. before.spares.clean (after.spares.clean clean);
    same = λ clean calm. then_as_it_was (before.spares.same (after.spares.clean clean) (after.stays calm)) (after.spares.same clean calm);
    crash = λ clean trees may. before.spares.crash (after.spares.clean clean) trees (after.spares.crash clean trees may);
  };
  stays = λ calm. before.stays (after.stays calm);
}

not_or : (a b : Bool) → (a || b) ≡ false → (a ≡ false) × (b ≡ false)
not_or true b is = absurd (cc)
not_or false b is = (refl, is)

-- what doesn't stop an engine was served
served : {A : Type 0} (result : Result A Fault) → stops result ≡ false → IsServed result
served (Ok answer) is = tt
served (Err (fault.Refused why)) is = tt
served (Err (fault.Damaged table)) is = tt
served (Err fault.Memory) is = tt
served (Err (fault.Store cause)) is = absurd (cc)
served (Err fault.Reopen) is = tt

-- so a reading of which it is noted whether the database refused a call
noted_looks : {S A : Type 0} {g : Ghosts S} {old new : Engine S} (result : Result A Fault)
    → Spares (state_of g old.tables) (state_of g new.tables) (IsServed result) → new.session ≡ noting old.session result → Looks g old new
noted_looks {S} {A} {g} {old} {new} result spares noted =
    let both : (new.session.must_reopen ≡ false) → (old.session.must_reopen ≡ false) × (stops result ≡ false)
    = λ calm. not_or old.session.must_reopen (stops result) (sym (ap (λ (s : Session). s.must_reopen) noted) ∙ calm) in
    record {
      spares = record { clean = spares.clean; same = λ clean calm. spares.same clean (served result (both calm).1); crash = spares.crash };
      stays = λ calm. (both calm).0;
    }

pub read_looks : {S A : Type 0} {g : Ghosts S} {old new : Engine S} {result : Result A Fault} → EngineReads g old new result → Looks g old new
read_looks {result = result} reads = noted_looks result reads.spares reads.noted

pub through_looks : {S A : Type 0} {g : Ghosts S} {old new : Engine S} {result : Result A Fault} → ReadsThrough old.session new.session (state_of g old.tables) (state_of g new.tables) result → Looks g old new
through_looks {result = result} reads = noted_looks result reads.spares reads.noted

-- What stands is left.
module _ {S : Type 0} {g : Ghosts S} {old new : Engine S} (looks : Looks g old new) (clean : HasCleanDisk (state_of g new.tables)) (content : DatabaseContent) (at : IsAt content (state_of g old.tables)) where
  left_by : (flag : Bool) → new.session.must_reopen ≡ flag → (after : Standing) × LeavesIt content after × Stands after (state_of g new.tables)
  left_by true is = (LeftAt content content, inr refl, left_so looks.spares clean content at)
  left_by false is = (Rests content, inl refl, stands_so looks.spares clean content at is)

  pub looked : (after : Standing) × LeavesIt content after × Stands after (state_of g new.tables)
  looked = left_by new.session.must_reopen refl
