-- What a call that looks leaves of what was at rest.
use Rattle.std.proofs.Common.{◌∙◌, Some, inl, inr, sym, subst, refl, arith}
use Rattle.sqlite.specs.State.{State, HasCleanDisk, IsUnchanged, Survives}
use Rattle.wh_rows.specs.AtRest.{Has, IsAtRest, Leaves}
use Rattle.wh_rows.specs.Raw.{Stored, IsStored, RestsOn, LeavesStored}
use Rattle.wh_rows.specs.Tables.{Tables}
use Rattle.wh_sql.specs.Reads.{IsAsItWas, Spares}

-- ---- what spares

pub unchanged_spares : {old new : State} {calm : Type 0} → Survives old new (λ _. ⊥) → (HasCleanDisk new → calm → IsUnchanged old new) → Spares old new calm
unchanged_spares {old} {new} survives same = record {
  clean = λ clean. omega (arith, survives.clean, clean);
  same = λ clean served.
      let it = same clean served in
      record {
        is_open = it.0.is_open ∙ sym it.0.was_open;
        now = it.0.now_is;
        committed = it.0.committed_is;
        mode = it.0.mode;
        marks = it.2;
      };
  crash = λ clean trees may. elim (survives.crash clean trees may) [ inl before ↦ before | inr none ↦ absurd none ];
}

pub as_it_is : {s : State} → IsAsItWas s s
as_it_is = record { is_open = refl; now = refl; committed = refl; mode = refl; marks = refl }

pub then_as_it_was : {old mid new : State} → IsAsItWas old mid → IsAsItWas mid new → IsAsItWas old new
then_as_it_was before after = record {
  is_open = after.is_open ∙ before.is_open;
  now = after.now ∙ before.now;
  committed = after.committed ∙ before.committed;
  mode = after.mode ∙ before.mode;
  marks = after.marks ∙ before.marks;
}

pub spares_itself : {s : State} {calm : Type 0} → Spares s s calm
spares_itself = record { clean = λ clean. clean; same = λ clean served. as_it_is; crash = λ clean trees may. may }

-- it holds where less does
pub spares_where : {old new : State} {calm narrow : Type 0} → (narrow → calm) → Spares old new calm → Spares old new narrow
spares_where so it = record { clean = it.clean; same = λ clean here. it.same clean (so here); crash = it.crash }

-- one after the other, where what the second asks for is so only after the first was calm
pub then_spares : {old mid new : State} {first calm : Type 0} → Spares old mid first → first → Spares mid new calm → Spares old new calm
then_spares {old} {mid} {new} before still after = record {
  clean = λ clean. before.clean (after.clean clean);
  same = λ clean calm. then_as_it_was (before.same (after.clean clean) still) (after.same clean calm);
  crash = λ clean trees may. before.crash (after.clean clean) trees (after.crash clean trees may);
}

-- ---- what was at rest

module _ {old new : State} {calm : Type 0} (it : Spares old new calm) (clean : HasCleanDisk new) where
  pub tables_left : (t : Tables) → IsAtRest (Some t) old → Leaves (Some t) new
  tables_left t at = record { each = λ trees may. at.left.each trees (it.crash clean trees may) }

  pub tables_again : (t : Tables) → IsAtRest (Some t) old → calm → IsAtRest (Some t) new
  tables_again t at served =
      let same = it.same clean served in
      record {
        is_open = rw same.is_open at.is_open;
        autocommit = same.mode ∙ at.autocommit;
        unmarked = same.marks ∙ at.unmarked;
        now = subst (Has (Some t)) (sym same.now) at.now;
        committed = same.committed ∙ (at.committed ∙ sym same.now);
        left = tables_left t at;
      }

  -- so it is of stored rows
  pub stored_left : (stored : Stored) → RestsOn stored old → LeavesStored stored new
  stored_left stored at = record { each = λ trees may. at.left.each trees (it.crash clean trees may) }

  pub stored_again : (stored : Stored) → RestsOn stored old → calm → RestsOn stored new
  stored_again stored at served =
      let same = it.same clean served in
      record {
        is_open = rw same.is_open at.is_open;
        autocommit = same.mode ∙ at.autocommit;
        unmarked = same.marks ∙ at.unmarked;
        now = subst (IsStored stored) (sym same.now) at.now;
        committed = same.committed ∙ (at.committed ∙ sym same.now);
        left = stored_left stored at;
      }
