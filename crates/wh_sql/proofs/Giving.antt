-- The rows of a query's answer, as the database hands them out one after the other.
use Rattle.std.proofs.Common.{◌≡◌, ◌≤◌, ℕ, List, [], ◌∷◌, ◌++◌, Option, None, Some, Ok, inl, inr, sym, subst, arith}
use Rattle.sqlite_trees.specs.declared.store.Store.{Ghosts}
use Rattle.sqlite_resolve.specs.declared.compiled.Compiled.{Compiled}
use Rattle.sqlite.specs.declared.error.Error.{Error}
use Rattle.sqlite.specs.Order.{Row}
use Rattle.sqlite.specs.Effect.{Database, RefusesToRead}
use Rattle.sqlite.specs.Held.{Held, state}
use Rattle.sqlite.specs.Given.{HasGiven, HasBegun, Returns, Advances, FailsToAdvance}
use Rattle.sqlite.specs.Listing.{understood, IsSourceOf, reads_listing}
use Rattle.sqlite.specs.State.{State, HasCleanDisk, IsStatement, IsUnchanged, Survives, Shown, ShowsRows, CommitsShowing, FailsToQuery, FailsToShow, IsNotRun}
use Rattle.sqlite.specs.Clock.{timed}
use Rattle.sqlite.proofs.Callers.{unchanged_then}
use Rattle.sqlite.proofs.StateLemmas.{survives_weaker, survives_then}
use Rattle.sqlite.proofs.StreamLemmas.{fails_since, given_plain}

-- since the first of the connections nothing was changed, and the query has given these rows
pub record IsGiving {S : Type 0} (g : Ghosts S) (text : List ℕ) (params : Row) (start now : Held S) (rows : List Row) : Type 0 where
  pub given : HasCleanDisk (state g now) → HasGiven g text params now rows
  pub same : HasCleanDisk (state g now) → IsUnchanged (state g start) (state g now)
  pub survives : Survives (state g start) (state g now) (λ _. ⊥)

-- ---- what a query says of a state, it says of an earlier one that is the same

module _ (sql : List ℕ) (params : Row) (old mid new : State) (same : IsUnchanged old mid) (plain : (c : Compiled) → understood mid.now.schema sql ≡ Ok c → c.returning ≡ None) where
  since : (c : Compiled) → IsStatement mid sql params c → IsStatement old sql params c
  since c h = record { is = subst (λ (d : Database). understood d.schema sql ≡ Ok c) same.0.now_is h.is; whole = h.whole; given = h.given; now = h.now }

  source_since : (db : Database) → IsSourceOf (reads_listing mid.now.schema sql) mid.now db → IsSourceOf (reads_listing old.now.schema sql) old.now db
  source_since db = subst (λ (d : Database). IsSourceOf (reads_listing d.schema sql) d db) same.0.now_is

  shown_since : (rows : List Row) → Shown sql params mid new rows → Shown sql params old new rows
  unfolding Shown since
  shown_since rows h =
      let none = plain h.0 h.1.is in
      let full = timed params h.0.formats h.1.now in
      let it = subst (ShowsRows mid new sql h.0 full rows) none h.2 in
      (h.0, since h.0 h.1, subst (ShowsRows old new sql h.0 full rows) (sym none) (it.0, source_since it.0 it.1, it.2, unchanged_then old mid new same it.3))

  fails_to_query_since : old.faults ≤ mid.faults → mid.step_limit ≡ old.step_limit → (e : Error) → FailsToQuery sql params mid new e → FailsToQuery sql params old new e
  unfolding FailsToQuery IsNotRun since
  fails_to_query_since counts limit e (inl (inl h)) = inl (inl (rw (← same.0.now_is) h.0, unchanged_then old mid new same h.1))
  fails_to_query_since counts limit e (inl (inr h)) = inl (inr (fails_since old mid new same counts e h))
  fails_to_query_since counts limit e (inr h) =
      let none = plain h.0 h.1.is in
      let full = timed params h.0.formats h.1.now in
      let it = subst (FailsToShow mid new sql h.0 full e) none h.2 in
      inr (
        h.0,
        since h.0 h.1,
        subst (FailsToShow old new sql h.0 full e) (sym none) (it.0, source_since it.0 it.1, subst (λ l. RefusesToRead l h.0.command it.0 full e) limit it.2, unchanged_then old mid new same it.3),
      )

-- what was handed out, said otherwise
pub handed : {S : Type 0} (g : Ghosts S) (mid now : Held S) (row given : Option Row) → row ≡ given → (HasCleanDisk (state g now) → Advances g mid now given) → HasCleanDisk (state g now) → Advances g mid now row
handed g mid now row given is advances clean = subst (Advances g mid now) (sym is) (advances clean)

-- ---- the query begins

pub never_commits : (text : List ℕ) (params : Row) (old new : State) → ¬ Returns (understood old.now.schema text) → Survives old new (CommitsShowing text params old) → Survives old new (λ _. ⊥)
unfolding CommitsShowing
never_commits text params old new none = survives_weaker old new _ _ (λ _ db h. none (subst Returns (sym h.1.is) h.2))

module _ {S : Type 0} (g : Ghosts S) (text : List ℕ) (params : Row) (start : Held S) where
  begun : ¬ Returns (understood start.schema text) → (now : Held S) → HasBegun g text params start now → HasGiven g text params now [] × IsUnchanged (state g start) (state g now)
  begun none now (inl h) = h
  begun none now (inr h) = absurd (none h.0)

  pub giving_begins : ¬ Returns (understood start.schema text) → (now : Held S) → (HasCleanDisk (state g now) → HasBegun g text params start now) → Survives (state g start) (state g now) (CommitsShowing text params (state g start))
      → IsGiving g text params start now []
  giving_begins none now just survives = record {
    given = λ clean. (begun none now (just clean)).0;
    same = λ clean. (begun none now (just clean)).1;
    survives = never_commits text params (state g start) (state g now) none survives;
  }

  -- ---- it goes on

  module _ (mid : Held S) {rows : List Row} (it : IsGiving g text params start mid rows) (now : Held S) (survives : Survives (state g mid) (state g now) (λ _. ⊥)) where
    was_clean : HasCleanDisk (state g now) → HasCleanDisk (state g mid)
    was_clean clean = omega (arith, survives.clean, clean)

    was_plain : HasCleanDisk (state g now) → (c : Compiled) → understood (state g mid).now.schema text ≡ Ok c → c.returning ≡ None
    was_plain clean = given_plain g text params mid rows (it.given (was_clean clean))

    pub still_survives : Survives (state g start) (state g now) (λ _. ⊥)
    still_survives = survives_then (state g start) (state g mid) (state g now) _ _ _ (λ _ db none. none) (λ _ db none. none) it.survives survives

    pub still_same : (HasCleanDisk (state g now) → IsUnchanged (state g mid) (state g now)) → HasCleanDisk (state g now) → IsUnchanged (state g start) (state g now)
    still_same same clean = unchanged_then (state g start) (state g mid) (state g now) (it.same (was_clean clean)) (same clean)

    -- one more row is given
    pub giving_goes_on : (HasCleanDisk (state g now) → IsUnchanged (state g mid) (state g now)) → (row : Row) → (HasCleanDisk (state g now) → Advances g mid now (Some row)) → IsGiving g text params start now (rows ++ row ∷ [])
    giving_goes_on same row advances = record { given = λ clean. advances clean text params rows (it.given (was_clean clean)); same = still_same same; survives = still_survives }

    -- no row is left: those that were given are the answer
    pub all_given : (HasCleanDisk (state g now) → Advances g mid now None) → HasCleanDisk (state g now) → Shown text params (state g start) (state g now) rows
    all_given advances clean =
        shown_since text params (state g start) (state g mid) (state g now) (it.same (was_clean clean)) (was_plain clean) rows (advances clean text params rows (it.given (was_clean clean)))

    -- the database refuses the next row
    pub giving_refused : (e : Error) → (HasCleanDisk (state g now) → FailsToAdvance g mid now e) → HasCleanDisk (state g now) → FailsToQuery text params (state g start) (state g now) e
    giving_refused e fails clean =
        fails_to_query_since text params (state g start) (state g mid) (state g now) (it.same (was_clean clean)) (was_plain clean) it.survives.counts it.survives.limit e (fails clean text params rows (it.given (was_clean clean)))
