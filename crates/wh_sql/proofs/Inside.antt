-- What a statement that writes does inside a transaction.
use Rattle.std.proofs.Common.{◌≡◌, inl, inr, ℕ, List, true, cond, None, Some, Ok, Option, sym, ap, subst, subst₂, append-nil, ◌∙◌}
use Rattle.std.specs.Prelude.{IsTrue}
use Rattle.std.proofs.lemmas.Bool.{both_ways}
use Rattle.sqlite.specs.Order.{Row}
use Rattle.sqlite.specs.Tree.{Trees}
use Rattle.sqlite.specs.Schema.{Schema}
use Rattle.sqlite.specs.Command.{Command}
use Rattle.sqlite.specs.Command.TheVariants.{Select, Rows, Begin, Commit, Rollback, Savepoint, Release, RollbackTo, Nothing}
use Rattle.sqlite.specs.Calls.{IsWrite}
use Rattle.sqlite.specs.Listing.{understood}
use Rattle.sqlite.specs.Effect.{Database}
use Rattle.sqlite.specs.State.{State, HasCleanDisk, Survives, Shows, Runs, Writes, Executes, CommitsBy, MayCommit}
use Rattle.sqlite.proofs.Callers.{IsPlain, command_of, statement_of, runs_as}
use Rattle.wh_rows.specs.Tables.{Tables, Stores}
use Rattle.wh_rows.specs.AtRest.{Has, Leaves, IsWriting}

-- a write that ran has made its change
written : (command : Command) → IsWrite command → (old new : State) (text : List ℕ) (params : Row) (count : ℕ) → Runs old new None command text params count → Writes old new None command text params count
written (Select q names) write old new text params count ran = absurd write
written (Rows values width names) write old new text params count ran = absurd write
written Begin write old new text params count ran = absurd write
written Commit write old new text params count ran = absurd write
written Rollback write old new text params count ran = absurd write
written (Savepoint name) write old new text params count ran = absurd write
written (Release name) write old new text params count ran = absurd write
written (RollbackTo name) write old new text params count ran = absurd write
written Nothing write old new text params count ran = absurd write
written _ write old new text params count ran = ran

-- what a text may commit, by its command
commits_as : (text : List ℕ) (params : Row) (s : State) (trees : Trees) (schema : Schema) → s.now.schema ≡ schema → (command : Command) → command_of (understood schema text) ≡ command → IsPlain (understood schema text)
    → CommitsBy text params s trees → MayCommit s None command (statement_of text (understood schema text)) params trees
unfolding CommitsBy
commits_as text params s trees schema has command is plain h =
    let known = sym h.1.is ∙ ap (λ s. understood s text) has in
    let bare = subst IsPlain (sym known) plain in
    subst₂ (λ k t. MayCommit s None k t params trees) (ap command_of known ∙ is) (ap (statement_of text) known) (rw (bare.0, bare.1, append-nil params) at h.2)

-- inside a transaction a write commits nothing
write_commits : (s : State) (command : Command) (text : List ℕ) (params : Row) (trees : Trees) → IsWrite command → IsTrue s.in_transaction → ¬ MayCommit s None command text params trees
write_commits s command text params trees write inside (inl (inl same, now)) = subst IsWrite same write
write_commits s command text params trees write inside (inl (inr (name, at, same, newest, begins), now)) = subst IsWrite same write
write_commits s command text params trees write inside (inr outside) = both_ways _ outside.0 inside

module _ (text : List ℕ) (params : Row) (old new : State) (schema : Schema) (has : old.now.schema ≡ schema) (command : Command) (is : command_of (understood schema text) ≡ command)
    (plain : IsPlain (understood schema text)) (write : IsWrite command) (inside : IsTrue old.in_transaction) where
  -- a crash leaves what it left before
  pub leaves_inside : HasCleanDisk new → Survives old new (CommitsBy text params old) → (before : Option Tables) → Leaves before old → Leaves before new
  leaves_inside clean survives before left = record {
    each = λ trees may. elim (survives.crash clean trees may) [
      | inl was ↦ left.each trees was
      | inr commits ↦ absurd (write_commits old command (statement_of text (understood schema text)) params trees write inside (commits_as text params old trees schema has command is plain commits))
    ];
  }

  -- the connection stays inside the transaction, and nothing is committed
  pub stays_inside : (count : ℕ) → Executes text params old new (Ok count) → Shows old new new.now old.committed true
  stays_inside count ran =
      let wrote = written command write old new (statement_of text (understood schema text)) params count (runs_as text params old new schema has command is plain count ran) in
      subst (λ b. Shows old new new.now (cond b old.committed new.now) b) inside wrote.shown

-- the transaction that was writing has made what the database holds now
pub writes_on : (before made now : Option Tables) (old new : State) → IsWriting before made old → Shows old new new.now old.committed true → Leaves before new → Has now new.now → IsWriting before now new
writes_on before made now old new at shown left holds = record { is_open = shown.is_open; inside = shown.mode; now = holds; committed = subst (Has before) (sym shown.committed_is) at.committed; left = left }

-- a warehouse of these tables
pub has_tables : (db : Database) (t : Tables) → Stores db t → Has (Some t) db
has_tables db t stored = record { schema = stored.schema; sound = stored.sound; tables = stored }
