-- What the statements that begin and end a transaction do, and what a statement may leave.
use Rattle.std.proofs.Common.{◌≡◌, ◌⊎◌, ◌+◌, inl, inr, Bool, List, [], ℕ, length, codes, true, false, if◌then◌else◌, None, Option, Ok, Err, Result, IsTrue, OnErr, refl, sym, ap, subst, subst₂, append-nil, ◌∙◌, arith}
use Rattle.sqlite.specs.Order.{Row}
use Rattle.sqlite.specs.Tree.{Trees}
use Rattle.sqlite.specs.Schema.{Schema}
use Rattle.sqlite.specs.Command.{Command}
use Rattle.sqlite.specs.Command.TheVariants.{Begin, Commit, Rollback}
use Rattle.sqlite_resolve.specs.declared.compiled.Compiled.{Compiled}
use Rattle.sqlite_resolve.specs.declared.error.CompileError.{CompileError}
use Rattle.sqlite.specs.declared.error.Error.{Error}
use Rattle.sqlite.specs.Listing.{understood}
use Rattle.sqlite.specs.Calls.{IsWrite}
use Rattle.sqlite.specs.Effect.{Database}
use Rattle.sqlite.specs.State.{State, HasCleanDisk, Survives, Executes, ExecutesIn, IsNotRun, CommitsBy, MayCommit, IsRolledBack, IsMisplaced, RunsCommand, shows_rows}
use Rattle.sqlite.proofs.Callers.{IsPlain, command_of, statement_of, runs_as}
use Rattle.sqlite.proofs.StateLemmas.{survives_weaker}
use Rattle.sqlite_tied.specs.Compute.{everything}
use Rattle.wh_rows.specs.Tables.{Tables}
use Rattle.wh_rows.specs.AtRest.{Has, AreTrees, Leaves, IsAtRest, IsWriting}

abbrev pub begin_text : List ℕ
begin_text = codes "BEGIN"

abbrev pub commit_text : List ℕ
commit_text = codes "COMMIT"

abbrev pub rollback_text : List ℕ
rollback_text = codes "ROLLBACK"

-- one whole statement with no parameter, which shows no rows
abbrev pub IsWhole : List ℕ → Result Compiled CompileError → Type 0
IsWhole sql (Ok c) = (c.tail ≡ length sql) × (c.names ≡ []) × (shows_rows false c ≡ false)
IsWhole sql (Err e) = ⊥

pub record Means (sql : List ℕ) (schema : Schema) (what : Command) : Type 0 where
  pub command : command_of (understood schema sql) ≡ what
  pub plain : IsPlain (understood schema sql)
  pub whole : IsWhole sql (understood schema sql)

begin_is : (schema : Schema) → Means begin_text schema Begin
unfolding understood everything
begin_is schema = record { command = refl; plain = (refl, refl); whole = (refl, refl, refl) }

commit_is : (schema : Schema) → Means commit_text schema Commit
unfolding understood everything
commit_is schema = record { command = refl; plain = (refl, refl); whole = (refl, refl, refl) }

rollback_is : (schema : Schema) → Means rollback_text schema Rollback
unfolding understood everything
rollback_is schema = record { command = refl; plain = (refl, refl); whole = (refl, refl, refl) }

-- what a statement may commit, by its command
commits_as : (sql : List ℕ) (params : Row) (s : State) (db : Trees) (command : Command) → command_of (understood s.now.schema sql) ≡ command → IsPlain (understood s.now.schema sql)
    → CommitsBy sql params s db → MayCommit s None command (statement_of sql (understood s.now.schema sql)) params db
unfolding CommitsBy
commits_as sql params s db command is plain h =
    let known = sym h.1.is in
    let bare = subst IsPlain h.1.is plain in
    subst₂ (λ k t. MayCommit s None k t params db) (ap command_of known ∙ is) (ap (statement_of sql) known) (rw (bare.0, bare.1, append-nil params) at h.2)

-- a statement that ends a transaction, or begins one, is refused for its place, or else the transaction is undone
module _ (sql : List ℕ) (old new : State) (e : Error) (command : Command) (means : Means sql old.now.schema command) (ends : ¬ IsWrite command) where
  refused : (c : Compiled) → understood old.now.schema sql ≡ Ok c → RunsCommand old new sql c [] (Err e) → IsMisplaced old command e ⊎ IsRolledBack old new
  refused c is (inl (inl misplaced, same)) = inl (subst (λ k. IsMisplaced old k e) (sym (ap command_of is) ∙ means.command) misplaced)
  refused c is (inl (inr (inl write, does), same)) = absurd (ends (subst IsWrite (sym (ap command_of is) ∙ means.command) write))
  refused c is (inl (inr (inr some, does), same)) = absurd (let none = rw (subst IsPlain is means.plain).0 at some in cc)
  refused c is (inr fails) = inr fails.3

  refused_or_undone : Executes sql [] old new (Err e) → IsMisplaced old command e ⊎ IsRolledBack old new
  unfolding ExecutesIn IsNotRun
  refused_or_undone (inl (inl (inl bad, same))) = absurd (subst IsPlain bad.1 means.plain)
  refused_or_undone (inl (inl (inr (c, is, inl long), same))) = absurd (let whole = subst (IsWhole sql) is means.whole in long.0 (omega (arith, whole.0)))
  refused_or_undone (inl (inl (inr (c, is, inr (inl given)), same))) = absurd (let whole = subst (IsWhole sql) is means.whole in given.0 (sym (ap length whole.1)))
  refused_or_undone (inl (inl (inr (c, is, inr (inr clock)), same))) = absurd (clock.0 (subst IsPlain is means.plain).1)
  refused_or_undone (inl (inr fails)) = inr fails.3
  refused_or_undone (inr (c, it, runs)) =
      let bare = subst IsPlain it.is means.plain in
      let whole = subst (IsWhole sql) it.is means.whole in
      refused c it.is (rw (bare.1, whole.2) at runs)

pub on_err : {A E : Type 0} (r : Result A E) (P : Type 0) → P → OnErr r P
on_err (Ok x) P holds = tt
on_err (Err e) P holds = holds

-- what a crash left before a call that commits nothing, it leaves after it
still_leaves : (held : Option Tables) (old new : State) → HasCleanDisk new → Survives old new (λ _. ⊥) → Leaves held old → Leaves held new
still_leaves held old new clean survives left = record { each = λ trees may. elim (survives.crash clean trees may) [ inl before ↦ left.each trees before | inr none ↦ absurd none ] }

trees_of : (held : Option Tables) (db : Database) → Has held db → AreTrees held db.trees
trees_of held db has = subst (Has held) (ap (λ (s : Schema). let it : Database = record { schema = s; trees = db.trees } in it) has.schema) has

-- an open connection leaves what was committed
leaves_committed : (held : Option Tables) (new : State) → ((trees : Trees) → IsTrue new.is_open → new.may_leave trees → trees ≡ new.committed.trees) → IsTrue new.is_open → Has held new.committed → Leaves held new
leaves_committed held new settled is_open has = record { each = λ trees may. subst (AreTrees held) (sym (settled trees is_open may)) (trees_of held new.committed has) }

-- ---- BEGIN

begin_commits : (s : State) (text : List ℕ) (db : Trees) → ¬ MayCommit s None Begin text [] db
begin_commits s text db (inl (inl e, same)) = cc
begin_commits s text db (inl (inr named, same)) = let e = named.2 in cc
begin_commits s text db (inr made) = let e = made.3 in cc

pub begin_survives : (old new : State) → Survives old new (CommitsBy begin_text [] old) → Survives old new (λ _. ⊥)
begin_survives old new =
    let is = begin_is old.now.schema in
    survives_weaker old new _ _ (λ _ db commits. begin_commits old (statement_of begin_text (understood old.now.schema begin_text)) db (commits_as begin_text [] old db Begin is.command is.plain commits))

pub begin_leaves : (old new : State) (held : Option Tables) → IsAtRest held old → HasCleanDisk new → Survives old new (CommitsBy begin_text [] old) → Leaves held new
begin_leaves old new held at clean survives = still_leaves held old new clean (begin_survives old new survives) at.left

pub begins : (old new : State) (held : Option Tables) (count : ℕ) → IsAtRest held old → HasCleanDisk new → Survives old new (CommitsBy begin_text [] old) → Executes begin_text [] old new (Ok count) → IsWriting held held new
begins old new held count at clean survives h =
    let is = begin_is old.now.schema in
    let ran = runs_as begin_text [] old new old.now.schema refl Begin is.command is.plain count h in
    record {
      is_open = ran.1.is_open;
      inside = ran.1.mode;
      now = subst (Has held) (sym ran.1.now_is) at.now;
      committed = subst (Has held) (sym (ran.1.committed_is ∙ at.committed)) at.now;
      left = begin_leaves old new held at clean survives;
    }

-- ---- ROLLBACK

rollback_commits : (s : State) (text : List ℕ) (db : Trees) → ¬ MayCommit s None Rollback text [] db
rollback_commits s text db (inl (inl e, same)) = cc
rollback_commits s text db (inl (inr named, same)) = let e = named.2 in cc
rollback_commits s text db (inr made) = let e = made.3 in cc

pub rollback_survives : (old new : State) → Survives old new (CommitsBy rollback_text [] old) → Survives old new (λ _. ⊥)
rollback_survives old new =
    let is = rollback_is old.now.schema in
    survives_weaker old new _ _ (λ _ db commits. rollback_commits old (statement_of rollback_text (understood old.now.schema rollback_text)) db (commits_as rollback_text [] old db Rollback is.command is.plain commits))

pub rollback_leaves : (before made : Option Tables) (old new : State) → IsWriting before made old → HasCleanDisk new → Survives old new (CommitsBy rollback_text [] old) → Leaves before new
rollback_leaves before made old new at clean survives = still_leaves before old new clean (rollback_survives old new survives) at.left

rollback_placed : (s : State) (e : Error) → IsTrue s.in_transaction → ¬ IsMisplaced s Rollback e
rollback_placed s e inside (inl (_, inl (same, _))) = cc
rollback_placed s e inside (inl (_, inr (_, off))) = cc
rollback_placed s e inside (inr (_, name, inl same, _)) = cc
rollback_placed s e inside (inr (_, name, inr same, _)) = cc

pub rolls_back : (old new : State) (r : Result ℕ Error) → IsTrue old.in_transaction → Executes rollback_text [] old new r → IsRolledBack old new
rolls_back old new (Ok count) inside h = let is = rollback_is old.now.schema in (runs_as rollback_text [] old new old.now.schema refl Rollback is.command is.plain count h).1
rolls_back old new (Err e) inside h =
    elim (refused_or_undone rollback_text old new e Rollback (rollback_is old.now.schema) (λ none. none) h) [ inl misplaced ↦ absurd (rollback_placed old e inside misplaced) | inr undone ↦ undone ]

pub undone : (before made : Option Tables) (old new : State) → IsWriting before made old → IsRolledBack old new → ((trees : Trees) → IsTrue new.is_open → new.may_leave trees → trees ≡ new.committed.trees)
    → IsTrue new.is_open → IsAtRest before new
undone before made old new at back settled is_open =
    let same = back.undone is_open in
    let committed = subst (Has before) (sym same.1) at.committed in
    record {
      is_open = is_open;
      autocommit = back.autocommit;
      unmarked = back.unmarked;
      now = subst (Has before) (sym same.0) at.committed;
      committed = same.1 ∙ sym same.0;
      left = leaves_committed before new settled is_open committed;
    }

-- ---- COMMIT

commit_commits : (s : State) (text : List ℕ) (db : Trees) → MayCommit s None Commit text [] db → db ≡ s.now.trees
commit_commits s text db (inl (which, same)) = same
commit_commits s text db (inr made) = absurd (let e = made.3 in cc)

pub commit_leaves : (before made : Option Tables) (old new : State) → IsWriting before made old → HasCleanDisk new → Survives old new (CommitsBy commit_text [] old)
    → (trees : Trees) → new.may_leave trees → AreTrees before trees ⊎ AreTrees made trees
commit_leaves before made old new at clean survives trees may = elim (survives.crash clean trees may) [
  | inl was ↦ inl (at.left.each trees was)
  | inr commits ↦
      let is = commit_is old.now.schema in
      inr (subst (AreTrees made) (sym (commit_commits old (statement_of commit_text (understood old.now.schema commit_text)) trees (commits_as commit_text [] old trees Commit is.command is.plain commits)))
      (trees_of made old.now at.now))
]

pub commits : (before made : Option Tables) (old new : State) (count : ℕ) → IsWriting before made old → ((trees : Trees) → IsTrue new.is_open → new.may_leave trees → trees ≡ new.committed.trees)
    → Executes commit_text [] old new (Ok count) → IsAtRest made new
commits before made old new count at settled h =
    let is = commit_is old.now.schema in
    let ran = runs_as commit_text [] old new old.now.schema refl Commit is.command is.plain count h in
    let committed = subst (Has made) (sym ran.1.committed_is) at.now in
    record {
      is_open = ran.1.is_open;
      autocommit = ran.1.mode;
      unmarked = ran.4;
      now = subst (Has made) (sym ran.1.now_is) at.now;
      committed = ran.1.committed_is ∙ sym ran.1.now_is;
      left = leaves_committed made new settled ran.1.is_open committed;
    }

-- how many keys are written after a statement that writes several or none
pub written_or_not : (inserted : Bool) (before keys : ℕ) (writes : ℕ) → writes ≡ before + keys → (if inserted then writes else before) ≡ before + (if inserted then keys else 0)
written_or_not true before keys writes same = same
written_or_not false before keys writes same = omega arith
