-- What the texts that make tables and indexes do inside a transaction.
use Rattle.std.proofs.Common.{◌≡◌, inl, inr, ℕ, zero, suc, arith, refl, ◌+◌, ◌<◌, ◌≤◌, List, [], ◌∷◌, length, map, drop, get_or, add-one, cond, None, Some, Ok, sym, ap, subst, ◌∙◌}
use Rattle.std.specs.Prelude.{IsTrue, nat_le, false, Option}
use Rattle.std.proofs.Math.Seq.{drop-cons}
use Rattle.std.proofs.lemmas.Bool.{both_ways}
use Rattle.sqlite.specs.Tree.{Trees}
use Rattle.sqlite.specs.Schema.{Schema}
use Rattle.sqlite.specs.Command.{Command}
use Rattle.sqlite.specs.Command.TheVariants.{CreateTable, CreateIndex}
use Rattle.sqlite.specs.Calls.{IsWrite}
use Rattle.sqlite.specs.Listing.{understood}
use Rattle.sqlite.specs.State.{State, HasCleanDisk, Survives, Writes, Executes, CommitsBy}
use Rattle.sqlite.proofs.Callers.{command_of, runs_as}
use Rattle.sqlite_rules.specs.Lists.{Has}
use Rattle.sqlite.specs.Table.{Table}
use Rattle.sqlite.specs.Change.{next_tree, KeepsRows}
use Rattle.std.specs.List.{AllByRecursion}
use Rattle.wh_policy.specs.declared.format.Format.TheVariants.{One, Two}
use Rattle.wh_rows.specs.Schema.{no_schema, warehouse, schema_in}
use Rattle.wh_rows.specs.Tables.{Tables, no_tables}
use Rattle.wh_rows.specs.Making.{Extends, LeadsOver, before_tree}
use Rattle.wh_rows.specs.AtRest.{Has as Holding, Leaves, IsWriting}
use Rattle.wh_rows.proofs.Making.{stores_none}
use Rattle.wh_rows.proofs.Upgrading.{extended_over, stores_second}
use Rattle.wh_sql.specs.Present.{IsMaking}
use Rattle.wh_sql.specs.Refused.{bare}

-- the text is a write
writes : (from : Schema) (text : List ℕ) (to : Schema) → Extends from text to → IsWrite (command_of (understood from text))
writes from text to (inl it) = subst IsWrite (sym it.command) tt
writes from text to (inr it) = subst IsWrite (sym it.command) tt

-- run, it has made its change
written : (from : Schema) (text : List ℕ) (to : Schema) → Extends from text to → (old new : State) (count : ℕ) → old.now.schema ≡ from → Executes text [] old new (Ok count)
    → (command : Command) × (statement : List ℕ) × Writes old new None command statement [] count
written from text to (inl it) old new count has ran = (CreateTable, _, runs_as text [] old new from has CreateTable it.command it.plain count ran)
written from text to (inr it) old new count has ran = (CreateIndex it.at, _, runs_as text [] old new from has (CreateIndex it.at) it.command it.plain count ran)

-- inside a transaction a write commits nothing
commits_none : (s : State) (text : List ℕ) (trees : Trees) → IsWrite (command_of (understood s.now.schema text)) → IsTrue s.in_transaction → ¬ CommitsBy text [] s trees
unfolding CommitsBy
commits_none s text trees write inside (c, it, may) =
    let wrote : IsWrite c.command = subst IsWrite (ap command_of it.is) write in
    elim may [
      | inl ends ↦ elim ends.0 [ inl same ↦ subst IsWrite same wrote | inr named ↦ subst IsWrite named.2 wrote ]
      | inr outside ↦ both_ways _ outside.0 inside
    ]

-- the text leaves what could be left before
pub leaves_none : (before : Option Tables) (least : ℕ) (rows : Trees) (from : Schema) (text : List ℕ) (to : Schema) → Extends from text to → (old new : State) → HasCleanDisk new → Survives old new (CommitsBy text [] old) → IsMaking before least rows from old → Leaves before new
leaves_none before least rows from text to extends old new clean survives at = record {
  each = λ trees may. elim (survives.crash clean trees may) [
    | inl was ↦ at.left.each trees was
    | inr commits ↦ absurd (commits_none old text trees (subst (λ s. IsWrite (command_of (understood s text))) (sym at.schema) (writes from text to extends)) at.inside commits)
  ];
}

-- run where the one schema stands over the rows, the text leaves the other schema over them
pub makes_on : (before : Option Tables) (least : ℕ) (rows : Trees) (from : Schema) (text : List ℕ) (to : Schema) → Extends from text to → IsTrue (nat_le least (next_tree from)) → (old new : State) (count : ℕ) → HasCleanDisk new → Survives old new (CommitsBy text [] old) → Executes text [] old new (Ok count)
    → IsMaking before least rows from old → IsMaking before least rows to new
makes_on before least rows from text to extends behind old new count clean survives ran at =
    let made = extended_over least rows from text to extends behind old new count at.schema at.kept ran in
    let wrote = (written from text to extends old new count at.schema ran).2 in
    let committed : new.committed ≡ old.committed = subst (λ b. new.committed ≡ cond b old.committed new.now) at.inside wrote.shown.committed_is in
    record {
      is_open = wrote.shown.is_open;
      inside = wrote.shown.mode ∙ at.inside;
      schema = made.0;
      sound = wrote.sound;
      kept = made.1;
      committed = subst (Holding before) (sym committed) at.committed;
      left = leaves_none before least rows from text to extends old new clean survives at;
    }

-- where texts are left, the next one extends the schema, and those after it lead on
pub next_extends : {A : Type 0} (text_of : A → List ℕ) (texts : List A) (at : ℕ) (none : A) (least : ℕ) (from to : Schema) → at < length texts → LeadsOver least from (map text_of (drop at texts)) to
    → (next : Schema) × Extends from (text_of (get_or texts at none)) next × IsTrue (nat_le least (next_tree from)) × LeadsOver least next (map text_of (drop (at + 1) texts)) to
next_extends text_of texts at none least from to within leads =
    subst (λ left. LeadsOver least from (map text_of left) to) (drop-cons texts at none within ∙ ap (λ n. get_or texts at none ∷ drop n texts) (sym (add-one at))) leads

-- where none is left, they have led to the schema
pub nothing_left : {A : Type 0} (text_of : A → List ℕ) (texts : List A) (at least : ℕ) (from to : Schema) → length texts ≤ at → LeadsOver least from (map text_of (drop at texts)) to → from ≡ to
nothing_left text_of [] zero least from to over leads = leads
nothing_left text_of [] (suc at) least from to over leads = leads
nothing_left text_of (text ∷ texts) zero least from to over leads = absurd (omega (arith, over))
nothing_left text_of (text ∷ texts) (suc at) least from to over leads = nothing_left text_of texts at least from to (omega (arith, over)) leads

-- the text that is next is one of them
pub is_among : {A : Type 0} (text_of : A → List ℕ) (texts : List A) (at : ℕ) (none : A) → at < length texts → Has (bare (map text_of texts)) (text_of (get_or texts at none), [])
is_among text_of [] at none within = absurd (omega arith)
is_among text_of (text ∷ texts) zero none within = inl refl
is_among text_of (text ∷ texts) (suc at) none within = inr (is_among text_of texts at none (omega arith))

-- at first there is no object
pub making_none : (s : State) → IsWriting None None s → IsMaking None 0 (λ _. []) no_schema s
making_none s at = record { is_open = at.is_open; inside = at.inside; schema = at.now.schema; sound = at.now.sound; kept = tt; committed = at.committed; left = at.left }

-- at last there are the ten tables with no row
pub made_all : (s : State) → IsMaking None 0 (λ _. []) warehouse s → IsWriting None (Some no_tables) s
made_all s at = record {
  is_open = at.is_open;
  inside = at.inside;
  now = record { schema = at.schema; sound = at.sound; tables = stores_none s.now at.schema at.sound at.kept };
  committed = at.committed;
  left = at.left;
}

-- ---- the second format over the first

-- each tree is as it is
all_kept : (tables : List Table) (least : ℕ) (trees : Trees) → AllByRecursion (λ t. nat_le least t.tree ≡ false) tables → KeepsRows tables (before_tree least trees) trees
all_kept [] least trees low = tt
all_kept (t ∷ ts) least trees low = (rw low.0 refl, all_kept ts least trees low.1)

-- at first there are the tables of the first format
pub adding_none : (before : Option Tables) (t : Tables) (s : State) → t.format ≡ One → IsWriting before (Some t) s → IsMaking before 22 s.now.trees (schema_in One) s
adding_none before t s first at = record {
  is_open = at.is_open;
  inside = at.inside;
  schema = at.now.schema ∙ ap schema_in first;
  sound = at.now.sound;
  kept = all_kept (schema_in One).tables 22 s.now.trees (refl, (refl, (refl, (refl, (refl, (refl, (refl, (refl, (refl, (refl, tt))))))))));
  committed = at.committed;
  left = at.left;
}

-- at last there are those of the second, with the same rows
pub added_all : (before : Option Tables) (t : Tables) (start s : State) → t.format ≡ One → IsWriting before (Some t) start → IsMaking before 22 start.now.trees (schema_in Two) s → IsWriting before (Some (record t { format = Two })) s
added_all before t start s first began at = record {
  is_open = at.is_open;
  inside = at.inside;
  now = record { schema = at.schema; sound = at.sound; tables = stores_second start.now s.now t first began.now.tables at.schema at.sound at.kept };
  committed = at.committed;
  left = at.left;
}
