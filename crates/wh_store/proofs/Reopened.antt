-- What an open finds.
use Rattle.std.proofs.Common.{◌≡◌, Option, sym, ap, subst, ◌∙◌}
use Rattle.sqlite_trees.specs.Tree.{Trees}
use Rattle.sqlite_trees.specs.Objects.{catalog_tree}
use Rattle.sqlite_catalog.specs.Listing.{Lists}
use Rattle.sqlite_catalog.proofs.ReadLemmas.{lists_once}
use Rattle.sqlite.specs.Effect.{Database, IsDatabase}
use Rattle.sqlite.specs.State.{State, Opens, IsLive}
use Rattle.wh_rows.specs.Tables.{Tables}
use Rattle.wh_rows.specs.Schema.{schema_in}
use Rattle.wh_rows.specs.AtRest.{Has, AreTrees, IsAtRest, schema_of}
use Rattle.wh_rows.specs.Raw.{Stored, IsStored, RestsOn}
use Rattle.wh_store.specs.InFiles.{AreTreesOn}

-- a database of these trees holds what they hold
has_again : (held : Option Tables) (trees : Trees) (db : Database) → AreTrees held trees → IsDatabase db → db.trees ≡ trees → Has held db
has_again held trees db are sound same =
    let schema : db.schema ≡ schema_of held = lists_once (db.trees catalog_tree) db.schema (schema_of held) sound.lists (subst (λ (t : Trees). Lists (t catalog_tree) (schema_of held)) (sym same) are.sound.lists) in
    let is : db ≡ record { schema = schema_of held; trees = trees } = λ i. record { schema = schema i; trees = same i } in
    subst (Has held) (sym is) are

-- a connection that was just opened over these trees rests with what they hold
pub opened_rests : (held : Option Tables) (s : State) (trees : Trees) → AreTrees held trees → Opens s → IsLive s → s.committed.trees ≡ trees → ((t : Trees) → s.may_leave t → t ≡ s.committed.trees) → IsAtRest held s
opened_rests held s trees are opens live found settled = record {
  is_open = opens.is_open;
  autocommit = opens.autocommit;
  unmarked = opens.unmarked;
  now = has_again held trees s.now are (live opens.is_open).0 (ap (λ (d : Database). d.trees) opens.clean ∙ found);
  committed = sym opens.clean;
  left = record { each = λ t may. subst (AreTrees held) (sym (settled t may ∙ found)) are };
}

-- in a database of these trees is stored what they store
stored_again : (stored : Stored) (trees : Trees) (db : Database) → AreTreesOn stored trees → IsDatabase db → db.trees ≡ trees → IsStored stored db
stored_again stored trees db are sound same =
    let schema : db.schema ≡ (schema_in stored.format) = lists_once (db.trees catalog_tree) db.schema (schema_in stored.format) sound.lists (subst (λ (t : Trees). Lists (t catalog_tree) (schema_in stored.format)) (sym same) are.sound.lists) in
    let is : db ≡ record { schema = (schema_in stored.format); trees = trees } = λ i. record { schema = schema i; trees = same i } in
    subst (IsStored stored) (sym is) are

-- and it rests on what they store
pub opened_rests_on : (stored : Stored) (s : State) (trees : Trees) → AreTreesOn stored trees → Opens s → IsLive s → s.committed.trees ≡ trees → ((t : Trees) → s.may_leave t → t ≡ s.committed.trees) → RestsOn stored s
opened_rests_on stored s trees are opens live found settled = record {
  is_open = opens.is_open;
  autocommit = opens.autocommit;
  unmarked = opens.unmarked;
  now = stored_again stored trees s.now are (live opens.is_open).0 (ap (λ (d : Database). d.trees) opens.clean ∙ found);
  committed = sym opens.clean;
  left = record { each = λ t may. subst (AreTreesOn stored) (sym (settled t may ∙ found)) are };
}
