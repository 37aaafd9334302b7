-- A warehouse in memory.
use Rattle.std.proofs.Common.{◌≡◌, sym, ap, subst, Option, None}
use Rattle.sqlite.specs.Held.{Held, state}
use Rattle.sqlite.specs.Steps.{over_memory, IsEmpty}
use Rattle.sqlite_trees.specs.declared.memory.MemStore.{MemStore}
use Rattle.wh_rows.specs.Schema.{no_schema}
use Rattle.wh_rows.specs.AtRest.{AreTrees, IsAtRest}
use Rattle.wh_program.specs.Standing.{DatabaseContent, Nothing, Standing, Unknown, Rests, LeftAt, IsAt, IsKept}
use Rattle.wh_store.proofs.Opened.{no_object}

empty_rests : (c : Held MemStore) → IsEmpty (state over_memory c) → IsAtRest None (state over_memory c)
empty_rests c (opens, live, schema) =
    let both = live opens.is_open in
    let last = no_object (state over_memory c).committed both.1 (subst (λ db. db.schema ≡ no_schema) opens.clean schema) in
    record {
      is_open = opens.is_open;
      autocommit = opens.autocommit;
      unmarked = opens.unmarked;
      now = record { schema = schema; sound = both.0; tables = tt };
      committed = sym opens.clean;
      left = record { each = λ trees is. subst (λ t. AreTrees None t) (sym is) last };
    }

abbrev content_of : Standing → DatabaseContent
content_of Unknown = Nothing
content_of (Rests content) = content
content_of (LeftAt first second) = first

-- what is lent where nothing was kept
pub is_empty : (content : DatabaseContent) (kept : Option (Held MemStore)) (c : Held MemStore) → kept ≡ None → IsKept (Rests content) kept → IsEmpty (state over_memory c) → IsAt content (state over_memory c)
is_empty content kept c none stood empty =
    subst (λ x. IsAt x (state over_memory c)) (sym (ap content_of (subst (IsKept (Rests content)) none stood))) (empty_rests c empty)
