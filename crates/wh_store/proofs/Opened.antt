-- What an open finds where there is no database, and that a sound database isn't taken for none.
use Rattle.std.proofs.Common.{◌≡◌, ℕ, ◌-◌, ◌*◌, ◌<◌, ◌≤◌, List, [], length, take, slice_index, Option, None, Some, unwrap_or, sym, refl, ap, subst, ◌∙◌, inl, inr, arith, get_or-take, length-take}
use Rattle.std.proofs.Math.Logic.{∥∥₁_elim}
use Rattle.sqlite_wal.specs.Format.{part}
use Rattle.sqlite_wal.specs.Recovery.{Image, Pages, pages_after}
use Rattle.sqlite_wal.proofs.PartLemmas.{slice_index-part, part_within}
use Rattle.sqlite_wal.proofs.RecoveryLemmas.{replays_once}
use Rattle.sqlite_wal.proofs.AppendLemmas.{some_value, page_from_pages}
use Rattle.sqlite_pool.specs.File.{header_in, IsSoundFile}
use Rattle.sqlite_pool.specs.Opening.{IsBlankFile}
use Rattle.sqlite_pool.specs.Stored.{stored_size, Adopts}
use Rattle.sqlite_pool.specs.StoredLaws.{trimmed_some}
use Rattle.sqlite_pool.proofs.ProbeLemmas.{first_byte}
use Rattle.sqlite_trees.specs.Tree.{Trees}
use Rattle.sqlite_trees.specs.declared.memory.MemStore.{MemStore}
use Rattle.sqlite.specs.Effect.{Database, IsDatabase}
use Rattle.sqlite.specs.Files.{IsNothing, AreFoundIn, IsEmpty}
use Rattle.sqlite.specs.Held.{Held, state}
use Rattle.sqlite.specs.State.{State, Opens, IsLive}
use Rattle.sqlite.specs.Steps as memory
use Rattle.sqlite.specs.Steps.{over_memory}
use Rattle.sqlite.proofs.ListingLemmas.{empty_is_sound}
use Rattle.wh_rows.specs.Schema.{no_schema}
use Rattle.wh_rows.specs.AtRest.{AreTrees, IsAtRest}
use Rattle.wh_store.proofs.Reopened.{opened_rests}

-- ---- files that recover to a sound database aren't taken for no database

module _ (size : ℕ) (image : Image) (pages : Pages) (found : Adopts size image pages) (sound : IsSoundFile size pages) where
  long_name : 16 ≤ length (header_in pages)
  long_name = let name = sym (length-take 16 (header_in pages)) ∙ ap length sound.header.0.magic in omega (arith, name)

  -- The log of a blank file adds no page, so page 1 is the file's own; that begins with the S of SQLite's magic text, and a blank file doesn't.
  is_there : (other : ℕ) → 0 < other → ¬ IsBlankFile other image
  is_there other some (inl none) = omega (arith, found.found.present)
  is_there other some (inr blank) =
      let whole = stored_size size in
      let raw = found.found in
      let none : raw.frames ≡ 0 = elim blank.0 [
        | inl ignored ↦ replays_once whole image.log raw.frames 0 raw.replays (inl (ignored.0, refl))
        | inr taken ↦ elim raw.replays [
          | inl ignored ↦ ignored.1
          | inr ours ↦ replays_once whole image.log raw.frames 0 raw.replays (rw (sym ours.0.head.size ∙ taken.0.head.size) blank.0)
        ]
      ] in
      let (page, is) = some_value (found.stored 1) found.whole.first in
      let used : pages 1 ≡ Some (take size page) = ap (λ (p : Pages). p 1) (sym found.shows) ∙ trimmed_some size _ 1 page is in
      let head : header_in pages ≡ take 100 (take size page) = ap (λ (o : Option (List ℕ)). take 100 (unwrap_or o [])) used in
      let large : 16 ≤ size = omega (arith, long_name, ap length head, length-take 100 (take size page), length-take size page) in
      let alone : pages_after whole image.log image.db 0 1 ≡ Some page = ap (λ (p : Pages). p 1) (ap (pages_after whole image.log image.db) (sym none) ∙ raw.gives) ∙ is in
      let start : (1 - 1) * whole ≡ 0 = omega arith in
      let front : part image.db 0 whole ≡ page = ap (λ (at : ℕ). part image.db at whole) (sym start) ∙ (page_from_pages whole image.log image.db 0 1 page alone).0 in
      let long = part_within image.db 0 whole (omega arith) (ap length front ∙ found.whole.sized 1 page is) in
      let first : slice_index (header_in pages) 0 ≡ slice_index image.db 0 =
      ap (λ (b : List ℕ). slice_index b 0) head ∙ get_or-take 100 (take size page) 0 0 (omega arith) ∙ get_or-take size page 0 0 (omega arith)
      ∙ ap (λ (b : List ℕ). slice_index b 0) (sym front) ∙ slice_index-part image.db 0 whole 0 (omega arith) in
      let magic : slice_index image.db 0 ≡ 83 = sym first ∙ sym (get_or-take 16 (header_in pages) 0 0 (omega arith)) ∙ ap (λ (b : List ℕ). slice_index b 0) sound.header.0.magic in
      elim blank.1.0 [
        | inl short ↦ omega arith
        | inr more ↦ elim more [ inl zero' ↦ omega (arith, zero'.1) | inr rest ↦ rest.1 (magic ∙ sym (first_byte other some)) ]
      ]

  isnt_nothing : ¬ IsNothing image
  isnt_nothing (inl plain) = is_there _ (omega arith) plain
  isnt_nothing (inr summed) = is_there _ (omega arith) summed

-- ---- what rests then

-- trees that list nothing hold nothing
hold_nothing : (trees : Trees) → IsEmpty trees → AreTrees None trees
hold_nothing trees empty = record { schema = refl; sound = empty_is_sound trees empty.1; tables = tt }

-- a connection that was just opened over files with no database
pub opened_blank : (image : Image) (s : State) → IsNothing image → AreFoundIn image s.committed.trees → Opens s → IsLive s → ((t : Trees) → s.may_leave t → t ≡ s.committed.trees) → IsAtRest None s
opened_blank image s nothing (inl there) opens live settled = absurd (∥∥₁_elim there.4 (λ x y. absurd x) (λ ours. isnt_nothing there.0 image there.1 there.3 ours.file.sound nothing))
opened_blank image s nothing (inr made) opens live settled = opened_rests None s s.committed.trees (hold_nothing s.committed.trees made.1) opens live refl settled

-- a database with no object in it holds nothing
pub no_object : (db : Database) → IsDatabase db → db.schema ≡ no_schema → AreTrees None db.trees
no_object db sound schema = record { schema = refl; sound = subst (λ s. IsDatabase (record { schema = s; trees = db.trees })) schema sound; tables = tt }

-- a connection over memory that was just opened
pub opened_in_memory : (c : Held MemStore) → memory.IsEmpty (state over_memory c) → IsAtRest None (state over_memory c)
opened_in_memory c (opens, live, schema) =
    let last = (state over_memory c).committed in
    opened_rests None (state over_memory c) last.trees (no_object last (live opens.is_open).1 (subst (λ (db : Database). db.schema ≡ no_schema) opens.clean schema)) opens live refl (λ t is. is)
