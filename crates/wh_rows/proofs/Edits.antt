-- What a statement that writes makes of a table.
use Rattle.std.proofs.Common.{◌≡◌, ◌≢◌, ◌⊎◌, inl, inr, ℕ, ℤ, List, [], ◌∷◌, filter, length, slice_get, Bool, true, false, not, cond, ◌&&◌, ◌||◌, None, Some, Ok, Err, Option, Result, refl, sym, ap, subst, subst₂, ◌∙◌, Equal}
use Rattle.std.specs.List.{AllByRecursion, list_any}
use Rattle.std.specs.List.Sorted.{IsPermutation}
use Rattle.std.specs.Ordering.{is_eq}
use Rattle.std.proofs.lemmas.Bool.{cases_Bool, both_ways}
use Rattle.std.proofs.lemmas.List.{length-map}
use Rattle.std.proofs.lemmas.List.Sorted.{list_any-IsPermutation, IsPermutation-map, length_permutation}
use Rattle.sqlite_value.specs.Order.{Row, value_cmp}
use Rattle.sqlite_value.specs.declared.value.Value.TheVariants.{Int}
use Rattle.sqlite_value.proofs.OrderLemmas.{value_cmp_total}
use Rattle.std.proofs.lemmas.Cmp.{tied_itself}
use Rattle.sqlite_trees.specs.Tree.{Trees, rowid, has_rowid, without_rowid}
use Rattle.sqlite.specs.Term.{Term, col}
use Rattle.sqlite.specs.Query.{Output}
use Rattle.sqlite.specs.Program.{IsProgramAnswer}
use Rattle.sqlite.specs.Table.{Table}
use Rattle.sqlite.specs.Command.TheVariants.{Delete}
use Rattle.sqlite_schema.specs.declared.program.Program.{Program}
use Rattle.sqlite_rules.specs.Lists.{Has}
use Rattle.sqlite_rules.specs.Edit.{id_in, without_all, edit_of, row_at, taken_by}
use Rattle.sqlite_rules.specs.Calls.{ids_of}
use Rattle.sqlite_rules.specs.Action.{works}
use Rattle.sqlite_rules.specs.declared.error.Rowids.TheVariants.{Given}
use Rattle.sqlite_rules.proofs.ListLemmas.{all_has, has_filtered, has_kept, some_has, some_from}
use Rattle.sqlite_rules.proofs.ProbeLemmas.{has_mapped, mapped_has}
use Rattle.sqlite_rules.proofs.PlaceLemmas.{tied_same}
use Rattle.sqlite_rules.proofs.TableLemmas.{int_is}
use Rattle.sqlite.specs.declared.run.Mode.{Mode}
use Rattle.sqlite.specs.Effect.{Database}
use Rattle.sqlite.specs.Rows.{Written, Task, Deletes}
use Rattle.sqlite.specs.Does.{Tally, Does, AtPlace, OnRows, Concludes}
use Rattle.sqlite.proofs.Callers.{one_step}
use Rattle.wh_rows.specs.Statements.{reading}
use Rattle.wh_rows.specs.Holds.{IsRising}
use Rattle.wh_rows.proofs.Answers.{map-map, is_read}
use Rattle.wh_rows.proofs.Keys.{equal_is}
use Rattle.wh_rows.specs.Meaning.{passes}

-- ---- rowids

pub filter_all : {X : Type 0} (xs : List X) → filter (λ _. true) xs ≡ xs
filter_all [] = refl
filter_all (x ∷ xs) = ap (λ l. x ∷ l) (filter_all xs)

-- two filters are one
filter_both : {X : Type 0} (p q r : X → Bool) → ((x : X) → r x ≡ (q x && p x)) → (xs : List X) → filter p (filter q xs) ≡ filter r xs
filter_both p q r both [] = refl
filter_both p q r both (x ∷ xs) = elim (cases_Bool (q x)) [
  | inl passed ↦ rw (passed, both x, passed) (ap (λ l. cond (p x) (x ∷ l) l) (filter_both p q r both xs))
  | inr failed ↦ rw (failed, both x, failed) (filter_both p q r both xs)
]

neither : (a b : Bool) → not (a || b) ≡ (not a && not b)
neither true b = refl
neither false b = refl

-- the rows without those of the list are the others
without_each : (ids : List ℤ) (rows : List Row) → without_all rows ids ≡ filter (λ r. not (list_any (λ id. has_rowid id r) ids)) rows
without_each [] rows = sym (filter_all rows)
without_each (id ∷ ids) rows =
    without_each ids (without_rowid id rows) ∙ filter_both _ _ (λ r. not (has_rowid id r || list_any (λ i. has_rowid i r) ids)) (λ r. neither (has_rowid id r) _) rows

pub filter_same : {X : Type 0} (p q : X → Bool) (xs : List X) → ((x : X) → Has xs x → p x ≡ q x) → filter p xs ≡ filter q xs
filter_same p q [] same = refl
filter_same p q (x ∷ xs) same = rw (same x (inl refl), filter_same p q xs (λ y h. same y (inr h)))

-- the rowids name the rows that pass, and no other
pub record Names (p : Row → Bool) (rows : List Row) (ids : List ℤ) : Type 0 where
  pub sound : (id : ℤ) → Has ids id → (r : Row) × Has rows r × (p r ≡ true) × (id ≡ id_in (rowid r))
  pub complete : (r : Row) → Has rows r → p r ≡ true → Has ids (id_in (rowid r))

module _ (p : Row → Bool) (rows : List Row) (ids : List ℤ) (rising : IsRising rows) (named : Names p rows ids) where
  is_named : (r : Row) → Has rows r → list_any (λ id. has_rowid id r) ids ≡ p r
  is_named r here = elim (cases_Bool (p r)) [
    | inl passed ↦ some_from (λ id. has_rowid id r) ids (id_in (rowid r)) (named.complete r here passed) own ∙ sym passed
    | inr failed ↦ elim (cases_Bool (list_any (λ id. has_rowid id r) ids)) [
      | inr none ↦ none ∙ sym failed
      | inl some ↦ absurd (
          let found = some_has (λ id. has_rowid id r) ids some in
          let from = named.sound found.0 found.1 in
          let keyed : rowid from.0 ≡ Int found.0 = int_is (rowid from.0) (all_has _ rows from.0 rising.1 from.1) ∙ ap Int (sym from.3) in
          let tied : value_cmp (rowid r) (rowid from.0) ≡ Equal = rw keyed (equal_is _ found.2) in
          let same : r ≡ from.0 = tied_same rows r from.0 rising.0 here from.1 tied in
          both_ways _ failed (ap p same ∙ from.2)
          )
    ]
  ]
    where
      own : has_rowid (id_in (rowid r)) r ≡ true
      own = let keyed : rowid r ≡ Int (id_in (rowid r)) = int_is (rowid r) (all_has _ rows r rising.1 here) in
          ap (λ v. is_eq (value_cmp (rowid r) v)) (sym keyed) ∙ ap is_eq (tied_itself value_cmp_total (rowid r))

  -- without those rowids the rows that fail are left
  pub without_named : without_all rows ids ≡ filter (λ r. not (p r)) rows
  without_named = without_each ids rows ∙ filter_same _ _ rows (λ r here. ap not (is_named r here))

pub passing_names : (p : Row → Bool) (rows : List Row) → Names p rows (ids_of (filter p rows))
passing_names p rows = record {
  sound = λ id h. let from = has_mapped (λ r. id_in (rowid r)) (filter p rows) id h in let kept = has_filtered p rows from.0 from.1 in (from.0, kept.0, kept.1, from.2);
  complete = λ r here passed. mapped_has (λ r. id_in (rowid r)) (filter p rows) r (has_kept p rows r here passed);
}

without_passing : (p : Row → Bool) (rows : List Row) (ids : List ℤ) → IsRising rows → IsPermutation (ids_of (filter p rows)) ids → without_all rows ids ≡ filter (λ r. not (p r)) rows
without_passing p rows ids rising same =
    without_each ids rows ∙ filter_same _ _ rows (λ r here. ap not (sym (list_any-IsPermutation (λ id. has_rowid id r) _ ids same) ∙ is_named p rows _ rising (passing_names p rows) r here))

-- a part that gave a value did not stop on the way
pub went : {B E R : Type 0} {b : B} {Stops : E → Type 0} → ((stop : E) × Stops stop × (Ok b ≡ Err stop)) ⊎ R → R
went (inl stopped) = absurd (let e = stopped.2 in cc)
went (inr on) = on

pub same_value : {B E : Type 0} {a b : B} → ◌≡◌ {A = Result B E} (Ok a) (Ok b) → a ≡ b
same_value e = cc

-- ---- the parts of a statement that writes

abbrev pub task_for : Option ℕ → Mode → Row → Database → Table → Task
task_for limit mode params db table = record { limit = limit; keys = mode.keys; schema = db.schema; table = table; params = params }

-- what the statement leaves is what its rows made
pub concluded : (task : Task) (mode : Mode) (w : Written) (tally : Tally) (after : Database) → Concludes task mode None w (Ok (tally, after)) → after ≡ record { schema = task.schema; trees = w.trees }
concluded task mode w tally after h = ap (λ (p : Tally × Database). p.1) (same_value (went (went h).2).2)

-- as many rows changed as it wrote
many_concluded : (task : Task) (mode : Mode) (w : Written) (tally : Tally) (after : Database) → Concludes task mode None w (Ok (tally, after)) → tally.rows ≡ Some (length w.rows)
many_concluded task mode w tally after h = ap (λ (p : Tally × Database). p.0.rows) (same_value (went (went h).2).2)

-- ---- DELETE

-- nothing but the rows of this table differs
pub record ChangesOnly (table : Table) (old new : Database) : Type 0 where
  pub schema : new.schema ≡ old.schema
  pub others : AllByRecursion (λ t. t.tree ≢ table.tree → new.trees t.tree ≡ old.trees t.tree) old.schema.tables

module _ (limit : Option ℕ) (mode : Mode) (params : Row) (db : Database) (text : List ℕ) (at : ℕ) (table : Table) (has : slice_get db.schema.tables at ≡ Some table)
    (idle : (olds news : List Row) → works db.schema mode.keys 0 table.tree olds news ≡ []) (tally : Tally) (after : Database) where
  abbrev task : Task
  task = task_for limit mode params db table

  -- the rowids that are taken are those of the rows that pass
  gone : (tests : List Term) (rows : List Row) → IsProgramAnswer [] (reading table.tree tests (col 1 0 ∷ []) []) db.trees params rows → IsPermutation (ids_of (filter (passes params tests) (db.trees table.tree))) (ids_of rows)
  gone tests rows shown =
      let answer = is_read db.trees params table.tree tests (col 1 0 ∷ []) [] rows shown in
      let id : Output → ℤ = λ o. id_in (rowid o.1) in
      subst₂ IsPermutation (map-map id _ _) (sym (map-map (λ r. id_in (rowid r)) _ answer.ordered) ∙ ap ids_of (sym answer.shown)) (IsPermutation-map id _ answer.ordered answer.same)

  deletes : (tests : List Term) (w : Written) → IsRising (db.trees table.tree)
      → Deletes task (record { lets = []; body = reading table.tree tests (col 1 0 ∷ []) [] }) db.trees (Ok w)
      → ChangesOnly table db (record { schema = db.schema; trees = w.trees }) × (w.trees table.tree ≡ filter (λ r. not (passes params tests r)) (db.trees table.tree))
  deletes tests w rising h =
      let read = went h in
      let edit = edit_of db.trees table (ids_of read.0) Given 0 [] in
      let next = went read.2 in
      let made = one_step db.schema mode.keys db.trees next.0 edit (idle (taken_by db.trees edit) []) next.1 in
      let is : w.trees ≡ next.0 = ap (λ (w : Written). w.trees) (same_value next.2) in (
        record { schema = refl; others = subst (λ (trees : Trees). AllByRecursion (λ t. t.tree ≢ table.tree → trees t.tree ≡ db.trees t.tree) db.schema.tables) (sym is) made.tables },
        ap (λ (trees : Trees). trees table.tree) is ∙ made.rows ∙ without_passing (passes params tests) (db.trees table.tree) (ids_of read.0) rising (gone tests read.0 read.1.answer),
      )

  pub deleted : (tests : List Term) → IsRising (db.trees table.tree)
      → Does limit mode params db text None (Delete at (record { lets = []; body = reading table.tree tests (col 1 0 ∷ []) [] })) (Ok (tally, after))
      → ChangesOnly table db after × (after.trees table.tree ≡ filter (λ r. not (passes params tests r)) (db.trees table.tree))
  deleted tests rising h =
      let program : Program = record { lets = []; body = reading table.tree tests (col 1 0 ∷ []) [] } in
      let wrote = went (subst (λ place. AtPlace (λ table. OnRows (task_for limit mode params db table) mode None (Delete at program) db.trees) place (Ok (tally, after))) has h) in
      let left = concluded task mode wrote.0 tally after wrote.2 in
      let done = deletes tests wrote.0 rising wrote.1 in
      subst (λ (d : Database). ChangesOnly table db d × (d.trees table.tree ≡ filter (λ r. not (passes params tests r)) (db.trees table.tree))) (sym left) done

  taken : (tests : List Term) (w : Written) → Deletes task (record { lets = []; body = reading table.tree tests (col 1 0 ∷ []) [] }) db.trees (Ok w)
      → length w.rows ≡ length (filter (passes params tests) (db.trees table.tree))
  taken tests w h =
      let read = went h in
      let next = went read.2 in
      ap (λ (w : Written). length w.rows) (same_value next.2) ∙ length-map (ids_of read.0) (row_at (db.trees table.tree)) ∙ length_permutation _ _ (gone tests read.0 read.1.answer) ∙ length-map (filter (passes params tests) (db.trees table.tree)) (λ r. id_in (rowid r))

  -- it answers how many rows passed
  pub deleted_many : (tests : List Term) → Does limit mode params db text None (Delete at (record { lets = []; body = reading table.tree tests (col 1 0 ∷ []) [] })) (Ok (tally, after))
      → tally.rows ≡ Some (length (filter (passes params tests) (db.trees table.tree)))
  deleted_many tests h =
      let program : Program = record { lets = []; body = reading table.tree tests (col 1 0 ∷ []) [] } in
      let wrote = went (subst (λ place. AtPlace (λ table. OnRows (task_for limit mode params db table) mode None (Delete at program) db.trees) place (Ok (tally, after))) has h) in
      many_concluded task mode wrote.0 tally after wrote.2 ∙ ap Some (taken tests wrote.0 wrote.1)
