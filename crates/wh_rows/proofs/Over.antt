-- What a statement that writes over the row of a key makes of a table.
use Rattle.std.proofs.Common.{◌≡◌, ◌≢◌, ◌⊎◌, inl, inr, ℕ, ℤ, List, [], ◌∷◌, ◌++◌, map, filter, drop, length, ◌/◌, ◌≤◌, Bool, true, false, not, None, Some, Ok, Err, Option, refl, sym, ap, subst, ◌∙◌, arith, Less, Equal}
use Rattle.std.specs.List.{AllByRecursion}
use Rattle.std.specs.List.Sorted.{IsPermutation}
use Rattle.std.proofs.lemmas.Bool.{and_parts, not-true, cases_Bool}
use Rattle.std.proofs.lemmas.List.Sorted.{length_permutation}
use Rattle.std.proofs.lemmas.Cmp.{tied_itself}
use Rattle.sqlite_value.specs.Order.{Row, value_cmp}
use Rattle.sqlite_value.proofs.OrderLemmas.{value_cmp_total}
use Rattle.sqlite_trees.specs.Tree.{Trees, rowid, put_row, IsTable}
use Rattle.sqlite_trees.specs.View.{is_int}
use Rattle.sqlite_trees.proofs.ListLemmas.{filter_all, filter_none}
use Rattle.sqlite_schema.specs.declared.program.Program.{Program}
use Rattle.sqlite_schema.specs.declared.command.Conflict.TheVariants.{Abort}
use Rattle.sqlite_schema.specs.declared.command.Upsert.{Upsert}
use Rattle.sqlite.specs.Term.{Term, col}
use Rattle.sqlite.specs.Query.{Output, output}
use Rattle.sqlite.specs.Table.{Table}
use Rattle.sqlite.specs.Schema.{Schema}
use Rattle.sqlite.specs.Source.TheVariants.{Values}
use Rattle.sqlite.specs.Command.TheVariants.{InsertOr, Update}
use Rattle.sqlite_rules.specs.Lists.{Has}
use Rattle.sqlite_rules.specs.Keys.{AreConflicts, conflicts}
use Rattle.sqlite_rules.specs.Cast.{cast_row}
use Rattle.sqlite_rules.specs.Edit.{Edit, id_in, without_all, with_rowid, is_taken, edit_of, taken_by}
use Rattle.sqlite_rules.specs.Action.{Writes}
use Rattle.sqlite_rules.specs.Calls.{ids_of}
use Rattle.sqlite_rules.specs.declared.error.Rowids.TheVariants.{Given, Chosen}
use Rattle.sqlite_rules.specs.declared.error.Refusal.{Refusal}
use Rattle.sqlite_rules.proofs.ListLemmas.{all_has, all_from}
use Rattle.sqlite.specs.declared.run.Mode.{Mode}
use Rattle.sqlite.specs.Effect.{Database, value_rows, edit_error}
use Rattle.sqlite.specs.Rows.{Written, Task, Puts, Clears, Upserts, Updates, Judged, Tries, TriesEach, InsertsOr, rowids_for, nothing, count_of, shown}
use Rattle.sqlite.specs.Does.{Tally, Does, AtPlace, OnRows}
use Rattle.sqlite.proofs.Callers.{one_step, one_permutation}
use Rattle.wh_rows.specs.Statements.{reading}
use Rattle.wh_rows.specs.Meaning.{IsPlainTable, passes}
use Rattle.wh_rows.specs.Holds.{IsRising}
use Rattle.wh_rows.proofs.Answers.{is_read}
use Rattle.wh_rows.proofs.Edits.{Names, passing_names, without_named, went, same_value, task_for, concluded}
use Rattle.wh_rows.proofs.Inserts.{uncounted_rowids, uncounted, unstamped}

-- ---- the one row of a list

pub one_of : {X : Type 0} (x : X) (xs : List X) → length xs ≤ 1 → Has xs x → xs ≡ x ∷ []
one_of x [] short here = absurd here
one_of x (y ∷ []) short (inl same) = ap (λ z. z ∷ []) (sym same)
one_of x (y ∷ []) short (inr later) = absurd later
one_of x (y ∷ z ∷ more) short here = absurd (omega arith)

none_left : {X : Type 0} (xs : List X) → IsPermutation [] xs → xs ≡ []
none_left [] same = refl
none_left (x ∷ xs) same = absurd (let e = length_permutation [] (x ∷ xs) same in cc)

not_below : (a b : Row) → a ≡ b → value_cmp (rowid a) (rowid b) ≡ Less → ⊥
not_below a b same less =
    let tie : value_cmp (rowid a) (rowid a) ≡ Equal = tied_itself value_cmp_total (rowid a) in
    let low : value_cmp (rowid a) (rowid a) ≡ Less = subst (λ x. value_cmp (rowid a) (rowid x) ≡ Less) (sym same) less in
    let e : Equal ≡ Less = sym tie ∙ low in cc

none_pass : (p : Row → Bool) (x : Row) (xs : List Row) → AllByRecursion (λ y. value_cmp (rowid x) (rowid y) ≡ Less) xs → ((r : Row) → Has xs r → p r ≡ true → r ≡ x) → filter p xs ≡ []
none_pass p x xs low only = filter_none p xs (all_from _ xs (λ r here. elim (cases_Bool (p r)) [
  | inl passed ↦ absurd (not_below x r (sym (only r here passed)) (all_has _ xs r low here))
  | inr failed ↦ failed
]))

-- the rowids rise, so a test that only this row passes finds it once
pub only_one : (p : Row → Bool) (rows : List Row) (it : Row) → IsTable rows → Has rows it → p it ≡ true → ((r : Row) → Has rows r → p r ≡ true → r ≡ it) → filter p rows ≡ it ∷ []
only_one p [] it up here passed only = absurd here
only_one p (x ∷ xs) it up (inl same) passed only =
    let first : p x ≡ true = subst (λ r. p r ≡ true) same passed in
    let none : filter p xs ≡ [] = none_pass p x xs up.0 (λ r here hit. only r (inr here) hit ∙ same) in
    rw (first, none) (ap (λ z. z ∷ []) (sym same))
only_one p (x ∷ xs) it up (inr later) passed only = elim (cases_Bool (p x)) [
  | inl hit ↦ absurd (not_below x it (only x (inl refl) hit) (all_has _ xs it up.0 later))
  | inr miss ↦ rw miss (only_one p xs it up.1 later passed (λ r here. only r (inr here)))
]

-- ---- one row in place of those that pass

pub record IsPutOver (table : Table) (schema : Schema) (db : Trees) (pass : Row → Bool) (new : Row) (trees : Trees) : Type 0 where
  pub rows : trees table.tree ≡ put_row new (filter (λ r. not (pass r)) (db table.tree))
  pub fresh : is_taken (filter (λ r. not (pass r)) (db table.tree)) new ≡ false
  pub keyed : is_int (rowid new) ≡ true
  pub others : AllByRecursion (λ t. t.tree ≢ table.tree → trees t.tree ≡ db t.tree) schema.tables

-- the table is as it was, and so are the others
pub record IsLeft (table : Table) (schema : Schema) (db trees : Trees) : Type 0 where
  pub rows : trees table.tree ≡ db table.tree
  pub others : AllByRecursion (λ t. t.tree ≢ table.tree → trees t.tree ≡ db t.tree) schema.tables

abbrev pub updating : ℕ → List Term → List Term → Program
updating tree tests cells = record { lets = []; body = reading tree tests (col 1 0 ∷ cells) [] }

-- what the query of an UPDATE shows of a row, as it is written
abbrev pub rewritten : Table → List Term → List Term → Row → Row → Row
rewritten table tests cells given r = cast_row table (drop 1 (output (reading table.tree tests (col 1 0 ∷ cells) []) (given ∷ r ∷ [])).1)

-- the row that is put: the new one, or what the update makes of the one that is there
pub record IsUpserted (table : Table) (schema : Schema) (db : Trees) (params : Row) (target : List ℕ) (tests cells : List Term) (new : Row) (trees : Trees) : Type 0 where
  pub row : Row
  pub over : IsPutOver table schema db (conflicts (Some target) schema.indexes table new) row trees
  pub from : (row ≡ new)
      ⊎ ((r : Row) × Has (db table.tree) r × (conflicts (Some target) schema.indexes table new r ≡ true) × (row ≡ rewritten table tests cells (params ++ rowid r ∷ shown table new) r))

module _ (limit : Option ℕ) (mode : Mode) (params : Row) (db : Database) (at : ℕ) (table : Table) (plain : IsPlainTable db.schema at table) where
  abbrev task : Task
  task = task_for limit mode params db table

  abbrev there : List Row
  there = db.trees table.tree

  abbrev edit : List Row → Edit
  edit rows = edit_of db.trees table (ids_of rows) Given 1 rows

  -- ---- UPDATE

  pub updates_one : (tests cells : List Term) (given : Row) (w : Written) (r : Row) (pass : Row → Bool) → IsRising there → filter pass there ≡ r ∷ [] → filter (passes given tests) there ≡ r ∷ []
      → Updates task (updating table.tree tests cells) given db.trees (Ok w) → IsPutOver table db.schema db.trees pass (rewritten table tests cells given r) w.trees
  updates_one tests cells given w r pass rising one found h =
      let read = went h in
      let answer = is_read db.trees given table.tree tests (col 1 0 ∷ cells) [] read.0 read.1.answer in
      let show : Row → Output = λ row. output (reading table.tree tests (col 1 0 ∷ cells) []) (given ∷ row ∷ []) in
      let ordered : answer.ordered ≡ show r ∷ [] = one_permutation (show r) answer.ordered (subst (λ rows. IsPermutation (map show rows) answer.ordered) found answer.same) in
      let rows : read.0 ≡ (show r).1 ∷ [] = answer.shown ∙ ap (map (λ (o : Output). o.1)) ordered in
      let next = went read.2 in
      let wrote = subst (λ rows. Writes db.schema mode.keys db.trees (edit rows) (Ok next.0)) rows next.1 in
      let it = edit ((show r).1 ∷ []) in
      let made = one_step db.schema mode.keys db.trees next.0 it (plain.idle mode.keys (taken_by db.trees it) it.news) wrote in
      let is : w.trees ≡ next.0 = ap (λ (w : Written). w.trees) (same_value next.2) in
      let left : without_all there (id_in (rowid r) ∷ []) ≡ filter (λ r. not (pass r)) there =
      without_named pass there _ rising (subst (λ rows. Names pass there (ids_of rows)) one (passing_names pass there)) in
      let new = rewritten table tests cells given r in
      record {
        rows = ap (λ (t : Trees). t table.tree) is ∙ made.rows ∙ ap (put_row new) left;
        fresh = subst (λ rows. is_taken rows new ≡ false) left (not-true _ (and_parts _ _ made.fresh).0);
        keyed = (and_parts _ _ made.keyed).0;
        others = subst (λ (t : Trees). AllByRecursion (λ s. s.tree ≢ table.tree → t s.tree ≡ db.trees s.tree) db.schema.tables) (sym is) made.tables;
      }

  pub updates_none : (tests cells : List Term) (given : Row) (w : Written) → filter (passes given tests) there ≡ []
      → Updates task (updating table.tree tests cells) given db.trees (Ok w) → IsLeft table db.schema db.trees w.trees
  updates_none tests cells given w found h =
      let read = went h in
      let answer = is_read db.trees given table.tree tests (col 1 0 ∷ cells) [] read.0 read.1.answer in
      let show : Row → Output = λ row. output (reading table.tree tests (col 1 0 ∷ cells) []) (given ∷ row ∷ []) in
      let ordered : answer.ordered ≡ [] = none_left answer.ordered (subst (λ rows. IsPermutation (map show rows) answer.ordered) found answer.same) in
      let rows : read.0 ≡ [] = answer.shown ∙ ap (map (λ (o : Output). o.1)) ordered in
      let next = went read.2 in
      let wrote = subst (λ rows. Writes db.schema mode.keys db.trees (edit rows) (Ok next.0)) rows next.1 in
      let made = one_step db.schema mode.keys db.trees next.0 (edit []) (plain.idle mode.keys (taken_by db.trees (edit [])) []) wrote in
      let is : w.trees ≡ next.0 = ap (λ (w : Written). w.trees) (same_value next.2) in
      record {
        rows = ap (λ (t : Trees). t table.tree) is ∙ made.rows;
        others = subst (λ (t : Trees). AllByRecursion (λ s. s.tree ≢ table.tree → t s.tree ≡ db.trees s.tree) db.schema.tables) (sym is) made.tables;
      }

  -- the statement UPDATE writes its rows alone
  pub updated : (text : List ℕ) (q : Program) (tally : Tally) (after : Database) → Does limit mode params db text None (Update at q) (Ok (tally, after))
      → (w : Written) × Updates task q params db.trees (Ok w) × (after ≡ record { schema = db.schema; trees = w.trees })
  updated text q tally after h =
      let wrote = went (subst (λ place. AtPlace (λ table. OnRows (task_for limit mode params db table) mode None (Update at q) db.trees) place (Ok (tally, after))) plain.has h) in
      (wrote.0, wrote.1, concluded task mode wrote.0 tally after wrote.2)

  -- ---- INSERT .. ON CONFLICT .. DO UPDATE

  module _ (target : List ℕ) (tests cells : List Term) (rising : IsRising there) (new : Row) (own : cast_row table (drop 0 new) ≡ new) where
    abbrev pass : Row → Bool
    pass = conflicts (Some target) db.schema.indexes table new

    abbrev clause : Upsert
    clause = record { target = Some target; update = Some (updating table.tree tests cells) }

    abbrev given_of : Row → Row
    given_of r = params ++ rowid r ∷ shown table new

    abbrev Is : Trees → Type 0
    Is = IsUpserted table db.schema db.trees params target tests cells new

    puts : filter (λ r. not (pass r)) there ≡ there → (w : Written) → Puts task new db.trees (Ok w) → Is w.trees
    puts none w h =
        let it = edit_of db.trees table [] Given 0 (new ∷ []) in
        let next = went h in
        let made = one_step db.schema mode.keys db.trees next.0 it (plain.idle mode.keys (taken_by db.trees it) it.news) next.1 in
        let is : w.trees ≡ next.0 = ap (λ (w : Written). w.trees) (same_value next.2) in
        let free : is_taken there new ≡ false = subst (λ r. is_taken there r ≡ false) own (not-true _ (and_parts _ _ made.fresh).0) in
        record {
          row = new;
          over = record {
            rows = ap (λ (t : Trees). t table.tree) is ∙ made.rows ∙ ap (λ r. put_row r there) own ∙ ap (put_row new) (sym none);
            fresh = subst (λ rows. is_taken rows new ≡ false) (sym none) free;
            keyed = subst (λ r. is_int (rowid r) ≡ true) own (and_parts _ _ made.keyed).0;
            others = subst (λ (t : Trees). AllByRecursion (λ s. s.tree ≢ table.tree → t s.tree ≡ db.trees s.tree) db.schema.tables) (sym is) made.tables;
          };
          from = inl refl;
        }

    clears : (none : filter (λ r. not (pass r)) there ≡ there) (found : List Row) (w : Written) → Clears task Abort new db.trees found (Ok w) → Is w.trees
    clears none [] w h = puts none w h
    clears none (x ∷ more) w h = puts none w h

    -- at most one row passes, and the update finds it by its rowid
    module _ (single : (r : Row) → Has there r → pass r ≡ true → filter pass there ≡ r ∷ [])
        (finds : (r : Row) → Has there r → filter (passes (given_of r) tests) there ≡ r ∷ []) where
      meets : (found : List Row) (w : Written) → AreConflicts (Some target) db.schema.indexes table there new found
          → Rattle.sqlite.specs.Rows.Meets task (Upserts task Abort new db.trees []) new db.trees clause found (Ok w) → Is w.trees
      meets [] w conflict h = clears none h.0 w h.2
        where
          none : filter (λ r. not (pass r)) there ≡ there
          none = filter_all _ there (all_from _ there (λ r here. elim (cases_Bool (pass r)) [
            | inl hit ↦ absurd (conflict.complete r here hit)
            | inr miss ↦ rw miss refl
          ]))
      meets (x ∷ more) w conflict h =
          let from = conflict.sound x (inl refl) in
          let id : rowid x ≡ rowid from.0 = ap rowid from.3 in
          let ran = subst (λ id. Updates task (updating table.tree tests cells) (params ++ id ∷ shown table new) db.trees (Ok w)) id h in
          record {
            row = rewritten table tests cells (given_of from.0) from.0;
            over = updates_one tests cells (given_of from.0) w from.0 pass rising (single from.0 from.1 from.2) (finds from.0 from.1) ran;
            from = inr (from.0, from.1, from.2, refl);
          }

      tries : (w : Written) → Tries task Abort (clause ∷ []) new db.trees (Ok w) → Is w.trees
      tries w (inl refused) = absurd (let e = refused.1 in cc)
      tries w (inr judged) = go judged.0 judged.2
        where
          go : (verdict : Option Refusal) → Judged task Abort (clause ∷ []) new db.trees verdict (Ok w) → Is w.trees
          go None h = meets h.0 w h.1 h.2
          go (Some why) h = absurd (let e : Ok w ≡ Err (Some (edit_error why)) = h in cc)

      one_try : (source : Row) (top : ℤ) (done : Written × ℤ) → cast_row table source ≡ source → with_rowid Chosen there source ≡ new
          → TriesEach task Abort (clause ∷ []) (source ∷ []) top (nothing db.trees) (Ok done) → Is done.0.trees
      one_try source top done whole is h =
          let one = went h in
          let it : with_rowid (rowids_for table top) there (cast_row table source) ≡ new =
          ap (λ ids. with_rowid ids there (cast_row table source)) (uncounted_rowids limit mode params db at table plain top) ∙ ap (with_rowid Chosen there) whole ∙ is in
          let tried = subst (λ new. Tries task Abort (clause ∷ []) new db.trees (Ok one.0)) it one.1 in
          subst (λ (d : Written × ℤ). Is d.0.trees) (sym (same_value one.2)) (tries one.0 tried)

      inserts : (terms : List Term) (width : ℕ) (source : Row) (w : Written) → value_rows params width (length terms / width) terms ≡ source ∷ [] → cast_row table source ≡ source
          → with_rowid Chosen there source ≡ new → InsertsOr task Abort (clause ∷ []) (Values terms width) db.trees (Ok w) → Is w.trees
      inserts terms width source w one whole same h =
          let given = went h in
          let counter = went given.2 in
          let each = went counter.2 in
          let end = went each.2 in
          let rows : given.0 ≡ source ∷ [] = given.1.1 ∙ ap (λ p. value_rows p width (length terms / width) terms) (unstamped limit mode params db at table plain) ∙ one in
          let tried = subst (λ rows. TriesEach task Abort (clause ∷ []) rows (count_of counter.0) (nothing db.trees) (Ok each.0)) rows each.1 in
          let put = one_try source (count_of counter.0) each.0 whole same tried in
          let is : w.trees ≡ each.0.0.trees = ap (λ (w : Written). w.trees) (same_value end.2) ∙ uncounted limit mode params db at table plain each.0.0.trees counter.0 each.0.1 end.0 end.1 in
          subst Is (sym is) put

      -- the statement
      pub upserted : (text : List ℕ) (terms : List Term) (width : ℕ) (source : Row) (tally : Tally) (after : Database) → value_rows params width (length terms / width) terms ≡ source ∷ []
          → cast_row table source ≡ source → with_rowid Chosen there source ≡ new
          → Does limit mode params db text None (InsertOr at Abort (Values terms width) (clause ∷ [])) (Ok (tally, after)) → Is after.trees × (after.schema ≡ db.schema)
      upserted text terms width source tally after one whole same h =
          let command = InsertOr at Abort (Values terms width) (clause ∷ []) in
          let wrote = went (subst (λ place. AtPlace (λ table. OnRows (task_for limit mode params db table) mode None command db.trees) place (Ok (tally, after))) plain.has h) in
          let left = concluded task mode wrote.0 tally after wrote.2 in
          (subst Is (ap (λ (d : Database). d.trees) (sym left)) (inserts terms width source wrote.0 one whole same wrote.1), ap (λ (d : Database). d.schema) left)
