-- What a statement that puts in sixteen rows makes of all tables, and what it leaves where it breaks a rule.
use Rattle.std.proofs.Common.{◌≡◌, ℕ, ◌≤◌, List, [], Bool, true, false, if◌then◌else◌, filter, length, map, inl, inr, Ok, refl, sym, subst, ap, ◌∙◌}
use Rattle.std.specs.Prelude.{IsTrue}
use Rattle.std.specs.List.{AllByRecursion}
use Rattle.std.specs.Ordering.{eq_by_cmp}
use Rattle.std.specs.FinMap.{FinMap}
use Rattle.std.proofs.lemmas.Bool.{cases_Bool, both_ways}
use Rattle.std.proofs.lemmas.List.Sorted.{IsPermutation-refl}
use Rattle.sqlite.specs.Order.{Row}
use Rattle.sqlite.specs.Table as schema
use Rattle.sqlite.specs.State.{State, Executes, ExecutesIn, IsNotRun, IsUnchanged, shows_rows, store_error}
use Rattle.sqlite.specs.declared.error.Error.{Error}
use Rattle.sqlite_trees.specs.declared.error.StoreError.{StoreError}
use Rattle.sqlite_trees.specs.declared.error.StoreError.TheVariants.{OutOfMemory, Io, Corrupt, Full, Broken, Unstorable}
use Rattle.wh_rows.specs.declared.table.Table.{Table}
use Rattle.wh_rows.specs.Schema.{schema_in}
use Rattle.wh_rows.specs.Names.{is_there}
use Rattle.wh_rows.specs.Holds.{Layout, values_of}
use Rattle.wh_rows.specs.OneTable.{LeavesOthers}
use Rattle.wh_rows.specs.Place.{IsPlaced}
use Rattle.wh_rows.specs.Parts.{StandsOnce}
use Rattle.wh_rows.specs.Raw.{Stored, IsStored, rows_in, rows_shown, table_of}
use Rattle.wh_rows.specs.Tables.{Tables, Stores}
use Rattle.wh_rows.specs.Steps as steps
use Rattle.wh_rows.specs.Inserting.{rows_at_once, bind_rows, is_broken_rule, BreaksRule}
use Rattle.wh_rows.specs.Meaning.{InsertsEach}
use Rattle.wh_rows.proofs.Others.{rising_kept}
use Rattle.wh_rows.proofs.Inserts

module _ {K V : Type 0} (layout : Layout K V) (rows : Tables → FinMap layout.order V) (with_rows : FinMap layout.order V → Tables → Tables) (name : Table) (placed : IsPlaced layout rows with_rows (is_there name)) (named : table_of name ≡ layout.table)
    (stands : K → Row → Bool) (agree : (k : K) (v : V) → stands k (layout.encode v) ≡ eq_by_cmp layout.order k (layout.key v)) (once : StandsOnce stands name) (text : List ℕ) (old new : State) (t : Tables) (stored : Stores old.now t) (there : IsTrue (is_there name t.format))
    (inserts : InsertsEach (schema_in t.format) layout rows_at_once text) (vs : List V) (sixteen : length vs ≡ rows_at_once) (count : ℕ) (ran : Executes text (bind_rows layout vs) old new (Ok count)) where
  left : LeavesOthers (schema_in t.format) layout.table old.now new.now
  left = Inserts.leaves layout placed.total placed.same rows_at_once text inserts old new vs count stored.schema (placed.rising old.now t stored there) (rows t) (placed.held old.now t stored there) sixteen ran

  -- at a key at most one row is stored then
  at_most_one : (k : K) → length (filter (stands k) (map (values_of layout.table) (new.now.trees layout.table.tree))) ≤ 1
  at_most_one k =
      let now : Stored = record { format = t.format; rows = λ table. rows_shown t.format table new.now.trees } in
      let is : IsStored now new.now = record {
        schema = left.schema;
        sound = left.sound;
        rising = rising_kept (schema_in t.format).tables layout.table.tree old.now.trees new.now.trees left.others left.rising stored.rising;
        rows = λ table. IsPermutation-refl _;
      } in
      let shown : rows_shown t.format name new.now.trees ≡ rows_in layout.table new.now.trees =
      ap (λ (b : Bool). if b then rows_in (table_of name) new.now.trees else []) there ∙ ap (λ (table : schema.Table). rows_in table new.now.trees) named in
      subst (λ l. length (filter (stands k) l) ≤ 1) shown (once new.now now is k)

  -- each of them is put at its key
  pub rows_inserted : AllByRecursion (λ v. IsTrue (layout.is_valid v)) vs → Stores new.now (with_rows (steps.with_rows layout vs (rows t)) t)
  rows_inserted valid =
      placed.changed old.now new.now t (steps.with_rows layout vs (rows t)) there left
      (Inserts.holds_inserted layout placed.total placed.same rows_at_once text inserts old new vs count stored.schema (placed.rising old.now t stored there) (rows t) (placed.held old.now t stored there) sixteen ran stands agree at_most_one valid) stored

-- ---- a refusal

not_of_store : (error : Error) (cause : StoreError) → is_broken_rule error ≡ true → ¬ (error ≡ store_error cause)
not_of_store error cause broken is = both_ways _ (none cause) (ap is_broken_rule (sym is) ∙ broken)
  where
    none : (cause : StoreError) → is_broken_rule (store_error cause) ≡ false
    none OutOfMemory = refl
    none Io = refl
    none Corrupt = refl
    none Full = refl
    none Broken = refl
    none Unstorable = refl

-- a statement that breaks a rule leaves all as it was
pub refused_stays : (text : List ℕ) (params : Row) (old new : State) → BreaksRule text params old new → IsUnchanged old new
unfolding ExecutesIn IsNotRun
refused_stays text params old new (e, broken, inl (inl stays)) = stays.1
refused_stays text params old new (e, broken, inl (inr fails)) = absurd (not_of_store e fails.0 broken fails.1)
refused_stays text params old new (e, broken, inr ran) = elim (cases_Bool (shows_rows false ran.0)) [
  | inl shows ↦ (rw shows at ran.2).1
  | inr runs ↦ elim (rw runs at ran.2) [ inl refused ↦ refused.1 | inr fails ↦ absurd (not_of_store e fails.0 broken fails.1) ]
]
