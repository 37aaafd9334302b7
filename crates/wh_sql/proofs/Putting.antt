-- What putting a row and taking one out make of a transaction.
use Rattle.std.proofs.Common.{◌≡◌, ◌≢◌, ◌⊎◌, inl, inr, Bool, ℕ, List, [], ◌∷◌, length, true, false, Some, Ok, Err, Result, IfOk, IfErr, Option, refl, sym, subst, ◌∙◌}
use Rattle.std.specs.FinMap.{FinMap, empty, insert, len, remove}
use Rattle.sqlite.specs.Order.{Row}
use Rattle.std.specs.List.{AllByRecursion, list_all}
use Rattle.std.specs.Ordering.{eq_by_cmp}
use Rattle.std.proofs.lemmas.Bool.{both_ways}
use Rattle.sqlite.specs.State.{State, HasCleanDisk, Survives, Executes, CommitsBy}
use Rattle.sqlite.specs.Command.{Command}
use Rattle.sqlite.specs.Calls.{IsWrite}
use Rattle.sqlite.specs.Listing.{understood}
use Rattle.sqlite.specs.Schema.{Schema}
use Rattle.sqlite.proofs.Callers.{IsPlain, command_of}
use Rattle.sqlite_resolve.specs.declared.compiled.Compiled.{Compiled}
use Rattle.sqlite_resolve.specs.declared.error.CompileError.{CompileError}
use Rattle.wh_rows.specs.declared.cause.Cause.{Cause}
use Rattle.wh_rows.specs.declared.cause.Cause.TheVariants.{Memory, Size}
use Rattle.wh_policy.specs.declared.format.Format.{Format}
use Rattle.wh_policy.specs.declared.format.Format.TheVariants.{One, Two}
use Rattle.wh_rows.specs.Schema.{schema_in}
use Rattle.wh_rows.specs.Holds.{Layout}
use Rattle.wh_rows.specs.Place.{IsPlaced}
use Rattle.std.specs.Prelude.{IsTrue}
use Rattle.wh_rows.specs.Meaning.{IsUnknown, Means, PutsOne, RemovesOne, InsertsEach}
use Rattle.wh_rows.proofs.Means.{means_or, never_runs, commits_nothing}
use Rattle.wh_rows.specs.Tables.{Tables, Stores}
use Rattle.wh_rows.specs.AtRest.{Has, Leaves, IsWriting, IsCauseOf}
use Rattle.wh_policy.specs.Formats.{is_two}
use Rattle.wh_rows.specs.Rekey.{Rekey, rekey_text, bind_rekey, are_keys, rekeyed, rekey2_text}
use Rattle.wh_rows.specs.declared.table.Table.{Table}
use Rattle.wh_rows.specs.Names.{is_there}
use Rattle.wh_rows.specs.Parts.{StandsOnce}
use Rattle.wh_rows.specs.Raw.{ReadsStored, table_of}
use Rattle.wh_rows.specs.Inserting.{rows_at_once, bind_rows, BreaksRule}
use Rattle.wh_rows.specs.Texts.{clear_facts}
use Rattle.wh_rows.proofs.EachTable.Facts.{rekey, clear}
use Rattle.wh_rows.proofs.EachTable.Facts2.{rekey2_in}
use Rattle.wh_rows.proofs.InsertedRows.{rows_inserted, refused_stays}
use Rattle.wh_rows.proofs.OnTables.{row_put, key_removed, fact_rekeyed, fact2_rekeyed, facts_cleared}
use Rattle.wh_rows.specs.Steps as steps
use Rattle.wh_sql.specs.Facts.{rekeying, with_rekeyed}
use Rattle.wh_sql.specs.Batches.{HasRun, IsNotPut}
use Rattle.wh_sql.proofs.Inside.{leaves_inside, stays_inside, writes_on, has_tables}

-- the row of a key stands at it, as the text shows that asks for it
where_there : {It : Type 0} (read : Result Compiled CompileError) (is : Bool) → is ≡ true → Means is It read → It
where_there read true there it = it
where_there read false there none = absurd cc

stands_as : {K V : Type 0} (layout : Layout K V) (is : Bool) → is ≡ true → (under : Schema) (bind : K → Row) (stands : K → Row → Bool) (get : List ℕ)
    → ((k : K) → Means is (ReadsStored under layout (bind k) (stands k) (λ v. eq_by_cmp layout.order k (layout.key v)) get) (understood under get)) → (k : K) (v : V) → stands k (layout.encode v) ≡ eq_by_cmp layout.order k (layout.key v)
stands_as layout is there under bind stands get finds k v =
    let reads = where_there _ is there (finds k) in
    sym (reads.tested (layout.encode v)) ∙ reads.reads.agree v

module _ (text : List ℕ) (params : Row) (old new : State) (before : Option Tables) (t : Tables) (at : IsWriting before (Some t) old) (clean : HasCleanDisk new) (survives : Survives old new (CommitsBy text params old)) where
  module _ (command : Command) (is : command_of (understood (schema_in t.format) text) ≡ command) (plain : IsPlain (understood (schema_in t.format) text)) (write : IsWrite command) where
    -- a crash in the middle leaves what the transaction began with
    leaves : Leaves before new
    leaves = leaves_inside text params old new (schema_in t.format) at.now.schema command is plain write at.inside clean survives before at.left

    -- the transaction has made these tables
    makes : (count : ℕ) → Executes text params old new (Ok count) → (now : Tables) → Stores new.now now → IsWriting before (Some now) new
    makes count ran now stored = writes_on before (Some t) (Some now) old new at (stays_inside text params old new (schema_in t.format) at.now.schema command is plain write at.inside count ran) leaves (has_tables new.now now stored)

  -- a text that isn't understood leaves it too
  unknown_leaves : IsUnknown (understood (schema_in t.format) text) → Leaves before new
  unknown_leaves none = record {
    each = λ trees may. elim (survives.crash clean trees may) [ inl was ↦ at.left.each trees was | inr commits ↦ absurd (commits_nothing text params old (schema_in t.format) at.now.schema none trees commits) ];
  }

  module _ {K V : Type 0} (layout : Layout K V) (is : Bool) where
    pub put_leaves : Means is (PutsOne (schema_in t.format) layout text) (understood (schema_in t.format) text) → Leaves before new
    put_leaves means = means_or _ is means (λ there puts. leaves _ puts.command puts.plain tt) unknown_leaves

    pub insert_leaves : Means is (InsertsEach (schema_in t.format) layout rows_at_once text) (understood (schema_in t.format) text) → Leaves before new
    insert_leaves means = means_or _ is means (λ there inserts. leaves _ inserts.command inserts.plain tt) unknown_leaves

    pub remove_leaves : (bind : K → Row) → Means is (RemovesOne (schema_in t.format) layout bind text) (understood (schema_in t.format) text) → Leaves before new
    remove_leaves bind means = means_or _ is means (λ there removes. leaves _ removes.command removes.plain tt) unknown_leaves

  module _ {K V : Type 0} (layout : Layout K V) (rows : Tables → FinMap layout.order V) (with_rows : FinMap layout.order V → Tables → Tables) (is_in : Format → Bool) (placed : IsPlaced layout rows with_rows is_in) (count : ℕ) (ran : Executes text params old new (Ok count)) where
    -- the transaction has put the row at its key
    pub puts_on : Means (is_in t.format) (PutsOne (schema_in t.format) layout text) (understood (schema_in t.format) text) → (row : V) → params ≡ layout.encode row → IsTrue (layout.is_valid row)
        → IsWriting before (Some (with_rows (insert (rows t) (layout.key row) row) t)) new
    puts_on means row is valid = means_or _ (is_in t.format) means
        (λ there puts. makes _ puts.command puts.plain tt count ran _ (row_put layout rows with_rows placed text old new t at.now.tables there puts row valid count (rw is at ran)))
        (λ none. absurd (never_runs text params old (schema_in t.format) at.now.schema none new count ran))

    -- the transaction has taken out the row at the key
    pub removes_on : (bind : K → Row) → Means (is_in t.format) (RemovesOne (schema_in t.format) layout bind text) (understood (schema_in t.format) text) → (key : K) → params ≡ bind key
        → IsWriting before (Some (with_rows (remove (rows t) key) t)) new
    removes_on bind means key is = means_or _ (is_in t.format) means
        (λ there removes. makes _ removes.command removes.plain tt count ran _ (key_removed layout rows with_rows placed text old new bind t there removes key count (rw is at ran) at.now.tables))
        (λ none. absurd (never_runs text params old (schema_in t.format) at.now.schema none new count ran))

  -- where it breaks a rule, the transaction has what it had
  pub refuses_on : Leaves before new → BreaksRule text params old new → IsWriting before (Some t) new
  refuses_on left broken =
      let same = (refused_stays text params old new broken).0 in
      record {
        is_open = same.is_open;
        inside = subst IsTrue (sym same.mode) at.inside;
        now = subst (Has (Some t)) (sym same.now_is) at.now;
        committed = subst (Has before) (sym same.committed_is) at.committed;
        left = left;
      }

  -- the transaction has put each of sixteen rows at its key
  pub inserts_on : {K V : Type 0} (layout : Layout K V) (rows : Tables → FinMap layout.order V) (with_rows : FinMap layout.order V → Tables → Tables) (name : Table) → IsPlaced layout rows with_rows (is_there name) → table_of name ≡ layout.table
      → (bind : K → Row) (stands : K → Row → Bool) (get : List ℕ) → ((k : K) → Means (is_there name t.format) (ReadsStored (schema_in t.format) layout (bind k) (stands k) (λ v. eq_by_cmp layout.order k (layout.key v)) get) (understood (schema_in t.format) get))
      → StandsOnce stands name → Means (is_there name t.format) (InsertsEach (schema_in t.format) layout rows_at_once text) (understood (schema_in t.format) text)
      → (count : ℕ) → Executes text params old new (Ok count) → (vs : List V) → params ≡ bind_rows layout vs → length vs ≡ rows_at_once → AllByRecursion (λ v. IsTrue (layout.is_valid v)) vs
      → IsWriting before (Some (with_rows (steps.with_rows layout vs (rows t)) t)) new
  inserts_on layout rows with_rows name placed named bind stands get finds once means count ran vs is sixteen valid = means_or _ (is_there name t.format) means
      (λ there inserts. makes _ inserts.command inserts.plain tt count ran _
      (rows_inserted layout rows with_rows name placed named stands (stands_as layout (is_there name t.format) there (schema_in t.format) bind stands get finds) once text old new t at.now.tables there inserts vs sixteen count (rw is at ran) valid))
      (λ none. absurd (never_runs text params old (schema_in t.format) at.now.schema none new count ran))

module _ (params : Row) (old new : State) (before : Option Tables) (t : Tables) (at : IsWriting before (Some t) old) (clean : HasCleanDisk new) (survives : Survives old new (CommitsBy rekey_text params old)) where
  pub rekey_leaves : Leaves before new
  rekey_leaves = leaves rekey_text params old new before t at clean survives _ (rekey t.format).command (rekey t.format).plain tt

  -- the transaction has given the fact of a line other keys
  pub rekeys_on : (count : ℕ) → Executes rekey_text params old new (Ok count) → (r : Rekey) → params ≡ bind_rekey r → IsTrue (are_keys r.1) → IsWriting before (Some (record t { fact = rekeyed r t.fact })) new
  rekeys_on count ran r is keys = makes rekey_text params old new before t at clean survives _ (rekey t.format).command (rekey t.format).plain tt count ran _ (fact_rekeyed old new t at.now.tables r keys count (rw is at ran))

module _ (old new : State) (before : Option Tables) (t : Tables) (at : IsWriting before (Some t) old) (clean : HasCleanDisk new) (survives : Survives old new (CommitsBy clear_facts [] old)) where
  pub clear_leaves : Leaves before new
  clear_leaves = leaves clear_facts [] old new before t at clean survives _ (clear t.format).command (clear t.format).plain tt

  -- the transaction has taken out all facts of the first format, of which there were so many
  pub clears_on : (count : ℕ) → Executes clear_facts [] old new (Ok count) → (count ≡ len t.fact) × IsWriting before (Some (record t { fact = empty })) new
  clears_on count ran =
      let cleared = facts_cleared old new t at.now.tables count ran in
      (cleared.0, makes clear_facts [] old new before t at clean survives _ (clear t.format).command (clear t.format).plain tt count ran _ cleared.1)

-- ---- in the second format; where the tables are of the first, the texts aren't understood

module _ (params : Row) (old new : State) (before : Option Tables) (t : Tables) (at : IsWriting before (Some t) old) (clean : HasCleanDisk new) (survives : Survives old new (CommitsBy rekey2_text params old)) where
  pub rekey2_leaves : Leaves before new
  rekey2_leaves =
      means_or _ (is_two t.format) (rekey2_in t.format) (λ there moves. leaves rekey2_text params old new before t at clean survives _ moves.command moves.plain tt)
      (unknown_leaves rekey2_text params old new before t at clean survives)

  pub rekeys2_on : (count : ℕ) → Executes rekey2_text params old new (Ok count) → (r : Rekey) → params ≡ bind_rekey r → IsTrue (are_keys r.1) → IsWriting before (Some (record t { fact2 = rekeyed r t.fact2 })) new
  rekeys2_on count ran r is keys = means_or _ (is_two t.format) (rekey2_in t.format)
      (λ there moves. makes rekey2_text params old new before t at clean survives _ moves.command moves.plain tt count ran _ (fact2_rekeyed old new t at.now.tables there moves r keys count (rw is at ran)))
      (λ none. absurd (never_runs rekey2_text params old (schema_in t.format) at.now.schema none new count ran))

-- ---- in either format

pub rekey_leaves_in : (of : Format) (params : Row) (old new : State) (before : Option Tables) (t : Tables) → IsWriting before (Some t) old → HasCleanDisk new → Survives old new (CommitsBy (rekeying of) params old) → Leaves before new
rekey_leaves_in One = rekey_leaves
rekey_leaves_in Two = rekey2_leaves

pub rekeys_in : (of : Format) (params : Row) (old new : State) (before : Option Tables) (t : Tables) → IsWriting before (Some t) old → HasCleanDisk new → Survives old new (CommitsBy (rekeying of) params old)
    → (count : ℕ) → Executes (rekeying of) params old new (Ok count) → (r : Rekey) → params ≡ bind_rekey r → IsTrue (are_keys r.1) → IsWriting before (Some (with_rekeyed of r t)) new
rekeys_in One = rekeys_on
rekeys_in Two = rekeys2_on

-- ---- sixteen rows at once

-- what is so where they were put in, and where they weren't
pub rows_told : (P : Bool → Type 0) (same : Type 0) (text : List ℕ) (params : Row) (count : ℕ) (old new : State) (result : Result Bool Cause) → IfOk result (λ put. IsTrue put → HasRun text params old new)
    → IfOk result (λ put. IsTrue put → count ≡ rows_at_once) → IfOk result (λ put. put ≡ false → IsNotPut text params count same old new) → (count ≡ rows_at_once → HasRun text params old new → P true) → (IsNotPut text params count same old new → P false) → IfOk result P
rows_told P same text params count old new (Ok true) run sixteen left when_put when_left = when_put (sixteen refl) (run refl)
rows_told P same text params count old new (Ok false) run sixteen left when_put when_left = when_left (left refl)
rows_told P same text params count old new (Err cause) run sixteen left when_put when_left = tt

pub not_put : (same : Type 0) (text : List ℕ) (params : Row) (count rows : ℕ) → count ≡ rows → (old new : State) (result : Result Bool Cause) → IfOk result (λ put. put ≡ false → IsNotPut text params count same old new)
    → IfOk result (λ put. put ≡ false → (rows ≢ rows_at_once) ⊎ BreaksRule text params old new)
not_put same text params count rows as_many old new (Ok put) left = λ refused. elim (left refused) [ inl few ↦ inl (λ sixteen. few.0 (as_many ∙ sixteen)) | inr broken ↦ inr broken ]
not_put same text params count rows as_many old new (Err cause) left = tt

module _ {V : Type 0} (is_valid : V → Bool) where
  all_valid : (rows : List V) → AllByRecursion (λ v. IsTrue (is_valid v)) rows → list_all is_valid rows ≡ true
  all_valid [] valid = refl
  all_valid (v ∷ rows) valid = rw valid.0 (all_valid rows valid.1)

  -- rows that are all valid are not refused as too great
  pub none_too_great : (rows : List V) → AllByRecursion (λ v. IsTrue (is_valid v)) rows → list_all is_valid rows ≡ false → ⊥
  none_too_great rows valid none = both_ways _ none (all_valid rows valid)

  -- so what keeps them from being put in is what the store says
  pub bound_or_refused : {B : Type 0} (rows : List V) → AllByRecursion (λ v. IsTrue (is_valid v)) rows → (text : List ℕ) (params : Row) (old new : State) (values : Result B Cause) → IfErr values (λ cause. cause ≢ Memory → (cause ≡ Size) × (list_all is_valid rows ≡ false))
      → (result : Result Bool Cause) → IfErr result (λ cause. cause ≢ Memory → (values ≡ Err cause) ⊎ IsCauseOf text params old new cause) → IfErr result (λ cause. cause ≢ Memory → IsCauseOf text params old new cause)
  bound_or_refused rows valid text params old new values bound (Ok put) told = tt
  bound_or_refused rows valid text params old new values bound (Err cause) told = λ other. elim (told other) [
    | inl is ↦ absurd (none_too_great rows valid (rw is at bound other).1)
    | inr refused ↦ refused
  ]
