-- What the statements on a table make of all tables, and what they show.
use Rattle.std.proofs.Common.{◌≡◌, ℕ, List, [], ◌∷◌, map, filter, take, reverse, zero, suc, Bool, true, false, cond, Option, None, Some, IfSome, Ok, refl, sym, ap, ap₂, subst, ◌∙◌, ◌≢◌, ◌⊎◌, inl, inr, Err, Result}
use Rattle.std.specs.Prelude.{IsTrue}
use Rattle.std.specs.List.{list_all, AllByRecursion, take-map}
use Rattle.std.specs.Ordering.{eq_by_cmp}
use Rattle.std.specs.Option.{option_to_list}
use Rattle.std.specs.FinMap.{FinMap, empty, entries, values, get, insert, remove, len}
use Rattle.sqlite.specs.Order.{Row}
use Rattle.sqlite.specs.State.{State, Executes, IsUnchanged, Survives, Shown, CommitsShowing, ExecutesIn, IsNotRun, IsRolledBack, shows_rows}
use Rattle.sqlite_rules.specs.Lists.{Has}
use Rattle.sqlite_rules.proofs.ListLemmas.{test_has}
use Rattle.sqlite.specs.Schema.{Schema}
use Rattle.wh_policy.specs.declared.format.Format.{Format}
use Rattle.wh_rows.specs.Schema.{schema_in}
use Rattle.wh_rows.specs.Holds.{Layout}
use Rattle.wh_rows.specs.Place.{IsPlaced}
use Rattle.wh_rows.specs.Tables.{Tables, Stores}
use Rattle.wh_rows.specs.Meaning.{PutsOne, MovesOne, moved_at, KeepsApart, RemovesOne, ReadsSome, CountsAll}
use Rattle.wh_rows.specs.Firsts.{from_end, ReadsFirst, ReadsGreatest}
use Rattle.sqlite_sql.specs.Aggregate.{count as number_of_rows}
use Rattle.std.proofs.lemmas.Grind.{reverse_onto}
use Rattle.std.proofs.lemmas.List.Folds.{list_all-append}
use Rattle.wh_rows.proofs.Firsts.{reads_first, IsGreatestOf, reads_greatest}
use Rattle.wh_rows.proofs.Counts.{counts_rows}
use Rattle.std.proofs.lemmas.Bool.{and_parts, cases_Bool, both_ways}
use Rattle.wh_rows.proofs.ColumnLemmas.{both}
use Rattle.wh_rows.proofs.Maps.{filter-get}
use Rattle.wh_rows.proofs.Statements.Removes.{holds_removed}
use Rattle.wh_rows.proofs.Statements.Selects.{reads_rows}
use Rattle.wh_rows.proofs.Queries.{query_keeps, query_commits_nothing}
use Rattle.sqlite.specs.declared.error.Error.{Error}
use Rattle.wh_rows.proofs.Statements.Puts.{holds_put, was_free, is_moved}
use Rattle.wh_rows.specs.Rows as row
use Rattle.wh_policy.specs.Formats.{is_two}
use Rattle.wh_rows.specs.Rekey.{Rekey, rekey_text, bind_rekey, are_keys, with_keys, rekeyed, rekey2_text}
use Rattle.wh_rows.specs.Texts.{clear_facts}
use Rattle.wh_rows.proofs.EachTable.Facts.{rekey, clear, valid_rekeyed}
use Rattle.wh_rows.proofs.EachTable.Facts2.{valid_rekeyed2}
use Rattle.wh_rows.proofs.Places as places
use Rattle.wh_rows.proofs.Statements.Puts
use Rattle.wh_rows.proofs.Statements.Removes
use Rattle.wh_rows.proofs.Statements.Clears

-- a statement that is refused leaves all as it was, unless the store failed, and then the transaction is undone
pub stays_or_undone : (text : List ℕ) (params : Row) (old new : State) (e : Error) → Executes text params old new (Err e) → IsUnchanged old new ⊎ IsRolledBack old new
unfolding ExecutesIn IsNotRun
stays_or_undone text params old new e (inl (inl stays)) = inl stays.1
stays_or_undone text params old new e (inl (inr fails)) = inr fails.3
stays_or_undone text params old new e (inr ran) = elim (cases_Bool (shows_rows false ran.0)) [
  | inl shows ↦ inl (rw shows at ran.2).1
  | inr runs ↦ elim (rw runs at ran.2) [ inl refused ↦ inl refused.1 | inr fails ↦ inr fails.3 ]
]

module _ {K V : Type 0} (layout : Layout K V) (rows : Tables → FinMap layout.order V) (with_rows : FinMap layout.order V → Tables → Tables) {is_in : Format → Bool} (placed : IsPlaced layout rows with_rows is_in) (text : List ℕ)
    (old new : State) (t : Tables) (stored : Stores old.now t) (there : IsTrue (is_in t.format)) where
  module _ (puts : PutsOne (schema_in t.format) layout text) (row : V) where
    -- a valid row is put at its key
    pub row_put : IsTrue (layout.is_valid row) → (count : ℕ) → Executes text (layout.encode row) old new (Ok count) → Stores new.now (with_rows (insert (rows t) (layout.key row) row) t)
    row_put valid count ran =
        let rise = placed.rising old.now t stored there in
        let held = placed.held old.now t stored there in
        placed.changed old.now new.now t (insert (rows t) (layout.key row) row) there
        (Puts.leaves layout placed.total placed.same text puts old new row count stored.schema rise (rows t) held ran)
        (holds_put layout placed.total placed.same text puts old new row count stored.schema rise (rows t) held ran valid) stored

    -- where a row of another key has its second key, it is refused
    pub is_refused : (clash : V → V → _) → KeepsApart (schema_in t.format) layout clash → (w : V) → Has (values (rows t)) w → layout.key w ≢ layout.key row → clash row w ≡ true
        → (r : Result ℕ Error) → Executes text (layout.encode row) old new r → (e : Error) × (r ≡ Err e) × (IsUnchanged old new ⊎ IsRolledBack old new)
    is_refused clash second w here other taken (Ok count) ran =
        absurd (both_ways _ (was_free layout placed.total placed.same text puts old new row count stored.schema (placed.rising old.now t stored there) (rows t) (placed.held old.now t stored there) ran clash second w here other) taken)
    is_refused clash second w here other taken (Err e) ran = (e, refl, stays_or_undone text (layout.encode row) old new e ran)

  -- the row of a key, if there is one, is changed
  pub row_moved : {P : Type 0} (bind : P → Row) (key : P → K) (moved : P → V → V) → MovesOne (schema_in t.format) layout bind key moved text → (p : P)
      → ((w : V) → get (rows t) (key p) ≡ Some w → IsTrue (layout.is_valid (moved p w))) → (count : ℕ) → Executes text (bind p) old new (Ok count)
      → Stores new.now (with_rows (moved_at (rows t) (key p) (moved p) (get (rows t) (key p))) t)
  row_moved bind key moved moves p valid count ran =
      let rise = placed.rising old.now t stored there in
      let made = is_moved layout placed.total placed.same bind key moved text moves old new p count stored.schema rise (rows t) (placed.held old.now t stored there) ran in
      placed.changed old.now new.now t (moved_at (rows t) (key p) (moved p) (get (rows t) (key p))) there made.leaves (made.holds valid) stored

module _ {K V : Type 0} (layout : Layout K V) (rows : Tables → FinMap layout.order V) (with_rows : FinMap layout.order V → Tables → Tables) {is_in : Format → Bool} (placed : IsPlaced layout rows with_rows is_in) (text : List ℕ)
    (old new : State) where
  -- the row of a key is taken out
  pub key_removed : (bind : K → Row) (t : Tables) → IsTrue (is_in t.format) → RemovesOne (schema_in t.format) layout bind text → (k : K) (count : ℕ) → Executes text (bind k) old new (Ok count) → Stores old.now t → Stores new.now (with_rows (remove (rows t) k) t)
  key_removed bind t there removes k count ran stored =
      let rise = placed.rising old.now t stored there in
      placed.changed old.now new.now t (remove (rows t) k) there
      (Removes.leaves layout placed.total placed.same bind text removes old new k count stored.schema rise ran)
      (holds_removed layout placed.total placed.same bind text removes old new k count stored.schema rise ran (rows t) (placed.held old.now t stored there)) stored

  module _ {under : Schema} (params : Row) (keep : V → Bool) (reads : ReadsSome under layout params keep text) where
    -- the answer is the rows that are kept, in order of their keys
    pub answer_is : (answer : List Row) (t : Tables) → schema_in t.format ≡ under → IsTrue (is_in t.format) → Stores old.now t → Shown text params old new answer → answer ≡ map layout.encode (filter keep (values (rows t)))
    answer_is answer t is there stored shown = reads_rows layout params keep text reads old new answer (stored.schema ∙ is) shown (rows t) (placed.held old.now t stored there)

    pub read_keeps : (answer : List Row) → old.now.schema ≡ under → Shown text params old new answer → IsUnchanged old new
    read_keeps answer is shown = query_keeps text params old new is reads.plain answer shown

    pub read_commits_nothing : old.now.schema ≡ under → Survives old new (CommitsShowing text params old) → Survives old new (λ _. ⊥)
    read_commits_nothing is = query_commits_nothing text params old new is reads.plain

  -- asked for a key, the answer is its row, if it has one
  pub row_of_key : (k : K) (params : Row) (t : Tables) → ReadsSome (schema_in t.format) layout params (λ r. eq_by_cmp layout.order k (layout.key r)) text
      → (answer : List Row) → IsTrue (is_in t.format) → Stores old.now t → Shown text params old new answer → answer ≡ map layout.encode (option_to_list (get (rows t) k))
  row_of_key k params t reads answer there stored shown =
      answer_is params (λ r. eq_by_cmp layout.order k (layout.key r)) reads answer t refl there stored shown
      ∙ ap (map layout.encode) (filter-get layout.order placed.total layout.key (rows t) k (placed.keyed old.now t stored))

  -- the first rows that are kept, in order of their keys, from either end
  module _ {under : Schema} (params : Row) (keep : V → Bool) (most : ℕ) (backwards : Bool) (reads : ReadsFirst under layout params keep most backwards text) where
    pub first_is : (answer : List Row) (t : Tables) → schema_in t.format ≡ under → IsTrue (is_in t.format) → Stores old.now t → Shown text params old new answer → answer ≡ map layout.encode (take most (from_end backwards (filter keep (values (rows t)))))
    first_is answer t is there stored shown =
        reads_first layout params keep most backwards text reads old new answer (stored.schema ∙ is) shown (rows t) (placed.held old.now t stored there)
        ∙ take-map layout.encode most (from_end backwards (filter keep (values (rows t))))

    pub first_keeps : (answer : List Row) → old.now.schema ≡ under → Shown text params old new answer → IsUnchanged old new
    first_keeps answer is shown = query_keeps text params old new is reads.plain answer shown

    pub first_commits_nothing : old.now.schema ≡ under → Survives old new (CommitsShowing text params old) → Survives old new (λ _. ⊥)
    first_commits_nothing is = query_commits_nothing text params old new is reads.plain

  -- a row that is kept, whose number is the greatest of theirs
  pub greatest_is : (params : Row) (keep : V → Bool) (measure : V → ℕ) (t : Tables) → ReadsGreatest (schema_in t.format) layout params keep measure text
      → (answer : List Row) → IsTrue (is_in t.format) → Stores old.now t → Shown text params old new answer → IsGreatestOf layout.encode measure (filter keep (values (rows t))) answer
  greatest_is params keep measure t reads answer there stored shown = reads_greatest layout params keep measure text reads old new answer stored.schema shown (rows t) (placed.held old.now t stored there)

  -- how many rows there are
  pub count_is : (t : Tables) → CountsAll (schema_in t.format) layout text → (answer : List Row) → IsTrue (is_in t.format) → Stores old.now t → Shown text [] old new answer → answer ≡ (number_of_rows (len (rows t)) ∷ []) ∷ []
  count_is t counts answer there stored shown = counts_rows layout text counts.names old new answer counts.command counts.plain counts.unlisted stored.schema shown (rows t) (placed.held old.now t stored there)

-- ---- a table's rows are valid

valid_rows : {K V : Type 0} (is_valid : V → Bool) (es : List (K × V)) → AllByRecursion (λ e. IsTrue (is_valid e.1)) es → list_all is_valid (map (λ e. e.1) es) ≡ true
valid_rows is_valid [] all = refl
valid_rows is_valid (e ∷ es) all = rw all.0 (valid_rows is_valid es all.1)

kept_rows : {V : Type 0} (is_valid keep : V → Bool) (vs : List V) → list_all is_valid vs ≡ true → list_all is_valid (filter keep vs) ≡ true
kept_rows is_valid keep [] h = refl
kept_rows is_valid keep (v ∷ vs) h = go (keep v) (kept_rows is_valid keep vs parts.1)
  where
    parts : (is_valid v ≡ true) × (list_all is_valid vs ≡ true)
    parts = and_parts (is_valid v) (list_all is_valid vs) h

    go : (b : Bool) → list_all is_valid (filter keep vs) ≡ true → list_all is_valid (cond b (v ∷ filter keep vs) (filter keep vs)) ≡ true
    go true rest = both parts.0 rest
    go false rest = rest

-- those that are kept too, so an answer of them is never refused
pub valid_answer : {K V : Type 0} (layout : Layout K V) (rows : Tables → FinMap layout.order V) (with_rows : FinMap layout.order V → Tables → Tables) {is_in : Format → Bool} → IsPlaced layout rows with_rows is_in → (keep : V → Bool)
    (state : State) (t : Tables) → Stores state.now t → IsTrue (list_all layout.is_valid (filter keep (values (rows t))))
valid_answer layout rows with_rows placed keep state t stored = kept_rows layout.is_valid keep (values (rows t)) (valid_rows layout.is_valid (entries (rows t)) (placed.valid state.now t stored))

first_rows : {V : Type 0} (is_valid : V → Bool) (most : ℕ) (vs : List V) → list_all is_valid vs ≡ true → list_all is_valid (take most vs) ≡ true
first_rows is_valid zero vs h = refl
first_rows is_valid (suc most) [] h = refl
first_rows is_valid (suc most) (v ∷ vs) h = let parts = and_parts (is_valid v) (list_all is_valid vs) h in both parts.0 (first_rows is_valid most vs parts.1)

reversed_rows : {V : Type 0} (is_valid : V → Bool) (vs : List V) → list_all is_valid vs ≡ true → list_all is_valid (reverse vs) ≡ true
reversed_rows is_valid [] h = refl
reversed_rows is_valid (v ∷ vs) h =
    let parts = and_parts (is_valid v) (list_all is_valid vs) h in
    ap (list_all is_valid) (reverse_onto vs v []) ∙ list_all-append is_valid (reverse vs) (v ∷ []) ∙ both (reversed_rows is_valid vs parts.1) (both parts.0 refl)

end_rows : {V : Type 0} (is_valid : V → Bool) (backwards : Bool) (vs : List V) → list_all is_valid vs ≡ true → list_all is_valid (from_end backwards vs) ≡ true
end_rows is_valid true vs h = reversed_rows is_valid vs h
end_rows is_valid false vs h = h

pub valid_first : {K V : Type 0} (layout : Layout K V) (rows : Tables → FinMap layout.order V) (with_rows : FinMap layout.order V → Tables → Tables) {is_in : Format → Bool} → IsPlaced layout rows with_rows is_in → (keep : V → Bool)
    (most : ℕ) (backwards : Bool) (state : State) (t : Tables) → Stores state.now t → IsTrue (list_all layout.is_valid (take most (from_end backwards (filter keep (values (rows t))))))
valid_first layout rows with_rows placed keep most backwards state t stored =
    first_rows layout.is_valid most (from_end backwards (filter keep (values (rows t))))
    (end_rows layout.is_valid backwards (filter keep (values (rows t))) (valid_answer layout rows with_rows placed keep state t stored))

-- so is one of them
pub valid_among : {V : Type 0} (is_valid : V → Bool) (kept : List V) (found : Option V) → IsTrue (list_all is_valid kept) → IfSome found (Has kept) → IsTrue (list_all is_valid (option_to_list found))
valid_among is_valid kept None all here = refl
valid_among is_valid kept (Some v) all here = both (test_has is_valid kept v all here) refl

-- ---- rows that were read are the rows that were stored

read_back : {V : Type 0} (encode : V → Row) (is_valid : V → Bool) → ((v w : V) → IsTrue (is_valid v) → IsTrue (is_valid w) → encode v ≡ encode w → v ≡ w)
    → (vs ws : List V) → list_all is_valid vs ≡ true → list_all is_valid ws ≡ true → map encode vs ≡ map encode ws → vs ≡ ws
read_back encode is_valid once [] [] p q same = refl
read_back encode is_valid once [] (w ∷ ws) p q same = absurd (cc)
read_back encode is_valid once (v ∷ vs) [] p q same = absurd (cc)
read_back encode is_valid once (v ∷ vs) (w ∷ ws) p q same =
    let pv = and_parts (is_valid v) (list_all is_valid vs) p in
    let pw = and_parts (is_valid w) (list_all is_valid ws) q in
    let first : encode v ≡ encode w = cc in
    let rest : map encode vs ≡ map encode ws = cc in
    ap₂ ◌∷◌ (once v w pv.0 pw.0 first) (read_back encode is_valid once vs ws pv.1 pw.1 rest)

-- what was read from an answer of valid rows is those rows
pub read_is : {K V : Type 0} (layout : Layout K V) (rows : Tables → FinMap layout.order V) (with_rows : FinMap layout.order V → Tables → Tables) {is_in : Format → Bool} → IsPlaced layout rows with_rows is_in
    → (answer : List Row) (read stored : List V) → IsTrue (list_all layout.is_valid read) → answer ≡ map layout.encode read → IsTrue (list_all layout.is_valid stored) → answer ≡ map layout.encode stored → read ≡ stored
read_is layout rows with_rows placed answer read stored valid is valid_stored was = read_back layout.encode layout.is_valid placed.once read stored valid valid_stored (sym is ∙ was)

module _ {K V : Type 0} (layout : Layout K V) (rows : Tables → FinMap layout.order V) (with_rows : FinMap layout.order V → Tables → Tables) {is_in : Format → Bool} (placed : IsPlaced layout rows with_rows is_in)
    (state : State) (t : Tables) (stored : Stores state.now t) where
  -- the row at a key is valid
  pub valid_at : (k : K) (v : V) → get (rows t) k ≡ Some v → IsTrue (layout.is_valid v)
  valid_at k v there =
      let keep : V → Bool = λ w. eq_by_cmp layout.order k (layout.key w) in
      let found : filter keep (values (rows t)) ≡ v ∷ [] = filter-get layout.order placed.total layout.key (rows t) k (placed.keyed state.now t stored) ∙ ap option_to_list there in
      let all = subst (λ vs. IsTrue (list_all layout.is_valid vs)) found (valid_answer layout rows with_rows placed keep state t stored) in
      (and_parts (layout.is_valid v) true all).0

-- the fact of a line has other keys
pub fact_rekeyed : (old new : State) (t : Tables) → Stores old.now t → (r : Rekey) → IsTrue (are_keys r.1) → (count : ℕ) → Executes rekey_text (bind_rekey r) old new (Ok count)
    → Stores new.now (record t { fact = rekeyed r t.fact })
fact_rekeyed old new t stored r keys count ran =
    row_moved row.fact (λ t. t.fact) (λ m t. record t { fact = m }) places.fact rekey_text old new t stored refl bind_rekey (λ r. r.0) with_keys (rekey t.format) r
    (λ f there. valid_rekeyed r f keys (valid_at row.fact (λ t. t.fact) (λ m t. record t { fact = m }) places.fact old t stored r.0 f there)) count ran

pub fact2_rekeyed : (old new : State) (t : Tables) → Stores old.now t → is_two t.format ≡ true → MovesOne (schema_in t.format) row.fact2 bind_rekey (λ r. r.0) with_keys rekey2_text → (r : Rekey) → IsTrue (are_keys r.1) → (count : ℕ)
    → Executes rekey2_text (bind_rekey r) old new (Ok count) → Stores new.now (record t { fact2 = rekeyed r t.fact2 })
fact2_rekeyed old new t stored there moves r keys count ran =
    row_moved row.fact2 (λ t. t.fact2) (λ m t. record t { fact2 = m }) places.fact2 rekey2_text old new t stored there bind_rekey (λ r. r.0) with_keys moves r
    (λ f is. valid_rekeyed2 r f keys (valid_at row.fact2 (λ t. t.fact2) (λ m t. record t { fact2 = m }) places.fact2 old t stored r.0 f is)) count ran

-- no fact of the first format is left, and the answer is how many there were
pub facts_cleared : (old new : State) (t : Tables) → Stores old.now t → (count : ℕ) → Executes clear_facts [] old new (Ok count) → (count ≡ len t.fact) × Stores new.now (record t { fact = empty })
facts_cleared old new t stored count ran =
    let rise = places.fact.rising old.now t stored refl in
    let gone = Clears.leaves row.fact clear_facts (clear t.format) old new count stored.schema rise ran in (
      Clears.counts_cleared row.fact clear_facts (clear t.format) old new count stored.schema rise ran t.fact stored.fact,
      places.fact.changed old.now new.now t empty refl gone (Clears.holds_cleared row.fact clear_facts (clear t.format) old new count stored.schema rise ran) stored,
    )
