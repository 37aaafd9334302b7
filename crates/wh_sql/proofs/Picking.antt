-- Of the rows that a query shows, those that pass a test, read as the database hands them out.
use Rattle.std.proofs.Common.{◌≡◌, ℕ, Bool, true, false, cond, List, [], ◌∷◌, ◌++◌, map, filter, Option, None, Some, Result, Ok, Err, IfOk, IfErr, IsTrue, ◌&&◌, inl, inr, refl, sym, ap, subst, ◌∙◌}
use Rattle.std.specs.Prelude.{Vec, ok_or}
use Rattle.std.specs.declared.alloc.Global.{Global}
use Rattle.sqlite_trees.specs.declared.store.Store.{Ghosts}
use Rattle.sqlite.specs.Order.{Row}
use Rattle.sqlite.specs.Held.{Held}
use Rattle.sqlite.specs.State.{State, Shown}
use Rattle.std.proofs.Common.{ap₂}
use Rattle.std.specs.FinMap.{FinMap, values}
use Rattle.std.specs.List.{AllByRecursion, list_all}
use Rattle.std.specs.List.Sorted.{IsPermutation}
use Rattle.std.specs.Ordering.{is_ge, nat_cmp}
use Rattle.std.proofs.lemmas.Bool.{and_parts}
use Rattle.std.proofs.lemmas.List.Sorted.{IsPermutation-refl, IsPermutation-sym, IsPermutation-trans}
use Rattle.sqlite_trees.proofs.ListLemmas.{all-permutation, filter-map, IsPermutation-filter, pull_back}
use Rattle.sqlite_rules.specs.Lists.{Has as IsAmong}
use Rattle.sqlite.specs.Listing.{understood}
use Rattle.wh_policy.specs.declared.attribute.Dim.{Dim}
use Rattle.wh_policy.specs.declared.format.Format.{Format}
use Rattle.wh_policy.specs.declared.format.Format.TheVariants.{Two}
use Rattle.wh_history.specs.declared.facts.Fact.{Fact}
use Rattle.wh_rows.specs.Holds.{Layout}
use Rattle.wh_rows.specs.Meaning.{Means}
use Rattle.wh_rows.specs.Names.{is_there}
use Rattle.wh_rows.specs.Place.{IsPlaced}
use Rattle.wh_rows.specs.Questions.{durable_of}
use Rattle.wh_rows.specs.Raw.{Stored, IsStored, HasDamage, HasDamageIn, ReadsStored, table_of}
use Rattle.wh_rows.specs.Schema.{schema_in}
use Rattle.wh_rows.specs.Since.{is_of_members, is_sale_of, is_since, is_sold_of, unordered}
use Rattle.wh_rows.specs.Tables.{Tables, Stores}
use Rattle.wh_rows.specs.declared.table.Table.{Table}
use Rattle.wh_rows.proofs.ColumnLemmas.{both}
use Rattle.wh_rows.proofs.Means.{means_or, in_second, never_shows}
use Rattle.wh_rows.proofs.OnTables.{read_is, valid_answer}
use Rattle.wh_rows.proofs.Raw.{damage_again, no_damage, shows_stored}
use Rattle.wh_sql.specs.Picked.{StandFor, ShowsSome, FailsToShowSome}
use Rattle.wh_sql.specs.Reads.{NeverReturns, NamesDamage, IsUndamaged, IsOfDamage, AreRead}
use Rattle.wh_sql.proofs.Plain.{plain_returns_nothing}
use Rattle.wh_sql.proofs.Reading.{answer_stored}
use Rattle.wh_sql.specs.declared.fault.ReadFault.{ReadFault}
use Rattle.wh_sql.specs.declared.fault.ReadFault.TheVariants.{Memory, Damaged, Store}
use Rattle.wh_sql.proofs.Giving.{IsGiving}

-- since the first of the connections nothing was changed, and of the rows that the query has given those that pass the test are read so
pub record IsPicking {K V S : Type 0} (layout : Layout K V) (pick : Row → Bool) (g : Ghosts S) (text : List ℕ) (params : Row) (start now : Held S) (read : Option (Vec V Global)) : Type 0 where
  pub rows : List Row
  pub giving : IsGiving g text params start now rows
  pub are : AreRead layout (filter pick rows) read

-- ---- one more row

picked_more : (pick : Row → Bool) (rows : List Row) (row : Row) → filter pick (rows ++ row ∷ []) ≡ filter pick rows ++ cond (pick row) (row ∷ []) []
picked_more pick [] row = refl
picked_more pick (r ∷ rows) row = elim (pick r) as (λ b. cond b (r ∷ filter pick (rows ++ row ∷ [])) (filter pick (rows ++ row ∷ [])) ≡ cond b (r ∷ filter pick rows) (filter pick rows) ++ cond (pick row) (row ∷ []) []) [
  | true ↦ ap (λ l. r ∷ l) (picked_more pick rows row)
  | false ↦ picked_more pick rows row
]

append-none : {X : Type 0} (xs : List X) → xs ++ [] ≡ xs
append-none [] = refl
append-none (x ∷ xs) = ap (λ l. x ∷ l) (append-none xs)

pub one_picked : (pick : Row → Bool) (rows : List Row) (row : Row) → pick row ≡ true → filter pick (rows ++ row ∷ []) ≡ filter pick rows ++ row ∷ []
one_picked pick rows row is = picked_more pick rows row ∙ ap (λ b. filter pick rows ++ cond b (row ∷ []) []) is

pub one_passed : (pick : Row → Bool) (rows : List Row) (row : Row) → pick row ≡ false → filter pick (rows ++ row ∷ []) ≡ filter pick rows
one_passed pick rows row is = picked_more pick rows row ∙ ap (λ b. filter pick rows ++ cond b (row ∷ []) []) is ∙ append-none (filter pick rows)

-- ---- the answer

module _ {K V : Type 0} (layout : Layout K V) (table : Table) (pick : Row → Bool) (text : List ℕ) (params : Row) (old new : State) (rows : List Row) (shown : Shown text params old new rows) where
  pub shows_picked : (read : Option (Vec V Global)) → AreRead layout (filter pick rows) read → IfOk (ok_or read (Damaged table)) (λ read. ShowsSome layout pick text params old new read.items)
  shows_picked (Some read) are = (are.0, rows, shown, are.1)
  shows_picked None damage = tt

  pub fails_to_pick : (read : Option (Vec V Global)) → AreRead layout (filter pick rows) read → IfErr (ok_or read (Damaged table)) (FailsToShowSome layout table pick text params old new)
  fails_to_pick (Some read) are = tt
  fails_to_pick None damage = (refl, rows, shown, damage)

-- ---- lists

filter_both : {X : Type 0} (p q : X → Bool) (xs : List X) → filter q (filter p xs) ≡ filter (λ x. p x && q x) xs
filter_both p q [] = refl
filter_both p q (x ∷ xs) =
    elim (p x) as (λ b. filter q (cond b (x ∷ filter p xs) (filter p xs)) ≡ cond (b && q x) (x ∷ filter (λ x. p x && q x) xs) (filter (λ x. p x && q x) xs)) [
      | true ↦ ap (λ l. cond (q x) (x ∷ l) l) (filter_both p q xs)
      | false ↦ filter_both p q xs
    ]

has_kept : {X : Type 0} (p : X → Bool) (xs : List X) (x : X) → IsAmong (filter p xs) x → IsAmong xs x
has_kept p [] x h = h
has_kept p (y ∷ ys) x h = go (p y) (has_kept p ys x) h
  where
    go : (b : Bool) → (IsAmong (filter p ys) x → IsAmong ys x) → IsAmong (cond b (y ∷ filter p ys) (filter p ys)) x → IsAmong (y ∷ ys) x
    go true rest (inl e) = inl e
    go true rest (inr r) = inr (rest r)
    go false rest r = inr (rest r)

to_each : {X : Type 0} (p : X → Bool) (xs : List X) → list_all p xs ≡ true → AllByRecursion (λ x. p x ≡ true) xs
to_each p [] all = tt
to_each p (x ∷ xs) all = let parts = and_parts (p x) (list_all p xs) all in (parts.0, to_each p xs parts.1)

from_each : {X : Type 0} (p : X → Bool) (xs : List X) → AllByRecursion (λ x. p x ≡ true) xs → list_all p xs ≡ true
from_each p [] each = refl
from_each p (x ∷ xs) each = both each.0 (from_each p xs each.1)

all_again : {X : Type 0} (p : X → Bool) (xs ys : List X) → IsPermutation xs ys → list_all p xs ≡ true → list_all p ys ≡ true
all_again p xs ys same all = from_each p ys (all-permutation (λ x. p x ≡ true) xs ys same (to_each p xs all))

-- ---- what it asks

pub since_quiet : {K V : Type 0} (layout : Layout K V) (name : Table) (from : ℕ) (keep : V → Bool) (text : List ℕ) (params : Row)
    → ((format : Format) → Means (is_there name format) (ReadsStored (schema_in format) (unordered layout) params (is_since from) keep text) (understood (schema_in format) text)) → NeverReturns text
since_quiet layout name from keep text params means =
    plain_returns_nothing (schema_in Two) text (in_second name (λ format. ReadsStored (schema_in format) (unordered layout) params (is_since from) keep text) (λ format. understood (schema_in format) text) means).reads.plain

-- ---- of any stored rows

module _ {K V : Type 0} (layout : Layout K V) (name : Table) (named : table_of name ≡ layout.table) (has : ℕ → ℕ → Bool) (dim : Dim) (from : ℕ) (keep : V → Bool) (text : List ℕ) (params : Row)
    (means : (format : Format) → Means (is_there name format) (ReadsStored (schema_in format) (unordered layout) params (is_since from) keep text) (understood (schema_in format) text)) (old new : State) (stored : Stored) (is : IsStored stored old.now) where
  -- the members' facts of the answer are those that are stored
  some_stored : (answer : List Row) → Shown text params old new answer → IsPermutation (filter (is_sale_of has dim from) (stored.rows name)) (filter (is_of_members has dim) answer)
  some_stored answer shown =
      subst (λ l. IsPermutation l (filter (is_of_members has dim) answer)) (filter_both (is_since from) (is_of_members has dim) (stored.rows name))
      (IsPermutation-filter (is_of_members has dim) _ _ (answer_stored (unordered layout) name named (is_since from) keep text params means old new stored is answer shown))

  -- what is read is all of them, none damaged
  pub picked_stored : (result : Result (Vec V Global) ReadFault) → IfOk result (λ rows. ShowsSome layout (is_of_members has dim) text params old new rows.items)
      → IfOk result (λ rows. StandFor layout (filter (is_sale_of has dim from) (stored.rows name)) rows.items)
  picked_stored (Err refusal) shows = tt
  picked_stored (Ok rows) shows = (subst (IsPermutation (filter (is_sale_of has dim from) (stored.rows name))) shows.3 (some_stored shows.1 shows.2), shows.0)

  -- or one of them is damaged
  pub picked_damage : {A : Type 0} (result : Result A ReadFault) → IfErr result (FailsToShowSome layout name (is_of_members has dim) text params old new) → IfErr result (IsOfDamage layout name (filter (is_sale_of has dim from) (stored.rows name)))
  picked_damage (Ok x) fails = tt
  picked_damage (Err (Damaged met)) fails = (fails.0, damage_again layout (filter (is_sale_of has dim from) (stored.rows name)) (filter (is_of_members has dim) fails.1) (some_stored fails.1 fails.2) fails.3)
  picked_damage (Err (Store cause)) fails = tt
  picked_damage (Err Memory) fails = tt

-- the table that is named is that of the facts
pub picked_names : {A K V : Type 0} (layout : Layout K V) (name : Table) → ((stored : Stored) → HasDamage layout (stored.rows name) → HasDamageIn stored name) → (keeps : Row → Bool) (stored : Stored) (result : Result A ReadFault)
    → IfErr result (IsOfDamage layout name (filter keeps (stored.rows name))) → IfErr result (NamesDamage stored)
picked_names layout name harmed keeps stored (Ok x) told = tt
picked_names layout name harmed keeps stored (Err (Damaged met)) told =
    let damage = told.1 in
    subst (HasDamageIn stored) (sym told.0) (harmed stored (damage.0, has_kept keeps (stored.rows name) damage.0 damage.1, damage.2))
picked_names layout name harmed keeps stored (Err (Store cause)) told = tt
picked_names layout name harmed keeps stored (Err Memory) told = tt

-- ---- of typed tables

module _ {K V : Type 0} (layout : Layout K V) (name : Table) (has : ℕ → ℕ → Bool) (dim : Dim) (from : ℕ) (text : List ℕ) (params : Row) (fact : V → Fact) {rows : Tables → FinMap layout.order V} {with_rows : FinMap layout.order V → Tables → Tables}
    (placed : IsPlaced layout rows with_rows (is_there name))
    (means : (format : Format) → Means (is_there name format) (ReadsStored (schema_in format) (unordered layout) params (is_since from) (λ v. is_ge (nat_cmp (fact v).day from)) text) (understood (schema_in format) text))
    (of : (v : V) → is_of_members has dim (layout.encode v) ≡ has (durable_of dim (fact v)) (fact v).day) (old new : State) (t : Tables) (stored : Stores old.now t) where
  abbrev sold : V → Bool
  sold v = is_sold_of has dim from (fact v)

  -- the members' facts of the answer are those of the tables
  pub record AreTheirs (answer : List Row) : Type 0 where
    pub facts : List V
    pub same : IsPermutation (filter sold (values (rows t))) facts
    pub valid : IsTrue (list_all layout.is_valid facts)
    pub shown : filter (is_of_members has dim) answer ≡ map layout.encode facts

  some_typed : (answer : List Row) → Shown text params old new answer → AreTheirs answer
  some_typed answer shown = means_or _ (is_there name t.format) (means t.format)
      (λ there it.
      let held = placed.held old.now t stored there in
      let vs = values (rows t) in
      let picks = is_of_members has dim in
      let one : IsPermutation (filter (is_since from) (map layout.encode vs)) answer =
      IsPermutation-trans _ _ _ (IsPermutation-sym _ _ (IsPermutation-filter (is_since from) _ _ held.rows_are)) (shows_stored (unordered layout) params (is_since from) (λ v. is_ge (nat_cmp (fact v).day from)) text it old new answer stored.schema shown) in
      let each : (v : V) → is_sale_of has dim from (layout.encode v) ≡ sold v = λ v. ap₂ ◌&&◌ (sym (it.tested (layout.encode v)) ∙ it.reads.agree v) (of v) in
      let all : filter picks (filter (is_since from) (map layout.encode vs)) ≡ map layout.encode (filter sold vs) =
      filter_both (is_since from) picks (map layout.encode vs) ∙ filter-map (is_sale_of has dim from) layout.encode vs ∙ ap (map layout.encode) (ap (λ (p : V → Bool). filter p vs) (λ i v. each v i)) in
      let back = pull_back layout.encode _ (filter picks answer) (subst (λ l. IsPermutation l (filter picks answer)) all (IsPermutation-filter picks _ _ one)) (filter sold vs) refl in
      record { facts = back.0; same = back.1; valid = all_again layout.is_valid (filter sold vs) back.0 back.1 (valid_answer layout rows with_rows placed sold old t stored); shown = back.2 })
      (λ none. absurd (never_shows text params old (schema_in t.format) stored.schema none new answer shown))

  -- what is read is them
  pub picked_rows : (result : Result (Vec V Global) ReadFault) → IfOk result (λ read. ShowsSome layout (is_of_members has dim) text params old new read.items) → IfOk result (λ read. IsPermutation (filter sold (values (rows t))) read.items)
  picked_rows (Err refusal) shows = tt
  picked_rows (Ok read) shows =
      let told = some_typed shows.1 shows.2 in
      subst (IsPermutation (filter sold (values (rows t)))) (sym (read_is layout rows with_rows placed (filter (is_of_members has dim) shows.1) read.items told.facts shows.0 shows.3 told.valid told.shown)) told.same

  -- and none is out of its type
  pub picked_sound : {A : Type 0} (result : Result A ReadFault) → IfErr result (FailsToShowSome layout name (is_of_members has dim) text params old new) → IsUndamaged result
  picked_sound (Ok x) fails = tt
  picked_sound (Err (Damaged met)) fails =
      let told = some_typed fails.1 fails.2 in
      let found = filter (is_of_members has dim) fails.1 in
      no_damage layout found told.facts told.valid (subst (IsPermutation found) told.shown (IsPermutation-refl found)) fails.3
  picked_sound (Err (Store cause)) fails = tt
  picked_sound (Err Memory) fails = tt
