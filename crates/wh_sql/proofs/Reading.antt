-- What a reading of one table gives, and what it leaves.
use Rattle.std.proofs.Common.{◌≡◌, ◌≢◌, ◌↔◌, ◌<◌, ◌≤◌, ℕ, List, [], ◌∷◌, ◌++◌, map, filter, length, Bool, slice_get, Option, None, Some, unwrap_or, option_map, Result, Ok, Err, IsSome, IfOk, IfErr, IsTrue, true, false, inl, refl, sym, ap, subst, ◌∙◌, arith, length-append}
use Rattle.std.specs.List.{list_all}
use Rattle.std.specs.Option.{option_to_list}
use Rattle.std.specs.FinMap.{FinMap, values, get, len}
use Rattle.std.specs.Ordering.{eq_by_cmp}
use Rattle.std.specs.Prelude.{Vec, MatchResult}
use Rattle.std.specs.declared.cmp.Ordering.{Ordering}
use Rattle.wh_rows.specs.declared.cause.Cause.{Cause}
use Rattle.wh_rows.specs.declared.cause.Cause.TheVariants.{Size}
use Rattle.wh_rows.specs.declared.cause.Cause.TheVariants as causes
use Rattle.std.specs.declared.alloc.Global.{Global}
use Rattle.sqlite.specs.Order.{Row}
use Rattle.sqlite.specs.Listing.{understood}
use Rattle.sqlite.specs.State.{State, HasCleanDisk, IsUnchanged, Survives, Shown, ShowsRows, CommitsShowing}
use Rattle.sqlite.proofs.Callers.{IsPlain}
use Rattle.wh_policy.specs.declared.format.Format.{Format}
use Rattle.wh_policy.specs.declared.format.Format.TheVariants.{Two}
use Rattle.wh_rows.specs.Names.{is_there}
use Rattle.wh_rows.specs.Schema.{schema_in}
use Rattle.wh_rows.specs.Holds.{Layout}
use Rattle.wh_rows.specs.Place.{IsPlaced}
use Rattle.wh_rows.specs.Tables.{Tables, Stores}
use Rattle.wh_rows.specs.AtRest.{IsAtRest}
use Rattle.wh_rows.specs.Meaning.{Means, ReadsSome, CountsAll}
use Rattle.wh_rows.proofs.Means.{means_or, in_second, never_shows}
use Rattle.wh_sql.proofs.Plain.{plain_returns_nothing}
use Rattle.wh_sql.proofs.Giving.{never_commits}
use Rattle.wh_sql.proofs.Sparing.{unchanged_spares, spares_itself}
use Rattle.std.specs.List.Sorted.{IsPermutation}
use Rattle.std.proofs.lemmas.List.Sorted.{IsPermutation-refl, IsPermutation-sym, IsPermutation-trans}
use Rattle.sqlite_trees.proofs.ListLemmas.{IsPermutation-filter}
use Rattle.wh_rows.specs.Raw.{Stored, IsStored, HasDamage, HasDamageIn, RestsOn, ReadsStored, ReadsFrontStored, ReadsPartStored, ReadsGreatestStored, IsGreatestAnchor, AreRows, AreAsked, IsFrontOf, table_of, rows_in, rows_shown}
use Rattle.sqlite_sql.specs.Aggregate.{count}
use Rattle.sqlite_rules.specs.Lists.{Has as IsAmong}
use Rattle.wh_rows.proofs.Raw.{has_again, no_damage, damage_again, shows_stored, shows_in_order, shows_front_again, ShowsGreatest, shows_greatest, anchor_shown, anchor_damaged}
use Rattle.wh_rows.proofs.Among.{part_among, sorted_among}
use Rattle.wh_rows.proofs.Counts.{counts_stored}
use Rattle.wh_rows.specs.Firsts.{Front, part, greatest, ReadsSorted, ReadsPart, ReadsGreatest}
use Rattle.wh_rows.specs.declared.table.Table.{Table}
use Rattle.wh_rows.specs.declared.table.Table.TheVariants.{Change}
use Rattle.wh_rows.specs.declared.rows.ChangeRow.{ChangeRow}
use Rattle.wh_rows.specs.Questions.{anchor_column}
use Rattle.wh_rows.specs.Rows as row
use Rattle.wh_rows.proofs.Edits.{filter_all}
use Rattle.wh_rows.proofs.Maps.{filter-get}
use Rattle.sqlite_schema.specs.declared.command.Returning.{Returning}
use Rattle.sqlite.specs.Clock.{timed}
use Rattle.sqlite.specs.Given.{Returns}
use Rattle.sqlite.specs.Schema.{Schema}
use Rattle.sqlite.specs.Tree.{Trees}
use Rattle.wh_rows.proofs.OnTables.{answer_is, first_is, greatest_is, valid_answer, valid_first, valid_among, read_is, count_is}
use Rattle.wh_sql.specs.Reads.{NeverReturns, ReadsOnly, NamesDamage, SparesRows, IsServed, IsUndamaged, Shows, FailsToShow, FailsToCount, IsOfDamage, IsOfAskedDamage, IsOfGreatestDamage, unasked}
use Rattle.wh_sql.specs.declared.fault.ReadFault.{ReadFault}
use Rattle.wh_sql.specs.declared.fault.ReadFault.TheVariants.{Memory, Damaged, Store}

-- ---- a call that leaves what is there

-- whatever was made of what was read
pub reads_unchanged : {A : Type 0} (old new : State) → Survives old new (λ _. ⊥) → (result : Result A ReadFault) → (HasCleanDisk new → IsServed result → IsUnchanged old new)
    → (HasCleanDisk new → (t : Tables) → IsAtRest (Some t) old → IsUndamaged result) → (HasCleanDisk new → (stored : Stored) → RestsOn stored old → IfErr result (NamesDamage stored)) → ReadsOnly old new result
reads_unchanged old new survives result same sound named = record {
  spares = unchanged_spares survives same;
  sound = sound;
  named = named;
}

-- ---- a text that shows stored rows

-- the rows of a table that is there
pub shown_there : (format : Format) (table : Table) (trees : Trees) (rows : List Row) → is_there table format ≡ true → IsPermutation (rows_shown format table trees) rows → IsPermutation (rows_in (table_of table) trees) rows
shown_there format table trees rows there same = rw there at same

-- a text that means the stored rows that pass a test, of a table
module _ {K V : Type 0} (layout : Layout K V) (name : Table) (named : table_of name ≡ layout.table) (stands : Row → Bool) (keep : V → Bool) (text : List ℕ) (params : Row)
    (means : (format : Format) → Means (is_there name format) (ReadsStored (schema_in format) layout params stands keep text) (understood (schema_in format) text)) (old new : State) (stored : Stored) (is : IsStored stored old.now) where
  pub answer_stored : (answer : List Row) → Shown text params old new answer → IsPermutation (filter stands (stored.rows name)) answer
  answer_stored answer shown = means_or _ (is_there name stored.format) (means stored.format)
      (λ there it.
      let rows : IsPermutation (rows_in layout.table old.now.trees) (stored.rows name) = subst (λ t. IsPermutation (rows_in t old.now.trees) (stored.rows name)) named (shown_there stored.format name old.now.trees (stored.rows name) there (is.rows name)) in
      IsPermutation-trans _ _ _ (IsPermutation-sym _ _ (IsPermutation-filter stands _ _ rows)) (shows_stored layout params stands keep text it old new answer is.schema shown))
      (λ none. absurd (never_shows text params old (schema_in stored.format) is.schema none new answer shown))

  -- what is read is all of them, none damaged
  pub reads_stored : (result : Result (Vec V Global) ReadFault) → IfOk result (λ rows. Shows layout text params old new rows.items) → IfOk result (λ rows. AreRows layout (filter stands (stored.rows name)) rows.items)
  reads_stored (Err refusal) shows = tt
  reads_stored (Ok rows) shows = record {
    same = answer_stored (map layout.encode rows.items) shows.1;
    valid = shows.0;
    in_order = means_or _ (is_there name stored.format) (means stored.format)
        (λ there it. shows_in_order layout params stands keep text it old new (map layout.encode rows.items) is.schema shows.1 rows.items refl)
        (λ none. absurd (never_shows text params old (schema_in stored.format) is.schema none new (map layout.encode rows.items) shows.1));
  }

  -- or one of them is damaged
  pub finds_damage : {A : Type 0} (result : Result A ReadFault) → IfErr result (FailsToShow layout name text params old new) → IfErr result (IsOfDamage layout name (filter stands (stored.rows name)))
  finds_damage (Ok x) fails = tt
  finds_damage (Err (Damaged met)) fails = (fails.0, damage_again layout (filter stands (stored.rows name)) fails.1 (answer_stored fails.1 fails.2) fails.3)
  finds_damage (Err (Store cause)) fails = tt
  finds_damage (Err Memory) fails = tt

-- a text that means a part of the stored rows that pass a test, which may be all of it
module _ {K V : Type 0} (layout : Layout K V) (name : Table) (named : table_of name ≡ layout.table) (stands : Row → Bool) (keep : V → Bool) (text : List ℕ) (params : Row) (old new : State) (stored : Stored) (is : IsStored stored old.now) where
  part_stored : (front : Front) → ((format : Format) → Means (is_there name format) (ReadsFrontStored (schema_in format) front layout params stands keep text) (understood (schema_in format) text))
      → (answer : List Row) → Shown text params old new answer → IsFrontOf front layout.table (filter stands (stored.rows name)) answer
  part_stored front means answer shown = means_or _ (is_there name stored.format) (means stored.format)
      (λ there it. shows_front_again front layout params stands keep text it old new answer is.schema shown (stored.rows name)
      (subst (λ t. IsPermutation (rows_in t old.now.trees) (stored.rows name)) named (shown_there stored.format name old.now.trees (stored.rows name) there (is.rows name))))
      (λ none. absurd (never_shows text params old (schema_in stored.format) is.schema none new answer shown))

  -- what is read is what is asked for, none damaged
  pub asked_stored : (front : Option Front) → ((format : Format) → Means (is_there name format) (ReadsPartStored (schema_in format) front layout params stands keep text) (understood (schema_in format) text))
      → (result : Result (Vec V Global) ReadFault) → IfOk result (λ rows. Shows layout text params old new rows.items) → IfOk result (λ rows. AreAsked front layout (filter stands (stored.rows name)) rows.items)
  asked_stored None means result shows = reads_stored layout name named stands keep text params means old new stored is result shows
  asked_stored (Some front) means (Err refusal) shows = tt
  asked_stored (Some front) means (Ok rows) shows = (part_stored front means (map layout.encode rows.items) shows.1, shows.0)

  -- or a row of it is damaged
  pub asked_damage : {A : Type 0} (front : Option Front) → ((format : Format) → Means (is_there name format) (ReadsPartStored (schema_in format) front layout params stands keep text) (understood (schema_in format) text))
      → (result : Result A ReadFault) → IfErr result (FailsToShow layout name text params old new) → IfErr result (IsOfAskedDamage front layout name (filter stands (stored.rows name)))
  asked_damage None means result fails = finds_damage layout name named stands keep text params means old new stored is result fails
  asked_damage (Some front) means (Ok x) fails = tt
  asked_damage (Some front) means (Err (Damaged met)) fails = (fails.0, (fails.1, part_stored front means fails.1 fails.2, fails.3))
  asked_damage (Some front) means (Err (Store cause)) fails = tt
  asked_damage (Some front) means (Err Memory) fails = tt

-- a text that means the record of the greatest anchor, of those that pass a test
module _ (stands : Row → Bool) {keep : ChangeRow → Bool} {text : List ℕ} {params : Row} (it : (format : Format) → ReadsGreatestStored (schema_in format) anchor_column row.change params stands keep (λ r. r.anchor) text) (old new : State) (stored : Stored) (is : IsStored stored old.now) where
  greatest_stored : (answer : List Row) → Shown text params old new answer → ShowsGreatest anchor_column (filter stands (stored.rows Change)) answer
  greatest_stored answer shown = shows_greatest anchor_column row.change params stands keep (λ r. r.anchor) text (it stored.format) old new answer is.schema shown (stored.rows Change) (is.rows Change)

  -- the anchor of what is read is the greatest
  pub anchor_stored : (rows : List ChangeRow) → Shows row.change text params old new rows → IsGreatestAnchor (filter stands (stored.rows Change)) (unwrap_or (option_map (λ r. r.anchor) (slice_get rows 0)) 0)
  anchor_stored rows shows = anchor_shown (filter stands (stored.rows Change)) rows shows.0 (greatest_stored (map row.change.encode rows) shows.1)

  -- or the record that has it is damaged
  pub anchor_damage : {A : Type 0} (result : Result A ReadFault) → IfErr result (FailsToShow row.change Change text params old new) → IfErr result (IsOfGreatestDamage (filter stands (stored.rows Change)))
  anchor_damage (Ok x) fails = tt
  anchor_damage (Err (Damaged met)) fails = (fails.0, anchor_damaged (filter stands (stored.rows Change)) fails.1 (greatest_stored fails.1 fails.2) fails.3)
  anchor_damage (Err (Store cause)) fails = tt
  anchor_damage (Err Memory) fails = tt

-- ---- which table is named

-- it is one that stores a damaged row, where each row that is shown is one of those that are stored
pub names_damage : {A K V : Type 0} (layout : Layout K V) (name : Table) → table_of name ≡ layout.table → ((stored : Stored) → HasDamage layout (stored.rows name) → HasDamageIn stored name) → (text : List ℕ) (params : Row) (old new : State)
    → (result : Result A ReadFault) → IfErr result (FailsToShow layout name text params old new) → (stored : Stored)
    → ((answer : List Row) → Shown text params old new answer → (is_there name stored.format ≡ true) × ((row : Row) → IsAmong answer row → IsAmong (rows_in layout.table old.now.trees) row))
    → IsStored stored old.now → IfErr result (NamesDamage stored)
names_damage layout name named harmed text params old new (Ok x) fails stored among is = tt
names_damage layout name named harmed text params old new (Err (Damaged met)) fails stored among is =
    let rows : IsPermutation (rows_in layout.table old.now.trees) (stored.rows name) = subst (λ t. IsPermutation (rows_in t old.now.trees) (stored.rows name)) named (shown_there stored.format name old.now.trees (stored.rows name) (among fails.1 fails.2).0 (is.rows name)) in
    let damage = fails.3 in
    let here = has_again (stored.rows name) (rows_in layout.table old.now.trees) damage.0 (IsPermutation-sym _ _ rows) ((among fails.1 fails.2).1 damage.0 damage.1) in
    subst (HasDamageIn stored) (sym fails.0) (harmed stored (damage.0, here, damage.2))
names_damage layout name named harmed text params old new (Err (Store cause)) fails stored among is = tt
names_damage layout name named harmed text params old new (Err Memory) fails stored among is = tt

-- of a text that shows a part of the rows that pass a test
pub part_named : {A K V : Type 0} (layout : Layout K V) (name : Table) → table_of name ≡ layout.table → ((stored : Stored) → HasDamage layout (stored.rows name) → HasDamageIn stored name) → (text : List ℕ) (params : Row) (old new : State)
    → (front : Option Front) (keep : V → Bool) → ((format : Format) → Means (is_there name format) (ReadsPart (schema_in format) front layout params keep text) (understood (schema_in format) text))
    → (result : Result A ReadFault) → IfErr result (FailsToShow layout name text params old new) → (stored : Stored) → IsStored stored old.now → IfErr result (NamesDamage stored)
part_named layout name named harmed text params old new front keep reads result fails stored is =
    names_damage layout name named harmed text params old new result fails stored (λ answer shown. means_or _ (is_there name stored.format) (reads stored.format)
    (λ there it. (there, part_among layout text params keep old new answer is.schema shown front it)) (λ none. absurd (never_shows text params old (schema_in stored.format) is.schema none new answer shown))) is

-- of one that shows up to so many of them, sorted by a comparison
pub sorted_named : {A K V : Type 0} (layout : Layout K V) (name : Table) → table_of name ≡ layout.table → ((stored : Stored) → HasDamage layout (stored.rows name) → HasDamageIn stored name) → (text : List ℕ) (params : Row) (old new : State)
    → (most : ℕ) (cmp : V → V → Ordering) (keep : V → Bool) → ((format : Format) → Means (is_there name format) (ReadsSorted (schema_in format) layout params keep most cmp text) (understood (schema_in format) text))
    → (result : Result A ReadFault) → IfErr result (FailsToShow layout name text params old new) → (stored : Stored) → IsStored stored old.now → IfErr result (NamesDamage stored)
sorted_named layout name named harmed text params old new most cmp keep reads result fails stored is =
    names_damage layout name named harmed text params old new result fails stored (λ answer shown. means_or _ (is_there name stored.format) (reads stored.format)
    (λ there it. (there, sorted_among layout text params keep old new answer is.schema shown most cmp it)) (λ none. absurd (never_shows text params old (schema_in stored.format) is.schema none new answer shown))) is

-- where no row out of its type was met, no table is named
pub names_no_table : {A : Type 0} (stored : Stored) (result : Result A ReadFault) → IsUndamaged result → IfErr result (NamesDamage stored)
names_no_table stored (Ok x) told = tt
names_no_table stored (Err (Damaged table)) told = absurd told
names_no_table stored (Err (Store cause)) told = tt
names_no_table stored (Err Memory) told = tt

-- a text that counts all rows shows how many are stored
pub count_stored : {K V : Type 0} (layout : Layout K V) (name : Table) → table_of name ≡ layout.table → (text : List ℕ) → ((format : Format) → Means (is_there name format) (CountsAll (schema_in format) layout text) (understood (schema_in format) text)) → (old new : State) (answer : List Row) → Shown text [] old new answer
    → (stored : Stored) → IsStored stored old.now → answer ≡ (count (length (stored.rows name)) ∷ []) ∷ []
count_stored layout name named text means old new answer shown stored is = means_or _ (is_there name stored.format) (means stored.format)
    (λ there counts. counts_stored layout text counts.names old new answer counts.command counts.plain counts.unlisted is.schema shown (stored.rows name)
    (subst (λ t. IsPermutation (rows_in t old.now.trees) (stored.rows name)) named (shown_there stored.format name old.now.trees (stored.rows name) there (is.rows name))))
    (λ none. absurd (never_shows text [] old (schema_in stored.format) is.schema none new answer shown))

-- a text that shows rows without a write leaves all as it was
query_quiet : (text : List ℕ) (params : Row) (old new : State) (rows : List Row) → NeverReturns text → Shown text params old new rows → IsUnchanged old new
unfolding Shown
query_quiet text params old new rows quiet h = go h.0.returning refl h.2
  where
    go : (r : Option Returning) → h.0.returning ≡ r → ShowsRows old new text h.0 (timed params h.0.formats h.1.now) rows r → IsUnchanged old new
    go None none shows = shows.3
    go (Some what) some shows = absurd (quiet old.now.schema (subst Returns (sym h.1.is) (subst IsSome (sym some) refl)))

-- a text that only reads, whatever was made of what it showed
pub reads_only : {A : Type 0} (text : List ℕ) (params : Row) (quiet : NeverReturns text) (old new : State) → Survives old new (CommitsShowing text params old) → (result : Result A ReadFault)
    → (HasCleanDisk new → IsServed result → (answer : List Row) × Shown text params old new answer) → (HasCleanDisk new → (t : Tables) → IsAtRest (Some t) old → IsUndamaged result)
    → (HasCleanDisk new → (stored : Stored) → RestsOn stored old → IfErr result (NamesDamage stored)) → ReadsOnly old new result
reads_only text params quiet old new survives result shown sound named =
    reads_unchanged old new (never_commits text params old new (quiet old.now.schema) survives) result (λ clean served. let told = shown clean served in query_quiet text params old new told.0 quiet told.1) sound named

part_is_plain : {K V : Type 0} (schema : Schema) (front : Option Front) (layout : Layout K V) (params : Row) (keep : V → Bool) (text : List ℕ) → ReadsPart schema front layout params keep text → IsPlain (understood schema text)
part_is_plain schema None layout params keep text reads = reads.plain
part_is_plain schema (Some front) layout params keep text reads = reads.plain

-- a text that means something in the second format is no write that shows rows
pub some_quiet : {K V : Type 0} (name : Table) (layout : Layout K V) (params : Row) (keep : V → Bool) (text : List ℕ) → ((format : Format) → Means (is_there name format) (ReadsSome (schema_in format) layout params keep text) (understood (schema_in format) text)) → NeverReturns text
some_quiet name layout params keep text means = plain_returns_nothing (schema_in Two) text (in_second name (λ format. ReadsSome (schema_in format) layout params keep text) (λ format. understood (schema_in format) text) means).plain

pub part_quiet : {K V : Type 0} (name : Table) (front : Option Front) (layout : Layout K V) (params : Row) (keep : V → Bool) (text : List ℕ) → ((format : Format) → Means (is_there name format) (ReadsPart (schema_in format) front layout params keep text) (understood (schema_in format) text)) → NeverReturns text
part_quiet name front layout params keep text means =
    plain_returns_nothing (schema_in Two) text (part_is_plain (schema_in Two) front layout params keep text (in_second name (λ format. ReadsPart (schema_in format) front layout params keep text) (λ format. understood (schema_in format) text) means))

pub count_quiet : {K V : Type 0} (name : Table) (layout : Layout K V) (text : List ℕ) → ((format : Format) → Means (is_there name format) (CountsAll (schema_in format) layout text) (understood (schema_in format) text)) → NeverReturns text
count_quiet name layout text means = plain_returns_nothing (schema_in Two) text (in_second name (λ format. CountsAll (schema_in format) layout text) (λ format. understood (schema_in format) text) means).plain

-- what wasn't asked met no row, and changes nothing
no_row : (cause : Cause) → SparesRows (unasked cause)
no_row causes.Memory = tt
no_row causes.Disk = tt
no_row causes.Size = tt
no_row causes.Interrupted = tt

names_nothing : (stored : Stored) (cause : Cause) → NamesDamage stored (unasked cause)
names_nothing stored causes.Memory = tt
names_nothing stored causes.Disk = tt
names_nothing stored causes.Size = tt
names_nothing stored causes.Interrupted = tt

-- nothing was called, for a parameter wasn't made
pub not_asked : {A : Type 0} (s : State) (cause : Cause) → ReadsOnly {A = A} s s (Err (unasked cause))
not_asked s cause = record {
  spares = spares_itself;
  sound = λ clean t at. no_row cause;
  named = λ clean stored at. names_nothing stored cause;
}

-- it tells of no damage
pub unasked_harmless : {K V : Type 0} (front : Option Front) (layout : Layout K V) (table : Table) (stored : List Row) (cause : Cause) → IsOfAskedDamage front layout table stored (unasked cause)
unasked_harmless front layout table stored causes.Memory = tt
unasked_harmless front layout table stored causes.Disk = tt
unasked_harmless front layout table stored causes.Size = tt
unasked_harmless front layout table stored causes.Interrupted = tt

-- where each parameter can be made, memory alone keeps one from being made
pub unasked_shows : {K V : Type 0} (layout : Layout K V) (table : Table) (text : List ℕ) (params : Row) (old new : State) (cause : Cause) → (cause ≢ causes.Memory → ⊥) → FailsToShow layout table text params old new (unasked cause)
unasked_shows layout table text params old new causes.Memory fits = tt
unasked_shows layout table text params old new causes.Disk fits = absurd (fits (λ same. cc))
unasked_shows layout table text params old new causes.Size fits = absurd (fits (λ same. cc))
unasked_shows layout table text params old new causes.Interrupted fits = absurd (fits (λ same. cc))

-- the same fault, of another answer
pub said_again : {A B : Type 0} {old new : State} {fault : ReadFault} → ReadsOnly {A = A} old new (Err fault) → ReadsOnly {A = B} old new (Err fault)
said_again here = record { spares = here.spares; sound = here.sound; named = here.named }

-- ---- a text that shows rows of one table

-- Of the tables that the database stores it shows rows that answer, all of values of their types, and no two of them stand alike.
pub record IsAnswered {K V : Type 0} (layout : Layout K V) (text : List ℕ) (params : Row) (old new : State) (answers : Tables → List V → Type 0) : Type 0 where
  pub quiet : NeverReturns text
  pub shows : (answer : List Row) (t : Tables) → Stores old.now t → Shown text params old new answer → (rows : List V) × answers t rows × IsTrue (list_all layout.is_valid rows) × (answer ≡ map layout.encode rows)
  pub once : (answer : List Row) (read stored : List V) → IsTrue (list_all layout.is_valid read) → answer ≡ map layout.encode read → IsTrue (list_all layout.is_valid stored) → answer ≡ map layout.encode stored → read ≡ stored

-- the same rows, said otherwise
otherwise : {K V : Type 0} {layout : Layout K V} {text : List ℕ} {params : Row} {old new : State} {wanted again : Tables → List V} → IsAnswered layout text params old new (λ t rows. rows ≡ wanted t)
    → ((t : Tables) → Stores old.now t → wanted t ≡ again t) → IsAnswered layout text params old new (λ t rows. rows ≡ again t)
otherwise asked same = record {
  quiet = asked.quiet;
  shows = λ answer t stored shown. let told = asked.shows answer t stored shown in (told.0, told.1 ∙ same t stored, told.2, told.3);
  once = asked.once;
}

-- the greatest number of the rows that are kept is that of the first of these rows, or 0 where there is none
abbrev pub IsLedByGreatest : {V : Type 0} → (V → ℕ) → List V → List V → Type 0
IsLedByGreatest measure kept rows = greatest (map measure kept) ≡ unwrap_or (option_map measure (slice_get rows 0)) 0

first_found : {V : Type 0} (found : Option V) → slice_get (option_to_list found) 0 ≡ found
first_found None = refl
first_found (Some v) = refl

module _ {K V : Type 0} {layout : Layout K V} {rows : Tables → FinMap layout.order V} {with_rows : FinMap layout.order V → Tables → Tables} (name : Table) (placed : IsPlaced layout rows with_rows (is_there name)) (old new : State) where
  -- a text that means a part of the rows that pass a test shows that part
  pub part_answered : (text : List ℕ) (params : Row) (front : Option Front) (keep : V → Bool) → ((format : Format) → Means (is_there name format) (ReadsPart (schema_in format) front layout params keep text) (understood (schema_in format) text))
      → IsAnswered layout text params old new (λ t vs. vs ≡ part front (filter keep (values (rows t))))
  part_answered text params None keep means = record {
    quiet = part_quiet name None layout params keep text means;
    shows = λ answer t stored shown. (
      _,
      refl,
      valid_answer layout rows with_rows placed keep old t stored,
      means_or _ (is_there name t.format) (means t.format) (λ there reads. answer_is layout rows with_rows placed text old new params keep reads answer t refl there stored shown)
          (λ none. absurd (never_shows text params old (schema_in t.format) stored.schema none new answer shown)),
    );
    once = read_is layout rows with_rows placed;
  }
  part_answered text params (Some front) keep means = record {
    quiet = part_quiet name (Some front) layout params keep text means;
    shows = λ answer t stored shown. (
      _,
      refl,
      valid_first layout rows with_rows placed keep front.most front.backwards old t stored,
      means_or _ (is_there name t.format) (means t.format) (λ there reads. first_is layout rows with_rows placed text old new params keep front.most front.backwards reads answer t refl there stored shown)
          (λ none. absurd (never_shows text params old (schema_in t.format) stored.schema none new answer shown)),
    );
    once = read_is layout rows with_rows placed;
  }

  -- one that means all rows shows them all
  pub all_answered : {text : List ℕ} → ((format : Format) → Means (is_there name format) (ReadsSome (schema_in format) layout [] (λ row. true) text) (understood (schema_in format) text)) → IsAnswered layout text [] old new (λ t vs. vs ≡ values (rows t))
  all_answered {text = text} reads = otherwise (part_answered text [] None (λ row. true) reads) (λ t stored. filter_all (values (rows t)))

  -- one that means the rows of a key shows the row there
  pub key_answered : {text : List ℕ} {params : Row} (key : K) → ((format : Format) → Means (is_there name format) (ReadsSome (schema_in format) layout params (λ row. eq_by_cmp layout.order key (layout.key row)) text) (understood (schema_in format) text))
      → IsAnswered layout text params old new (λ t vs. vs ≡ option_to_list (get (rows t) key))
  key_answered {text = text} {params = params} key reads =
      otherwise (part_answered text params None (λ row. eq_by_cmp layout.order key (layout.key row)) reads) (λ t stored. filter-get layout.order placed.total layout.key (rows t) key (placed.keyed old.now t stored))

  -- one that means a row whose number is the greatest shows such a row
  pub greatest_answered : {text : List ℕ} {params : Row} (keep : V → Bool) (measure : V → ℕ) → ((format : Format) → Means (is_there name format) (ReadsGreatest (schema_in format) layout params keep measure text) (understood (schema_in format) text))
      → IsAnswered layout text params old new (λ t. IsLedByGreatest measure (filter keep (values (rows t))))
  greatest_answered {text = text} {params = params} keep measure means = record {
    quiet = plain_returns_nothing (schema_in Two) text (in_second name (λ format. ReadsGreatest (schema_in format) layout params keep measure text) (λ format. understood (schema_in format) text) means).plain;
    shows = λ answer t stored shown. means_or _ (is_there name t.format) (means t.format)
        (λ there reads.
        let told = greatest_is layout rows with_rows placed text old new params keep measure t reads answer there stored shown in
        let valid = valid_among layout.is_valid (filter keep (values (rows t))) told.found (valid_answer layout rows with_rows placed keep old t stored) told.among in
        (option_to_list told.found, rw first_found told.greatest_is, valid, told.shown))
        (λ none. absurd (never_shows text params old (schema_in t.format) stored.schema none new answer shown));
    once = read_is layout rows with_rows placed;
  }

module _ {K V : Type 0} {layout : Layout K V} {text : List ℕ} {params : Row} {old new : State} {answers : Tables → List V → Type 0} (asked : IsAnswered layout text params old new answers) where
  -- what is read answers
  pub rows_are : (result : Result (Vec V Global) ReadFault) → IfOk result (λ rows. Shows layout text params old new rows.items) → (t : Tables) → Stores old.now t → IfOk result (λ rows. answers t rows.items)
  rows_are (Err refusal) shows t stored = tt
  rows_are (Ok rows) shows t stored =
      let told = asked.shows (map layout.encode rows.items) t stored shows.1 in subst (answers t) (sym (asked.once (map layout.encode rows.items) rows.items told.0 shows.0 refl told.2 told.3)) told.1

  -- and no row is out of its type
  pub undamaged : {A : Type 0} (result : Result A ReadFault) (table : Table) → IfErr result (FailsToShow layout table text params old new) → (t : Tables) → Stores old.now t → IsUndamaged result
  undamaged (Ok x) table fails t stored = tt
  undamaged (Err (Damaged met)) table fails t stored = let told = asked.shows fails.1 t stored fails.2 in no_damage layout fails.1 told.0 told.2 (subst (IsPermutation fails.1) told.3 (IsPermutation-refl fails.1)) fails.3
  undamaged (Err (Store cause)) table fails t stored = tt
  undamaged (Err Memory) table fails t stored = tt

-- a text that counts all rows shows how many there are
pub count_of : {K V : Type 0} {layout : Layout K V} {rows : Tables → FinMap layout.order V} {with_rows : FinMap layout.order V → Tables → Tables} (name : Table) (placed : IsPlaced layout rows with_rows (is_there name)) (text : List ℕ) (old new : State) (t : Tables)
    → ((format : Format) → Means (is_there name format) (CountsAll (schema_in format) layout text) (understood (schema_in format) text)) → (answer : List Row) → Stores old.now t → Shown text [] old new answer → answer ≡ (count (len (rows t)) ∷ []) ∷ []
count_of {layout = layout} {rows = rows} {with_rows = with_rows} name placed text old new t means answer stored shown = means_or _ (is_there name t.format) (means t.format)
    (λ there counts. count_is layout rows with_rows placed text old new t counts answer there stored shown)
    (λ none. absurd (never_shows text [] old (schema_in t.format) stored.schema none new answer shown))

-- rows that are too many are no damage
pub too_many : {A : Type 0} (P : A → Type 0) (rows : ℕ) (result : Result A ReadFault) → MatchResult result P (λ refusal. (refusal ≡ Store Size) × (9223372036854775807 ≤ rows)) → IsUndamaged result
too_many P rows (Ok x) told = tt
too_many P rows (Err (Damaged table)) told = let never = told.0 in cc
too_many P rows (Err (Store cause)) told = tt
too_many P rows (Err Memory) told = tt

-- and are why they aren't counted
pub uncounted : {A : Type 0} (P : A → Type 0) (rows : ℕ) (text : List ℕ) (old new : State) (result : Result A ReadFault) → MatchResult result P (λ refusal. (refusal ≡ Store Size) × (9223372036854775807 ≤ rows)) → IfErr result (FailsToCount rows text old new)
uncounted P rows text old new (Ok x) told = tt
uncounted P rows text old new (Err (Damaged table)) told = let never = told.0 in cc
uncounted P rows text old new (Err (Store cause)) told = inl (let same = told.0 in cc, told.1)
uncounted P rows text old new (Err Memory) told = let never = told.0 in cc

-- the last of no row or one row is that row
pub last_is : {V : Type 0} (found last : Option V) (items before : List V) (n : ℕ) → n ≡ length items → items ≡ option_to_list found → items ≡ before ++ option_to_list last → (IsSome last ↔ (0 < n)) → last ≡ found
last_is None None items before n len is at some = refl
last_is None (Some w) items before n len is at some = absurd (omega (arith, some.0 refl, ap length is))
last_is (Some v) None items before n len is at some = let never : false ≡ true = some.1 (omega (arith, ap length is)) in cc
last_is (Some v) (Some w) items [] n len is at some = let same : v ∷ [] ≡ w ∷ [] = sym is ∙ at in cc
last_is (Some v) (Some w) items (x ∷ before) n len is at some = absurd (omega (arith, ap length is, ap length at, length-append before (w ∷ [])))
