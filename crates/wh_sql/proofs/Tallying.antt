-- Facts are counted one after the other, as the database hands out their rows.
use Rattle.std.proofs.Common.{◌≡◌, ◌≢◌, ◌⊎◌, ℕ, List, [], ◌∷◌, ◌++◌, map, Result, Ok, Err, IfErr, inl, inr, refl, sym, ap, subst, ◌∙◌}
use Rattle.std.specs.Prelude.{IsTrue}
use Rattle.std.specs.FinMap.{values}
use Rattle.std.proofs.lemmas.List.{map-append}
use Rattle.std.proofs.lemmas.List.Sorted.{IsPermutation-sym}
use Rattle.sqlite_trees.specs.declared.store.Store.{Ghosts}
use Rattle.std.specs.List.Sorted.{IsPermutation}
use Rattle.sqlite_rules.specs.Lists.{Has as Among}
use Rattle.wh_history.specs.declared.facts.Fact.{Fact}
use Rattle.sqlite_rules.proofs.ListLemmas.{has_left, has_right}
use Rattle.sqlite_resolve.specs.declared.compiled.Compiled.{Compiled}
use Rattle.sqlite_schema.specs.declared.schema.Schema.{Schema}
use Rattle.sqlite.specs.Order.{Row}
use Rattle.sqlite.specs.Effect.{Database}
use Rattle.sqlite.specs.Held.{Held, state}
use Rattle.sqlite.specs.Given.{HasGiven, HasBegun, Returns}
use Rattle.sqlite.specs.Listing.{understood, IsSourceOf, reads_listing}
use Rattle.sqlite.specs.State.{State, HasCleanDisk, IsStatement, IsUnchanged, Survives, Shown, CommitsShowing}
use Rattle.sqlite.specs.Clock.{timed}
use Rattle.sqlite.proofs.Callers.{EndsIn, begins_shown, given_begin}
use Rattle.wh_policy.specs.declared.format.Format.{Format}
use Rattle.wh_policy.specs.declared.format.Format.TheVariants.{One, Two}
use Rattle.wh_policy.specs.Formats.{is_two}
use Rattle.wh_rows.specs.Schema.{schema_in}
use Rattle.wh_rows.specs.Tables.{Tables, Stores}
use Rattle.wh_rows.specs.Raw.{Stored, IsStored, HasDamage, HasDamageIn, stored_of}
use Rattle.wh_rows.specs.Rows as row
use Rattle.wh_rows.specs.KeyedSales.{read_keyed_sale, keyed, keyed_sales, keyed_sales2, shown_of}
use Rattle.wh_rows.specs.declared.keyed_sale.FactColumn.{FactColumn}
use Rattle.wh_rows.specs.declared.keyed_sale.KeyedSale.{KeyedSale}
use Rattle.wh_rows.proofs.KeyedSales.{shows_sales, shows_stored_sales, shows_damage, shows_typed_sales, no_fact_damaged, shows_sales2, shows_sales2_in, shows_stored_sales2, shows_damage2, shows_typed_sales2, no_fact2_damaged}
use Rattle.wh_rows.proofs.Means.{means_or}
use Rattle.wh_rows.proofs.RawTables.{stores_stored}
use Rattle.wh_rows.specs.Meaning.{IsUnknown, command_of}
use Rattle.wh_sql.specs.Reads.{ReadsOnly, NamesDamage, IsServed, IsUndamaged, IsOfDamage}
use Rattle.wh_rows.specs.Facts.{facts_table, fact_layout, facts_in}
use Rattle.wh_sql.specs.Facts.{facts_by}
use Rattle.wh_sql.specs.Tally.{CountsOne, ShowsNoFact, HasCounted, HasCountedStored}
use Rattle.wh_sql.specs.declared.fault.ReadFault.{ReadFault}
use Rattle.wh_sql.specs.declared.fault.ReadFault.TheVariants.{Memory, Damaged, Store}
use Rattle.wh_sql.proofs.Plain.{plain_returns_nothing}
use Rattle.wh_sql.proofs.Giving.{IsGiving, giving_begins}
use Rattle.wh_sql.proofs.Reading.{reads_unchanged}

-- since the first of the connections nothing was changed, the rows of these sales were given, and a tally came by them from one to the other
pub record IsTallying {C S : Type 0} (Counts : C → List KeyedSale → C → Type 0) (g : Ghosts S) (text : List ℕ) (start now : Held S) (first last : C) : Type 0 where
  pub sales : List KeyedSale
  pub giving : IsGiving g text [] start now (map read_keyed_sale sales)
  pub counts : Counts first sales last

-- ---- lists

-- no two sales are shown alike
once_shown : (s t : KeyedSale) → read_keyed_sale s ≡ read_keyed_sale t → s ≡ t
once_shown s t same =
    let day : s.day ≡ t.day = cc in
    let key : s.key ≡ t.key = cc in
    let quantity : s.quantity ≡ t.quantity = cc in
    let amount : s.amount ≡ t.amount = cc in
    let cost : s.cost ≡ t.cost = cc in
    λ i. record { day = day i; key = key i; quantity = quantity i; amount = amount i; cost = cost i }

all_once_shown : (ss ts : List KeyedSale) → map read_keyed_sale ss ≡ map read_keyed_sale ts → ss ≡ ts
all_once_shown [] [] same = refl
all_once_shown [] (t ∷ ts) same = absurd (cc)
all_once_shown (s ∷ ss) [] same = absurd (cc)
all_once_shown (s ∷ ss) (t ∷ ts) same =
    let head : read_keyed_sale s ≡ read_keyed_sale t = cc in
    let tail : map read_keyed_sale ss ≡ map read_keyed_sale ts = cc in
    λ i. once_shown s t head i ∷ all_once_shown ss ts tail i

-- ---- what is known of the texts, by format

pub tally_returns_nothing : (of : Format) (which : FactColumn) (schema : Schema) → ¬ Returns (understood schema (facts_by of which))
tally_returns_nothing One which = plain_returns_nothing (schema_in One) (keyed_sales which) (shows_sales One which).plain
tally_returns_nothing Two which = plain_returns_nothing (schema_in Two) (keyed_sales2 which) (shows_sales2 which).plain

-- its command ends in any case; in the first format that of the second isn't understood
module _ {S : Type 0} (g : Ghosts S) (which : FactColumn) (now : Held S) (format : Format) (is : (state g now).now.schema ≡ schema_in format) where
  ends_anyhow : (of : Format) (c : Compiled) (db : Database) (it : IsStatement (state g now) (facts_by of which) [] c) → IsSourceOf (reads_listing (state g now).now.schema (facts_by of which)) (state g now).now db → EndsIn c.command db (timed [] c.formats it.now)
  ends_anyhow One c db it source =
      let known : c.command ≡ _ = ap command_of (sym it.is ∙ ap (λ s. understood s (keyed_sales which)) is) ∙ (shows_sales format which).command in
      subst (λ k. EndsIn k db (timed [] c.formats it.now)) (sym known) tt
  ends_anyhow Two c db it source =
      means_or _ (is_two format) (shows_sales2_in format which)
      (λ there shows. let known : c.command ≡ _ = ap command_of (sym it.is ∙ ap (λ s. understood s (keyed_sales2 which)) is) ∙ shows.command in subst (λ k. EndsIn k db (timed [] c.formats it.now)) (sym known) tt)
      (λ none. absurd (subst IsUnknown (sym (ap (λ s. understood s (keyed_sales2 which)) is) ∙ it.is) none))

module _ (which : FactColumn) (old new : State) (answer : List Row) where
  stored_shown : (of : Format) → Shown (facts_by of which) [] old new answer → (stored : Stored) → IsStored stored old.now → IsPermutation (map (shown_of which) (stored.rows (facts_table of))) answer
  stored_shown One shown = shows_stored_sales which old new answer shown
  stored_shown Two shown = shows_stored_sales2 which old new answer shown

  typed_shown : (of : Format) → Shown (facts_by of which) [] old new answer → (t : Tables) → Stores old.now t → (ordered : List Fact) × IsPermutation ordered (values (facts_in of t)) × (answer ≡ map read_keyed_sale (map (keyed which) ordered))
  typed_shown One shown = shows_typed_sales which old new answer shown
  typed_shown Two shown = shows_typed_sales2 which old new answer shown

  damage_shown : (of : Format) → Shown (facts_by of which) [] old new answer → (shows : Row) → Among answer shows → ((f : Fact) → IsTrue (row.has_good_columns f) → shows ≢ read_keyed_sale (keyed which f)) → (stored : Stored) → IsStored stored old.now
      → HasDamage (fact_layout of) (stored.rows (facts_table of))
  damage_shown One shown = shows_damage which old new answer shown
  damage_shown Two shown = shows_damage2 which old new answer shown

none_damaged : (of : Format) (db : Database) (t : Tables) → Stores db t → ¬ HasDamage (fact_layout of) ((stored_of t).rows (facts_table of))
none_damaged One = no_fact_damaged
none_damaged Two = no_fact2_damaged

damage_in : (of : Format) (stored : Stored) → HasDamage (fact_layout of) (stored.rows (facts_table of)) → HasDamageIn stored (facts_table of)
damage_in One stored damage = damage
damage_in Two stored damage = damage

-- ---- what the rows are that were given

module _ {S : Type 0} (g : Ghosts S) (of : Format) (which : FactColumn) (now : Held S) (format : Format) (is : (state g now).now.schema ≡ schema_in format) where
  -- an answer begins so
  given_shown : (rows : List Row) → HasGiven g (facts_by of which) [] now rows → IsTrue (state g now).is_open → (tail : List Row) × Shown (facts_by of which) [] (state g now) (state g now) (rows ++ tail)
  given_shown rows given open_now =
      let same : IsUnchanged (state g now) (state g now) = (record { was_open = open_now; is_open = open_now; now_is = refl; committed_is = refl; mode = refl }, record { changes = refl; last_rowid = refl }, refl) in
      begins_shown (facts_by of which) [] (state g now) (state g now) rows (given_begin g (facts_by of which) [] now rows given) same (ends_anyhow g which now format is of)

module _ {S : Type 0} (g : Ghosts S) (of : Format) (which : FactColumn) (start : Held S) where
  -- ---- the query begins

  pub tally_begins : {C : Type 0} (Counts : C → List KeyedSale → C → Type 0) (now : Held S) (first : C) → (HasCleanDisk (state g now) → HasBegun g (facts_by of which) [] start now)
      → Survives (state g start) (state g now) (CommitsShowing (facts_by of which) [] (state g start)) → Counts first [] first → IsTallying Counts g (facts_by of which) start now first first
  tally_begins Counts now first just survives none = record { sales = []; giving = giving_begins g (facts_by of which) [] start (tally_returns_nothing of which start.schema) now just survives; counts = none }

  -- ---- one more row is given

  -- it is read, and its sale counted
  pub tally_goes_on : {C : Type 0} {Counts : C → List KeyedSale → C → Type 0} (mid : Held S) {first last : C} (it : IsTallying Counts g (facts_by of which) start mid first last) (now : Held S) (r : Row)
      → IsGiving g (facts_by of which) [] start now (map read_keyed_sale it.sales ++ r ∷ []) → (sale : KeyedSale) → r ≡ read_keyed_sale sale → (next : C) → CountsOne Counts last next sale → IsTallying Counts g (facts_by of which) start now first next
  tally_goes_on mid {first = first} it now r giving sale is next counts = record {
    sales = it.sales ++ sale ∷ [];
    giving = subst (IsGiving g (facts_by of which) [] start now) (ap (λ r. map read_keyed_sale it.sales ++ r ∷ []) is ∙ sym (map-append read_keyed_sale it.sales (sale ∷ []))) giving;
    counts = counts first it.sales it.counts;
  }

  -- or it shows no fact, and then one that is stored is damaged
  module _ (now : Held S) (sales : List KeyedSale) (r : Row) (giving : IsGiving g (facts_by of which) [] start now (map read_keyed_sale sales ++ r ∷ [])) where
    finds_no_fact : ShowsNoFact r → HasCleanDisk (state g now) → (stored : Stored) → IsStored stored (state g start).now → HasDamage (fact_layout of) (stored.rows (facts_table of))
    finds_no_fact none clean stored is =
        let unchanged = giving.same clean in
        let here : IsStored stored (state g now).now = subst (IsStored stored) (sym unchanged.0.now_is) is in
        let rows = map read_keyed_sale sales ++ r ∷ [] in
        let answer = given_shown g of which now stored.format here.schema rows (giving.given clean) unchanged.0.is_open in
        damage_shown which (state g now) (state g now) (rows ++ answer.0) of answer.1 r (has_left rows answer.0 r (has_right (map read_keyed_sale sales) (r ∷ []) r (inl refl))) (none which) stored here

    pub tally_damage : {A : Type 0} (result : Result A ReadFault) (fault : ReadFault) → result ≡ Err fault → (fault ≡ Memory) ⊎ ((fault ≡ Damaged (facts_table of)) × ShowsNoFact r)
        → HasCleanDisk (state g now) → (stored : Stored) → IsStored stored (state g start).now → IfErr result (IsOfDamage (fact_layout of) (facts_table of) (stored.rows (facts_table of)))
    tally_damage result fault is (inl memory) clean stored here = rw (is, memory) tt
    tally_damage result fault is (inr damaged) clean stored here = rw (is, damaged.0) (refl, finds_no_fact damaged.1 clean stored here)

  -- ---- no row is left

  module _ {C : Type 0} {Counts : C → List KeyedSale → C → Type 0} (mid : Held S) {first last : C} (it : IsTallying Counts g (facts_by of which) start mid first last) (now : Held S)
      (shown : HasCleanDisk (state g now) → Shown (facts_by of which) [] (state g start) (state g now) (map read_keyed_sale it.sales)) where
    pub tally_of_stored : HasCleanDisk (state g now) → (stored : Stored) → IsStored stored (state g start).now → HasCountedStored Counts which first last (stored.rows (facts_table of))
    tally_of_stored clean stored is =
        (it.sales, IsPermutation-sym _ _ (stored_shown which (state g start) (state g now) (map read_keyed_sale it.sales) of (shown clean) stored is), it.counts)

    pub tally_of_tables : HasCleanDisk (state g now) → (t : Tables) → Stores (state g start).now t → HasCounted Counts which first last (values (facts_in of t))
    tally_of_tables clean t is =
        let found = typed_shown which (state g start) (state g now) (map read_keyed_sale it.sales) of (shown clean) t is in
        (found.0, found.1, subst (λ sales. Counts first sales last) (all_once_shown it.sales (map (keyed which) found.0) found.2) it.counts)

-- ---- what the call says

module _ {A : Type 0} (of : Format) (db : Database) (result : Result A ReadFault) (damage : (stored : Stored) → IsStored stored db → IfErr result (IsOfDamage (fact_layout of) (facts_table of) (stored.rows (facts_table of)))) where
  -- no fact of tables is damaged
  pub tally_undamaged : (t : Tables) → Stores db t → IsUndamaged result
  tally_undamaged t is = go result (damage (stored_of t) (stores_stored db t is))
    where
      go : (result : Result A ReadFault) → IfErr result (IsOfDamage (fact_layout of) (facts_table of) ((stored_of t).rows (facts_table of))) → IsUndamaged result
      go (Ok x) told = tt
      go (Err Memory) told = tt
      go (Err (Damaged met)) told = absurd (none_damaged of db t is told.1)
      go (Err (Store why)) told = tt

  -- the table that is named is that of the facts
  tally_names : (stored : Stored) → IsStored stored db → IfErr result (NamesDamage stored)
  tally_names stored is = go result (damage stored is)
    where
      go : (result : Result A ReadFault) → IfErr result (IsOfDamage (fact_layout of) (facts_table of) (stored.rows (facts_table of))) → IfErr result (NamesDamage stored)
      go (Ok x) told = tt
      go (Err Memory) told = tt
      go (Err (Damaged met)) told = subst (HasDamageIn stored) (sym told.0) (damage_in of stored told.1)
      go (Err (Store why)) told = tt

pub tally_reads : {A : Type 0} (of : Format) (old new : State) → Survives old new (λ _. ⊥) → (result : Result A ReadFault) → (HasCleanDisk new → IsServed result → IsUnchanged old new)
    → (HasCleanDisk new → (stored : Stored) → IsStored stored old.now → IfErr result (IsOfDamage (fact_layout of) (facts_table of) (stored.rows (facts_table of)))) → ReadsOnly old new result
tally_reads of old new survives result same damage =
    reads_unchanged old new survives result same (λ clean t at. tally_undamaged of old.now result (damage clean) t at.now.tables) (λ clean stored at. tally_names of old.now result (damage clean) stored at.now)
