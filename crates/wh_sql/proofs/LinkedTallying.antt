-- Facts are counted one after the other by all of their keys, as the database hands out their rows.
use Rattle.std.proofs.Common.{◌≡◌, ◌≢◌, ◌⊎◌, ℕ, List, [], ◌∷◌, ◌++◌, map, Result, Err, IfErr, inl, inr, refl, sym, ap, subst, ◌∙◌}
use Rattle.std.specs.Prelude.{IsTrue}
use Rattle.std.specs.FinMap.{values}
use Rattle.std.proofs.lemmas.List.{map-append}
use Rattle.std.proofs.lemmas.List.Sorted.{IsPermutation-sym}
use Rattle.sqlite_trees.specs.declared.store.Store.{Ghosts}
use Rattle.std.specs.List.Sorted.{IsPermutation}
use Rattle.sqlite_rules.specs.Lists.{Has as Among}
use Rattle.wh_history.specs.declared.facts.Fact.{Fact}
use Rattle.sqlite_rules.proofs.ListLemmas.{has_left, has_right}
use Rattle.sqlite_resolve.specs.declared.compiled.Compiled.{Compiled}
use Rattle.sqlite_schema.specs.declared.schema.Schema.{Schema}
use Rattle.sqlite.specs.Order.{Row}
use Rattle.sqlite.specs.Effect.{Database}
use Rattle.sqlite.specs.Held.{Held, state}
use Rattle.sqlite.specs.Given.{HasGiven, HasBegun, Returns}
use Rattle.sqlite.specs.Listing.{understood, IsSourceOf, reads_listing}
use Rattle.sqlite.specs.State.{State, HasCleanDisk, IsStatement, IsUnchanged, Survives, Shown, CommitsShowing}
use Rattle.sqlite.specs.Clock.{timed}
use Rattle.sqlite.proofs.Callers.{EndsIn, begins_shown, given_begin}
use Rattle.wh_policy.specs.declared.format.Format.{Format}
use Rattle.wh_policy.specs.declared.format.Format.TheVariants.{One, Two}
use Rattle.wh_policy.specs.Formats.{is_two}
use Rattle.wh_rows.specs.Schema.{schema_in}
use Rattle.wh_rows.specs.Tables.{Tables, Stores}
use Rattle.wh_rows.specs.Raw.{Stored, IsStored, HasDamage}
use Rattle.wh_rows.specs.Rows as row
use Rattle.wh_rows.specs.LinkedSales.{read_linked_sale, linked, linked_sales, linked_sales2, links_of}
use Rattle.wh_rows.specs.declared.linked_sale.LinkedSale.{LinkedSale}
use Rattle.wh_rows.proofs.LinkedSales.{shows_linked, shows_stored_linked, shows_damage, shows_typed_linked, shows_linked2, shows_linked2_in, shows_stored_linked2, shows_damage2, shows_typed_linked2}
use Rattle.wh_rows.proofs.Means.{means_or}
use Rattle.wh_rows.specs.Meaning.{IsUnknown, command_of}
use Rattle.wh_sql.specs.Reads.{IsOfDamage}
use Rattle.wh_rows.specs.Facts.{facts_table, fact_layout, facts_in}
use Rattle.wh_sql.specs.LinkedTally.{linked_by, CountsLinked, ShowsNoLinks, HasCountedLinks, HasCountedStoredLinks}
use Rattle.wh_sql.specs.declared.fault.ReadFault.{ReadFault}
use Rattle.wh_sql.specs.declared.fault.ReadFault.TheVariants.{Memory, Damaged}
use Rattle.wh_sql.proofs.Plain.{plain_returns_nothing}
use Rattle.wh_sql.proofs.Giving.{IsGiving, giving_begins}

-- since the first of the connections nothing was changed, the rows of these sales were given, and a tally came by them from one to the other
pub record IsTallying {C S : Type 0} (Counts : C → List LinkedSale → C → Type 0) (g : Ghosts S) (text : List ℕ) (start now : Held S) (first last : C) : Type 0 where
  pub sales : List LinkedSale
  pub giving : IsGiving g text [] start now (map read_linked_sale sales)
  pub counts : Counts first sales last

-- ---- lists

-- no two sales are shown alike
once_shown : (s t : LinkedSale) → read_linked_sale s ≡ read_linked_sale t → s ≡ t
once_shown s t same =
    let day : s.day ≡ t.day = cc in
    let store_key : s.store_key ≡ t.store_key = cc in
    let product_key : s.product_key ≡ t.product_key = cc in
    let customer_key : s.customer_key ≡ t.customer_key = cc in
    let store_durable : s.store_durable ≡ t.store_durable = cc in
    let product_durable : s.product_durable ≡ t.product_durable = cc in
    let customer_durable : s.customer_durable ≡ t.customer_durable = cc in
    let profile : s.profile ≡ t.profile = cc in
    let quantity : s.quantity ≡ t.quantity = cc in
    let amount : s.amount ≡ t.amount = cc in
    let cost : s.cost ≡ t.cost = cc in
    λ i. record { day = day i; store_key = store_key i; product_key = product_key i; customer_key = customer_key i; store_durable = store_durable i; product_durable = product_durable i; customer_durable = customer_durable i; profile = profile i; quantity = quantity i; amount = amount i; cost = cost i }

all_once_shown : (ss ts : List LinkedSale) → map read_linked_sale ss ≡ map read_linked_sale ts → ss ≡ ts
all_once_shown [] [] same = refl
all_once_shown [] (t ∷ ts) same = absurd (cc)
all_once_shown (s ∷ ss) [] same = absurd (cc)
all_once_shown (s ∷ ss) (t ∷ ts) same =
    let head : read_linked_sale s ≡ read_linked_sale t = cc in
    let tail : map read_linked_sale ss ≡ map read_linked_sale ts = cc in
    λ i. once_shown s t head i ∷ all_once_shown ss ts tail i

-- ---- what is known of the texts, by format

pub tally_returns_nothing : (of : Format) (schema : Schema) → ¬ Returns (understood schema (linked_by of))
tally_returns_nothing One = plain_returns_nothing (schema_in One) linked_sales (shows_linked One).plain
tally_returns_nothing Two = plain_returns_nothing (schema_in Two) linked_sales2 shows_linked2.plain

-- its command ends in any case; in the first format that of the second isn't understood
module _ {S : Type 0} (g : Ghosts S) (now : Held S) (format : Format) (is : (state g now).now.schema ≡ schema_in format) where
  ends_anyhow : (of : Format) (c : Compiled) (db : Database) (it : IsStatement (state g now) (linked_by of) [] c) → IsSourceOf (reads_listing (state g now).now.schema (linked_by of)) (state g now).now db → EndsIn c.command db (timed [] c.formats it.now)
  ends_anyhow One c db it source =
      let known : c.command ≡ _ = ap command_of (sym it.is ∙ ap (λ s. understood s linked_sales) is) ∙ (shows_linked format).command in
      subst (λ k. EndsIn k db (timed [] c.formats it.now)) (sym known) tt
  ends_anyhow Two c db it source =
      means_or _ (is_two format) (shows_linked2_in format)
      (λ there shows. let known : c.command ≡ _ = ap command_of (sym it.is ∙ ap (λ s. understood s linked_sales2) is) ∙ shows.command in subst (λ k. EndsIn k db (timed [] c.formats it.now)) (sym known) tt)
      (λ none. absurd (subst IsUnknown (sym (ap (λ s. understood s linked_sales2) is) ∙ it.is) none))

module _ (old new : State) (answer : List Row) where
  stored_shown : (of : Format) → Shown (linked_by of) [] old new answer → (stored : Stored) → IsStored stored old.now → IsPermutation (map links_of (stored.rows (facts_table of))) answer
  stored_shown One shown = shows_stored_linked old new answer shown
  stored_shown Two shown = shows_stored_linked2 old new answer shown

  typed_shown : (of : Format) → Shown (linked_by of) [] old new answer → (t : Tables) → Stores old.now t → (ordered : List Fact) × IsPermutation ordered (values (facts_in of t)) × (answer ≡ map read_linked_sale (map linked ordered))
  typed_shown One shown = shows_typed_linked old new answer shown
  typed_shown Two shown = shows_typed_linked2 old new answer shown

  damage_shown : (of : Format) → Shown (linked_by of) [] old new answer → (shows : Row) → Among answer shows → ((f : Fact) → IsTrue (row.has_good_columns f) → shows ≢ read_linked_sale (linked f)) → (stored : Stored) → IsStored stored old.now
      → HasDamage (fact_layout of) (stored.rows (facts_table of))
  damage_shown One shown = shows_damage old new answer shown
  damage_shown Two shown = shows_damage2 old new answer shown

-- ---- what the rows are that were given

module _ {S : Type 0} (g : Ghosts S) (of : Format) (now : Held S) (format : Format) (is : (state g now).now.schema ≡ schema_in format) where
  -- an answer begins so
  given_shown : (rows : List Row) → HasGiven g (linked_by of) [] now rows → IsTrue (state g now).is_open → (tail : List Row) × Shown (linked_by of) [] (state g now) (state g now) (rows ++ tail)
  given_shown rows given open_now =
      let same : IsUnchanged (state g now) (state g now) = (record { was_open = open_now; is_open = open_now; now_is = refl; committed_is = refl; mode = refl }, record { changes = refl; last_rowid = refl }, refl) in
      begins_shown (linked_by of) [] (state g now) (state g now) rows (given_begin g (linked_by of) [] now rows given) same (ends_anyhow g now format is of)

module _ {S : Type 0} (g : Ghosts S) (of : Format) (start : Held S) where
  -- ---- the query begins

  pub tally_begins : {C : Type 0} (Counts : C → List LinkedSale → C → Type 0) (now : Held S) (first : C) → (HasCleanDisk (state g now) → HasBegun g (linked_by of) [] start now)
      → Survives (state g start) (state g now) (CommitsShowing (linked_by of) [] (state g start)) → Counts first [] first → IsTallying Counts g (linked_by of) start now first first
  tally_begins Counts now first just survives none = record { sales = []; giving = giving_begins g (linked_by of) [] start (tally_returns_nothing of start.schema) now just survives; counts = none }

  -- ---- one more row is given

  -- it is read, and its sale counted
  pub tally_goes_on : {C : Type 0} {Counts : C → List LinkedSale → C → Type 0} (mid : Held S) {first last : C} (it : IsTallying Counts g (linked_by of) start mid first last) (now : Held S) (r : Row)
      → IsGiving g (linked_by of) [] start now (map read_linked_sale it.sales ++ r ∷ []) → (sale : LinkedSale) → r ≡ read_linked_sale sale → (next : C) → CountsLinked Counts last next sale → IsTallying Counts g (linked_by of) start now first next
  tally_goes_on mid {first = first} it now r giving sale is next counts = record {
    sales = it.sales ++ sale ∷ [];
    giving = subst (IsGiving g (linked_by of) [] start now) (ap (λ r. map read_linked_sale it.sales ++ r ∷ []) is ∙ sym (map-append read_linked_sale it.sales (sale ∷ []))) giving;
    counts = counts first it.sales it.counts;
  }

  -- or it shows no fact, and then one that is stored is damaged
  module _ (now : Held S) (sales : List LinkedSale) (r : Row) (giving : IsGiving g (linked_by of) [] start now (map read_linked_sale sales ++ r ∷ [])) where
    finds_no_fact : ShowsNoLinks r → HasCleanDisk (state g now) → (stored : Stored) → IsStored stored (state g start).now → HasDamage (fact_layout of) (stored.rows (facts_table of))
    finds_no_fact none clean stored is =
        let unchanged = giving.same clean in
        let here : IsStored stored (state g now).now = subst (IsStored stored) (sym unchanged.0.now_is) is in
        let rows = map read_linked_sale sales ++ r ∷ [] in
        let answer = given_shown g of now stored.format here.schema rows (giving.given clean) unchanged.0.is_open in
        damage_shown (state g now) (state g now) (rows ++ answer.0) of answer.1 r (has_left rows answer.0 r (has_right (map read_linked_sale sales) (r ∷ []) r (inl refl))) none stored here

    pub tally_damage : {A : Type 0} (result : Result A ReadFault) (fault : ReadFault) → result ≡ Err fault → (fault ≡ Memory) ⊎ ((fault ≡ Damaged (facts_table of)) × ShowsNoLinks r)
        → HasCleanDisk (state g now) → (stored : Stored) → IsStored stored (state g start).now → IfErr result (IsOfDamage (fact_layout of) (facts_table of) (stored.rows (facts_table of)))
    tally_damage result fault is (inl memory) clean stored here = rw (is, memory) tt
    tally_damage result fault is (inr damaged) clean stored here = rw (is, damaged.0) (refl, finds_no_fact damaged.1 clean stored here)

  -- ---- no row is left

  module _ {C : Type 0} {Counts : C → List LinkedSale → C → Type 0} (mid : Held S) {first last : C} (it : IsTallying Counts g (linked_by of) start mid first last) (now : Held S)
      (shown : HasCleanDisk (state g now) → Shown (linked_by of) [] (state g start) (state g now) (map read_linked_sale it.sales)) where
    pub tally_of_stored : HasCleanDisk (state g now) → (stored : Stored) → IsStored stored (state g start).now → HasCountedStoredLinks Counts first last (stored.rows (facts_table of))
    tally_of_stored clean stored is =
        (it.sales, IsPermutation-sym _ _ (stored_shown (state g start) (state g now) (map read_linked_sale it.sales) of (shown clean) stored is), it.counts)

    pub tally_of_tables : HasCleanDisk (state g now) → (t : Tables) → Stores (state g start).now t → HasCountedLinks Counts first last (values (facts_in of t))
    tally_of_tables clean t is =
        let found = typed_shown (state g start) (state g now) (map read_linked_sale it.sales) of (shown clean) t is in
        (found.0, found.1, subst (λ sales. Counts first sales last) (all_once_shown it.sales (map linked found.0) found.2) it.counts)
