-- The text that shows all facts by one of their keys, and what it shows of the facts that are stored.
use Rattle.std.proofs.Common.{◌≡◌, ◌≢◌, ℕ, ◌+◌, pos, negsuc, true, ◌&&◌, ◌==◌, List, [], ◌∷◌, map, length, codes, filter, Ok, Err, Result, IfOk, IfErr, refl, sym, ap, ap₂, subst, subst₂, ◌∙◌}
use Rattle.std.specs.Prelude.{IsTrue}
use Rattle.std.specs.FinMap.{entries, values}
use Rattle.std.specs.List.Sorted.{IsPermutation}
use Rattle.std.proofs.lemmas.Bool.{and_parts, eqb-true}
use Rattle.std.proofs.lemmas.List.Sorted.{IsPermutation-map, IsPermutation-refl, IsPermutation-sym, IsPermutation-trans}
use Rattle.sqlite_trees.proofs.ListLemmas.{pull_back}
use Rattle.sqlite_rules.specs.Lists.{Has}
use Rattle.sqlite_rules.proofs.ProbeLemmas.{has_mapped}
use Rattle.sqlite_tied.specs.Compute.{everything}
use Rattle.sqlite_value.specs.declared.value.Value.{Value}
use Rattle.sqlite_value.specs.declared.value.Value.TheVariants.{Null, Int, Real, Text, Blob}
use Rattle.sqlite.specs.Order.{Row, column}
use Rattle.sqlite.specs.Query.{Output, output}
use Rattle.sqlite.specs.Term.{Term, col}
use Rattle.sqlite.specs.Effect.{Database}
use Rattle.sqlite.specs.Listing.{listing_schema, understood}
use Rattle.sqlite.specs.State.{State, Shown}
use Rattle.sqlite.proofs.Callers.{reads_as}
use Rattle.wh_day.specs.Day.{is_day}
use Rattle.wh_day.specs.Reading.{Gives}
use Rattle.wh_day.specs.declared.error.ParseError.{ParseError}
use Rattle.wh_day.specs.declared.error.ParseError.TheVariants.{Memory, Fault}
use Rattle.wh_policy.specs.declared.attribute.Dim.TheVariants.{Product, Store, Customer}
use Rattle.wh_history.specs.declared.facts.Fact.{Fact}
use Rattle.wh_rows.specs.declared.columns.Damaged.{Damaged}
use Rattle.wh_rows.specs.declared.keyed_sale.FactColumn.{FactColumn}
use Rattle.wh_rows.specs.declared.keyed_sale.FactColumn.TheVariants.{Surrogate, Durable, Profile, Day}
use Rattle.wh_rows.specs.declared.keyed_sale.KeyedSale.{KeyedSale}
use Rattle.wh_rows.specs.declared.table.Table.TheVariants as tables
use Rattle.wh_policy.specs.declared.format.Format.{Format}
use Rattle.wh_policy.specs.declared.format.Format.TheVariants.{One, Two}
use Rattle.wh_policy.specs.Formats.{is_two}
use Rattle.wh_rows.specs.Meaning.{Means}
use Rattle.wh_rows.specs.Schema.{schema_in}
use Rattle.wh_rows.specs.Types.{is_key, is_line, is_number, is_measure, is_discount}
use Rattle.wh_rows.specs.Rows as row
use Rattle.wh_rows.specs.Rows.{has_good_columns, encode_fact, encode_fact2}
use Rattle.wh_rows.proofs.Formats.{valid_in}
use Rattle.wh_rows.proofs.Means.{never_shows}
use Rattle.wh_rows.specs.Columns.{day_of, measure_of}
use Rattle.wh_rows.specs.Holds.{values_of}
use Rattle.wh_rows.specs.Tables.{Tables, Stores}
use Rattle.wh_rows.specs.Statements.{reading}
use Rattle.wh_rows.specs.Raw.{Stored, IsStored, HasDamage, rows_in, rows_shown, stored_of}
use Rattle.wh_rows.specs.KeyedSales.{keyed, read_keyed_sale, shown_of, key_in, keyed_columns, keyed_of, keyed_sales, ShowsSales, keyed_sales2}
use Rattle.wh_rows.proofs.Answers.{is_read, map-map}
use Rattle.wh_rows.proofs.ColumnLemmas.{bind_ok, bind_is, when_ok, whole, day_so, day_is, measure_so, measure_is}
use Rattle.wh_rows.proofs.Edits.{filter_all, same_value}
use Rattle.wh_rows.proofs.Orders.{line_cmp_total}
use Rattle.wh_rows.proofs.Raw.{all_valid, has_again, holds_rows, no_damage}
use Rattle.wh_rows.proofs.RawTables.{stores_stored}

-- ---- what a row of the columns is read as

key_so : (v : Value) (n : ℕ) → key_in v ≡ Ok n → v ≡ Int (pos n)
unfolding key_in
key_so Null n h = absurd (cc)
key_so (Int (pos k)) n h = ap (λ k. Int (pos k)) (same_value h)
key_so (Int (negsuc k)) n h = absurd (cc)
key_so (Real x) n h = absurd (cc)
key_so (Text t) n h = absurd (cc)
key_so (Blob b) n h = absurd (cc)

keyed_sound : (row : Row) (s : KeyedSale) → keyed_of row ≡ Ok s → row ≡ read_keyed_sale s
unfolding keyed_of
keyed_sound row s h =
    let all = when_ok (length row == 5) (keyed_columns row) s h in
    let day = bind_ok (day_of (column row 0)) _ s all.1 in
    let key = bind_ok (key_in (column row 1)) _ s day.2 in
    let quantity = bind_ok (measure_of 9999 (column row 2)) _ s key.2 in
    let amount = bind_ok (measure_of 999999999 (column row 3)) _ s quantity.2 in
    let cost = bind_ok (measure_of 999999999 (column row 4)) _ s amount.2 in
    let found : KeyedSale = record { day = day.0; key = key.0; quantity = quantity.0; amount = amount.0; cost = cost.0 } in
    let columns : row ≡ read_keyed_sale found =
    whole Null row 5 (eqb-true (length row) 5 all.0)
    ∙ ap₂ ◌∷◌ (day_so _ _ day.1).0 (ap₂ ◌∷◌ (key_so _ _ key.1) (ap₂ ◌∷◌ (measure_so 9999 _ _ quantity.1).0 (ap₂ ◌∷◌ (measure_so 999999999 _ _ amount.1).0 (ap₂ ◌∷◌ (measure_so 999999999 _ _ cost.1).0 refl)))) in
    subst (λ s. row ≡ read_keyed_sale s) (same_value cost.2) columns

keyed_complete : (which : FactColumn) (f : Fact) → has_good_columns f ≡ true → keyed_of (read_keyed_sale (keyed which f)) ≡ Ok (keyed which f)
unfolding keyed_of key_in
keyed_complete which f valid =
    let cost = and_parts _ (is_measure 999999999 f.cost) valid in
    let amount = and_parts _ (is_measure 999999999 f.amount) cost.0 in
    let quantity = and_parts _ (is_measure 9999 f.quantity) amount.0 in
    let profile = and_parts _ (is_number f.keys.profile) quantity.0 in
    let customer_durable = and_parts _ (is_number f.customer_durable) profile.0 in
    let product_durable = and_parts _ (is_number f.product_durable) customer_durable.0 in
    let store_durable = and_parts _ (is_number f.store_durable) product_durable.0 in
    let customer_key = and_parts _ (is_number f.keys.customer_key) store_durable.0 in
    let product_key = and_parts _ (is_number f.keys.product_key) customer_key.0 in
    let store_key = and_parts _ (is_number f.keys.store_key) product_key.0 in
    let day = and_parts (is_key 20 f.ticket && is_line f.line) (is_day f.day) store_key.0 in
    bind_is _ f.day _ (keyed which f) (day_is f.day day.1)
    (bind_is _ f.quantity _ (keyed which f) (measure_is 9999 f.quantity quantity.1)
    (bind_is _ f.amount _ (keyed which f) (measure_is 999999999 f.amount amount.1)
    (bind_is _ f.cost _ (keyed which f) (measure_is 999999999 f.cost cost.1) refl)))

-- what a function that reads gives, by what it reads
pub keyed_ok : (row : Row) (result : Result KeyedSale (ParseError Damaged)) → Gives (λ s. s) result (keyed_of row) → IfOk result (λ s. row ≡ read_keyed_sale s)
keyed_ok row (Ok s) gives = keyed_sound row s gives
keyed_ok row (Err e) gives = tt

pub keyed_err : (row : Row) (result : Result KeyedSale (ParseError Damaged)) → Gives (λ s. s) result (keyed_of row) → IfErr result (λ e. e ≢ Memory → (which : FactColumn) (f : Fact) → IsTrue (has_good_columns f) → row ≢ read_keyed_sale (keyed which f))
keyed_err row (Ok s) gives = tt
keyed_err row (Err Memory) gives = λ fault. absurd (fault refl)
keyed_err row (Err (Fault d)) gives = λ fault which f valid is. let one = sym gives ∙ ap keyed_of is ∙ keyed_complete which f valid in absurd (cc)

-- ---- what the text means

abbrev showing : ℕ → List Term
showing place = col 1 3 ∷ col 1 (place + 1) ∷ col 1 11 ∷ col 1 12 ∷ col 1 13 ∷ []

abbrev naming : List ℕ → List (List ℕ)
naming key = codes "day" ∷ key ∷ codes "quantity" ∷ codes "amount" ∷ codes "cost" ∷ []

pub shows_sales : (format : Format) (which : FactColumn) → ShowsSales (schema_in format) row.fact.table which (keyed_sales which)
unfolding understood everything
shows_sales format (Surrogate Product) = record { project = showing 4; names = naming (codes "product_key"); command = refl; plain = (refl, refl); unlisted = refl; shows = λ r. refl }
shows_sales format (Surrogate Store) = record { project = showing 3; names = naming (codes "store_key"); command = refl; plain = (refl, refl); unlisted = refl; shows = λ r. refl }
shows_sales format (Surrogate Customer) = record { project = showing 5; names = naming (codes "customer_key"); command = refl; plain = (refl, refl); unlisted = refl; shows = λ r. refl }
shows_sales format (Durable Product) = record { project = showing 7; names = naming (codes "product_durable"); command = refl; plain = (refl, refl); unlisted = refl; shows = λ r. refl }
shows_sales format (Durable Store) = record { project = showing 6; names = naming (codes "store_durable"); command = refl; plain = (refl, refl); unlisted = refl; shows = λ r. refl }
shows_sales format (Durable Customer) = record { project = showing 8; names = naming (codes "customer_durable"); command = refl; plain = (refl, refl); unlisted = refl; shows = λ r. refl }
shows_sales format Profile = record { project = showing 9; names = naming (codes "profile"); command = refl; plain = (refl, refl); unlisted = refl; shows = λ r. refl }
shows_sales format Day = record { project = showing 2; names = naming (codes "day"); command = refl; plain = (refl, refl); unlisted = refl; shows = λ r. refl }

pub shows_sales2 : (which : FactColumn) → ShowsSales (schema_in Two) row.fact2.table which (keyed_sales2 which)
unfolding understood everything
shows_sales2 (Surrogate Product) = record { project = showing 4; names = naming (codes "product_key"); command = refl; plain = (refl, refl); unlisted = refl; shows = λ r. refl }
shows_sales2 (Surrogate Store) = record { project = showing 3; names = naming (codes "store_key"); command = refl; plain = (refl, refl); unlisted = refl; shows = λ r. refl }
shows_sales2 (Surrogate Customer) = record { project = showing 5; names = naming (codes "customer_key"); command = refl; plain = (refl, refl); unlisted = refl; shows = λ r. refl }
shows_sales2 (Durable Product) = record { project = showing 7; names = naming (codes "product_durable"); command = refl; plain = (refl, refl); unlisted = refl; shows = λ r. refl }
shows_sales2 (Durable Store) = record { project = showing 6; names = naming (codes "store_durable"); command = refl; plain = (refl, refl); unlisted = refl; shows = λ r. refl }
shows_sales2 (Durable Customer) = record { project = showing 8; names = naming (codes "customer_durable"); command = refl; plain = (refl, refl); unlisted = refl; shows = λ r. refl }
shows_sales2 Profile = record { project = showing 9; names = naming (codes "profile"); command = refl; plain = (refl, refl); unlisted = refl; shows = λ r. refl }
shows_sales2 Day = record { project = showing 2; names = naming (codes "day"); command = refl; plain = (refl, refl); unlisted = refl; shows = λ r. refl }

pub shows_sales2_in : (format : Format) (which : FactColumn) → Means (is_two format) (ShowsSales (schema_in format) row.fact2.table which (keyed_sales2 which)) (understood (schema_in format) (keyed_sales2 which))
unfolding understood everything listing_schema
shows_sales2_in One (Surrogate Product) = tt
shows_sales2_in One (Surrogate Store) = tt
shows_sales2_in One (Surrogate Customer) = tt
shows_sales2_in One (Durable Product) = tt
shows_sales2_in One (Durable Store) = tt
shows_sales2_in One (Durable Customer) = tt
shows_sales2_in One Profile = tt
shows_sales2_in One Day = tt
shows_sales2_in Two which = shows_sales2 which

-- ---- what it shows of the facts that are stored

-- a fact's row shows the fact's sale
pub shown_fact : (which : FactColumn) (f : Fact) → shown_of which (encode_fact f) ≡ read_keyed_sale (keyed which f)
shown_fact (Surrogate Product) f = refl
shown_fact (Surrogate Store) f = refl
shown_fact (Surrogate Customer) f = refl
shown_fact (Durable Product) f = refl
shown_fact (Durable Store) f = refl
shown_fact (Durable Customer) f = refl
shown_fact Profile f = refl
shown_fact Day f = refl

module _ (which : FactColumn) (old new : State) (answer : List Row) (shown : Shown (keyed_sales which) [] old new answer) where
  -- the answer is what each row of the table shows, in some order
  shows_each : (format : Format) → old.now.schema ≡ schema_in format → IsPermutation (map (shown_of which) (rows_in row.fact.table old.now.trees)) answer
  shows_each format is =
      let it = shows_sales format which in
      let read = reads_as (keyed_sales which) [] old new (schema_in format) is _ it.command it.plain it.unlisted answer shown in
      let found = is_read old.now.trees [] row.fact.table.tree [] it.project [] answer read.answer in
      let db = old.now.trees row.fact.table.tree in
      let first : Output → Row = λ o. o.1 in
      let output_of : Row → Output = λ r. output (reading row.fact.table.tree [] it.project []) ([] ∷ r ∷ []) in
      let each : map first (map output_of (filter (λ _. true) db)) ≡ map (shown_of which) (rows_in row.fact.table old.now.trees) =
      map-map first output_of _ ∙ ap (map (λ r. first (output_of r))) (filter_all db) ∙ ap (λ f. map f db) (λ i r. it.shows r i) ∙ sym (map-map (shown_of which) (values_of row.fact.table) db) in
      subst₂ IsPermutation each (sym found.shown) (IsPermutation-map first _ _ found.same)

  -- of any rows
  pub shows_stored_sales : (stored : Stored) → IsStored stored old.now → IsPermutation (map (shown_of which) (stored.rows tables.Fact)) answer
  shows_stored_sales stored is = IsPermutation-trans _ _ _ (IsPermutation-map (shown_of which) _ _ (IsPermutation-sym _ _ (is.rows tables.Fact))) (shows_each stored.format is.schema)

  -- a row of the answer that shows no fact is that of a damaged one
  pub shows_damage : (shows : Row) → Has answer shows → ((f : Fact) → IsTrue (has_good_columns f) → shows ≢ read_keyed_sale (keyed which f)) → (stored : Stored) → IsStored stored old.now → HasDamage row.fact (stored.rows tables.Fact)
  shows_damage shows here none stored is =
      let found = has_mapped (shown_of which) (stored.rows tables.Fact) shows (has_again _ answer shows (shows_stored_sales stored is) here) in
      (found.0, found.1, λ f valid same. none f (and_parts (has_good_columns f) (f.discount == 0) valid).0 (found.2 ∙ ap (shown_of which) same ∙ shown_fact which f))

  -- of tables, the facts' sales
  pub shows_typed_sales : (t : Tables) → Stores old.now t → (ordered : List Fact) × IsPermutation ordered (values t.fact) × (answer ≡ map read_keyed_sale (map (keyed which) ordered))
  shows_typed_sales t is =
      let facts = values t.fact in
      let each : map (shown_of which) (map encode_fact facts) ≡ map (λ f. read_keyed_sale (keyed which f)) facts = map-map (shown_of which) encode_fact facts ∙ ap (λ f. map f facts) (λ i f. shown_fact which f i) in
      let back = pull_back (λ f. read_keyed_sale (keyed which f)) _ answer (shows_stored_sales (stored_of t) (stores_stored old.now t is)) facts each in
      (back.0, IsPermutation-sym _ _ back.1, back.2 ∙ sym (map-map read_keyed_sale (keyed which) back.0))

-- none of the facts of tables is damaged
pub no_fact_damaged : (db : Database) (t : Tables) → Stores db t → ¬ HasDamage row.fact ((stored_of t).rows tables.Fact)
no_fact_damaged db t is = no_damage row.fact ((stored_of t).rows tables.Fact) (values t.fact) (holds_rows row.fact line_cmp_total db.trees t.fact is.fact).valid (IsPermutation-refl _)

-- ---- the same of the second format

pub shown_fact2 : (which : FactColumn) (r : Fact) → shown_of which (encode_fact2 r) ≡ read_keyed_sale (keyed which r)
shown_fact2 (Surrogate Product) r = refl
shown_fact2 (Surrogate Store) r = refl
shown_fact2 (Surrogate Customer) r = refl
shown_fact2 (Durable Product) r = refl
shown_fact2 (Durable Store) r = refl
shown_fact2 (Durable Customer) r = refl
shown_fact2 Profile r = refl
shown_fact2 Day r = refl

module _ (which : FactColumn) (old new : State) (answer : List Row) (shown : Shown (keyed_sales2 which) [] old new answer) where
  shows_each2 : (format : Format) → old.now.schema ≡ schema_in format → IsPermutation (map (shown_of which) (rows_shown format tables.Fact2 old.now.trees)) answer
  shows_each2 One is = absurd (never_shows (keyed_sales2 which) [] old (schema_in One) is (shows_sales2_in One which) new answer shown)
  shows_each2 Two is =
      let it = shows_sales2 which in
      let read = reads_as (keyed_sales2 which) [] old new (schema_in Two) is _ it.command it.plain it.unlisted answer shown in
      let found = is_read old.now.trees [] row.fact2.table.tree [] it.project [] answer read.answer in
      let db = old.now.trees row.fact2.table.tree in
      let first : Output → Row = λ o. o.1 in
      let output_of : Row → Output = λ r. output (reading row.fact2.table.tree [] it.project []) ([] ∷ r ∷ []) in
      let each : map first (map output_of (filter (λ _. true) db)) ≡ map (shown_of which) (rows_in row.fact2.table old.now.trees) =
      map-map first output_of _ ∙ ap (map (λ r. first (output_of r))) (filter_all db) ∙ ap (λ f. map f db) (λ i r. it.shows r i) ∙ sym (map-map (shown_of which) (values_of row.fact2.table) db) in
      subst₂ IsPermutation each (sym found.shown) (IsPermutation-map first _ _ found.same)

  -- of any rows
  pub shows_stored_sales2 : (stored : Stored) → IsStored stored old.now → IsPermutation (map (shown_of which) (stored.rows tables.Fact2)) answer
  shows_stored_sales2 stored is = IsPermutation-trans _ _ _ (IsPermutation-map (shown_of which) _ _ (IsPermutation-sym _ _ (is.rows tables.Fact2))) (shows_each2 stored.format is.schema)

  -- a row of the answer that shows no fact is that of a damaged one
  pub shows_damage2 : (shows : Row) → Has answer shows → ((f : Fact) → IsTrue (has_good_columns f) → shows ≢ read_keyed_sale (keyed which f)) → (stored : Stored) → IsStored stored old.now → HasDamage row.fact2 (stored.rows tables.Fact2)
  shows_damage2 shows here none stored is =
      let found = has_mapped (shown_of which) (stored.rows tables.Fact2) shows (has_again _ answer shows (shows_stored_sales2 stored is) here) in
      (found.0, found.1, λ r valid same. none r (and_parts (has_good_columns r) (is_discount r.discount) valid).0 (found.2 ∙ ap (shown_of which) same ∙ shown_fact2 which r))

  -- of tables, the facts' sales
  pub shows_typed_sales2 : (t : Tables) → Stores old.now t → (ordered : List Fact) × IsPermutation ordered (values t.fact2) × (answer ≡ map read_keyed_sale (map (keyed which) ordered))
  shows_typed_sales2 t is =
      let facts = values t.fact2 in
      let each : map (shown_of which) (map encode_fact2 facts) ≡ map (λ f. read_keyed_sale (keyed which f)) facts = map-map (shown_of which) encode_fact2 facts ∙ ap (λ f. map f facts) (λ i f. shown_fact2 which f i) in
      let back = pull_back (λ f. read_keyed_sale (keyed which f)) _ answer (shows_stored_sales2 (stored_of t) (stores_stored old.now t is)) facts each in
      (back.0, IsPermutation-sym _ _ back.1, back.2 ∙ sym (map-map read_keyed_sale (keyed which) back.0))

pub no_fact2_damaged : (db : Database) (t : Tables) → Stores db t → ¬ HasDamage row.fact2 ((stored_of t).rows tables.Fact2)
no_fact2_damaged db t is = no_damage row.fact2 ((stored_of t).rows tables.Fact2) (values t.fact2) (all_valid row.fact2.is_valid (entries t.fact2) (valid_in t.format row.fact2 db.trees t.fact2 is.fact2)) (IsPermutation-refl _)
