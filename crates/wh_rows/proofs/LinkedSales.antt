-- The text that shows all facts by all of their keys, and what it shows of the facts that are stored.
use Rattle.std.proofs.Common.{◌≡◌, ◌≢◌, ℕ, true, ◌&&◌, ◌==◌, List, [], ◌∷◌, map, length, codes, filter, Ok, Err, Result, IfOk, IfErr, refl, sym, ap, ap₂, subst, subst₂, ◌∙◌}
use Rattle.std.specs.Prelude.{IsTrue}
use Rattle.std.specs.FinMap.{values}
use Rattle.std.specs.List.Sorted.{IsPermutation}
use Rattle.std.proofs.lemmas.Bool.{and_parts, eqb-true}
use Rattle.std.proofs.lemmas.List.Sorted.{IsPermutation-map, IsPermutation-sym, IsPermutation-trans}
use Rattle.sqlite_trees.proofs.ListLemmas.{pull_back}
use Rattle.sqlite_rules.specs.Lists.{Has}
use Rattle.sqlite_rules.proofs.ProbeLemmas.{has_mapped}
use Rattle.sqlite_tied.specs.Compute.{everything}
use Rattle.sqlite_value.specs.declared.value.Value.TheVariants.{Null}
use Rattle.sqlite.specs.Order.{Row, column}
use Rattle.sqlite.specs.Query.{Output, output}
use Rattle.sqlite.specs.Term.{Term, col}
use Rattle.sqlite.specs.Listing.{listing_schema, understood}
use Rattle.sqlite.specs.State.{State, Shown}
use Rattle.sqlite.proofs.Callers.{reads_as}
use Rattle.wh_day.specs.Day.{is_day}
use Rattle.wh_day.specs.Reading.{Gives}
use Rattle.wh_day.specs.declared.error.ParseError.{ParseError}
use Rattle.wh_day.specs.declared.error.ParseError.TheVariants.{Memory, Fault}
use Rattle.wh_history.specs.declared.facts.Fact.{Fact}
use Rattle.wh_rows.specs.declared.columns.Damaged.{Damaged}
use Rattle.wh_rows.specs.declared.linked_sale.LinkedSale.{LinkedSale}
use Rattle.wh_rows.specs.declared.table.Table.TheVariants as tables
use Rattle.wh_policy.specs.declared.format.Format.{Format}
use Rattle.wh_policy.specs.declared.format.Format.TheVariants.{One, Two}
use Rattle.wh_policy.specs.Formats.{is_two}
use Rattle.wh_rows.specs.Meaning.{Means}
use Rattle.wh_rows.specs.Schema.{schema_in}
use Rattle.wh_rows.specs.Types.{is_key, is_line, is_number, is_measure, is_discount}
use Rattle.wh_rows.specs.Rows as row
use Rattle.wh_rows.specs.Rows.{has_good_columns, encode_fact, encode_fact2}
use Rattle.wh_rows.proofs.Means.{never_shows}
use Rattle.wh_rows.specs.Columns.{day_of, number_of, measure_of}
use Rattle.wh_rows.specs.Holds.{values_of}
use Rattle.wh_rows.specs.Tables.{Tables, Stores}
use Rattle.wh_rows.specs.Statements.{reading}
use Rattle.wh_rows.specs.Raw.{Stored, IsStored, HasDamage, rows_in, rows_shown, stored_of}
use Rattle.wh_rows.specs.LinkedSales.{linked, read_linked_sale, links_of, linked_columns, linked_of, linked_sales, ShowsLinked, linked_sales2}
use Rattle.wh_rows.proofs.Answers.{is_read, map-map}
use Rattle.wh_rows.proofs.ColumnLemmas.{bind_ok, bind_is, when_ok, whole, day_so, day_is, number_so, number_is, measure_so, measure_is}
use Rattle.wh_rows.proofs.Edits.{filter_all, same_value}
use Rattle.wh_rows.proofs.Raw.{has_again}
use Rattle.wh_rows.proofs.RawTables.{stores_stored}

-- ---- what a row of the columns is read as

linked_sound : (row : Row) (s : LinkedSale) → linked_of row ≡ Ok s → row ≡ read_linked_sale s
unfolding linked_of
linked_sound row s h =
    let all = when_ok (length row == 11) (linked_columns row) s h in
    let day = bind_ok (day_of (column row 0)) _ s all.1 in
    let store_key = bind_ok (number_of (column row 1)) _ s day.2 in
    let product_key = bind_ok (number_of (column row 2)) _ s store_key.2 in
    let customer_key = bind_ok (number_of (column row 3)) _ s product_key.2 in
    let store_durable = bind_ok (number_of (column row 4)) _ s customer_key.2 in
    let product_durable = bind_ok (number_of (column row 5)) _ s store_durable.2 in
    let customer_durable = bind_ok (number_of (column row 6)) _ s product_durable.2 in
    let profile = bind_ok (number_of (column row 7)) _ s customer_durable.2 in
    let quantity = bind_ok (measure_of 9999 (column row 8)) _ s profile.2 in
    let amount = bind_ok (measure_of 999999999 (column row 9)) _ s quantity.2 in
    let cost = bind_ok (measure_of 999999999 (column row 10)) _ s amount.2 in
    let found : LinkedSale = record { day = day.0; store_key = store_key.0; product_key = product_key.0; customer_key = customer_key.0; store_durable = store_durable.0; product_durable = product_durable.0; customer_durable = customer_durable.0; profile = profile.0; quantity = quantity.0; amount = amount.0; cost = cost.0 } in
    let columns : row ≡ read_linked_sale found =
    whole Null row 11 (eqb-true (length row) 11 all.0)
    ∙ ap₂ ◌∷◌ (day_so _ _ day.1).0 (ap₂ ◌∷◌ (number_so _ _ store_key.1).0 (ap₂ ◌∷◌ (number_so _ _ product_key.1).0 (ap₂ ◌∷◌ (number_so _ _ customer_key.1).0 (ap₂ ◌∷◌ (number_so _ _ store_durable.1).0 (ap₂ ◌∷◌ (number_so _ _ product_durable.1).0 (ap₂ ◌∷◌ (number_so _ _ customer_durable.1).0 (ap₂ ◌∷◌ (number_so _ _ profile.1).0 (ap₂ ◌∷◌ (measure_so 9999 _ _ quantity.1).0 (ap₂ ◌∷◌ (measure_so 999999999 _ _ amount.1).0 (ap₂ ◌∷◌ (measure_so 999999999 _ _ cost.1).0 refl)))))))))) in
    subst (λ s. row ≡ read_linked_sale s) (same_value cost.2) columns

linked_complete : (f : Fact) → has_good_columns f ≡ true → linked_of (read_linked_sale (linked f)) ≡ Ok (linked f)
unfolding linked_of
linked_complete f valid =
    let cost = and_parts _ (is_measure 999999999 f.cost) valid in
    let amount = and_parts _ (is_measure 999999999 f.amount) cost.0 in
    let quantity = and_parts _ (is_measure 9999 f.quantity) amount.0 in
    let profile = and_parts _ (is_number f.keys.profile) quantity.0 in
    let customer_durable = and_parts _ (is_number f.customer_durable) profile.0 in
    let product_durable = and_parts _ (is_number f.product_durable) customer_durable.0 in
    let store_durable = and_parts _ (is_number f.store_durable) product_durable.0 in
    let customer_key = and_parts _ (is_number f.keys.customer_key) store_durable.0 in
    let product_key = and_parts _ (is_number f.keys.product_key) customer_key.0 in
    let store_key = and_parts _ (is_number f.keys.store_key) product_key.0 in
    let day = and_parts (is_key 20 f.ticket && is_line f.line) (is_day f.day) store_key.0 in
    bind_is _ f.day _ (linked f) (day_is f.day day.1)
    (bind_is _ f.keys.store_key _ (linked f) (number_is f.keys.store_key store_key.1)
    (bind_is _ f.keys.product_key _ (linked f) (number_is f.keys.product_key product_key.1)
    (bind_is _ f.keys.customer_key _ (linked f) (number_is f.keys.customer_key customer_key.1)
    (bind_is _ f.store_durable _ (linked f) (number_is f.store_durable store_durable.1)
    (bind_is _ f.product_durable _ (linked f) (number_is f.product_durable product_durable.1)
    (bind_is _ f.customer_durable _ (linked f) (number_is f.customer_durable customer_durable.1)
    (bind_is _ f.keys.profile _ (linked f) (number_is f.keys.profile profile.1)
    (bind_is _ f.quantity _ (linked f) (measure_is 9999 f.quantity quantity.1)
    (bind_is _ f.amount _ (linked f) (measure_is 999999999 f.amount amount.1)
    (bind_is _ f.cost _ (linked f) (measure_is 999999999 f.cost cost.1) refl))))))))))

-- what a function that reads gives, by what it reads
pub linked_ok : (row : Row) (result : Result LinkedSale (ParseError Damaged)) → Gives (λ s. s) result (linked_of row) → IfOk result (λ s. row ≡ read_linked_sale s)
linked_ok row (Ok s) gives = linked_sound row s gives
linked_ok row (Err e) gives = tt

pub linked_err : (row : Row) (result : Result LinkedSale (ParseError Damaged)) → Gives (λ s. s) result (linked_of row) → IfErr result (λ e. e ≢ Memory → (f : Fact) → IsTrue (has_good_columns f) → row ≢ read_linked_sale (linked f))
linked_err row (Ok s) gives = tt
linked_err row (Err Memory) gives = λ fault. absurd (fault refl)
linked_err row (Err (Fault d)) gives = λ fault f valid is. let one = sym gives ∙ ap linked_of is ∙ linked_complete f valid in absurd (cc)

-- ---- what the text means

abbrev showing : List Term
showing = col 1 3 ∷ col 1 4 ∷ col 1 5 ∷ col 1 6 ∷ col 1 7 ∷ col 1 8 ∷ col 1 9 ∷ col 1 10 ∷ col 1 11 ∷ col 1 12 ∷ col 1 13 ∷ []

abbrev naming : List (List ℕ)
naming =
    codes "day" ∷ codes "store_key" ∷ codes "product_key" ∷ codes "customer_key" ∷ codes "store_durable" ∷ codes "product_durable" ∷ codes "customer_durable" ∷ codes "profile"
    ∷ codes "quantity" ∷ codes "amount" ∷ codes "cost" ∷ []

pub shows_linked : (format : Format) → ShowsLinked (schema_in format) row.fact.table linked_sales
unfolding understood everything
shows_linked format = record { project = showing; names = naming; command = refl; plain = (refl, refl); unlisted = refl; shows = λ r. refl }

pub shows_linked2 : ShowsLinked (schema_in Two) row.fact2.table linked_sales2
unfolding understood everything
shows_linked2 = record { project = showing; names = naming; command = refl; plain = (refl, refl); unlisted = refl; shows = λ r. refl }

pub shows_linked2_in : (format : Format) → Means (is_two format) (ShowsLinked (schema_in format) row.fact2.table linked_sales2) (understood (schema_in format) linked_sales2)
unfolding understood everything listing_schema
shows_linked2_in One = tt
shows_linked2_in Two = shows_linked2

-- ---- what it shows of the facts that are stored

-- a fact's row shows the fact's sale
pub shown_fact : (f : Fact) → links_of (encode_fact f) ≡ read_linked_sale (linked f)
shown_fact f = refl

module _ (old new : State) (answer : List Row) (shown : Shown linked_sales [] old new answer) where
  -- the answer is what each row of the table shows, in some order
  shows_each : (format : Format) → old.now.schema ≡ schema_in format → IsPermutation (map links_of (rows_in row.fact.table old.now.trees)) answer
  shows_each format is =
      let it = shows_linked format in
      let read = reads_as linked_sales [] old new (schema_in format) is _ it.command it.plain it.unlisted answer shown in
      let found = is_read old.now.trees [] row.fact.table.tree [] it.project [] answer read.answer in
      let db = old.now.trees row.fact.table.tree in
      let first : Output → Row = λ o. o.1 in
      let output_of : Row → Output = λ r. output (reading row.fact.table.tree [] it.project []) ([] ∷ r ∷ []) in
      let each : map first (map output_of (filter (λ _. true) db)) ≡ map links_of (rows_in row.fact.table old.now.trees) =
      map-map first output_of _ ∙ ap (map (λ r. first (output_of r))) (filter_all db) ∙ ap (λ f. map f db) (λ i r. it.shows r i) ∙ sym (map-map links_of (values_of row.fact.table) db) in
      subst₂ IsPermutation each (sym found.shown) (IsPermutation-map first _ _ found.same)

  -- of any rows
  pub shows_stored_linked : (stored : Stored) → IsStored stored old.now → IsPermutation (map links_of (stored.rows tables.Fact)) answer
  shows_stored_linked stored is = IsPermutation-trans _ _ _ (IsPermutation-map links_of _ _ (IsPermutation-sym _ _ (is.rows tables.Fact))) (shows_each stored.format is.schema)

  -- a row of the answer that shows no fact is that of a damaged one
  pub shows_damage : (shows : Row) → Has answer shows → ((f : Fact) → IsTrue (has_good_columns f) → shows ≢ read_linked_sale (linked f)) → (stored : Stored) → IsStored stored old.now → HasDamage row.fact (stored.rows tables.Fact)
  shows_damage shows here none stored is =
      let found = has_mapped links_of (stored.rows tables.Fact) shows (has_again _ answer shows (shows_stored_linked stored is) here) in
      (found.0, found.1, λ f valid same. none f (and_parts (has_good_columns f) (f.discount == 0) valid).0 (found.2 ∙ ap links_of same ∙ shown_fact f))

  -- of tables, the facts' sales
  pub shows_typed_linked : (t : Tables) → Stores old.now t → (ordered : List Fact) × IsPermutation ordered (values t.fact) × (answer ≡ map read_linked_sale (map linked ordered))
  shows_typed_linked t is =
      let facts = values t.fact in
      let each : map links_of (map encode_fact facts) ≡ map (λ f. read_linked_sale (linked f)) facts = map-map links_of encode_fact facts ∙ ap (λ f. map f facts) (λ i f. shown_fact f i) in
      let back = pull_back (λ f. read_linked_sale (linked f)) _ answer (shows_stored_linked (stored_of t) (stores_stored old.now t is)) facts each in
      (back.0, IsPermutation-sym _ _ back.1, back.2 ∙ sym (map-map read_linked_sale linked back.0))

-- ---- the same of the second format

pub shown_fact2 : (r : Fact) → links_of (encode_fact2 r) ≡ read_linked_sale (linked r)
shown_fact2 r = refl

module _ (old new : State) (answer : List Row) (shown : Shown linked_sales2 [] old new answer) where
  shows_each2 : (format : Format) → old.now.schema ≡ schema_in format → IsPermutation (map links_of (rows_shown format tables.Fact2 old.now.trees)) answer
  shows_each2 One is = absurd (never_shows linked_sales2 [] old (schema_in One) is (shows_linked2_in One) new answer shown)
  shows_each2 Two is =
      let it = shows_linked2 in
      let read = reads_as linked_sales2 [] old new (schema_in Two) is _ it.command it.plain it.unlisted answer shown in
      let found = is_read old.now.trees [] row.fact2.table.tree [] it.project [] answer read.answer in
      let db = old.now.trees row.fact2.table.tree in
      let first : Output → Row = λ o. o.1 in
      let output_of : Row → Output = λ r. output (reading row.fact2.table.tree [] it.project []) ([] ∷ r ∷ []) in
      let each : map first (map output_of (filter (λ _. true) db)) ≡ map links_of (rows_in row.fact2.table old.now.trees) =
      map-map first output_of _ ∙ ap (map (λ r. first (output_of r))) (filter_all db) ∙ ap (λ f. map f db) (λ i r. it.shows r i) ∙ sym (map-map links_of (values_of row.fact2.table) db) in
      subst₂ IsPermutation each (sym found.shown) (IsPermutation-map first _ _ found.same)

  -- of any rows
  pub shows_stored_linked2 : (stored : Stored) → IsStored stored old.now → IsPermutation (map links_of (stored.rows tables.Fact2)) answer
  shows_stored_linked2 stored is = IsPermutation-trans _ _ _ (IsPermutation-map links_of _ _ (IsPermutation-sym _ _ (is.rows tables.Fact2))) (shows_each2 stored.format is.schema)

  -- a row of the answer that shows no fact is that of a damaged one
  pub shows_damage2 : (shows : Row) → Has answer shows → ((f : Fact) → IsTrue (has_good_columns f) → shows ≢ read_linked_sale (linked f)) → (stored : Stored) → IsStored stored old.now → HasDamage row.fact2 (stored.rows tables.Fact2)
  shows_damage2 shows here none stored is =
      let found = has_mapped links_of (stored.rows tables.Fact2) shows (has_again _ answer shows (shows_stored_linked2 stored is) here) in
      (found.0, found.1, λ r valid same. none r (and_parts (has_good_columns r) (is_discount r.discount) valid).0 (found.2 ∙ ap links_of same ∙ shown_fact2 r))

  -- of tables, the facts' sales
  pub shows_typed_linked2 : (t : Tables) → Stores old.now t → (ordered : List Fact) × IsPermutation ordered (values t.fact2) × (answer ≡ map read_linked_sale (map linked ordered))
  shows_typed_linked2 t is =
      let facts = values t.fact2 in
      let each : map links_of (map encode_fact2 facts) ≡ map (λ f. read_linked_sale (linked f)) facts = map-map links_of encode_fact2 facts ∙ ap (λ f. map f facts) (λ i f. shown_fact2 f i) in
      let back = pull_back (λ f. read_linked_sale (linked f)) _ answer (shows_stored_linked2 (stored_of t) (stores_stored old.now t is)) facts each in
      (back.0, IsPermutation-sym _ _ back.1, back.2 ∙ sym (map-map read_linked_sale linked back.0))
