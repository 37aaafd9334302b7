-- Making the ten tables and their indexes.
use Rattle.std.proofs.Common.{◌≡◌, ℕ, codes, List, [], ◌∷◌, map, inl, inr, None, Ok, false, refl, sym, ap, subst, ◌∙◌}
use Rattle.std.specs.Prelude.{IsTrue}
use Rattle.std.specs.List.{AllByRecursion}
use Rattle.std.specs.List.Sorted.{IsPermutation}
use Rattle.std.specs.FinMap.{empty}
use Rattle.std.proofs.lemmas.List.Sorted.{IsPermutation-refl}
use Rattle.sqlite.specs.Table.{Table}
use Rattle.sqlite.specs.Tree.{Trees}
use Rattle.sqlite.specs.Schema.{Schema}
use Rattle.sqlite.specs.Change.{created, indexed, next_tree, KeepsRows}
use Rattle.sqlite.specs.Command.TheVariants.{CreateTable, CreateIndex}
use Rattle.sqlite.specs.Effect.{Database, IsDatabase}
use Rattle.sqlite.specs.Does.{Tally, Does, AtPlace, Defines, lacks_sequence}
use Rattle.sqlite.specs.Does.{MakesIndex as MadeIndex}
use Rattle.sqlite.specs.Listing.{understood}
use Rattle.sqlite.specs.State.{State, Executes, Writes, mode_of}
use Rattle.sqlite.proofs.Callers.{runs_as}
use Rattle.sqlite_schema.specs.declared.schema.Index.{Index}
use Rattle.sqlite_tied.specs.Compute.{everything}
use Rattle.wh_rows.specs.Schema as schema
use Rattle.wh_rows.specs.Schema.{no_schema, warehouse}
use Rattle.wh_rows.specs.Holds.{Layout, Holds, IsRising}
use Rattle.wh_rows.specs.Tables.{no_tables, Stores}
use Rattle.wh_rows.specs.Rows as row
use Rattle.wh_rows.specs.Making.{AreEmpty, MakesTable, MakesIndex, LeadsOver, making_texts}
use Rattle.wh_rows.proofs.Edits.{went, same_value}
use Rattle.wh_rows.proofs.Formats.{no_values}

-- the table is there and has no row, and the others are as they were
pub record IsMade (old new : Schema) (before after : Database) : Type 0 where
  pub schema : after.schema ≡ new
  pub empty : after.trees (next_tree old) ≡ []
  pub kept : KeepsRows old.tables before.trees after.trees

module _ (from : Schema) (text : List ℕ) (to : Schema) (it : MakesTable from text to) (old new : State) (count : ℕ) (has : old.now.schema ≡ from) (ran : Executes text [] old new (Ok count)) where
  pub made : IsMade from to old.now new.now
  made =
      let w = subst (λ t. Writes old new None CreateTable t [] count) it.whole (runs_as text [] old new from has CreateTable it.command it.plain count ran) in
      let all = went w.changed in
      let first = went all.1 in
      let it_made = first.1 in
      let both : Ok it_made.table ≡ Ok it.table = sym it_made.defined ∙ it.defined in
      let same : it_made.table ≡ it.table = same_value both in
      let schema_is : first.0.schema ≡ to = it_made.is ∙ ap (λ s. created s it_made.table) has ∙ ap (created from) same ∙ it.is in
      let none : lacks_sequence first.0.schema ≡ false = ap lacks_sequence schema_is ∙ it.uncounted in
      let now : new.now ≡ first.0 = ap (λ (p : Tally × Database). p.1) (same_value all.2) ∙ same_value (rw none at first.2) in
      record {
        schema = ap (λ (d : Database). d.schema) now ∙ schema_is;
        empty = ap (λ (d : Database). d.trees (next_tree from)) now ∙ subst (λ s. first.0.trees (next_tree s) ≡ []) has it_made.empty;
        kept = subst (λ (d : Database). KeepsRows from.tables old.now.trees d.trees) (sym now) (subst (λ s. KeepsRows s.tables old.now.trees first.0.trees) has it_made.others);
      }

module _ (from : Schema) (text : List ℕ) (to : Schema) (it : MakesIndex from text to) (old new : State) (count : ℕ) (has : old.now.schema ≡ from) (ran : Executes text [] old new (Ok count)) where
  pub indexes : (new.now.schema ≡ to) × KeepsRows from.tables old.now.trees new.now.trees
  indexes =
      let w = subst (λ t. Writes old new None (CreateIndex it.at) t [] count) it.whole (runs_as text [] old new from has (CreateIndex it.at) it.command it.plain count ran) in
      let db : Database = record { schema = from; trees = old.now.trees } in
      let changed = subst (λ s. Does old.step_limit (mode_of old) [] (record old.now { schema = s }) text None (CreateIndex it.at) (Ok (w.tally, new.now))) has w.changed in
      let made = went (subst (λ place. AtPlace (λ table. Defines (mode_of old) (MadeIndex text db table)) place (Ok (w.tally, new.now))) it.has changed) in
      let first = made.1 in
      let now : new.now ≡ made.0 = ap (λ (p : Tally × Database). p.1) (same_value made.2) in
      let same : first.index ≡ it.index = same_value (sym first.defined ∙ it.defined) in
      let schema_is : made.0.schema ≡ to = first.is ∙ ap (indexed from it.table) same ∙ it.is in
      subst (λ (d : Database). (d.schema ≡ to) × KeepsRows from.tables old.now.trees d.trees) (sym now) (schema_is, first.rows)

-- ---- the schemas on the way

abbrev with_0 : Schema
with_0 = no_schema

abbrev with_1 : Schema
with_1 = created with_0 (record schema.meta { tree = 0 })

abbrev with_2 : Schema
with_2 = created with_1 (record schema.command { tree = 0 })

abbrev with_3 : Schema
with_3 = created with_2 (record schema.member { tree = 0 })

abbrev with_4 : Schema
with_4 = created with_3 (record schema.change { tree = 0 })

abbrev with_5 : Schema
with_5 = created with_4 (record schema.product { tree = 0 })

abbrev with_6 : Schema
with_6 = created with_5 (record schema.store { tree = 0 })

abbrev with_7 : Schema
with_7 = created with_6 (record schema.customer { tree = 0 })

abbrev with_8 : Schema
with_8 = created with_7 (record schema.profile { tree = 0 })

abbrev with_9 : Schema
with_9 = created with_8 (record schema.calendar { tree = 0 })

abbrev with_10 : Schema
with_10 = created with_9 (record schema.fact { tree = 0 })

abbrev change_by_member : Index
change_by_member = schema.index (codes "change_by_member") 0 schema.change.tree (3 ∷ 4 ∷ []) false

abbrev with_11 : Schema
with_11 = indexed with_10 schema.change change_by_member

abbrev change_by_anchor : Index
change_by_anchor = schema.index (codes "change_by_anchor") 0 schema.change.tree (3 ∷ 6 ∷ []) false

abbrev with_12 : Schema
with_12 = indexed with_11 schema.change change_by_anchor

abbrev product_by_durable : Index
product_by_durable = schema.index (codes "product_by_durable") 0 schema.product.tree (2 ∷ []) false

abbrev with_13 : Schema
with_13 = indexed with_12 schema.product product_by_durable

abbrev store_by_durable : Index
store_by_durable = schema.index (codes "store_by_durable") 0 schema.store.tree (2 ∷ []) false

abbrev with_14 : Schema
with_14 = indexed with_13 schema.store store_by_durable

abbrev customer_by_durable : Index
customer_by_durable = schema.index (codes "customer_by_durable") 0 schema.customer.tree (2 ∷ []) false

abbrev with_15 : Schema
with_15 = indexed with_14 schema.customer customer_by_durable

abbrev profile_by_values : Index
profile_by_values = schema.index (codes "profile_by_values") 0 schema.profile.tree (2 ∷ 3 ∷ 4 ∷ 5 ∷ 6 ∷ 7 ∷ []) false

abbrev with_16 : Schema
with_16 = indexed with_15 schema.profile profile_by_values

makes_meta : MakesTable with_0 schema.create_meta with_1
unfolding understood everything
makes_meta = record { command = refl; whole = refl; plain = (refl, refl); table = record schema.meta { tree = 0 }; defined = refl; is = refl; uncounted = refl }

makes_command : MakesTable with_1 schema.create_command with_2
unfolding understood everything
makes_command = record { command = refl; whole = refl; plain = (refl, refl); table = record schema.command { tree = 0 }; defined = refl; is = refl; uncounted = refl }

makes_member : MakesTable with_2 schema.create_member with_3
unfolding understood everything
makes_member = record { command = refl; whole = refl; plain = (refl, refl); table = record schema.member { tree = 0 }; defined = refl; is = refl; uncounted = refl }

makes_change : MakesTable with_3 schema.create_change with_4
unfolding understood everything
makes_change = record { command = refl; whole = refl; plain = (refl, refl); table = record schema.change { tree = 0 }; defined = refl; is = refl; uncounted = refl }

makes_product : MakesTable with_4 schema.create_product with_5
unfolding understood everything
makes_product = record { command = refl; whole = refl; plain = (refl, refl); table = record schema.product { tree = 0 }; defined = refl; is = refl; uncounted = refl }

makes_store : MakesTable with_5 schema.create_store with_6
unfolding understood everything
makes_store = record { command = refl; whole = refl; plain = (refl, refl); table = record schema.store { tree = 0 }; defined = refl; is = refl; uncounted = refl }

makes_customer : MakesTable with_6 schema.create_customer with_7
unfolding understood everything
makes_customer = record { command = refl; whole = refl; plain = (refl, refl); table = record schema.customer { tree = 0 }; defined = refl; is = refl; uncounted = refl }

makes_profile : MakesTable with_7 schema.create_profile with_8
unfolding understood everything
makes_profile = record { command = refl; whole = refl; plain = (refl, refl); table = record schema.profile { tree = 0 }; defined = refl; is = refl; uncounted = refl }

makes_calendar : MakesTable with_8 schema.create_calendar with_9
unfolding understood everything
makes_calendar = record { command = refl; whole = refl; plain = (refl, refl); table = record schema.calendar { tree = 0 }; defined = refl; is = refl; uncounted = refl }

makes_fact : MakesTable with_9 schema.create_fact with_10
unfolding understood everything
makes_fact = record { command = refl; whole = refl; plain = (refl, refl); table = record schema.fact { tree = 0 }; defined = refl; is = refl; uncounted = refl }

makes_change_by_member : MakesIndex with_10 schema.create_change_by_member with_11
unfolding understood everything
makes_change_by_member = record { at = 3; table = schema.change; has = refl; command = refl; whole = refl; plain = (refl, refl); index = change_by_member; defined = refl; is = refl }

makes_change_by_anchor : MakesIndex with_11 schema.create_change_by_anchor with_12
unfolding understood everything
makes_change_by_anchor = record { at = 3; table = schema.change; has = refl; command = refl; whole = refl; plain = (refl, refl); index = change_by_anchor; defined = refl; is = refl }

makes_product_by_durable : MakesIndex with_12 schema.create_product_by_durable with_13
unfolding understood everything
makes_product_by_durable = record { at = 4; table = schema.product; has = refl; command = refl; whole = refl; plain = (refl, refl); index = product_by_durable; defined = refl; is = refl }

makes_store_by_durable : MakesIndex with_13 schema.create_store_by_durable with_14
unfolding understood everything
makes_store_by_durable = record { at = 5; table = schema.store; has = refl; command = refl; whole = refl; plain = (refl, refl); index = store_by_durable; defined = refl; is = refl }

makes_customer_by_durable : MakesIndex with_14 schema.create_customer_by_durable with_15
unfolding understood everything
makes_customer_by_durable = record { at = 6; table = schema.customer; has = refl; command = refl; whole = refl; plain = (refl, refl); index = customer_by_durable; defined = refl; is = refl }

makes_profile_by_values : MakesIndex with_15 schema.create_profile_by_values with_16
unfolding understood everything
makes_profile_by_values = record { at = 7; table = schema.profile; has = refl; command = refl; whole = refl; plain = (refl, refl); index = profile_by_values; defined = refl; is = refl }

all_made : with_16 ≡ warehouse
unfolding everything
all_made = refl

-- ---- no table has a row

pub holds_none : {K V : Type 0} (layout : Layout K V) (db : Trees) → db layout.table.tree ≡ [] → Holds layout db empty
holds_none {K} {V} layout db none = record {
  rows_are = rw none (subst (λ (es : List (K × V)). IsPermutation [] (map layout.encode (map (λ e. e.1) es))) (sym (no_values layout.order)) (IsPermutation-refl []));
  keyed = subst (AllByRecursion (λ (e : K × V). e.0 ≡ layout.key e.1)) (sym (no_values layout.order)) tt;
  valid = subst (AllByRecursion (λ (e : K × V). IsTrue (layout.is_valid e.1))) (sym (no_values layout.order)) tt;
}

all_rising : (tables : List Table) (trees : Trees) → AreEmpty tables trees → AllByRecursion (λ t. IsRising (trees t.tree)) tables
all_rising [] trees none = tt
all_rising (t ∷ ts) trees none = (subst IsRising (sym none.0) (tt, tt), all_rising ts trees none.1)

pub stores_none : (db : Database) → db.schema ≡ warehouse → IsDatabase db → AreEmpty warehouse.tables db.trees → Stores db no_tables
stores_none db is sound none = record {
  schema = is;
  sound = sound;
  rising = all_rising warehouse.tables db.trees none;
  meta = holds_none row.meta db.trees none.0;
  command = holds_none row.command db.trees none.1.0;
  member = holds_none row.member db.trees none.1.1.0;
  change = holds_none row.change db.trees none.1.1.1.0;
  product = holds_none row.product db.trees none.1.1.1.1.0;
  store = holds_none row.store db.trees none.1.1.1.1.1.0;
  customer = holds_none row.customer db.trees none.1.1.1.1.1.1.0;
  profile = holds_none row.profile db.trees none.1.1.1.1.1.1.1.0;
  calendar = holds_none row.calendar db.trees none.1.1.1.1.1.1.1.1.0;
  fact = holds_none row.fact db.trees none.1.1.1.1.1.1.1.1.1.0;
  fact2 = refl;
  void = refl;
}

-- ---- all of it

-- the texts make the warehouse in a database with no object
pub makes_all : LeadsOver 0 no_schema making_texts warehouse
makes_all = (
  with_1,
  inl makes_meta,
  refl,
  (
    with_2,
    inl makes_command,
    refl,
    (
      with_3,
      inl makes_member,
      refl,
      (
        with_4,
        inl makes_change,
        refl,
        (
          with_5,
          inl makes_product,
          refl,
          (
            with_6,
            inl makes_store,
            refl,
            (
              with_7,
              inl makes_customer,
              refl,
              (
                with_8,
                inl makes_profile,
                refl,
                (
                  with_9,
                  inl makes_calendar,
                  refl,
                  (
                    with_10,
                    inl makes_fact,
                    refl,
                    (
                      with_11,
                      inr makes_change_by_member,
                      refl,
                      (
                        with_12,
                        inr makes_change_by_anchor,
                        refl,
                        (
                          with_13,
                          inr makes_product_by_durable,
                          refl,
                          (
                            with_14,
                            inr makes_store_by_durable,
                            refl,
                            (
                              with_15,
                              inr makes_customer_by_durable,
                              refl,
                              (
                                with_16,
                                inr makes_profile_by_values,
                                refl,
                                all_made,
                              ),
                            ),
                          ),
                        ),
                      ),
                    ),
                  ),
                ),
              ),
            ),
          ),
        ),
      ),
    ),
  ),
)
