-- The rows of all members are those of the dimension's table.
use Rattle.std.proofs.Common.{◌≡◌, ℕ, zero, suc, ◌==◌, true, false, cond, List, [], ◌∷◌, ◌++◌, map, length, Option, Some, None, refl, sym, ◌∙◌, ap, inl, inr, arith}
use Rattle.std.specs.FinMap.{FinMap, values, get}
use Rattle.std.specs.Ordering.{nat_cmp}
use Rattle.std.specs.Prelude.{Result, IfOk, bytes_eq, filter, find, flat_map}
use Rattle.std.specs.List.{list_any, AllByRecursion}
use Rattle.std.specs.Option.{option_and_then}
use Rattle.std.proofs.lemmas.Bool.{cases_lt, ne_eqb}
use Rattle.std.proofs.lemmas.Result.{IfOk-weaker}
use Rattle.std.proofs.lemmas.Slice.Eq.{bytes_eq-Decides}
use Rattle.wh_policy.specs.declared.attribute.Dim.{Dim}
use Rattle.wh_policy.specs.declared.attribute.Dim.TheVariants.{Product, Store, Customer}
use Rattle.wh_policy.specs.declared.attribute.AttributeType.{AttributeType}
use Rattle.wh_history.specs.Keys.{at_place}
use Rattle.wh_history.specs.Known.{number_in, all_numbered}
use Rattle.wh_history.specs.Accepted.{Accepted, Anchor, anchors, members, member_of, durable_key, mentions, types_in, profiles_of}
use Rattle.wh_history.specs.Laws.{RecordsHaveDays, IsMember}
use Rattle.wh_history.specs.Picked.{first_rows}
use Rattle.wh_history.specs.Plan.{IsRowPlan, row_of}
use Rattle.wh_history.specs.Rows.{rows_by, rows}
use Rattle.wh_history.specs.Shapes.{shape_of}
use Rattle.wh_history.specs.Tables.{member_rows, numbered_row, dimension_row, dimension_table, no_card_row}
use Rattle.wh_history.specs.declared.dimension.DimensionShape.{DimensionShape}
use Rattle.wh_history.specs.declared.member.Member.{Member}
use Rattle.wh_history.specs.declared.plan.Edit.{Edit}
use Rattle.wh_history.specs.declared.rows.DimRow.{DimRow}
use Rattle.wh_history.proofs.Knowing.{rows_of_all}
use Rattle.wh_history.proofs.Members.{row_of_member_now}
use Rattle.wh_history.proofs.Owners.{all_distinct}
use Rattle.wh_history.proofs.Places.{at_place-place}
use Rattle.wh_plan.specs.NewRows.{rows_of_members}
use Rattle.wh_migration.specs.Migrated.{all_members, all_rows, IsMigrated}
use Rattle.wh_model.proofs.FoundPlaces.{at_place_among}
use Rattle.wh_plan.proofs.FoundRows.{row_key, row_past, table_listed, under_key, none_behind}
use Rattle.wh_model.proofs.GrownMembers.{all_mapped, opened_in_all}
use Rattle.wh_model.proofs.Listed.{kept}
use Rattle.wh_plan.proofs.PlanningOwners.{nowhere, found_in}
use Rattle.wh_plan.proofs.PlanningRendered.{through}
use Rattle.wh_plan.proofs.PlanningTable.{durable_given}

-- ---- the table by its keys

all_kept : {X : Type 0} (xs : List X) → filter (λ (x : X). true) xs ≡ xs
all_kept [] = refl
all_kept (x ∷ xs) = ap (λ ys. x ∷ ys) (all_kept xs)

any_kept : (o : Option DimRow) → kept (λ (r : DimRow). true) o ≡ o
any_kept None = refl
any_kept (Some r) = refl

pub row_in_table : (dim : Dim) (commands : List Accepted) (key : ℕ) → row_of key (dimension_table commands dim) ≡ dimension_row commands dim key
row_in_table dim commands key =
    let count = length (anchors dim commands) in
    let keep = λ (r : DimRow). true in
    ap (row_of key) (sym (all_kept (dimension_table commands dim)))
    ∙ elim (cases_lt count key) [
      | inl past ↦ none_behind (dimension_row commands dim) (row_key commands dim) keep key 0 (suc count) (omega arith) ∙ sym (row_past commands dim key past)
      | inr within ↦ under_key (dimension_row commands dim) (row_key commands dim) keep key 0 (suc count) (omega arith) (omega arith) ∙ any_kept (dimension_row commands dim key)
    ]

-- the rows that are read of a table of this dimension
pub table_read : {X E : Type 0} (r : Result X E) (items : X → List DimRow) (own dim : Dim) (commands : List Accepted) (m : FinMap nat_cmp DimRow) → ((key : ℕ) → get m key ≡ dimension_row commands own key) → dim ≡ own
    → IfOk r (λ x. items x ≡ values m) → IfOk r (λ x. items x ≡ dimension_table commands dim)
table_read r items own dim commands m held same read =
    IfOk-weaker r (λ x. items x ≡ values m) (λ x. items x ≡ dimension_table commands dim) (λ x is. is ∙ table_listed commands own m held ∙ ap (dimension_table commands) (sym same)) read

-- ---- the rows of all members

module _ (dim : Dim) (commands : List Accepted) (ends : RecordsHaveDays commands) where
  all_are : AllByRecursion (IsMember dim commands) (members dim commands)
  all_are = all_distinct (IsMember dim commands) bytes_eq (map (λ (a : Anchor). a.natural) (mentions dim commands)) (all_mapped (IsMember dim commands) (mentions dim commands) (opened_in_all dim commands))

  owner_among : (key : ℕ) (a : Anchor) → at_place key (anchors dim commands) ≡ Some a → list_any (λ n. bytes_eq n a.natural) (members dim commands) ≡ true
  owner_among key a is =
      let given = durable_given dim commands key a is in
      at_place_among (λ n. bytes_eq n a.natural) (durable_key dim commands a.natural) (members dim commands) a.natural
      (at_place-place bytes_eq bytes_eq-Decides a.natural (members dim commands) given) ((bytes_eq-Decides a.natural a.natural).1 refl)

  numbered : (key : ℕ) (o : Option Anchor) → at_place key (anchors dim commands) ≡ o → row_of key (rows_of_members commands dim (members dim commands)) ≡ numbered_row commands dim key
  numbered key None is = nowhere dim commands ends key is (members dim commands) all_are ∙ sym (ap (option_and_then (λ (a : Anchor). find (λ (r : DimRow). r.surrogate == key) (member_rows commands dim a.natural))) is)
  numbered key (Some a) is =
      found_in dim commands ends key a is (members dim commands) all_are
      ∙ ap (λ b. cond b (row_of key (member_rows commands dim a.natural)) None) (owner_among key a is)
      ∙ sym (row_of_member_now dim commands key a is)

  rows_numbered : (key : ℕ) → row_of key (rows_of_members commands dim (members dim commands)) ≡ numbered_row commands dim key
  rows_numbered key = numbered key (at_place key (anchors dim commands)) refl

-- no row of a member has the key 0
none_at_first : (dim : Dim) (commands : List Accepted) → RecordsHaveDays commands → row_of 0 (rows_of_members commands dim (members dim commands)) ≡ None
none_at_first dim commands ends = nowhere dim commands ends 0 refl (members dim commands) (all_are dim commands ends)

-- after the first row of customers the rows of all members are the table
rows_listed : (dim : Dim) (commands : List Accepted) → RecordsHaveDays commands → (key : ℕ) → row_of key (first_rows dim (types_in dim commands) ++ rows_of_members commands dim (members dim commands)) ≡ dimension_row commands dim key
rows_listed Product commands ends key = rows_numbered Product commands ends key
rows_listed Store commands ends key = rows_numbered Store commands ends key
rows_listed Customer commands ends zero = refl
rows_listed Customer commands ends (suc n) =
    let apart : (0 == suc n) ≡ false = ne_eqb 0 (suc n) (λ same. omega (arith, same)) in
    ap (λ b. cond b (Some (no_card_row (types_in Customer commands))) (row_of (suc n) (rows_of_members commands Customer (members Customer commands)))) apart ∙ rows_numbered Customer commands ends (suc n)

-- ---- as they are shown

module _ (dim : Dim) (kinds : List AttributeType) (combinations : List (List (List ℕ))) where
  pub row_shown : (m : Member) → rows_by kinds (number_in (all_numbered combinations)) m ≡ rows kinds combinations m
  row_shown m = let both = rows_of_all kinds combinations (m ∷ []) in cc

  each_shown : (ms : List Member) → flat_map (rows_by kinds (number_in (all_numbered combinations))) ms ≡ flat_map (rows kinds combinations) ms
  each_shown [] = refl
  each_shown (m ∷ ms) = rw (row_shown m, each_shown ms) refl

-- all rows that are shown anew stand under their keys
pub migrated_rows : (dim : Dim) (commands : List Accepted) → RecordsHaveDays commands → (key : ℕ)
    → row_of key (all_rows (record { dim = dim; kinds = types_in dim commands; number = number_in (all_numbered (profiles_of commands)) }) (all_members dim commands)) ≡ dimension_row commands dim key
migrated_rows dim commands ends key =
    ap (λ rs. row_of key (first_rows dim (types_in dim commands) ++ rs))
    (each_shown dim (types_in dim commands) (profiles_of commands) (all_members dim commands) ∙ through (rows (types_in dim commands) (profiles_of commands)) (member_of dim commands) (members dim commands))
    ∙ rows_listed dim commands ends key

pub shown_rows : (commands : List Accepted) → RecordsHaveDays commands → (d : DimensionShape) (ms : List Member) (found : List DimRow) → IsMigrated commands d ms → found ≡ all_rows (shape_of d) ms → (key : ℕ) → row_of key found ≡ dimension_row commands d.dim key
shown_rows commands ends d ms found anew is key =
    ap (row_of key) is
    ∙ ap (λ ks. row_of key (all_rows (record { dim = d.dim; kinds = ks; number = number_in d.profiles.now }) ms)) anew.types_are
    ∙ ap (λ known. row_of key (all_rows (record { dim = d.dim; kinds = types_in d.dim commands; number = number_in known }) ms)) anew.profiles_are
    ∙ ap (λ (xs : List Member). row_of key (all_rows (record { dim = d.dim; kinds = types_in d.dim commands; number = number_in (all_numbered (profiles_of commands)) }) xs)) anew.members_are
    ∙ migrated_rows d.dim commands ends key

-- a plan between rows is one between what stands under the keys
pub plan_by_keys : (old new : List DimRow) (before after : ℕ → Option DimRow) (edits : List (Edit DimRow ℕ)) → ((key : ℕ) → row_of key old ≡ before key) → ((key : ℕ) → row_of key new ≡ after key)
    → IsRowPlan (λ key. row_of key old) (λ key. row_of key new) edits → IsRowPlan before after edits
plan_by_keys old new before after edits old_is new_is plan = record { ordered = plan.ordered; exact = λ key. rw (sym (old_is key), sym (new_is key)) (plan.exact key) }
