-- The records of a batch, by the members that it touches.
use Rattle.std.proofs.Common.{◌≡◌, ℕ, suc, ◌+◌, ◌<◌, Bool, true, false, cond, ◌||◌, List, [], ◌∷◌, ◌++◌, length, map, drop, get_or, Bor, Option, Some, None, refl, sym, ◌∙◌, ap, arith}
use Rattle.std.specs.Prelude.{filter_map, find, bytes_eq, option_map}
use Rattle.std.specs.List.{list_any, AllByRecursion, cons_option}
use Rattle.std.specs.Option.{option_and_then, option_copied}
use Rattle.std.proofs.lemmas.List.{append_assoc, at_drop_more}
use Rattle.std.proofs.lemmas.Slice.Eq.{bytes_eq-Decides}
use Rattle.wh_policy.specs.declared.attribute.Dim.{Dim}
use Rattle.wh_policy.specs.declared.record.DimensionRecord.{DimensionRecord}
use Rattle.wh_history.specs.Keys.{distinct, at_place}
use Rattle.wh_history.specs.Accepted.{Accepted, Describes, member_of}
use Rattle.wh_history.specs.Slots.{six}
use Rattle.wh_history.specs.Tables.{change_row_of, change_row_in}
use Rattle.wh_history.specs.Tables as history
use Rattle.wh_history.specs.Touched.{touched_by}
use Rattle.wh_history.specs.declared.member.Member.{Member}
use Rattle.wh_history.proofs.Basics.{first_or}
use Rattle.wh_history.proofs.Once.{among_distinct}
use Rattle.wh_history.proofs.Records.{anchor_is}
use Rattle.wh_rows.specs.declared.rows.ChangeRow.{ChangeRow}
use Rattle.wh_model.specs.Defined.{change_at}
use Rattle.wh_plan.specs.BatchRows.{numbers_after}
use Rattle.wh_plan.specs.NewRows.{by_place, row_of_record, named, new_change}
use Rattle.wh_model.proofs.GrownKeys.{at_last}
use Rattle.wh_plan.proofs.PlanningMembers.{Among, all_among, naturals, twice}
use Rattle.wh_plan.proofs.PlanningPlaces.{filter_map_same, by_place_same, behind_gives}

-- ---- steps of the loops

-- one member more, in front
copied_or : {X : Type 0} (b : Bool) (x : Bor X) (o : Option (Bor X)) → option_copied (cond b (Some x) o) ≡ cond b (Some x.now) (option_copied o)
copied_or true x o = refl
copied_or false x o = refl

pub named_more : {X : Type 0} (name : X → List ℕ) (xs : List X) (i : ℕ) (d : X) (text natural : List ℕ) (one : Bor X) (o : Option (Bor X)) → i < length xs
    → text ≡ name (get_or xs i d) → one.now ≡ get_or xs i d → option_copied o ≡ find (λ x. bytes_eq (name x) natural) (drop (i + 1) xs)
    → option_copied (cond (bytes_eq text natural) (Some one) o) ≡ find (λ x. bytes_eq (name x) natural) (drop i xs)
named_more {X} name xs i d text natural one o within text_is one_is old =
    let first = get_or xs i d in
    copied_or (bytes_eq text natural) one o
    ∙ ap (λ n. cond (bytes_eq n natural) (Some one.now) (option_copied o)) text_is
    ∙ ap (λ x. cond (bytes_eq (name first) natural) (Some x) (option_copied o)) one_is
    ∙ ap (λ q. cond (bytes_eq (name first) natural) (Some first) q) old
    ∙ sym (at_drop_more (λ (ys : List X). find (λ x. bytes_eq (name x) natural) ys) xs i d within)

-- one record more, whose row is there or not
module _ {X Y : Type 0} (give : ℕ → X → Option Y) (rows all : List Y) (i : ℕ) (xs : List X) (x : X) (within : i < length xs) (is : x ≡ get_or xs i x) (so_far : rows ++ by_place give (suc i) (drop i xs) ≡ all) where
  one_more : rows ++ cons_option (give (suc i) x) (by_place give (suc (suc i)) (drop (i + 1) xs)) ≡ all
  one_more = ap (λ (y : X). rows ++ cons_option (give (suc i) y) (by_place give (suc (suc i)) (drop (i + 1) xs))) is ∙ sym (at_drop_more (λ (ys : List X). rows ++ by_place give (suc i) ys) xs i x within) ∙ so_far

  same_place : suc (i + 1) ≡ suc (suc i)
  same_place = omega arith

  pub row_added : (new : List Y) (y : Y) → new ≡ rows ++ y ∷ [] → give (suc i) x ≡ Some y → new ++ by_place give (suc (i + 1)) (drop (i + 1) xs) ≡ all
  row_added new y added given =
      let rest = by_place give (suc (suc i)) (drop (i + 1) xs) in
      ap (λ k. new ++ by_place give k (drop (i + 1) xs)) same_place
      ∙ ap (λ ys. ys ++ rest) added
      ∙ append_assoc rows (y ∷ []) rest
      ∙ ap (λ o. rows ++ cons_option o rest) (sym given)
      ∙ one_more

  pub none_added : (new : List Y) → new ≡ rows → give (suc i) x ≡ None → new ++ by_place give (suc (i + 1)) (drop (i + 1) xs) ≡ all
  none_added new added given =
      let rest = by_place give (suc (suc i)) (drop (i + 1) xs) in
      ap (λ k. new ++ by_place give k (drop (i + 1) xs)) same_place
      ∙ ap (λ ys. ys ++ rest) added
      ∙ ap (λ o. rows ++ cons_option o rest) (sym given)
      ∙ one_more

-- ---- the change table

-- a member that was made of a natural key is found by it
pub found_there : (dim : Dim) (list : List Accepted) (n : List ℕ) (ns : List (List ℕ)) → Among ns n → named (map (member_of dim list) ns) n ≡ Some (member_of dim list n)
found_there dim list n [] h = cc
found_there dim list n (m ∷ ns) h =
    elim (bytes_eq m n) as (λ b. (bytes_eq m n ≡ b) → (b || list_any (λ m. bytes_eq m n) ns) ≡ true → first_or b (member_of dim list m) (named (map (member_of dim list) ns) n) ≡ Some (member_of dim list n)) [
      | true ↦ λ e _. ap (λ (m : List ℕ). Some (member_of dim list m)) ((bytes_eq-Decides m n).0 e)
      | false ↦ λ e t. found_there dim list n ns t
    ] refl h

module _ (dim : Dim) (commands : List Accepted) (c : Accepted) (rs : List DimensionRecord) (is : c.content ≡ Describes dim rs) where
  abbrev after : List Accepted
  after = commands ++ c ∷ []

  abbrev touched : List Member
  touched = map (member_of dim after) (distinct bytes_eq (naturals rs))

  abbrev keyed : ℕ → history.ChangeRow → ChangeRow
  keyed k r = record { command = length after; place = k; dim = r.dim; durable = r.durable; day = r.day; anchor = r.anchor; values = r.texts }

  -- a record's row is the one that the table has for it
  row_is : (k : ℕ) (r : DimensionRecord) → Among (naturals rs) r.natural → new_change dim (length after) touched k r ≡ Some (keyed k (change_row_of after dim r))
  row_is k r among =
      let there = found_there dim after r.natural (distinct bytes_eq (naturals rs)) (among_distinct bytes_eq bytes_eq-Decides r.natural (naturals rs) ∙ among) in
      let numbered : ℕ → ChangeRow = λ n. record { command = length after; place = k; dim = dim; durable = (member_of dim after r.natural).durable; day = r.day; anchor = n; values = six r.values } in
      ap (option_map (row_of_record dim (length after) k r)) there ∙ ap (λ n. Some (numbered n)) (anchor_is dim after r.natural r.day)

  rows_are : (qs : List DimensionRecord) → AllByRecursion (Among (naturals rs)) (naturals qs) → AllByRecursion (λ r. (k : ℕ) → new_change dim (length after) touched k r ≡ Some (keyed k (change_row_of after dim r))) qs
  rows_are [] all = tt
  rows_are (q ∷ qs) all = (λ k. row_is k q all.0, rows_are qs all.1)

  abbrev row_in : ℕ → Accepted → Option history.ChangeRow
  row_in k d = change_row_in after k d.content

  at_key : (k : ℕ) → change_at after (record { command = length after; place = k }) ≡ option_and_then (λ r. Some (keyed k (change_row_of after dim r))) (at_place k rs)
  at_key k =
      ap (option_map (keyed k)) (ap (option_and_then (row_in k)) (at_last commands c) ∙ ap (change_row_in after k) is)
      ∙ twice (keyed k) (change_row_of after dim) (at_place k rs)

  pub changes_planned : by_place (new_change dim (length after) (touched_by dim commands after rs).list) 1 rs ≡ filter_map (λ k. change_at after (record { command = length after; place = k })) (numbers_after 0 (length rs))
  changes_planned =
      let give = λ (k : ℕ) (r : DimensionRecord). Some (keyed k (change_row_of after dim r)) in
      by_place_same (new_change dim (length after) touched) give 1 rs (rows_are rs (all_among (naturals rs)))
      ∙ sym (behind_gives give rs [] rs refl)
      ∙ sym (filter_map_same (λ k. change_at after (record { command = length after; place = k })) (λ k. option_and_then (give k) (at_place k rs)) at_key (numbers_after 0 (length rs)))

-- for rows that a call gives
pub new_changes_planned : (dim : Dim) (command : ℕ) (touched : List Member) (rs : List DimensionRecord) (rows : List ChangeRow) → rows ≡ by_place (new_change dim command touched) 1 rs
    → (commands : List Accepted) (c : Accepted) → c.content ≡ Describes dim rs → touched ≡ (touched_by dim commands (commands ++ c ∷ []) rs).list → command ≡ length (commands ++ c ∷ [])
    → rows ≡ filter_map (λ k. change_at (commands ++ c ∷ []) (record { command = command; place = k })) (numbers_after 0 (length rs))
new_changes_planned dim command touched rs rows made commands c is list number =
    made
    ∙ ap (λ k. by_place (new_change dim k touched) 1 rs) number
    ∙ ap (λ ms. by_place (new_change dim (length (commands ++ c ∷ [])) ms) 1 rs) list
    ∙ changes_planned dim commands c rs is
    ∙ ap (λ n. filter_map (λ k. change_at (commands ++ c ∷ []) (record { command = n; place = k })) (numbers_after 0 (length rs))) (sym number)
