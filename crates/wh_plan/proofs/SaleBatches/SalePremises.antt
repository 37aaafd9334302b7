-- What holds of a batch of sales, where the list with it is one that can have been accepted.
use Rattle.std.proofs.Common.{◌≡◌, suc, ◌≤◌, ◌||◌, Bool, false, List, [], ◌∷◌, ◌++◌, length, refl, sym, ap, ◌∙◌, subst, arith}
use Rattle.std.specs.Prelude.{is_some, filter_map}
use Rattle.std.specs.List.{AllByRecursion, IsDistinct, list_any}
use Rattle.std.proofs.lemmas.List.{length-map}
use Rattle.wh_policy.specs.declared.attribute.Dim.{Dim}
use Rattle.wh_policy.specs.declared.record.SaleRecord.{SaleRecord}
use Rattle.wh_history.specs.declared.plan.Edit.TheVariants.{Put}
use Rattle.wh_history.specs.Accepted.{Accepted, Sells, anchors, members, placeholders_by, sold}
use Rattle.wh_history.specs.Tables.{Limits}
use Rattle.wh_history.proofs.Basics.{or_none}
use Rattle.wh_history.proofs.Lists.{all_back}
use Rattle.wh_rows.specs.declared.key.LineKey.{LineKey}
use Rattle.wh_plan.specs.BatchRows.{IsNewLine, new_members}
use Rattle.wh_model.specs.Defined.{fact_at, member_at, void_at}
use Rattle.wh_plan.specs.Edits.{Edits, AreEdits}
use Rattle.wh_model.specs.Sound.{same_line, IsAccepted}
use Rattle.wh_plan.proofs.BatchPlans.{members_are}
use Rattle.wh_plan.proofs.SaleBatches.SalesEdits.{members_joined, all_counted}
use Rattle.wh_model.proofs.SameLines.{line_known}
use Rattle.wh_plan.proofs.SaleBatches.Selling.{sold_more}
use Rattle.wh_model.proofs.SmallNumbers.{anchors_few, members_few}
use Rattle.wh_model.proofs.CountedLines.{is_absent}

-- ---- the second part of a list whose elements are distinct

distinct_after : {X : Type 0} (same : X → X → Bool) (xs ys : List X) → IsDistinct same (xs ++ ys) → IsDistinct same ys
unfolding IsDistinct
distinct_after same [] ys once = once
distinct_after same (x ∷ xs) ys once = distinct_after same xs ys once.1

none_of_more : {X : Type 0} (same : X → X → Bool) (x : X) (xs ys : List X) → AllByRecursion (λ y. same x y ≡ false) ys → AllByRecursion (λ y. list_any (λ t. same t y) xs ≡ false) ys
    → AllByRecursion (λ y. list_any (λ t. same t y) (x ∷ xs) ≡ false) ys
none_of_more same x xs [] here rest = tt
none_of_more same x xs (y ∷ ys) here rest = (ap (λ b. b || list_any (λ t. same t y) xs) here.0 ∙ rest.0, none_of_more same x xs ys here.1 rest.1)

none_of_none : {X : Type 0} (same : X → X → Bool) (ys : List X) → AllByRecursion (λ y. list_any (λ t. same t y) [] ≡ false) ys
none_of_none same [] = tt
none_of_none same (y ∷ ys) = (refl, none_of_none same ys)

none_before : {X : Type 0} (same : X → X → Bool) (xs ys : List X) → IsDistinct same (xs ++ ys) → AllByRecursion (λ y. list_any (λ t. same t y) xs ≡ false) ys
unfolding IsDistinct
none_before same [] ys once = none_of_none same ys
none_before same (x ∷ xs) ys once = none_of_more same x xs ys (all_back (λ y. same x y ≡ false) xs ys once.0) (none_before same xs ys once.1)

-- ---- a line that was not sold is new

each_new : (limits : Limits) (commands : List Accepted) → IsAccepted limits commands → (sales : List SaleRecord) → AllByRecursion (λ s. list_any (λ t. same_line t s) (sold commands) ≡ false) sales → AllByRecursion (IsNewLine commands) sales
each_new limits commands before [] new = tt
each_new limits commands before (s ∷ sales) new =
    let line : LineKey = record { ticket = s.ticket; line = s.line } in
    let neither = or_none (is_some (fact_at commands line)) (is_some (void_at commands line)) (sym (line_known commands s limits before) ∙ new.0) in
    ((is_absent (fact_at commands line) neither.0, is_absent (void_at commands line) neither.1), each_new limits commands before sales new.1)

module _ (limits : Limits) (commands : List Accepted) (c : Accepted) (ok : IsAccepted limits (commands ++ c ∷ [])) where
  all_distinct : (sales : List SaleRecord) → c.content ≡ Sells sales → IsDistinct same_line (sold commands ++ sales)
  all_distinct sales is = subst (IsDistinct same_line) (sold_more commands c sales is) ok.lines

  pub lines_distinct : (sales : List SaleRecord) → c.content ≡ Sells sales → IsDistinct same_line sales
  lines_distinct sales is = distinct_after same_line (sold commands) sales (all_distinct sales is)

  pub lines_new : IsAccepted limits commands → (sales : List SaleRecord) → c.content ≡ Sells sales → AllByRecursion (IsNewLine commands) sales
  lines_new before sales is = each_new limits commands before sales (none_before same_line (sold commands) sales (all_distinct sales is))

  pub numbers_small : (dim : Dim) → (length (members dim (commands ++ c ∷ [])) ≤ 9999999) × (length (anchors dim (commands ++ c ∷ [])) ≤ 9999999)
  numbers_small dim = (let few = members_few limits (commands ++ c ∷ []) ok dim in omega arith, let few = anchors_few limits (commands ++ c ∷ []) ok dim in omega arith)

-- as many members are new as the receipt counts
pub members_counted : (commands : List Accepted) (c : Accepted) (sales : List SaleRecord) (edits : Edits) → c.content ≡ Sells sales → AreEdits commands (commands ++ c ∷ []) edits → length edits.members ≡ placeholders_by (commands ++ c ∷ []) (suc (length commands)) c.content
members_counted commands c sales edits is are =
    ap length (members_are commands c edits.members are.members) ∙ length-map (filter_map (member_at (commands ++ c ∷ [])) (new_members commands (commands ++ c ∷ []))) Put
    ∙ ap length (sym (members_joined commands c sales is)) ∙ all_counted commands c sales is
