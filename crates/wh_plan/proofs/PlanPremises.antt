-- What holds of the commands before a batch, where the list with it is one that can have been accepted.
use Rattle.std.proofs.Common.{◌≡◌, ℕ, ◌≤◌, true, List, [], ◌∷◌, ◌++◌, length, ap, ◌∙◌, subst, arith}
use Rattle.std.specs.Prelude.{◌≢◌}
use Rattle.std.specs.List.{AllByRecursion}
use Rattle.std.proofs.lemmas.List.{length-append}
use Rattle.wh_day.specs.Day.{is_day}
use Rattle.wh_policy.specs.declared.attribute.Dim.{Dim}
use Rattle.wh_policy.specs.declared.record.DimensionRecord.{DimensionRecord}
use Rattle.wh_history.specs.Accepted.{Accepted, Anchor, anchors, members, described, described_by}
use Rattle.wh_history.specs.Laws.{RecordsHaveDays}
use Rattle.wh_history.specs.Tables.{Limits}
use Rattle.wh_history.proofs.Growth.{anchors-append, members-append}
use Rattle.wh_history.proofs.Joins.{all_weaker}
use Rattle.wh_history.proofs.Untouched.{described-last}
use Rattle.wh_history.proofs.Lists.{all_front}
use Rattle.wh_plan.specs.Reading.{HaveNoEmptyValue}
use Rattle.wh_model.specs.Sound.{IsGivenValue, IsGoodRecord, IsAccepted}
use Rattle.wh_model.proofs.SmallNumbers.{anchors_few, members_few}
use Rattle.wh_plan.proofs.FoundChanges.{HasNoEmptyValue}

abbrev HasDay : DimensionRecord → Type 0
HasDay r = is_day r.day ≡ true

given_some : (values : List (List ℕ)) → AllByRecursion IsGivenValue values → AllByRecursion (λ text. text ≢ []) values
given_some values all = all_weaker IsGivenValue (λ text. text ≢ []) (λ text given. given.1) values all

module _ (limits : Limits) (commands : List Accepted) (c : Accepted) (ok : IsAccepted limits (commands ++ c ∷ [])) where
  good_before : (dim : Dim) → AllByRecursion IsGoodRecord (described dim commands)
  good_before dim = all_front IsGoodRecord (described dim commands) (described_by dim c.content) (subst (AllByRecursion IsGoodRecord) (described-last dim commands c) (ok.records dim))

  pub days_after : RecordsHaveDays (commands ++ c ∷ [])
  days_after dim = all_weaker IsGoodRecord HasDay (λ r good. good.day) (described dim (commands ++ c ∷ [])) (ok.records dim)

  pub days_before : RecordsHaveDays commands
  days_before dim = all_weaker IsGoodRecord HasDay (λ r good. good.day) (described dim commands) (good_before dim)

  pub values_before : HaveNoEmptyValue commands
  values_before dim = all_weaker IsGoodRecord HasNoEmptyValue (λ r good. given_some r.values good.values) (described dim commands) (good_before dim)

  pub anchors_before : (dim : Dim) → length (anchors dim commands) ≤ 9999999
  anchors_before dim =
      let all = anchors_few limits (commands ++ c ∷ []) ok dim in
      let grown = ap (λ (as' : List Anchor). length as') (anchors-append dim commands (c ∷ [])) in
      let longer = grown ∙ length-append (anchors dim commands) _ in
      omega arith

  pub members_before : (dim : Dim) → length (members dim commands) ≤ 9999999
  members_before dim =
      let all = members_few limits (commands ++ c ∷ []) ok dim in
      let grown = ap (λ (ns : List (List ℕ)). length ns) (members-append dim commands (c ∷ [])) in
      let longer = grown ∙ length-append (members dim commands) _ in
      omega arith
