-- What a command is answered under one new id it is answered under each.
use Rattle.std.proofs.Common.{◌≡◌, ℕ, zero, suc, ◌-◌, true, List, [], ◌∷◌, ◌++◌, map, take, Option, Some, Result, Ok, Err, refl, sym, ap, subst, ◌∙◌}
use Rattle.std.specs.Prelude.{bytes_eq}
use Rattle.sqlite.specs.State.{State}
use Rattle.wh_policy.specs.declared.attribute.Dim.{Dim}
use Rattle.wh_policy.specs.declared.attribute.Dim.TheVariants.{Product, Store, Customer}
use Rattle.wh_policy.specs.declared.policy.Policy.{Policy}
use Rattle.wh_batch.specs.declared.kind.CommandKind.{CommandKind}
use Rattle.wh_history.specs.Keys.{distinct}
use Rattle.wh_history.specs.Accepted.{Accepted, Anchor, Content, Governs, Describes, Sells, Upgrades, Withdraws, anchors_by, format_of, members, members_after, mentions, placeholders_by}
use Rattle.wh_history.specs.Tables.{Limits}
use Rattle.wh_rows.specs.AtRest.{IsAtRest, Leaves}
use Rattle.wh_rows.specs.Types.{is_key}
use Rattle.wh_admission.specs.Admission.{accepted_after, accepted_as, answer, answer_with, content_of, current_policy, number_for, receipt_of, when_read}
use Rattle.wh_admission.specs.Answers.{IsNew as IsNewCommand}
use Rattle.wh_admission.specs.declared.command.Command.{Command}
use Rattle.wh_admission.specs.declared.command.Receipt.{Receipt}
use Rattle.wh_admission.specs.declared.command.Refusal.{Refusal}
use Rattle.wh_admission.specs.declared.command.Reply.{Reply}
use Rattle.wh_admission.specs.declared.command.Reply.TheVariants.{Accepted as Accepts}
use Rattle.wh_admission.proofs.AnswersByCases.{none_has, none_found}
use Rattle.wh_plan.specs.Edits.{AreEdits, Edits}
use Rattle.wh_engine.specs.Answered.{IsReady}
use Rattle.wh_engine.specs.Decided.{Decides, IsEffectOf, IsHeld, IsNew}
use Rattle.wh_engine.specs.Faults.{IsServed, Judges, stops}
use Rattle.wh_engine.specs.Previewed.{IsAnsweredAnew, IsForeseenAnew, IsPreviewOf, IsPreviewed, named}
use Rattle.wh_engine.specs.declared.decision.Decision.TheVariants.{Accept}
use Rattle.wh_engine.specs.declared.fault.Fault.{Fault}
use Rattle.wh_engine.specs.declared.preview.Preview.{Preview}
use Rattle.wh_engine.specs.declared.session.Session.{Session}
use Rattle.wh_engine.proofs.Decisions.{after_accepted, judged_ok, new_answer}
use Rattle.wh_engine.proofs.Outcomes.{fault_due, read_and_noted}
use Rattle.wh_engine.proofs.Performing.{held}

-- ---- the members do not depend on the last command's id

module _ (a b : Accepted) (same : a.content ≡ b.content) where
  same_mentions : (dim : Dim) (n : ℕ) (commands : List Accepted) → mentions dim (take n (commands ++ a ∷ [])) ≡ mentions dim (take n (commands ++ b ∷ []))
  same_mentions dim zero commands = refl
  same_mentions dim (suc n) [] = ap (λ (content : Content). anchors_by dim content ++ mentions dim (take n [])) same
  same_mentions dim (suc n) (c ∷ commands) = ap (λ (later : List Anchor). anchors_by dim c.content ++ later) (same_mentions dim n commands)

  same_members : (dim : Dim) (n : ℕ) (commands : List Accepted) → members dim (take n (commands ++ a ∷ [])) ≡ members dim (take n (commands ++ b ∷ []))
  same_members dim n commands = ap (λ (anchors : List Anchor). distinct bytes_eq (map (λ (anchor : Anchor). anchor.natural) anchors)) (same_mentions dim n commands)

  as_many_members : (n : ℕ) (commands : List Accepted) → members_after (take n (commands ++ a ∷ [])) ≡ members_after (take n (commands ++ b ∷ []))
  as_many_members n commands = rw (same_members Product n commands, same_members Store n commands, same_members Customer n commands) refl

  as_many_placeholders : (commands : List Accepted) (n : ℕ) (content : Content) → placeholders_by (commands ++ a ∷ []) n content ≡ placeholders_by (commands ++ b ∷ []) n content
  as_many_placeholders commands n (Governs policy) = refl
  as_many_placeholders commands n (Describes dim records) = refl
  as_many_placeholders commands n (Sells sales) = rw (as_many_members n commands, as_many_members (n - 1) commands) refl
  as_many_placeholders commands n Upgrades = refl
  as_many_placeholders commands n (Withdraws lines) = refl

  same_receipt : (commands : List Accepted) (n : ℕ) (content : Content) → receipt_of (commands ++ a ∷ []) n content ≡ receipt_of (commands ++ b ∷ []) n content
  same_receipt commands n content = rw (as_many_placeholders commands n content) refl

-- ---- the answer under two ids

module _ (limits : Limits) (commands : List Accepted) (kind : CommandKind) (bytes : List ℕ) where
  abbrev told : Result Content Refusal
  told = content_of kind (format_of commands) (current_policy commands) bytes

  by_content : (id : List ℕ) → IsNewCommand commands (named kind bytes id) → answer limits commands (named kind bytes id) ≡ when_read limits commands (named kind bytes id) told
  by_content id new = new_answer limits commands (named kind bytes id) new.good (none_found id commands new.others)

  module _ (id other : List ℕ) where
    alike_with : (content : Content) (number : Result ℕ Refusal) → answer_with commands (named kind bytes id) content number ≡ answer_with commands (named kind bytes other) content number
    alike_with content (Ok number) = ap (λ (receipt : Receipt). Ok (Accepts receipt)) (same_receipt (accepted_as (named kind bytes id) content) (accepted_as (named kind bytes other) content) refl commands number content)
    alike_with content (Err why) = refl

    alike_when_read : (read : Result Content Refusal) → when_read limits commands (named kind bytes id) read ≡ when_read limits commands (named kind bytes other) read
    alike_when_read (Ok content) = alike_with content (number_for limits commands content)
    alike_when_read (Err why) = refl

  -- A kind and bytes are answered alike under any two new ids.
  pub answered_alike : (id other : List ℕ) → IsNewCommand commands (named kind bytes id) → IsNewCommand commands (named kind bytes other) → answer limits commands (named kind bytes id) ≡ answer limits commands (named kind bytes other)
  answered_alike id other new anew = by_content id new ∙ alike_when_read id other told ∙ sym (by_content other anew)

-- ---- what is foreseen under one of them

module _ (limits : Limits) (commands : List Accepted) (c : Command) (good : is_key 40 c.id ≡ true) (new : IsNew commands c) where
  is_new_command : IsNewCommand commands c
  is_new_command = record { good = good; others = none_has c.id commands new }

  anew : (said : Result Reply Refusal) → answer limits commands c ≡ said → IsAnsweredAnew limits commands c.kind c.bytes said
  anew said is = record { each = λ id other. answered_alike limits commands c.kind c.bytes id c.id other is_new_command ∙ is; id = c.id; new = is_new_command }

  pub accept_previewed : (receipt : Receipt) (edits : Edits) (newer : Option Policy) → Judges (Decides commands c) (Ok (Accept receipt edits newer)) (answer limits commands c)
      → IsForeseenAnew limits commands c.kind c.bytes (Ok (record { receipt = receipt; edits = edits }))
  unfolding anew
  accept_previewed receipt edits newer judged =
      let (reply, is, fits) = judged_ok (Decides commands c) (Accept receipt edits newer) (answer limits commands c) judged in
      let said : answer limits commands c ≡ Ok (Accepts receipt) = is ∙ ap Ok fits.0 in
      let work : IsEffectOf commands c edits newer = fits.1 in
      let list : accepted_after limits commands c ≡ commands ++ accepted_as c work.content ∷ [] = after_accepted limits commands c receipt work.content said work.read in
      ((anew (Ok (Accepts receipt)) said, subst (λ after. AreEdits commands after edits) (sym list) work.edits_are), tt)

  pub fault_previewed : (fault : Fault) → Judges (Decides commands c) (Err fault) (answer limits commands c) → IsForeseenAnew limits commands c.kind c.bytes (Err fault)
  fault_previewed fault judged = fault_due (IsPreviewOf limits commands c.kind c.bytes) commands commands (Decides commands c) (answer limits commands c) fault judged (λ why is. anew (Err why) is)

-- ---- an engine

module _ (limits : Limits) (commands : List Accepted) (session : Session) (old new : State) (ready : IsReady limits commands session old) (kind : CommandKind) (bytes : List ℕ) where
  limits_are : session.limits ≡ limits
  limits_are = ap (λ (s : Session). s.limits) ready.session_is

  pub held_then : IsHeld session commands ready.rests.tables
  held_then = held limits commands (named kind bytes []) session old ready

  pub previewed : (result : Result Preview Fault) → IsForeseenAnew session.limits commands kind bytes result → (IsServed result → IsAtRest (Some ready.rests.tables) new) → Leaves (Some ready.rests.tables) new
      → IsPreviewed limits commands kind bytes result (record session { must_reopen = stops result }) new
  previewed result foreseen rests left =
      read_and_noted limits commands session old new ready (IsPreviewOf limits commands kind bytes) left result (subst (λ l. IsForeseenAnew l commands kind bytes result) limits_are foreseen) rests
