-- What is left of a command that was decided, written or refused.
use Rattle.std.proofs.Common.{◌≡◌, ◌⊎◌, inl, inr, ℕ, Bool, true, false, List, [], ◌∷◌, ◌++◌, Option, Some, None, Ok, Err, refl, sym, ap, subst, ◌∙◌}
use Rattle.std.specs.Prelude.{unwrap_or, IsTrue}
use Rattle.sqlite.specs.Tree.{Trees}
use Rattle.sqlite.specs.State.{State}
use Rattle.wh_policy.specs.Policy.{trial_policy}
use Rattle.wh_policy.specs.declared.format.Format.{Format}
use Rattle.wh_policy.specs.declared.format.Format.TheVariants.{One}
use Rattle.wh_policy.specs.declared.policy.Policy.{Policy}
use Rattle.wh_batch.specs.declared.kind.CommandKind.{CommandKind}
use Rattle.wh_batch.specs.declared.kind.CommandKind.TheVariants.{Batch, Migration, Upgrade}
use Rattle.wh_batch.specs.declared.kind.BatchKind.TheVariants.{Dimension, Sales, Voids}
use Rattle.wh_batch.proofs.GoodLemmas.{bind_ok}
use Rattle.wh_history.specs.Accepted.{Accepted, Content, Governs, Describes, Sells, Upgrades, Withdraws, format_of, formatted, policy_after}
use Rattle.wh_history.specs.Tables.{Limits}
use Rattle.wh_rows.specs.AtRest.{AreTrees, IsAtRest, Leaves}
use Rattle.wh_rows.specs.Tables.{Tables}
use Rattle.wh_admission.specs.Admission.{judged_records, judged_sales, judged_voids, judged_policy, content_of, format_brought, accepted_as, answer, accepted_after, current_policy, AreAdmitted}
use Rattle.wh_engine.specs.Answered.{AreTreesOf, LeavesOneOf, IsReady, IsPerformed, IsPlanOf, IsWritten, IsForeseen}
use Rattle.wh_engine.specs.Decided.{IsHeld, IsEffectOf, Decides}
use Rattle.wh_model.specs.Defined.{AreOf}
use Rattle.wh_engine.specs.Faults.{IsServed, Judges}
use Rattle.wh_plan.specs.Edits.{Edits, AreEdits, UpgradesTo, no_edits, edit_count, with_all_edits}
use Rattle.wh_model.specs.Sound.{IsAccepted}
use Rattle.wh_plan.specs.Writable.{MayBeWritten}
use Rattle.wh_admission.specs.declared.command.Command.{Command}
use Rattle.wh_admission.specs.declared.command.Receipt.{Receipt}
use Rattle.wh_admission.specs.declared.command.Refusal.{Refusal}
use Rattle.wh_admission.specs.declared.command.Reply.{Reply}
use Rattle.wh_admission.specs.declared.command.Reply.TheVariants.{Accepted as Accepts, Already}
use Rattle.wh_engine.specs.declared.decision.Decision.{Decision}
use Rattle.wh_engine.specs.declared.decision.Decision.TheVariants.{Repeat, Accept}
use Rattle.wh_engine.specs.declared.fault.Fault.{Fault}
use Rattle.wh_engine.specs.declared.session.Session.{Session}
use Rattle.wh_engine.proofs.Decisions.{judged_ok, after_repeat, after_accepted}
use Rattle.wh_engine.proofs.Outcomes.{fault_due, still_ready, unanswered}
use Rattle.wh_model.proofs.Formatted.{format_with}
use Rattle.wh_plan.proofs.MayBeWritten.{a_command_may_be_written}
use Rattle.wh_admission.proofs.Migrated.{policy_with, newer_in_force}
use Rattle.wh_admission.proofs.StaysAccepted.{stays_accepted}
use Rattle.wh_admission.proofs.Admitted.{admitted_sound, admitted_after}
use Rattle.wh_plan.proofs.WrittenEdits.{edits_are_written, no_edits_stay}

-- what the bytes of a command say makes the format that its kind brings
makes_format : (kind : CommandKind) (format : Format) (policy : Policy) (bytes : List ℕ) (content : Content) → content_of kind format policy bytes ≡ Ok content → (before : Format) → formatted before content ≡ format_brought kind before
makes_format (Batch (Dimension dim)) format policy bytes content told before =
    let (records, given, last) = bind_ok (judged_records dim policy bytes) (λ records. Ok (Describes dim records)) content told in
    let e : Describes dim records ≡ content = cc in
    rw (← e) refl
makes_format (Batch Sales) format policy bytes content told before =
    let (sales, given, last) = bind_ok (judged_sales format policy bytes) (λ sales. Ok (Sells sales)) content told in
    let e : Sells sales ≡ content = cc in
    rw (← e) refl
makes_format (Batch Voids) format policy bytes content told before =
    let (voids, given, last) = bind_ok (judged_voids format bytes) (λ voids. Ok (Withdraws voids)) content told in
    let e : Withdraws voids ≡ content = cc in
    rw (← e) refl
makes_format Migration format policy bytes content told before =
    let (newer, given, last) = bind_ok (judged_policy policy bytes) (λ newer. Ok (Governs newer)) content told in
    let e : Governs newer ≡ content = cc in
    rw (← e) refl
makes_format Upgrade format policy bytes content told before =
    let e : Upgrades ≡ content = cc in
    rw (← e) refl

-- the second format is made of the first
made_of_first : (upgrades : Bool) (before after : Format) → UpgradesTo upgrades before after → IsTrue upgrades → before ≡ One
made_of_first true before after leads is = leads.0
made_of_first false before after leads is = absurd cc

held_as : (limits : Limits) (commands : List Accepted) (session : Session) (t : Tables) → session ≡ record { limits = limits; format = format_of commands; policy = current_policy commands; must_reopen = false } → IsAccepted limits commands → AreOf limits commands t → IsHeld session commands t
held_as limits commands session t is accepted are = rw is (record { accepted = accepted; are = are; format = refl; policy = refl })

module _ (limits : Limits) (commands : List Accepted) (c : Command) (session : Session) (old : State) (ready : IsReady limits commands session old) where
  abbrev tables : Tables
  tables = ready.rests.tables

  sound : IsAccepted limits commands
  sound = admitted_sound limits commands ready.admitted

  limits_are : session.limits ≡ limits
  limits_are = ap (λ (s : Session). s.limits) ready.session_is

  pub held : IsHeld session commands tables
  held = held_as limits commands session tables ready.session_is sound ready.rests.are

  kept_ready : (new : State) (list : List Accepted) → list ≡ commands → IsAtRest (Some tables) new → IsReady limits list session new
  kept_ready new list same rests = rw same (still_ready limits commands session old new ready rests)

  -- a refusal that was judged is the command's
  refusal_is : (why : Refusal) → answer session.limits commands c ≡ Err why → answer limits commands c ≡ Err why
  refusal_is why is = ap (λ l. answer l commands c) (sym limits_are) ∙ is

  -- it came again
  pub repeat_performed : (receipt : Receipt) (new : State) → Judges (Decides commands c) (Ok (Repeat receipt)) (answer session.limits commands c) → IsAtRest (Some tables) new
      → IsPerformed limits commands c (Ok (Already receipt)) session new
  repeat_performed receipt new judged rests =
      let (reply, is, same) = judged_ok (Decides commands c) (Repeat receipt) (answer session.limits commands c) judged in
      let said : answer limits commands c ≡ Ok (Already receipt) = ap (λ l. answer l commands c) (sym limits_are) ∙ is ∙ ap Ok same in
      (said, kept_ready new _ (after_repeat limits commands c receipt said) rests)

  -- it was refused, or couldn't be decided
  pub fault_performed : (fault : Fault) (new : State) → Judges (Decides commands c) (Err fault) (answer session.limits commands c) → (IsServed {A = Decision} (Err fault) → IsAtRest (Some tables) new) → Leaves (Some tables) new
      → IsPerformed limits commands c (Err fault) session new
  fault_performed fault new judged rests left =
      let due = fault_due (λ told. answer limits commands c ≡ told) commands (accepted_after limits commands c) (Decides commands c) _ fault judged refusal_is in
      unanswered limits commands session old new ready (λ told. answer limits commands c ≡ told) left Decision (accepted_after limits commands c) fault due rests

  -- what a plan says of it
  pub repeat_foreseen : (receipt : Receipt) (new : State) → Judges (Decides commands c) (Ok (Repeat receipt)) (answer session.limits commands c) → IsAtRest (Some tables) new → IsForeseen limits commands c (Ok no_edits) session new
  repeat_foreseen receipt new judged rests =
      let (reply, is, same) = judged_ok (Decides commands c) (Repeat receipt) (answer session.limits commands c) judged in
      let said : answer limits commands c ≡ Ok (Already receipt) = ap (λ l. answer l commands c) (sym limits_are) ∙ is ∙ ap Ok same in
      let same = subst (λ list. AreEdits commands list no_edits) (sym (after_repeat limits commands c receipt said)) (no_edits_stay commands) in
      (((Already receipt, said), same), still_ready limits commands session old new ready rests)

  pub fault_foreseen : (fault : Fault) (new : State) → Judges (Decides commands c) (Err fault) (answer session.limits commands c) → (IsServed {A = Decision} (Err fault) → IsAtRest (Some tables) new) → Leaves (Some tables) new
      → IsForeseen limits commands c (Err fault) session new
  fault_foreseen fault new judged rests left =
      let due = fault_due (IsPlanOf limits commands c) commands commands (Decides commands c) _ fault judged refusal_is in
      unanswered limits commands session old new ready (IsPlanOf limits commands c) left Decision commands fault due rests

  -- ---- it is accepted

  module _ (receipt : Receipt) (edits : Edits) (newer : Option Policy) (judged : Judges (Decides commands c) (Ok (Accept receipt edits newer)) (answer session.limits commands c)) where
    abbrev decided : (reply : Reply) × (answer session.limits commands c ≡ Ok reply) × Decides commands c (Accept receipt edits newer) reply
    decided = judged_ok (Decides commands c) (Accept receipt edits newer) (answer session.limits commands c) judged

    said : answer limits commands c ≡ Ok (Accepts receipt)
    said = ap (λ l. answer l commands c) (sym limits_are) ∙ decided.1 ∙ ap Ok decided.2.0

    abbrev work : IsEffectOf commands c edits newer
    work = decided.2.1

    abbrev added : Accepted
    added = accepted_as c work.content

    list_is : accepted_after limits commands c ≡ commands ++ added ∷ []
    list_is = after_accepted limits commands c receipt work.content said work.read

    accepted : IsAccepted limits (commands ++ added ∷ [])
    accepted = subst (IsAccepted limits) list_is (stays_accepted limits commands c sound)

    pub may_write : MayBeWritten edits
    may_write = a_command_may_be_written limits commands added tables edits accepted ready.rests.are work.edits_are

    -- the tables of the second format are made over those of the first alone
    pub may_upgrade : IsTrue edits.upgrades → tables.format ≡ One
    may_upgrade is = ready.rests.are.format ∙ made_of_first edits.upgrades (format_of commands) (format_of (commands ++ added ∷ [])) work.edits_are.upgrades is

    written : AreOf limits (commands ++ added ∷ []) (with_all_edits edits tables)
    written = edits_are_written limits commands (commands ++ added ∷ []) tables edits ready.rests.are work.edits_are

    pub accept_foreseen : (new : State) → IsAtRest (Some tables) new → IsForeseen limits commands c (Ok edits) session new
    accept_foreseen new rests = (((Accepts receipt, said), subst (λ list. AreEdits commands list edits) (sym list_is) work.edits_are), still_ready limits commands session old new ready rests)

    -- the policy that it gives, or else the one before, is in force
    now_in_force : unwrap_or newer (current_policy commands) ≡ current_policy (commands ++ added ∷ [])
    now_in_force =
        ap (λ o. unwrap_or o (current_policy commands)) work.newer_is ∙ sym (newer_in_force (policy_after None commands) work.content trial_policy)
        ∙ ap (λ o. unwrap_or o trial_policy) (sym (policy_with None commands added))

    -- and so is the format that its kind brings
    format_then : format_brought c.kind (format_of commands) ≡ format_of (commands ++ added ∷ [])
    format_then = sym (makes_format c.kind (format_of commands) (current_policy commands) c.bytes work.content work.read (format_of commands)) ∙ sym (format_with One commands added)

    abbrev governed : Session
    governed = record session { format = format_brought c.kind session.format; policy = unwrap_or newer session.policy }

    governed_is : governed ≡ record { limits = limits; format = format_of (commands ++ added ∷ []); policy = current_policy (commands ++ added ∷ []); must_reopen = false }
    governed_is =
        ap (λ (s : Session). record s { format = format_brought c.kind s.format; policy = unwrap_or newer s.policy }) ready.session_is
        ∙ (λ i. record { limits = limits; format = format_then i; policy = now_in_force i; must_reopen = false })

    -- its edits were kept
    pub accept_performed : (new : State) → IsAtRest (Some (with_all_edits edits tables)) new → IsPerformed limits commands c (Ok (Accepts receipt)) governed new
    accept_performed new rests =
        let after : IsReady limits (commands ++ added ∷ []) governed new = record {
          admitted = subst (AreAdmitted limits) list_is (admitted_after limits commands c ready.admitted);
          rests = record { tables = with_all_edits edits tables; are = written; rests = rests };
          session_is = governed_is;
        } in
        (said, rw list_is after)

    pub writes_counted : (writes : ℕ) → writes ≡ edit_count edits → IsWritten limits commands c (Ok (Accepts receipt)) writes
    writes_counted writes counted = (edits, subst (λ list. AreEdits commands list edits) (sym list_is) work.edits_are, counted)

    -- or the database refused them
    pub stop_performed : (new : State) → ((trees : Trees) → new.may_leave trees → AreTrees (Some tables) trees ⊎ AreTrees (Some (with_all_edits edits tables)) trees) → LeavesOneOf limits commands (accepted_after limits commands c) new
    stop_performed new left = record {
      each = λ trees may. elim (left trees may) [
        | inl before ↦ inl (record { tables = tables; are = ready.rests.are; trees_are = before })
        | inr after ↦ inr (subst (λ list. AreTreesOf limits list trees) (sym list_is) (record { tables = with_all_edits edits tables; are = written; trees_are = after }))
      ];
    }
