-- Commands that come one after the other.
use Rattle.std.proofs.Common.{◌≡◌, ◌≢◌, ℕ, suc, ◌<◌, Bool, false, inr, arith, List, [], ◌∷◌, ◌++◌, length, take, Some, Result, Ok, Err, refl, sym, ap, subst, ◌∙◌}
use Rattle.sqlite.specs.State.{State}
use Rattle.wh_history.specs.Accepted.{Accepted}
use Rattle.wh_history.specs.Tables.{Limits}
use Rattle.wh_admission.specs.Admission.{answer, after_answer, accepted_after, accepted_after_all}
use Rattle.wh_policy.specs.declared.policy.Policy.{Policy}
use Rattle.wh_engine.specs.Answered.{IsReady, IsStopped, IsAnswered, IsGoverned, KeepsNothing, IsNotAccepted, IsWritten}
use Rattle.wh_engine.specs.Delivered.{answers_to, answer_or_stop, AcceptsNothing, AcceptNothing, AreAsMany, AreLed, EachUntilAccepted, IsDelivered, IsLastWritten, as_called, is_of_the_store}
use Rattle.wh_engine.specs.Faults.{TellsTaken, stops}
use Rattle.wh_engine.specs.Nights.{DeliveriesJoin}
use Rattle.wh_admission.specs.declared.command.Command.{Command}
use Rattle.wh_admission.specs.declared.command.Refusal.{Refusal}
use Rattle.wh_admission.specs.declared.command.Reply.{Reply}
use Rattle.wh_admission.specs.declared.command.Reply.TheVariants.{Accepted as Accepts, Already}
use Rattle.wh_engine.specs.declared.fault.Fault.{Fault}
use Rattle.wh_engine.specs.declared.fault.Fault.TheVariants as faults
use Rattle.wh_engine.specs.declared.session.Session.{Session}

-- ---- in two parts

pub deliveries_join : DeliveriesJoin
deliveries_join limits commands [] more = refl
deliveries_join limits commands (c ∷ first) more = deliveries_join limits (accepted_after limits commands c) first more

pub answers_join : (limits : Limits) (commands : List Accepted) (first more : List Command) → answers_to limits commands (first ++ more) ≡ answers_to limits commands first ++ answers_to limits (accepted_after_all limits commands first) more
answers_join limits commands [] more = refl
answers_join limits commands (c ∷ first) more = ap (λ answers. answer limits commands c ∷ answers) (answers_join limits (accepted_after limits commands c) first more)

pub as_many_answers : (limits : Limits) (commands : List Accepted) (sent : List Command) → length (answers_to limits commands sent) ≡ length sent
as_many_answers limits commands [] = refl
as_many_answers limits commands (c ∷ sent) = ap suc (as_many_answers limits (accepted_after limits commands c) sent)

-- ---- one answer

pub goes_on : (limits : Limits) (commands : List Accepted) (c : Command) (answered : Result Reply Fault) (told : Result Reply Refusal) (session : Session) (s : State)
    → IsAnswered limits commands c answered session s → answer_or_stop answered ≡ Ok told → (told ≡ answer limits commands c) × IsReady limits (accepted_after limits commands c) session s
goes_on limits commands c (Ok reply) told session s is e =
    let same : told ≡ Ok reply = cc in
    (same ∙ sym is.0, is.1)
goes_on limits commands c (Err (faults.Refused why)) told session s is e =
    let same : told ≡ Err why = cc in
    (same ∙ sym is.0, subst (λ list. IsReady limits list session s) (sym (ap (after_answer commands c) is.0)) is.1)
goes_on limits commands c (Err (faults.Damaged table)) told session s is e = absurd is
goes_on limits commands c (Err faults.Memory) told session s is e = absurd cc
goes_on limits commands c (Err (faults.Store cause)) told session s is e = absurd cc
goes_on limits commands c (Err faults.Reopen) told session s is e = absurd is

-- an answer is no refusal of the database
pub not_stopped : (answered : Result Reply Fault) (told : Result Reply Refusal) → answer_or_stop answered ≡ Ok told → stops answered ≡ false
not_stopped (Ok reply) told e = refl
not_stopped (Err (faults.Refused why)) told e = refl
not_stopped (Err (faults.Damaged table)) told e = refl
not_stopped (Err faults.Memory) told e = refl
not_stopped (Err (faults.Store cause)) told e = absurd cc
not_stopped (Err faults.Reopen) told e = refl

-- an answer that accepts nothing keeps what there was
pub keeps : (answered : Result Reply Fault) (told : Result Reply Refusal) → answer_or_stop answered ≡ Ok told → AcceptsNothing told → KeepsNothing answered × IsNotAccepted answered
keeps (Ok (Accepts receipt)) told e nothing = absurd (let same : told ≡ Ok (Accepts receipt) = cc in subst AcceptsNothing same nothing)
keeps (Ok (Already receipt)) told e nothing = (tt, tt)
keeps (Err (faults.Refused why)) told e nothing = (tt, tt)
keeps (Err (faults.Damaged table)) told e nothing = (tt, tt)
keeps (Err faults.Memory) told e nothing = (tt, tt)
keeps (Err (faults.Store cause)) told e nothing = absurd cc
keeps (Err faults.Reopen) told e nothing = (tt, tt)

-- and so does a stop but of the store
pub keeps_at_stop : (answered : Result Reply Fault) (fault : Fault) → answer_or_stop answered ≡ Err fault → is_of_the_store (Some fault) ≡ false → KeepsNothing answered
keeps_at_stop (Ok reply) fault e off = absurd cc
keeps_at_stop (Err (faults.Refused why)) fault e off = tt
keeps_at_stop (Err (faults.Damaged table)) fault e off = tt
keeps_at_stop (Err faults.Memory) fault e off = tt
keeps_at_stop (Err (faults.Store cause)) fault e off = absurd (let same : fault ≡ faults.Store cause = cc in let on = ap (λ (f : Fault). is_of_the_store (Some f)) same in cc)
keeps_at_stop (Err faults.Reopen) fault e off = tt

-- what a stop is
pub stop_is : (answered : Result Reply Fault) (fault : Fault) → answer_or_stop answered ≡ Err fault → answered ≡ Err fault
stop_is (Ok reply) fault e = absurd cc
stop_is (Err (faults.Refused why)) fault e = absurd cc
stop_is (Err (faults.Damaged table)) fault e = cc
stop_is (Err faults.Memory) fault e = cc
stop_is (Err (faults.Store cause)) fault e = cc
stop_is (Err faults.Reopen) fault e = cc

-- ---- the end of a delivery

pub stopped_at : (limits : Limits) (held : List Accepted) (sent : List Command) (c : Command) (answers : List (Result Reply Refusal)) (answered : Result Reply Fault) (fault : Fault) (session : Session) (s : State)
    → answers ≡ answers_to limits held (take (length answers) sent) → length answers < length sent → take (suc (length answers)) sent ≡ take (length answers) sent ++ c ∷ []
    → IsAnswered limits (accepted_after_all limits held (take (length answers) sent)) c answered session s → answer_or_stop answered ≡ Err fault → IsDelivered limits held sent answers (Some fault) session s
stopped_at limits held sent c answers (Ok reply) fault session s are within more is e = absurd cc
stopped_at limits held sent c answers (Err (faults.Refused why)) fault session s are within more is e = absurd cc
stopped_at limits held sent c answers (Err (faults.Damaged table)) fault session s are within more is e = absurd is
stopped_at limits held sent c answers (Err faults.Memory) fault session s are within more is e =
    let same : fault ≡ faults.Memory = cc in
    subst (λ (f : Fault). IsDelivered limits held sent answers (Some f) session s) (sym same) (are, inr within, is)
stopped_at limits held sent c answers (Err (faults.Store cause)) fault session s are within more is e =
    let same : fault ≡ faults.Store cause = cc in
    let next = ap (accepted_after_all limits held) more ∙ deliveries_join limits held (take (length answers) sent) (c ∷ []) in
    subst (λ (f : Fault). IsDelivered limits held sent answers (Some f) session s) (sym same)
    (are, within, subst (λ list. IsStopped limits (accepted_after_all limits held (take (length answers) sent)) list session s) (sym next) is)
stopped_at limits held sent c answers (Err faults.Reopen) fault session s are within more is e = absurd is

-- ---- lists that accept nothing

pub nothing_before : (answers : List (Result Reply Refusal)) (told : Result Reply Refusal) → AcceptNothing (answers ++ told ∷ []) → AcceptNothing answers × AcceptsNothing told
nothing_before [] told all = (tt, all.0)
nothing_before (a ∷ answers) told all =
    let rest = nothing_before answers told all.1 in
    ((all.0, rest.0), rest.1)

-- where nothing is accepted the policy stays
pub policy_stays : (old new : Policy) (c : Command) (answered : Result Reply Fault) → IsGoverned old new c answered → IsNotAccepted answered → new ≡ old
policy_stays old new c (Ok (Accepts receipt)) governed none = absurd none
policy_stays old new c (Ok (Already receipt)) governed none = governed
policy_stays old new c (Err fault) governed none = governed

-- ---- policy and format after a delivery

module _ {X : Type 0} (Leads : X → X → Command → Result Reply Fault → Type 0) where
  -- after one more command
  pub led_on : (old mid new : X) (answers : List (Result Reply Refusal)) (told : Result Reply Refusal) (sent : List Command) (c : Command)
      → AreLed Leads old mid answers sent → length sent ≡ length answers → Leads mid new c (as_called told) → AreLed Leads old new (answers ++ told ∷ []) (sent ++ c ∷ [])
  led_on old mid new [] told [] c so same is = (new, subst (λ p. Leads p new c (as_called told)) so is, refl)
  led_on old mid new [] told (d ∷ sent) c so same is = absurd (omega (arith, same))
  led_on old mid new (a ∷ answers) told [] c so same is = absurd so
  led_on old mid new (a ∷ answers) told (d ∷ sent) c so same is = (so.0, so.1, led_on so.0 mid new answers told sent c so.2 (omega (arith, same)) is)

  -- of commands that have their answers, among more of them
  pub led_among : (old new : X) (answers : List (Result Reply Refusal)) (sent more : List Command) → AreLed Leads old new answers sent → AreLed Leads old new answers (sent ++ more)
  led_among old new [] sent more so = so
  led_among old new (a ∷ answers) [] more so = absurd so
  led_among old new (a ∷ answers) (c ∷ sent) more so = (so.0, so.1, led_among so.0 new answers sent more so.2)

-- what each answer says up to the first by which something was accepted
module _ (Says : Command → Result Reply Fault → Type 0) where
  pub until_on : (answers : List (Result Reply Refusal)) (told : Result Reply Refusal) (sent : List Command) (c : Command)
      → EachUntilAccepted Says answers sent → length sent ≡ length answers → (AcceptNothing answers → Says c (as_called told)) → EachUntilAccepted Says (answers ++ told ∷ []) (sent ++ c ∷ [])
  until_on [] told [] c so same is = (is tt, λ nothing. tt)
  until_on [] told (d ∷ sent) c so same is = absurd (omega (arith, same))
  until_on (a ∷ answers) told [] c so same is = absurd so
  until_on (a ∷ answers) told (d ∷ sent) c so same is = (so.0, λ nothing. until_on answers told sent c (so.1 nothing) (omega (arith, same)) (λ others. is (nothing, others)))

  pub until_among : (answers : List (Result Reply Refusal)) (sent more : List Command) → EachUntilAccepted Says answers sent → EachUntilAccepted Says answers (sent ++ more)
  until_among [] sent more so = tt
  until_among (a ∷ answers) [] more so = absurd so
  until_among (a ∷ answers) (c ∷ sent) more so = (so.0, λ nothing. until_among answers sent more (so.1 nothing))

-- what is told of a name after a call is so before, where nothing was accepted
pub taken_before : (before after : Bool) (result : Result Reply Fault) → (KeepsNothing result → after ≡ before) → TellsTaken after result → TellsTaken before result
taken_before before after (Ok reply) same told = tt
taken_before before after (Err (faults.Refused why)) same told = subst (λ taken. TellsTaken {A = Reply} taken (Err (faults.Refused why))) (same tt) told
taken_before before after (Err (faults.Damaged table)) same told = tt
taken_before before after (Err faults.Memory) same told = tt
taken_before before after (Err (faults.Store cause)) same told = tt
taken_before before after (Err faults.Reopen) same told = tt

-- a stop is kept in the session
pub flag_at_stop : (fault : Fault) → stops {A = Reply} (Err fault) ≡ is_of_the_store (Some fault)
flag_at_stop (faults.Refused why) = refl
flag_at_stop (faults.Damaged table) = refl
flag_at_stop faults.Memory = refl
flag_at_stop (faults.Store cause) = refl
flag_at_stop faults.Reopen = refl

-- ---- how many are answered

pub many_at_stop : (sent : List Command) (answers : List (Result Reply Refusal)) (fault : Fault) → fault ≢ faults.Reopen → length answers < length sent → AreAsMany sent answers (Some fault)
many_at_stop sent answers (faults.Refused why) ready within = within
many_at_stop sent answers (faults.Damaged table) ready within = within
many_at_stop sent answers faults.Memory ready within = inr within
many_at_stop sent answers (faults.Store cause) ready within = within
many_at_stop sent answers faults.Reopen ready within = absurd (ready refl)

-- ---- how many keys are written

-- an answer is that of the call
pub called : (answered : Result Reply Fault) (told : Result Reply Refusal) → answer_or_stop answered ≡ Ok told → answered ≡ as_called told
called (Ok reply) told e = let same : told ≡ Ok reply = cc in ap as_called (sym same)
called (Err (faults.Refused why)) told e = let same : told ≡ Err why = cc in ap as_called (sym same)
called (Err (faults.Damaged table)) told e = absurd cc
called (Err faults.Memory) told e = absurd cc
called (Err (faults.Store cause)) told e = absurd cc
called (Err faults.Reopen) told e = absurd cc

pub last_written : (limits : Limits) (held : List Accepted) (front : List Command) (c : Command) (writes : ℕ)
    → IsWritten limits (accepted_after_all limits held front) c (as_called (answer limits (accepted_after_all limits held front) c)) writes → IsLastWritten limits held (front ++ c ∷ []) writes
last_written limits held [] c writes h = h
last_written limits held (a ∷ []) c writes h = h
last_written limits held (a ∷ b ∷ front) c writes h = last_written limits (accepted_after limits held a) (b ∷ front) c writes h
