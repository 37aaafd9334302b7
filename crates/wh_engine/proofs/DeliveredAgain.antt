-- A delivery, a crash, and a second delivery of what wasn't acknowledged.
use Rattle.std.proofs.Common.{◌≡◌, ◌⊎◌, inl, inr, ℕ, zero, suc, ◌+◌, ◌<◌, ◌≤◌, max, Bool, true, false, cond, List, [], ◌∷◌, ◌++◌, length, length-append, length-drop, map, take, drop, Option, Some, None, Result, Ok, Err, refl, sym, ap, ap₂, subst, ◌∙◌, arith}
use Rattle.std.proofs.lemmas.List.{map-append, take_all, take-append-drop}
use Rattle.std.proofs.Math.Seq.{take-add}
use Rattle.sqlite.specs.Tree.{Trees}
use Rattle.sqlite.specs.State.{State}
use Rattle.wh_history.specs.Accepted.{Accepted}
use Rattle.wh_history.specs.Tables.{Limits}
use Rattle.wh_admission.specs.Admission.{answer, accepted_after, accepted_after_all}
use Rattle.wh_engine.specs.Answered.{AreTreesOf, LeavesOneOf, IsReady, IsStopped}
use Rattle.wh_engine.specs.Delivered.{answers_to, AreAnswers, AreAsMany, IsDelivered}
use Rattle.wh_engine.specs.Redelivered.{receipt_answered, TellReceipts, IsDeliveredAgain}
use Rattle.wh_admission.specs.declared.command.Command.{Command}
use Rattle.wh_admission.specs.declared.command.Receipt.{Receipt}
use Rattle.wh_admission.specs.declared.command.Refusal.{Refusal}
use Rattle.wh_admission.specs.declared.command.Reply.{Reply}
use Rattle.wh_engine.specs.declared.fault.Fault.{Fault}
use Rattle.wh_engine.specs.declared.fault.Fault.TheVariants as faults
use Rattle.wh_engine.specs.declared.session.Session.{Session}
use Rattle.wh_engine.proofs.Delivering.{answers_join, as_many_answers}
use Rattle.wh_engine.proofs.Nights.{IsBeginning, goes_on, rest_ends}
use Rattle.wh_engine.proofs.Receipts.{told_again, refused_again}
use Rattle.wh_engine.proofs.Redelivered.{left_of}
use Rattle.wh_admission.proofs.Repeats.{acts_once}

pub at_most_all : (sent : List Command) (answers : List (Result Reply Refusal)) (stop : Option Fault) → AreAsMany sent answers stop → length answers ≤ length sent
at_most_all sent answers None many = omega (arith, many)
at_most_all sent answers (Some (faults.Refused why)) many = omega (arith, many)
at_most_all sent answers (Some (faults.Damaged table)) many = omega (arith, many)
at_most_all sent answers (Some faults.Memory) (inl none) = let count = ap length none in omega (arith, count)
at_most_all sent answers (Some faults.Memory) (inr fewer) = omega (arith, fewer)
at_most_all sent answers (Some (faults.Store cause)) many = omega (arith, many)
at_most_all sent answers (Some faults.Reopen) many = let none = ap length many in omega (arith, none)

module _ (limits : Limits) where
  -- ---- receipts

  told_the_same : (held : List Accepted) (c : Command) (a : Result Reply Refusal) → answer limits (accepted_after limits held c) c ≡ a → receipt_answered a ≡ receipt_answered (answer limits held c)
  told_the_same held c (Ok reply) is =
      let has = told_again limits held c reply is in
      ap Ok has.same ∙ ap receipt_answered (sym has.said)
  told_the_same held c (Err why) is = ap receipt_answered (sym (refused_again limits held c why is))

  abbrev receipts_to : List Accepted → List Command → List (Result Receipt Refusal)
  receipts_to held sent = map receipt_answered (answers_to limits held sent)

  first_again : (held : List Accepted) (c : Command) (sent : List Command) → receipts_to (accepted_after limits held c) (c ∷ sent) ≡ receipts_to held (c ∷ sent)
  first_again held c sent =
      ap₂ (λ receipt receipts. receipt ∷ receipts) (told_the_same held c (answer limits (accepted_after limits held c) c) refl)
      (ap (λ list. receipts_to list sent) (acts_once limits held c))

  next_receipts : (held : List Accepted) (n k : ℕ) (sent : List Command)
      → receipts_to (accepted_after_all limits held (take (suc n) sent)) (take k (drop n sent)) ≡ receipts_to (accepted_after_all limits held (take n sent)) (take k (drop n sent))
  next_receipts held zero zero sent = refl
  next_receipts held zero (suc k) [] = refl
  next_receipts held zero (suc k) (c ∷ sent) = first_again held c (take k sent)
  next_receipts held (suc n) zero [] = refl
  next_receipts held (suc n) (suc k) [] = refl
  next_receipts held (suc n) k (c ∷ sent) = next_receipts (accepted_after limits held c) n k sent

  module _ (commands : List Accepted) (sent : List Command) where
    abbrev after : ℕ → List Accepted
    after n = accepted_after_all limits commands (take n sent)

    rest_receipts : (n k : ℕ) (found : List Accepted) → IsBeginning limits commands sent n found → receipts_to found (take k (drop n sent)) ≡ receipts_to (after n) (take k (drop n sent))
    rest_receipts n k found (inl is) = ap (λ list. receipts_to list (take k (drop n sent))) is
    rest_receipts n k found (inr is) = ap (λ list. receipts_to list (take k (drop n sent))) is ∙ next_receipts commands n k sent

    -- ---- what a delivery leaves

    pub are_answers : (answers : List (Result Reply Refusal)) (stop : Option Fault) (session : Session) (s : State) → IsDelivered limits commands sent answers stop session s → AreAnswers limits commands sent answers
    are_answers answers None session s done =
        let count : length answers ≡ length sent = ap length done.0 ∙ as_many_answers limits commands sent in
        done.0 ∙ ap (answers_to limits commands) (sym (take_all (length answers) sent (omega (arith, count))))
    are_answers answers (Some faults.Memory) session s done = done.0
    are_answers answers (Some (faults.Store cause)) session s done = done.0
    are_answers answers (Some (faults.Refused why)) session s done = absurd done
    are_answers answers (Some (faults.Damaged table)) session s done = absurd done
    are_answers answers (Some faults.Reopen) session s done = absurd done

    pub delivery_leaves : (answers : List (Result Reply Refusal)) (stop : Option Fault) (session : Session) (s : State) → IsDelivered limits commands sent answers stop session s
        → LeavesOneOf limits (after (length answers)) (after (suc (length answers))) s
    delivery_leaves answers None session s done =
        let count : length answers ≡ length sent = ap length done.0 ∙ as_many_answers limits commands sent in
        let all : after (length answers) ≡ accepted_after_all limits commands sent = ap (accepted_after_all limits commands) (take_all (length answers) sent (omega (arith, count))) in
        record { each = λ trees may. inl (subst (λ list. AreTreesOf limits list trees) (sym all) (left_of limits (accepted_after_all limits commands sent) s trees done.1.rests may)) }
    delivery_leaves answers (Some faults.Memory) session s done = record { each = λ trees may. inl (left_of limits (after (length answers)) s trees done.2.rests may) }
    delivery_leaves answers (Some (faults.Store cause)) session s done = done.2.left
    delivery_leaves answers (Some (faults.Refused why)) session s done = absurd done
    delivery_leaves answers (Some (faults.Damaged table)) session s done = absurd done
    delivery_leaves answers (Some faults.Reopen) session s done = absurd done

    -- ---- the second delivery

    module _ (first : List (Result Reply Refusal)) (are : AreAnswers limits commands sent first) (found : List Accepted) (at : IsBeginning limits commands sent (length first) found) (second : List (Result Reply Refusal)) where
      abbrev n : ℕ
      n = length first

      abbrev k : ℕ
      k = length second

      abbrev rest : List Command
      rest = drop n sent

      count : length (first ++ second) ≡ n + k
      count = length-append first second

      -- the receipts of both
      joined : (more : List Command) → receipts_to found more ≡ receipts_to (after n) more → second ≡ answers_to limits found more → map receipt_answered (first ++ second) ≡ receipts_to commands (take n sent ++ more)
      joined more same told =
          map-append receipt_answered first second ∙ ap₂ (λ a b. map receipt_answered a ++ map receipt_answered b) are told ∙ ap (λ receipts. receipts_to commands (take n sent) ++ receipts) same
          ∙ sym (map-append receipt_answered (answers_to limits commands (take n sent)) (answers_to limits (after n) more))
          ∙ ap (map receipt_answered) (sym (answers_join limits commands (take n sent) more))

      some_receipts : AreAnswers limits found rest second → TellReceipts limits commands sent (first ++ second)
      some_receipts told =
          joined (take k rest) (rest_receipts n k found at) told ∙ ap (receipts_to commands) (sym (take-add n k sent)) ∙ ap (λ m. receipts_to commands (take m sent)) (sym count)

      all_receipts : second ≡ answers_to limits found rest → map receipt_answered (first ++ second) ≡ receipts_to commands sent
      all_receipts told =
          let whole : take (length rest) rest ≡ rest = take_all (length rest) rest (omega arith) in
          let same = subst (λ more. receipts_to found more ≡ receipts_to (after n) more) whole (rest_receipts n (length rest) found at) in
          joined rest same told ∙ ap (receipts_to commands) (take-append-drop n sent)

      abbrev further : ℕ → List Accepted
      further m = accepted_after_all limits found (take m rest)

      -- the tables after it
      near : (b : Bool) → IsBeginning limits commands sent (length (first ++ second)) (accepted_after_all limits found (take (cond b (suc k) k) rest))
      near b =
          let on : max n (n + k) ≡ length (first ++ second) = omega (arith, count) in
          subst (λ m. IsBeginning limits commands sent m (accepted_after_all limits found (take (cond b (suc k) k) rest))) on (goes_on limits commands sent n k b found at)

      one_of_two : (m : ℕ) (list : List Accepted) (trees : Trees) → IsBeginning limits commands sent m list → AreTreesOf limits list trees → AreTreesOf limits (after m) trees ⊎ AreTreesOf limits (after (suc m)) trees
      one_of_two m list trees (inl is) of = inl (subst (λ l. AreTreesOf limits l trees) is of)
      one_of_two m list trees (inr is) of = inr (subst (λ l. AreTreesOf limits l trees) is of)

      ready_one_of : (m : ℕ) (list : List Accepted) (session : Session) (s : State) → IsBeginning limits commands sent m list → IsReady limits list session s → IsReady limits (after m) session s ⊎ IsReady limits (after (suc m)) session s
      ready_one_of m list session s (inl is) ready = inl (subst (λ l. IsReady limits l session s) is ready)
      ready_one_of m list session s (inr is) ready = inr (subst (λ l. IsReady limits l session s) is ready)

      still_stopped : (session : Session) (s : State) → IsStopped limits (further k) (further (suc k)) session s
          → IsStopped limits (after (length (first ++ second))) (after (suc (length (first ++ second)))) session s
      still_stopped session s stopped = record {
        flagged = stopped.flagged;
        left = record {
          each = λ trees may. elim (stopped.left.each trees may) [
            | inl before ↦ one_of_two (length (first ++ second)) (further k) trees (near false) before
            | inr later ↦ one_of_two (length (first ++ second)) (further (suc k)) trees (near true) later
          ];
        };
      }

      pub delivered_again : (stop : Option Fault) (session : Session) (s : State) → IsDelivered limits found rest second stop session s → IsDeliveredAgain limits commands sent (first ++ second) stop session s
      delivered_again None session s done = (all_receipts done.0, subst (λ list. IsReady limits list session s) (rest_ends limits commands sent n found at) done.1)
      delivered_again (Some faults.Memory) session s done = (some_receipts done.0, ready_one_of (length (first ++ second)) (further k) session s (near false) done.2)
      delivered_again (Some (faults.Store cause)) session s done =
          let within : length (first ++ second) < length sent = let rest_is = length-drop n sent in let less = done.1 in omega (arith, count, rest_is, less) in
          (some_receipts done.0, within, still_stopped session s done.2)
      delivered_again (Some (faults.Refused why)) session s done = absurd done
      delivered_again (Some (faults.Damaged table)) session s done = absurd done
      delivered_again (Some faults.Reopen) session s done = absurd done
