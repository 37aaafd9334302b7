-- The lists of commands that were admitted from the making on.
use Rattle.std.proofs.Common.{◌≡◌, List, [], ◌∷◌, ◌++◌, Result, Ok, Err, refl, sym, ap, subst, ◌∙◌, append_assoc}
use Rattle.wh_history.specs.Accepted.{Accepted, Content, format_of}
use Rattle.wh_history.specs.Tables.{Limits}
use Rattle.wh_model.specs.Sound.{init_of}
use Rattle.wh_model.specs.Sound.{IsAccepted}
use Rattle.wh_model.proofs.StaysBegun.{accepted_lists_begin}
use Rattle.wh_admission.specs.Admission.{current_policy, content_of, accepted_as, answer, with_content, after_answer, accepted_after, accepted_after_all, AreAdmitted, AdmittedListsAreSound, IsOfItsBytes, AreOfTheirBytes, ContentsAreRead}
use Rattle.wh_admission.specs.declared.command.Command.{Command}
use Rattle.wh_admission.specs.declared.command.Reply.{Reply}
use Rattle.wh_admission.specs.declared.command.Reply.TheVariants.{Accepted as Accepts, Already}
use Rattle.wh_admission.specs.declared.command.Refusal.{Refusal}
use Rattle.wh_admission.proofs.KeptBytes.{kept_says}
use Rattle.wh_admission.proofs.StaysAccepted.{stays_accepted}

-- ---- they are sound

sound_after_all : (limits : Limits) (commands : List Accepted) (sent : List Command) → IsAccepted limits commands → IsAccepted limits (accepted_after_all limits commands sent)
sound_after_all limits commands [] ok = ok
sound_after_all limits commands (c ∷ sent) ok = sound_after_all limits (accepted_after limits commands c) sent (stays_accepted limits commands c ok)

pub admitted_sound : AdmittedListsAreSound
admitted_sound limits commands it =
    subst (IsAccepted limits) (sym it.admitted) (sound_after_all limits (init_of it.policy it.bytes ∷ []) it.sent (accepted_lists_begin limits it.policy it.bytes it.limited it.written))

-- ---- one more command

last_of_all : (limits : Limits) (commands : List Accepted) (sent : List Command) (c : Command) → accepted_after_all limits commands (sent ++ c ∷ []) ≡ accepted_after limits (accepted_after_all limits commands sent) c
last_of_all limits commands [] c = refl
last_of_all limits commands (d ∷ sent) c = last_of_all limits (accepted_after limits commands d) sent c

pub admitted_after : (limits : Limits) (commands : List Accepted) (c : Command) → AreAdmitted limits commands → AreAdmitted limits (accepted_after limits commands c)
admitted_after limits commands c it = record {
  limited = it.limited;
  policy = it.policy;
  bytes = it.bytes;
  written = it.written;
  sent = it.sent ++ c ∷ [];
  admitted = ap (λ (list : List Accepted). accepted_after limits list c) it.admitted ∙ sym (last_of_all limits (init_of it.policy it.bytes ∷ []) it.sent c);
}

pub admitted_after_all : (limits : Limits) (commands : List Accepted) (sent : List Command) → AreAdmitted limits commands → AreAdmitted limits (accepted_after_all limits commands sent)
admitted_after_all limits commands [] it = it
admitted_after_all limits commands (c ∷ sent) it = admitted_after_all limits (accepted_after limits commands c) sent (admitted_after limits commands c it)

-- ---- what they say is what their bytes give

one_more_read : (before later : List Accepted) (a : Accepted) → AreOfTheirBytes before later → IsOfItsBytes (before ++ later) a → AreOfTheirBytes before (later ++ a ∷ [])
one_more_read before [] a are read = (subst (λ list. IsOfItsBytes list a) (all_before before) read, tt)
  where
    all_before : (list : List Accepted) → list ++ [] ≡ list
    all_before [] = refl
    all_before (x ∷ list) = ap (λ rest. x ∷ rest) (all_before list)
one_more_read before (b ∷ later) a are read = (are.0, one_more_read (before ++ b ∷ []) later a are.1 (subst (λ list. IsOfItsBytes list a) (sym (append_assoc before (b ∷ []) later)) read))

-- a list that begins with this command, and whose others are read
record IsReadFrom (making : Accepted) (commands : List Accepted) : Type 0 where
  later : List Accepted
  begins : commands ≡ making ∷ later
  are : AreOfTheirBytes (making ∷ []) later

module _ (making : Accepted) (limits : Limits) where
  module _ (commands : List Accepted) (c : Command) (from : IsReadFrom making commands) where
    by_content : (r : Result Content Refusal) → content_of c.kind (format_of commands) (current_policy commands) c.bytes ≡ r → IsReadFrom making (with_content commands c r)
    by_content (Ok content) is = record {
      later = from.later ++ accepted_as c content ∷ [];
      begins = ap (λ (list : List Accepted). list ++ accepted_as c content ∷ []) from.begins;
      are = one_more_read (making ∷ []) from.later (accepted_as c content) from.are
          (subst (λ list. IsOfItsBytes list (accepted_as c content)) from.begins (record { kind = c.kind; kind_is = refl; content_is = kept_says c.kind (format_of commands) (current_policy commands) c.bytes ∙ is }));
    }
    by_content (Err why) is = from

    by_answer : (r : Result Reply Refusal) → IsReadFrom making (after_answer commands c r)
    by_answer (Ok (Accepts receipt)) = by_content (content_of c.kind (format_of commands) (current_policy commands) c.bytes) refl
    by_answer (Ok (Already receipt)) = from
    by_answer (Err why) = from

  read_after_all : (commands : List Accepted) (sent : List Command) → IsReadFrom making commands → IsReadFrom making (accepted_after_all limits commands sent)
  read_after_all commands [] from = from
  read_after_all commands (c ∷ sent) from = read_after_all (accepted_after limits commands c) sent (by_answer commands c from (answer limits commands c))

same_later : (a b : Accepted) (later others : List Accepted) → a ∷ later ≡ b ∷ others → (a ≡ b) × (later ≡ others)
same_later a b later others same = (cc, cc)

pub contents_are_read : ContentsAreRead
contents_are_read limits making later it =
    let first = init_of it.policy it.bytes in
    let from : IsReadFrom first (making ∷ later) = subst (IsReadFrom first) (sym it.admitted) (read_after_all first limits (first ∷ []) it.sent (record { later = []; begins = refl; are = tt })) in
    let same = same_later making first later from.later from.begins in
    subst (λ list. AreOfTheirBytes (making ∷ []) list) (sym same.1) (subst (λ (m : Accepted). AreOfTheirBytes (m ∷ []) from.later) (sym same.0) from.are)
