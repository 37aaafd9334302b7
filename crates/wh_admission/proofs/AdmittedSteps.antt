-- The lists that were admitted are those in which each command comes after those before it.
use Rattle.std.proofs.Common.{◌≡◌, true, List, [], ◌∷◌, ◌++◌, None, Result, Ok, Err, refl, sym, ap, subst, ◌∙◌, append_assoc, append-nil}
use Rattle.std.specs.Prelude.{find, bytes_eq}
use Rattle.wh_batch.specs.declared.kind.CommandKind.{CommandKind}
use Rattle.wh_history.specs.Accepted.{Accepted, Content, format_of}
use Rattle.wh_history.specs.Tables.{Limits}
use Rattle.wh_model.specs.Sound.{init_of}
use Rattle.wh_rows.specs.Types.{is_key}
use Rattle.wh_admission.specs.Admission.{current_policy, content_of, number_for, accepted_as, when_read, answer, with_content, after_answer, accepted_after, accepted_after_all, AreAdmitted}
use Rattle.wh_admission.specs.Steps.{ComesAfter, ComeAfter, AreStepped, AdmittedIsStepped}
use Rattle.wh_admission.specs.declared.command.Command.{Command}
use Rattle.wh_admission.specs.declared.command.Receipt.{Receipt}
use Rattle.wh_admission.specs.declared.command.Reply.{Reply}
use Rattle.wh_admission.specs.declared.command.Reply.TheVariants.{Accepted as Accepts, Already}
use Rattle.wh_admission.specs.declared.command.Refusal.{Refusal}
use Rattle.wh_admission.proofs.KeptBytes.{kept_again, kept_says}
use Rattle.wh_admission.proofs.Repeats.{new_id}
use Rattle.wh_admission.proofs.StaysAccepted.{was_numbered, had_number}

-- ---- one step

-- what is added to a list: nothing, or one command that comes after it
abbrev pub IsAddedTo : Limits → List Accepted → List Accepted → Type 0
IsAddedTo limits commands added = ComeAfter limits commands added

pub record Adds (limits : Limits) (commands after : List Accepted) : Type 0 where
  pub added : List Accepted
  pub is : after ≡ commands ++ added
  pub come : ComeAfter limits commands added

nothing_added : (limits : Limits) (commands : List Accepted) → Adds limits commands commands
nothing_added limits commands = record { added = []; is = sym (append-nil commands); come = tt }

module _ (limits : Limits) (commands : List Accepted) (c : Command) where
  by_content : (read : Result Content Refusal) (receipt : Receipt) → content_of c.kind (format_of commands) (current_policy commands) c.bytes ≡ read → is_key 40 c.id ≡ true → find (λ (a : Accepted). bytes_eq a.id c.id) commands ≡ None
      → when_read limits commands c read ≡ Ok (Accepts receipt) → Adds limits commands (with_content commands c read)
  by_content (Err why) receipt told good new h = nothing_added limits commands
  by_content (Ok content) receipt told good new h =
      let numbered = was_numbered limits commands c content receipt (number_for limits commands content) h in
      let next = (had_number limits commands content numbered.0 numbered.1).1 in
      record {
        added = accepted_as c content ∷ [];
        is = refl;
        come = (
          record {
            kind = c.kind;
            kind_is = refl;
            good = good;
            new = new;
            read = kept_says c.kind (format_of commands) (current_policy commands) c.bytes ∙ told;
            kept = kept_again c.kind c.bytes;
            numbered = numbered.1 ∙ ap Ok next;
          },
          tt,
        );
      }

  by_answer : (a : Result Reply Refusal) → answer limits commands c ≡ a → Adds limits commands (after_answer commands c a)
  by_answer (Ok (Already receipt)) said = nothing_added limits commands
  by_answer (Err why) said = nothing_added limits commands
  by_answer (Ok (Accepts receipt)) said =
      let new = new_id limits commands c (is_key 40 c.id) (find (λ (a : Accepted). bytes_eq a.id c.id) commands) receipt refl refl said in
      let read : when_read limits commands c (content_of c.kind (format_of commands) (current_policy commands) c.bytes) ≡ Ok (Accepts receipt) = rw (new.0, new.1) at said in
      by_content (content_of c.kind (format_of commands) (current_policy commands) c.bytes) receipt refl new.0 new.1 read

  one_added : Adds limits commands (accepted_after limits commands c)
  one_added = by_answer (answer limits commands c) refl

-- a command that comes after others is accepted when it is sent
pub sent_as : (a : Accepted) (kind : CommandKind) → Command
sent_as a kind = record { id = a.id; kind = kind; bytes = a.bytes }

pub is_taken : (limits : Limits) (before : List Accepted) (a : Accepted) (comes : ComesAfter limits before a) → accepted_after limits before (sent_as a comes.kind) ≡ before ++ a ∷ []
unfolding sent_as
is_taken limits before a comes = rw (comes.good, comes.new, comes.read, comes.numbered, comes.read) (ap (λ (b : Accepted). before ++ b ∷ []) (λ i. record { id = a.id; kind = sym comes.kind_is i; bytes = comes.kept i; content = a.content }))

-- ---- some steps

pub come_join : (limits : Limits) (before first second : List Accepted) → ComeAfter limits before first → ComeAfter limits (before ++ first) second → ComeAfter limits before (first ++ second)
come_join limits before [] second come more = subst (λ list. ComeAfter limits list second) (append-nil before) more
come_join limits before (a ∷ first) second come more =
    (come.0, come_join limits (before ++ a ∷ []) first second come.1 (subst (λ list. ComeAfter limits list second) (sym (append_assoc before (a ∷ []) first)) more))

pub come_parts : (limits : Limits) (before first second : List Accepted) → ComeAfter limits before (first ++ second) → ComeAfter limits before first × ComeAfter limits (before ++ first) second
come_parts limits before [] second come = (tt, subst (λ list. ComeAfter limits list second) (sym (append-nil before)) come)
come_parts limits before (a ∷ first) second come =
    let rest = come_parts limits (before ++ a ∷ []) first second come.1 in
    ((come.0, rest.0), subst (λ list. ComeAfter limits list second) (append_assoc before (a ∷ []) first) rest.1)

pub all_added : (limits : Limits) (commands : List Accepted) (sent : List Command) → Adds limits commands (accepted_after_all limits commands sent)
all_added limits commands [] = nothing_added limits commands
all_added limits commands (c ∷ sent) =
    let one = one_added limits commands c in
    let rest = all_added limits (accepted_after limits commands c) sent in
    record {
      added = one.added ++ rest.added;
      is = rest.is ∙ ap (λ list. list ++ rest.added) one.is ∙ append_assoc commands one.added rest.added;
      come = come_join limits commands one.added rest.added one.come (subst (λ list. ComeAfter limits list rest.added) one.is rest.come);
    }

record IsSent (limits : Limits) (before later : List Accepted) : Type 0 where
  sent : List Command
  is : before ++ later ≡ accepted_after_all limits before sent

sent_all : (limits : Limits) (before later : List Accepted) → ComeAfter limits before later → IsSent limits before later
sent_all limits before [] come = record { sent = []; is = append-nil before }
sent_all limits before (a ∷ later) come =
    let rest = sent_all limits (before ++ a ∷ []) later come.1 in
    record {
      sent = sent_as a come.0.kind ∷ rest.sent;
      is = sym (append_assoc before (a ∷ []) later) ∙ rest.is ∙ ap (λ list. accepted_after_all limits list rest.sent) (sym (is_taken limits before a come.0));
    }

pub stepped : (limits : Limits) (commands : List Accepted) → AreAdmitted limits commands → AreStepped limits commands
stepped limits commands it =
    let adds = all_added limits (init_of it.policy it.bytes ∷ []) it.sent in
    record { limited = it.limited; policy = it.policy; bytes = it.bytes; written = it.written; later = adds.added; begins = it.admitted ∙ adds.is; come = adds.come }

pub from_steps : (limits : Limits) (commands : List Accepted) → AreStepped limits commands → AreAdmitted limits commands
from_steps limits commands it =
    let all = sent_all limits (init_of it.policy it.bytes ∷ []) it.later it.come in
    record { limited = it.limited; policy = it.policy; bytes = it.bytes; written = it.written; sent = all.sent; admitted = it.begins ∙ all.is }

pub admitted_is_stepped : AdmittedIsStepped
admitted_is_stepped limits commands = (stepped limits commands, from_steps limits commands)

-- ---- the next command

split_after : (x : Accepted) (xs ys zs : List Accepted) (y : Accepted) → x ∷ zs ≡ (y ∷ xs) ++ ys → (x ≡ y) × (zs ≡ xs ++ ys)
split_after x xs ys zs y same = (cc, cc)

-- of an admitted list a beginning that isn't empty was admitted, and what is next comes after it
pub record IsParted (limits : Limits) (first second : List Accepted) : Type 0 where
  pub admitted : AreAdmitted limits first
  pub come : ComeAfter limits first second

pub parted : (limits : Limits) (b : Accepted) (first second : List Accepted) → AreAdmitted limits ((b ∷ first) ++ second) → IsParted limits (b ∷ first) second
parted limits b first second it =
    let steps = stepped limits ((b ∷ first) ++ second) it in
    let making = init_of steps.policy steps.bytes in
    let same = split_after making first second steps.later b (sym steps.begins) in
    let parts = come_parts limits (making ∷ []) first second (subst (ComeAfter limits (making ∷ [])) same.1 steps.come) in
    record {
      admitted = from_steps limits (b ∷ first) (record { limited = steps.limited; policy = steps.policy; bytes = steps.bytes; written = steps.written; later = first; begins = ap (λ (x : Accepted). x ∷ first) (sym same.0); come = parts.0 });
      come = subst (λ (x : Accepted). ComeAfter limits (x ∷ first) second) same.0 parts.1;
    }

-- and a command that comes after an admitted list makes one that was admitted
pub admitted_with : (limits : Limits) (commands : List Accepted) (a : Accepted) → AreAdmitted limits commands → ComesAfter limits commands a → AreAdmitted limits (commands ++ a ∷ [])
admitted_with limits commands a it comes =
    let steps = stepped limits commands it in
    let making = init_of steps.policy steps.bytes in
    from_steps limits (commands ++ a ∷ []) (record {
      limited = steps.limited;
      policy = steps.policy;
      bytes = steps.bytes;
      written = steps.written;
      later = steps.later ++ a ∷ [];
      begins = ap (λ list. list ++ a ∷ []) steps.begins;
      come = come_join limits (making ∷ []) steps.later (a ∷ []) steps.come (subst (λ list. ComesAfter limits list a) steps.begins comes, tt);
    })
