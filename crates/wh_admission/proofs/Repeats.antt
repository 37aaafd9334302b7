-- A command that comes again changes nothing.
use Rattle.std.proofs.Common.{◌≡◌, Bool, true, false, cond, ◌&&◌, List, [], ◌∷◌, ◌++◌, Option, Some, None, Result, Ok, Err, refl, ◌∙◌, ap}
use Rattle.std.specs.Prelude.{find, bytes_eq}
use Rattle.std.proofs.lemmas.Slice.Eq.{bytes_eq-Decides}
use Rattle.wh_history.specs.Accepted.{Accepted, Content, format_of}
use Rattle.wh_history.specs.Tables.{Limits}
use Rattle.wh_rows.specs.Types.{is_key}
use Rattle.wh_batch.specs.BatchKind.{command_kind_word}
use Rattle.wh_admission.specs.Admission.{kept_bytes, content_of, current_policy, accepted_as, already, by_id, answer, with_content, after_answer, accepted_after}
use Rattle.wh_admission.specs.declared.command.Command.{Command}
use Rattle.wh_admission.specs.declared.command.Receipt.{Receipt}
use Rattle.wh_admission.specs.declared.command.Reply.{Reply}
use Rattle.wh_admission.specs.declared.command.Reply.TheVariants.{Accepted as Accepts, Already}
use Rattle.wh_admission.specs.declared.command.Refusal.{Refusal}
use Rattle.wh_admission.specs.declared.command.Refusal.TheVariants.{BadId, Reused}
use Rattle.wh_history.proofs.Basics.{first_or}

pub find_last : (p : Accepted → Bool) (x : Accepted) (xs : List Accepted) → find p xs ≡ None → p x ≡ true → find p (xs ++ x ∷ []) ≡ Some x
find_last p x [] none passes = rw passes refl
find_last p x (y ∷ ys) none passes =
    elim (p y) as (λ b. first_or b y (find p ys) ≡ None → first_or b y (find p (ys ++ x ∷ [])) ≡ Some x) [
      | true ↦ λ h. cc
      | false ↦ λ h. find_last p x ys h passes
    ] none

module _ (limits : Limits) (commands : List Accepted) (c : Command) where
  abbrev found : Option Accepted
  found = find (λ (a : Accepted). bytes_eq a.id c.id) commands

  -- the answer, by whether the id is good and which command has it
  abbrev pub by_case : Bool → Option Accepted → Result Reply Refusal
  by_case b o = cond b (by_id limits commands c o) (Err BadId)

  abbrev known_case : Bool → Receipt → Result Reply Refusal
  known_case b r = already (cond b (Ok r) (Err Reused))

  known_refused : (b : Bool) (r s : Receipt) → known_case b r ≡ Ok (Accepts s) → ⊥
  known_refused true r s h = cc
  known_refused false r s h = cc

  pub new_id : (b : Bool) (o : Option Accepted) (receipt : Receipt) → is_key 40 c.id ≡ b → found ≡ o → by_case b o ≡ Ok (Accepts receipt) → (is_key 40 c.id ≡ true) × (found ≡ None)
  new_id false o receipt good is h = cc
  new_id true None receipt good is h = (good, is)
  new_id true (Some a) receipt good is h = absurd (known_refused (bytes_eq a.kind (command_kind_word c.kind) && bytes_eq a.bytes (kept_bytes c.kind c.bytes)) _ receipt h)

  by_content : (read : Result Content Refusal) (receipt : Receipt) → content_of c.kind (format_of commands) (current_policy commands) c.bytes ≡ read → is_key 40 c.id ≡ true → found ≡ None → answer limits commands c ≡ Ok (Accepts receipt)
      → accepted_after limits (with_content commands c read) c ≡ with_content commands c read
  by_content (Err why) receipt told good new is = ap (after_answer commands c) is ∙ ap (with_content commands c) told
  by_content (Ok content) receipt told good new is =
      let id = (bytes_eq-Decides c.id c.id).1 refl in
      let kind = (bytes_eq-Decides (command_kind_word c.kind) (command_kind_word c.kind)).1 refl in
      let bytes = (bytes_eq-Decides (kept_bytes c.kind c.bytes) (kept_bytes c.kind c.bytes)).1 refl in
      let again = find_last (λ (a : Accepted). bytes_eq a.id c.id) (accepted_as c content) commands new id in
      rw (good, again, kind, bytes) refl

  by_answer : (a : Result Reply Refusal) → answer limits commands c ≡ a → accepted_after limits (after_answer commands c a) c ≡ after_answer commands c a
  by_answer (Ok (Already receipt)) is = ap (after_answer commands c) is
  by_answer (Err why) is = ap (after_answer commands c) is
  by_answer (Ok (Accepts receipt)) is =
      let new = new_id (is_key 40 c.id) found receipt refl refl is in
      by_content (content_of c.kind (format_of commands) (current_policy commands) c.bytes) receipt refl new.0 new.1 is

  pub acts_once : accepted_after limits (accepted_after limits commands c) c ≡ accepted_after limits commands c
  acts_once = by_answer (answer limits commands c) refl
