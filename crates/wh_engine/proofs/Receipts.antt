-- A command that comes again is answered by its receipt.
use Rattle.std.proofs.Common.{◌≡◌, true, List, [], ◌∷◌, ◌++◌, map, Option, None, Result, Ok, Err, refl, sym, ◌∙◌, ap}
use Rattle.std.specs.Prelude.{find, bytes_eq}
use Rattle.std.proofs.lemmas.Slice.Eq.{bytes_eq-Decides}
use Rattle.wh_admission.proofs.StaysAccepted.{receipt_is}
use Rattle.wh_history.specs.Accepted.{Accepted, Content, format_of}
use Rattle.wh_history.specs.Keys.{place}
use Rattle.wh_history.specs.Tables.{Limits}
use Rattle.wh_rows.specs.Types.{is_key}
use Rattle.wh_batch.specs.BatchKind.{command_kind_word}
use Rattle.wh_admission.specs.Admission.{kept_bytes, content_of, current_policy, accepted_as, receipt_of, when_read, answer, with_content, after_answer, accepted_after, receipt_told}
use Rattle.wh_engine.specs.Redelivered.{HasReceipt}
use Rattle.wh_admission.specs.declared.command.Command.{Command}
use Rattle.wh_admission.specs.declared.command.Receipt.{Receipt}
use Rattle.wh_admission.specs.declared.command.Reply.{Reply}
use Rattle.wh_admission.specs.declared.command.Reply.TheVariants.{Accepted as Accepts, Already}
use Rattle.wh_admission.specs.declared.command.Refusal.{Refusal}
use Rattle.wh_admission.proofs.Known.{placed_last}
use Rattle.wh_admission.proofs.Repeats.{find_last, new_id}

module _ (limits : Limits) (commands : List Accepted) (c : Command) where
  abbrev found : Option Accepted
  found = find (λ (a : Accepted). bytes_eq a.id c.id) commands

  same_reply : (reply : Reply) → answer limits commands c ≡ Ok reply → HasReceipt limits commands c reply
  same_reply reply is = record { first = reply; said = is; same = refl }

  again_with : (content : Content) (receipt : Receipt) (reply : Reply) → content_of c.kind (format_of commands) (current_policy commands) c.bytes ≡ Ok content → is_key 40 c.id ≡ true → found ≡ None → answer limits commands c ≡ Ok (Accepts receipt)
      → answer limits (commands ++ accepted_as c content ∷ []) c ≡ Ok reply → HasReceipt limits commands c reply
  again_with content receipt reply told good new is again =
      let id = (bytes_eq-Decides c.id c.id).1 refl in
      let kind = (bytes_eq-Decides (command_kind_word c.kind) (command_kind_word c.kind)).1 refl in
      let bytes = (bytes_eq-Decides (kept_bytes c.kind c.bytes) (kept_bytes c.kind c.bytes)).1 refl in
      let there = find_last (λ (a : Accepted). bytes_eq a.id c.id) (accepted_as c content) commands new id in
      let after = commands ++ accepted_as c content ∷ [] in
      let number = place bytes_eq c.id (map (λ (b : Accepted). b.id) after) in
      let known : Ok (Already (receipt_of after number content)) ≡ Ok reply = rw (good, there, kind, bytes) at again in
      let reply_is : Already (receipt_of after number content) ≡ reply = cc in
      let read : when_read limits commands c (Ok content) ≡ Ok (Accepts receipt) = rw (good, new, told) at is in
      record {
        first = Accepts receipt;
        said = is;
        same = ap receipt_told (sym reply_is) ∙ ap (λ n. receipt_of after n content) (placed_last c.id commands (accepted_as c content) new id) ∙ receipt_is limits commands c content receipt read;
      }

  by_content : (read : Result Content Refusal) (receipt : Receipt) (reply : Reply) → content_of c.kind (format_of commands) (current_policy commands) c.bytes ≡ read → is_key 40 c.id ≡ true → found ≡ None → answer limits commands c ≡ Ok (Accepts receipt)
      → answer limits (with_content commands c read) c ≡ Ok reply → HasReceipt limits commands c reply
  by_content (Err why) receipt reply told good new is again = same_reply reply again
  by_content (Ok content) receipt reply told good new is again = again_with content receipt reply told good new is again

  by_answer : (a : Result Reply Refusal) (reply : Reply) → answer limits commands c ≡ a → answer limits (after_answer commands c a) c ≡ Ok reply → HasReceipt limits commands c reply
  by_answer (Ok (Already receipt)) reply is again = same_reply reply again
  by_answer (Err why) reply is again = same_reply reply again
  by_answer (Ok (Accepts receipt)) reply is again =
      let new = new_id limits commands c (is_key 40 c.id) found receipt refl refl is in
      by_content (content_of c.kind (format_of commands) (current_policy commands) c.bytes) receipt reply refl new.0 new.1 is again

  pub told_again : (reply : Reply) → answer limits (accepted_after limits commands c) c ≡ Ok reply → HasReceipt limits commands c reply
  told_again reply again = by_answer (answer limits commands c) reply refl again

  -- and what is refused then was refused before
  not_refused : (content : Content) (why : Refusal) → is_key 40 c.id ≡ true → found ≡ None → answer limits (commands ++ accepted_as c content ∷ []) c ≡ Err why → answer limits commands c ≡ Err why
  not_refused content why good new again =
      let id = (bytes_eq-Decides c.id c.id).1 refl in
      let kind = (bytes_eq-Decides (command_kind_word c.kind) (command_kind_word c.kind)).1 refl in
      let bytes = (bytes_eq-Decides (kept_bytes c.kind c.bytes) (kept_bytes c.kind c.bytes)).1 refl in
      let there = find_last (λ (a : Accepted). bytes_eq a.id c.id) (accepted_as c content) commands new id in
      let known = rw (good, there, kind, bytes) at again in
      absurd cc

  refused_content : (read : Result Content Refusal) (why : Refusal) → is_key 40 c.id ≡ true → found ≡ None → answer limits (with_content commands c read) c ≡ Err why → answer limits commands c ≡ Err why
  refused_content (Err other) why good new again = again
  refused_content (Ok content) why good new again = not_refused content why good new again

  refused_by : (a : Result Reply Refusal) (why : Refusal) → answer limits commands c ≡ a → answer limits (after_answer commands c a) c ≡ Err why → answer limits commands c ≡ Err why
  refused_by (Ok (Already receipt)) why is again = again
  refused_by (Err other) why is again = again
  refused_by (Ok (Accepts receipt)) why is again =
      let new = new_id limits commands c (is_key 40 c.id) found receipt refl refl is in
      refused_content (content_of c.kind (format_of commands) (current_policy commands) c.bytes) why new.0 new.1 again

  pub refused_again : (why : Refusal) → answer limits (accepted_after limits commands c) c ≡ Err why → answer limits commands c ≡ Err why
  refused_again why again = refused_by (answer limits commands c) why refl again
