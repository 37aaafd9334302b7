-- A command that was accepted comes again, however much came after it.
use Rattle.std.proofs.Common.{◌≡◌, ℕ, zero, suc, ◌-◌, ◌<◌, ◌≤◌, Bool, true, false, cond, ◌&&◌, List, [], ◌∷◌, ◌++◌, length, map, take, Option, Some, None, Result, Ok, Err, refl, sym, ◌∙◌, ap, subst, arith}
use Rattle.std.specs.Prelude.{find, bytes_eq, IsOk}
use Rattle.std.proofs.lemmas.List.{map-append, take-append-le}
use Rattle.std.proofs.lemmas.Slice.Eq.{bytes_eq-Decides}
use Rattle.wh_history.specs.Accepted.{Accepted, Content, Governs, Describes, Sells, Upgrades, Withdraws, records_by, placeholders_by, format_of}
use Rattle.wh_history.specs.Keys.{place, after_one}
use Rattle.wh_history.specs.Tables.{Limits}
use Rattle.wh_history.proofs.Numbers.{place-append_front}
use Rattle.wh_history.proofs.Basics.{first_or}
use Rattle.wh_rows.specs.Types.{is_key}
use Rattle.wh_batch.specs.BatchKind.{command_kind_word}
use Rattle.wh_admission.specs.Admission.{kept_bytes, content_of, current_policy, accepted_as, receipt_of, receipt_told, already, number_for, answer_with, when_read, answer, with_content, after_answer, accepted_after, accepted_after_all, ActsOnceLater}
use Rattle.wh_admission.specs.declared.command.Command.{Command}
use Rattle.wh_admission.specs.declared.command.Receipt.{Receipt}
use Rattle.wh_admission.specs.declared.command.Reply.{Reply}
use Rattle.wh_admission.specs.declared.command.Reply.TheVariants.{Accepted as Accepts, Already}
use Rattle.wh_admission.specs.declared.command.Refusal.{Refusal}
use Rattle.wh_admission.specs.declared.command.Refusal.TheVariants.{Reused}
use Rattle.wh_admission.proofs.AdmittedSteps.{all_added}
use Rattle.wh_admission.proofs.Repeats.{find_last, new_id, by_case}
use Rattle.wh_admission.proofs.StaysAccepted.{receipt_is}

-- an accepted command has this one's id, kind and bytes
pub record IsKnown (commands : List Accepted) (c : Command) : Type 0 where
  pub accepted : Accepted
  pub found : find (λ (a : Accepted). bytes_eq a.id c.id) commands ≡ Some accepted
  pub good : is_key 40 c.id ≡ true
  pub same : bytes_eq accepted.kind (command_kind_word c.kind) && bytes_eq accepted.bytes (kept_bytes c.kind c.bytes) ≡ true

-- ---- it stays known

found_still : (p : Accepted → Bool) (commands : List Accepted) (more : List Accepted) (a : Accepted) → find p commands ≡ Some a → find p (commands ++ more) ≡ Some a
found_still p [] more a is = absurd cc
found_still p (b ∷ commands) more a is =
    elim (p b) as (λ v. first_or v b (find p commands) ≡ Some a → first_or v b (find p (commands ++ more)) ≡ Some a) [
      | true ↦ λ h. h
      | false ↦ λ h. found_still p commands more a h
    ] is

known_with : (commands more : List Accepted) (c : Command) → IsKnown commands c → IsKnown (commands ++ more) c
known_with commands more c known = record {
  accepted = known.accepted;
  found = found_still (λ (a : Accepted). bytes_eq a.id c.id) commands more known.accepted known.found;
  good = known.good;
  same = known.same;
}

module _ (limits : Limits) where
  known_by_content : (commands : List Accepted) (c d : Command) (read : Result Content Refusal) → IsKnown commands c → IsKnown (with_content commands d read) c
  known_by_content commands c d (Ok content) known = known_with commands (accepted_as d content ∷ []) c known
  known_by_content commands c d (Err why) known = known

  known_by_answer : (commands : List Accepted) (c d : Command) (a : Result Reply Refusal) → IsKnown commands c → IsKnown (after_answer commands d a) c
  known_by_answer commands c d (Ok (Accepts receipt)) known = known_by_content commands c d (content_of d.kind (format_of commands) (current_policy commands) d.bytes) known
  known_by_answer commands c d (Ok (Already receipt)) known = known
  known_by_answer commands c d (Err why) known = known

  pub known_later : (commands : List Accepted) (c : Command) (sent : List Command) → IsKnown commands c → IsKnown (accepted_after_all limits commands sent) c
  known_later commands c [] known = known
  known_later commands c (d ∷ sent) known = known_later (accepted_after limits commands d) c sent (known_by_answer commands c d (answer limits commands d) known)

  -- ---- and changes nothing

  pub nothing_new : (commands : List Accepted) (c : Command) → IsKnown commands c → accepted_after limits commands c ≡ commands
  nothing_new commands c known = rw (known.good, known.found, known.same) refl

  -- ---- it is known once it was answered without a refusal

  module _ (commands : List Accepted) (c : Command) where
    abbrev there : Option Accepted
    there = find (λ (a : Accepted). bytes_eq a.id c.id) commands

    -- what is read of a new command is never answered as a repeat
    read_anew : (read : Result Content Refusal) (receipt : Receipt) → when_read limits commands c read ≡ Ok (Already receipt) → ⊥
    read_anew (Err why) receipt h = cc
    read_anew (Ok content) receipt h = by_number (number_for limits commands content) h
      where
        by_number : (room : Result ℕ Refusal) → answer_with commands c content room ≡ Ok (Already receipt) → ⊥
        by_number (Ok number) h = cc
        by_number (Err why) h = cc

    same_bytes : (a : Accepted) (b : Bool) (kept receipt : Receipt) → already (cond b (Ok kept) (Err Reused)) ≡ Ok (Already receipt) → b ≡ true
    same_bytes a true kept receipt h = refl
    same_bytes a false kept receipt h = absurd cc

    repeat_known : (b : Bool) (o : Option Accepted) (receipt : Receipt) → is_key 40 c.id ≡ b → there ≡ o → by_case limits commands c b o ≡ Ok (Already receipt) → IsKnown commands c
    repeat_known false o receipt good is h = absurd cc
    repeat_known true None receipt good is h = absurd (read_anew (content_of c.kind (format_of commands) (current_policy commands) c.bytes) receipt h)
    repeat_known true (Some a) receipt good is h = record {
      accepted = a;
      found = is;
      good = good;
      same = same_bytes a (bytes_eq a.kind (command_kind_word c.kind) && bytes_eq a.bytes (kept_bytes c.kind c.bytes)) _ receipt h;
    }

    accepted_known : (read : Result Content Refusal) (receipt : Receipt) → is_key 40 c.id ≡ true → there ≡ None → when_read limits commands c read ≡ Ok (Accepts receipt) → IsKnown (with_content commands c read) c
    accepted_known (Err why) receipt good new h = absurd cc
    accepted_known (Ok content) receipt good new h =
        let id = (bytes_eq-Decides c.id c.id).1 refl in
        let kind = (bytes_eq-Decides (command_kind_word c.kind) (command_kind_word c.kind)).1 refl in
        let bytes = (bytes_eq-Decides (kept_bytes c.kind c.bytes) (kept_bytes c.kind c.bytes)).1 refl in
        record {
          accepted = accepted_as c content;
          found = find_last (λ (a : Accepted). bytes_eq a.id c.id) (accepted_as c content) commands new id;
          good = good;
          same = rw (kind, bytes) refl;
        }

    pub known_after : (a : Result Reply Refusal) → answer limits commands c ≡ a → IsOk a → IsKnown (after_answer commands c a) c
    known_after (Err why) is ok = absurd cc
    known_after (Ok (Already receipt)) is ok = repeat_known (is_key 40 c.id) there receipt refl refl is
    known_after (Ok (Accepts receipt)) is ok =
        let new = new_id limits commands c (is_key 40 c.id) there receipt refl refl is in
        accepted_known (content_of c.kind (format_of commands) (current_policy commands) c.bytes) receipt new.0 new.1 (rw (new.0, new.1) at is)

-- ---- and it is answered as before

-- an id that is new stands last
pub placed_last : (id : List ℕ) (commands : List Accepted) (x : Accepted) → find (λ (a : Accepted). bytes_eq a.id id) commands ≡ None → bytes_eq x.id id ≡ true
    → place bytes_eq id (map (λ (b : Accepted). b.id) (commands ++ x ∷ [])) ≡ suc (length commands)
placed_last id [] x none own = rw own refl
placed_last id (y ∷ ys) x none own =
    elim (bytes_eq y.id id) as (λ b. first_or b y (find (λ (a : Accepted). bytes_eq a.id id) ys) ≡ None → cond b 1 (after_one (place bytes_eq id (map (λ (a : Accepted). a.id) (ys ++ x ∷ [])))) ≡ suc (suc (length ys))) [
      | true ↦ λ h. absurd cc
      | false ↦ λ h. ap after_one (placed_last id ys x h own)
    ] none

-- the place of one that is found is within the list
one_further : (n most : ℕ) → (0 < n) × (n ≤ most) → (0 < after_one n) × (after_one n ≤ suc most)
one_further zero most within = let some = within.0 in absurd (omega (arith, some))
one_further (suc n) most within = let few = within.1 in (omega arith, omega (arith, few))

placed_within : (id : List ℕ) (commands : List Accepted) (a : Accepted) → find (λ (b : Accepted). bytes_eq b.id id) commands ≡ Some a
    → let number = place bytes_eq id (map (λ (b : Accepted). b.id) commands) in (0 < number) × (number ≤ length commands)
placed_within id [] a is = absurd cc
placed_within id (b ∷ commands) a is =
    elim (bytes_eq b.id id) as (λ v. first_or v b (find (λ (b : Accepted). bytes_eq b.id id) commands) ≡ Some a
    → let number = cond v 1 (after_one (place bytes_eq id (map (λ (b : Accepted). b.id) commands))) in (0 < number) × (number ≤ suc (length commands))) [
      | true ↦ λ _. (omega arith, omega arith)
      | false ↦ λ later. one_further (place bytes_eq id (map (λ (b : Accepted). b.id) commands)) (length commands) (placed_within id commands a later)
    ] is

-- what a command brought stays so
brought : (commands more : List Accepted) (number : ℕ) (content : Content) → number ≤ length commands → placeholders_by (commands ++ more) number content ≡ placeholders_by commands number content
brought commands more number (Governs policy) few = refl
brought commands more number (Describes dim records) few = refl
brought commands more number Upgrades few = refl
brought commands more number (Withdraws lines) few = refl
brought commands more number (Sells sales) few =
    let with : take number (commands ++ more) ≡ take number commands = take-append-le number commands more few in
    let without : take (number - 1) (commands ++ more) ≡ take (number - 1) commands = take-append-le (number - 1) commands more (omega (arith, few)) in
    rw (with, without) refl

receipt_stays : (commands more : List Accepted) (number : ℕ) (content : Content) → number ≤ length commands → receipt_of (commands ++ more) number content ≡ receipt_of commands number content
receipt_stays commands more number content few = ap (λ (p : ℕ). record { number = number; records = records_by content; placeholders = p }) (brought commands more number content few)

module _ (limits : Limits) where
  answered_again : (commands more : List Accepted) (c : Command) → IsKnown commands c → answer limits (commands ++ more) c ≡ answer limits commands c
  answered_again commands more c known =
      let a : Accepted = known.accepted in
      let good = known.good in
      let same = known.same in
      let there = known.found in
      let still = found_still (λ (b : Accepted). bytes_eq b.id c.id) commands more a there in
      let ids : List Accepted → List (List ℕ) = λ list. map (λ (b : Accepted). b.id) list in
      let number : ℕ = place bytes_eq c.id (map (λ (b : Accepted). b.id) commands) in
      let within = placed_within c.id commands a there in
      let place_is : place bytes_eq c.id (map (λ (b : Accepted). b.id) (commands ++ more)) ≡ place bytes_eq c.id (map (λ (b : Accepted). b.id) commands) =
      ap (place bytes_eq c.id) (map-append (λ (b : Accepted). b.id) commands more) ∙ place-append_front bytes_eq c.id (map (λ (b : Accepted). b.id) commands) (map (λ (b : Accepted). b.id) more) within.0 in
      let later : answer limits (commands ++ more) c ≡ Ok (Already (receipt_of (commands ++ more) number a.content)) = rw (good, still, same, place_is) refl in
      let before : answer limits commands c ≡ Ok (Already (receipt_of commands number a.content)) = rw (good, there, same) refl in
      later ∙ ap (λ (r : Receipt). Ok (Already r)) (receipt_stays commands more number a.content within.1) ∙ sym before

  -- once it was answered, the same command has the receipt
  module _ (commands : List Accepted) (c : Command) where
    taken : (read : Result Content Refusal) (receipt : Receipt) → content_of c.kind (format_of commands) (current_policy commands) c.bytes ≡ read → is_key 40 c.id ≡ true → find (λ (a : Accepted). bytes_eq a.id c.id) commands ≡ None
        → answer limits commands c ≡ Ok (Accepts receipt) → answer limits (with_content commands c read) c ≡ Ok (Already receipt)
    taken (Err why) receipt told good new is = let none : when_read limits commands c (Err why) ≡ Ok (Accepts receipt) = rw (good, new, told) at is in absurd cc
    taken (Ok content) receipt told good new is =
        let id = (bytes_eq-Decides c.id c.id).1 refl in
        let kind = (bytes_eq-Decides (command_kind_word c.kind) (command_kind_word c.kind)).1 refl in
        let bytes = (bytes_eq-Decides (kept_bytes c.kind c.bytes) (kept_bytes c.kind c.bytes)).1 refl in
        let there = find_last (λ (a : Accepted). bytes_eq a.id c.id) (accepted_as c content) commands new id in
        let after = commands ++ accepted_as c content ∷ [] in
        let last = placed_last c.id commands (accepted_as c content) new id in
        let read : when_read limits commands c (Ok content) ≡ Ok (Accepts receipt) = rw (good, new, told) at is in
        let again : answer limits after c ≡ Ok (Already (receipt_of after (suc (length commands)) content)) = rw (good, there, kind, bytes, last) refl in
        again ∙ ap (λ (r : Receipt). Ok (Already r)) (receipt_is limits commands c content receipt read)

    told_at_once : (a : Result Reply Refusal) (reply : Reply) → answer limits commands c ≡ a → a ≡ Ok reply → answer limits (after_answer commands c a) c ≡ Ok (Already (receipt_told reply))
    told_at_once (Err why) reply is ok = absurd cc
    told_at_once (Ok (Already receipt)) reply is ok = let same : Already receipt ≡ reply = cc in is ∙ ap (λ (r : Reply). Ok (Already (receipt_told r))) same
    told_at_once (Ok (Accepts receipt)) reply is ok =
        let same : Accepts receipt ≡ reply = cc in
        let new = new_id limits commands c (is_key 40 c.id) (find (λ (a : Accepted). bytes_eq a.id c.id) commands) receipt refl refl is in
        taken (content_of c.kind (format_of commands) (current_policy commands) c.bytes) receipt refl new.0 new.1 is ∙ ap (λ (r : Reply). Ok (Already (receipt_told r))) same

-- so it acts once

pub acts_once_later : ActsOnceLater
acts_once_later limits commands c reply sent is =
    let after = accepted_after limits commands c in
    let held = accepted_after_all limits after sent in
    let known = known_after limits commands c (answer limits commands c) refl (subst IsOk (sym is) refl) in
    let adds = all_added limits after sent in
    let again : answer limits held c ≡ answer limits after c = ap (λ (list : List Accepted). answer limits list c) adds.is ∙ answered_again limits after adds.added c known in
    (nothing_new limits held c (known_later limits after c sent known), again ∙ told_at_once limits commands c (answer limits commands c) reply refl is)
