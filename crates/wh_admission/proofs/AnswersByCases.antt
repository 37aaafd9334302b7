-- What admission answers is what the first case that applies says.
use Rattle.std.proofs.Common.{◌≡◌, ℕ, zero, suc, ◌+◌, ◌-◌, Bool, true, false, cond, ◌&&◌, nat_le, nat_lt, List, [], ◌∷◌, length, map, take, Option, Some, None, Result, Ok, Err, refl, sym, ap, subst, ◌∙◌, arith}
use Rattle.std.specs.Prelude.{◌≢◌, find, bytes_eq, slice_get}
use Rattle.std.specs.List.{AllByRecursion, IsDistinct}
use Rattle.std.proofs.lemmas.Bool.{leb-true, leb-false, ltb-true, ltb-false}
use Rattle.std.proofs.lemmas.Bool.Decides.{nat_tests}
use Rattle.std.proofs.lemmas.Slice.Eq.{bytes_eq-Decides}
use Rattle.wh_batch.specs.BatchKind.{command_kind_word}
use Rattle.wh_history.specs.Accepted.{Accepted, Content, sold, sold_by, standing, withdrawn_by, format_of}
use Rattle.wh_history.specs.Keys.{place, after_one, at_place}
use Rattle.wh_history.specs.Tables.{Limits}
use Rattle.wh_history.proofs.Basics.{some_is, both_true, find_passes, first_or}
use Rattle.wh_model.specs.Sound.{changes_kept}
use Rattle.wh_rows.specs.Types.{is_key}
use Rattle.wh_admission.specs.Admission.{upgrades_again, kept_bytes, content_of, current_policy, receipt_of, changes_in, first_number, first_line_there, first_line_missing, number_past_lines, number_past_voids, number_for, answer_with, when_read, already as told_already, by_id, answer}
use Rattle.wh_admission.specs.Answers.{HasIdOf, IsAlike, IsNew, Says, MayBeCounted, FitsFormat, is_missing, WithdrawsStanding, is_sold, BringsNewLines, KeepsToChanges, IsFirst, IsAnswer, AnswerIsByCases, AnswersAreOne}
use Rattle.wh_admission.specs.declared.command.Command.{Command}
use Rattle.wh_admission.specs.declared.command.Reply.{Reply}
use Rattle.wh_admission.specs.declared.command.Refusal.{Refusal}
use Rattle.wh_admission.specs.declared.command.Refusal.TheVariants.{BadId, Reused, Upgraded, Full}
use Rattle.wh_admission.specs.declared.command.Limit.TheVariants.{Commands, Changes, Facts}
use Rattle.wh_admission.proofs.StaysAccepted.{none_first_passes}

-- ---- the command of an id

abbrev ids : List Accepted → List (List ℕ)
ids commands = map (λ (a : Accepted). a.id) commands

-- a command has this id
abbrev pub has_id : List ℕ → Accepted → Bool
has_id id a = bytes_eq a.id id

one_more : (n : ℕ) (b a : Accepted) (commands : List Accepted) → at_place n commands ≡ Some a → at_place (after_one n) (b ∷ commands) ≡ Some a
one_more zero b a commands is = absurd cc
one_more (suc n) b a commands is = is

-- what is found stands at its place
found_there : (id : List ℕ) (commands : List Accepted) (a : Accepted) → find (has_id id) commands ≡ Some a → at_place (place bytes_eq id (ids commands)) commands ≡ Some a
found_there id [] a is = absurd cc
found_there id (b ∷ commands) a is =
    elim (bytes_eq b.id id) as (λ v. first_or v b (find (has_id id) commands) ≡ Some a → at_place (cond v 1 (after_one (place bytes_eq id (ids commands)))) (b ∷ commands) ≡ Some a) [
      | true ↦ λ first. first
      | false ↦ λ later. one_more (place bytes_eq id (ids commands)) b a commands (found_there id commands a later)
    ] is

id_there : (P : List ℕ → Type 0) (n : ℕ) (commands : List Accepted) (a : Accepted) → AllByRecursion P (ids commands) → slice_get commands n ≡ Some a → P a.id
id_there P n [] a all is = absurd cc
id_there P zero (b ∷ commands) a all is = subst (λ (c : Accepted). P c.id) (some_is b a is) all.0
id_there P (suc n) (b ∷ commands) a all is = id_there P n commands a all.1 is

-- where no two have one id, the one of an id at a place is found there
record IsFoundAt (id : List ℕ) (number : ℕ) (commands : List Accepted) (a : Accepted) : Type 0 where
  found : find (has_id id) commands ≡ Some a
  placed : place bytes_eq id (ids commands) ≡ number

there_found : (id : List ℕ) (number : ℕ) (commands : List Accepted) (a : Accepted) → IsDistinct bytes_eq (ids commands) → at_place number commands ≡ Some a → a.id ≡ id → IsFoundAt id number commands a
unfolding IsDistinct
there_found id zero commands a once is own = absurd cc
there_found id (suc n) [] a once is own = absurd cc
there_found id (suc zero) (b ∷ commands) a once is own =
    let first = some_is b a is in
    let same : bytes_eq b.id id ≡ true = (bytes_eq-Decides b.id id).1 (ap (λ (c : Accepted). c.id) first ∙ own) in
    record { found = rw same is; placed = rw same refl }
there_found id (suc (suc n)) (b ∷ commands) a once is own =
    let apart : bytes_eq b.id a.id ≡ false = id_there (λ other. bytes_eq b.id other ≡ false) n commands a once.0 is in
    let other : bytes_eq b.id id ≡ false = subst (λ i. bytes_eq b.id i ≡ false) own apart in
    let rest = there_found id (suc n) commands a once.1 is own in
    record { found = rw other rest.found; placed = rw other (ap after_one rest.placed) }

-- where none is found under an id, none has it
pub none_has : (id : List ℕ) (commands : List Accepted) → find (has_id id) commands ≡ None → AllByRecursion (λ a. a.id ≢ id) commands
none_has id [] none = tt
none_has id (b ∷ commands) none =
    elim (bytes_eq b.id id) as (λ v. (bytes_eq b.id id ≡ v) → first_or v b (find (has_id id) commands) ≡ None → AllByRecursion (λ a. a.id ≢ id) (b ∷ commands)) [
      | true ↦ λ _ some. absurd cc
      | false ↦ λ other rest. (λ same. let yes = (bytes_eq-Decides b.id id).1 same in cc, none_has id commands rest)
    ] refl none

-- and where none has it, none is found
pub none_found : (id : List ℕ) (commands : List Accepted) → AllByRecursion (λ a. a.id ≢ id) commands → find (has_id id) commands ≡ None
none_found id [] others = refl
none_found id (b ∷ commands) others =
    elim (bytes_eq b.id id) as (λ v. (bytes_eq b.id id ≡ v) → first_or v b (find (has_id id) commands) ≡ None) [
      | true ↦ λ same. absurd (others.0 ((bytes_eq-Decides b.id id).0 same))
      | false ↦ λ _. none_found id commands others.1
    ] refl

-- ---- the first that passes

module _ {X : Type 0} (test : X → Bool) where
  -- where numbers count on from one
  record IsFirstFrom (xs : List X) (from number : ℕ) : Type 0 where
    passed : ℕ
    number_is : number ≡ suc (from + passed)
    one : X
    here : slice_get xs passed ≡ Some one
    passes : test one ≡ true
    before : AllByRecursion (λ x. test x ≡ false) (take passed xs)

  first_from : (from number : ℕ) (xs : List X) → first_number test (suc from) xs ≡ Some number → IsFirstFrom xs from number
  first_from from number [] is = absurd cc
  first_from from number (x ∷ xs) is =
      elim (test x) as (λ b. (test x ≡ b) → cond b (Some (suc from)) (first_number test (suc (suc from)) xs) ≡ Some number → IsFirstFrom (x ∷ xs) from number) [
        | true ↦ λ there first. let same = some_is (suc from) number first in record { passed = 0; number_is = omega (arith, same); one = x; here = refl; passes = there; before = tt }
        | false ↦ λ new later.
            let rest = first_from (suc from) number xs later in
            let number_is = rest.number_is in
            record { passed = suc rest.passed; number_is = omega (arith, number_is); one = rest.one; here = rest.here; passes = rest.passes; before = (new, rest.before) }
      ] refl is

  first_is : (number : ℕ) (xs : List X) → first_number test 1 xs ≡ Some number → IsFirst test xs number
  first_is number xs is =
      let first = first_from 0 number xs is in
      let number_is = first.number_is in
      let at : suc first.passed ≡ number = omega (arith, number_is) in
      let less : suc first.passed - 1 ≡ first.passed = omega arith in
      subst (IsFirst test xs) at (record {
        one = first.one;
        here = first.here;
        passes = first.passes;
        before = subst (λ n. AllByRecursion (λ x. test x ≡ false) (take n xs)) (sym less) first.before;
      })

  counted : (from passed : ℕ) (xs : List X) (one : X) → slice_get xs passed ≡ Some one → test one ≡ true → AllByRecursion (λ x. test x ≡ false) (take passed xs)
      → first_number test (suc from) xs ≡ Some (suc (from + passed))
  counted from passed [] one here there before = absurd cc
  counted from zero (x ∷ xs) one here there before =
      let same = some_is x one here in
      let passes_too : test x ≡ true = rw same there in
      let none : suc (from + 0) ≡ suc from = omega arith in
      rw (passes_too, none) refl
  counted from (suc passed) (x ∷ xs) one here there before =
      let new = before.0 in
      let more : suc (from + suc passed) ≡ suc (suc from + passed) = omega arith in
      rw (new, more) (counted (suc from) passed xs one here there before.1)

  is_first : (number : ℕ) (xs : List X) → IsFirst test xs number → first_number test 1 xs ≡ Some number
  is_first zero xs first = absurd (let here = first.here in cc)
  is_first (suc passed) xs first =
      let less : suc passed - 1 ≡ passed = omega arith in
      let at : suc (0 + passed) ≡ suc passed = omega arith in
      counted 0 passed xs first.one first.here first.passes (subst (λ n. AllByRecursion (λ x. test x ≡ false) (take n xs)) less first.before) ∙ ap Some at

  none_passes : (from : ℕ) (xs : List X) → AllByRecursion (λ x. test x ≡ false) xs → first_number test from xs ≡ None
  none_passes from [] new = refl
  none_passes from (x ∷ xs) new = let first = new.0 in rw first (none_passes (suc from) xs new.1)

-- ---- the cases

module _ (limits : Limits) (commands : List Accepted) (c : Command) where
  abbrev Is : Result Reply Refusal → Type 0
  Is said = IsAnswer limits commands c said

  abbrev found : Option Accepted
  found = find (has_id c.id) commands

  alike : (a : Accepted) (b : Bool) → (bytes_eq a.kind (command_kind_word c.kind) && bytes_eq a.bytes (kept_bytes c.kind c.bytes)) ≡ b → HasIdOf commands c (place bytes_eq c.id (ids commands)) a
      → Is (told_already (cond b (Ok (receipt_of commands (place bytes_eq c.id (ids commands)) a.content)) (Err Reused)))
  alike a true same has =
      let both = both_true (bytes_eq a.kind (command_kind_word c.kind)) (bytes_eq a.bytes (kept_bytes c.kind c.bytes)) same in
      IsAnswer.already (place bytes_eq c.id (ids commands)) a has (record { kind = (bytes_eq-Decides a.kind (command_kind_word c.kind)).0 both.0; bytes = (bytes_eq-Decides a.bytes (kept_bytes c.kind c.bytes)).0 both.1 })
  alike a false other has = IsAnswer.reused (place bytes_eq c.id (ids commands)) a has (λ it.
      let kind = (bytes_eq-Decides a.kind (command_kind_word c.kind)).1 it.kind in
      let bytes = (bytes_eq-Decides a.bytes (kept_bytes c.kind c.bytes)).1 it.bytes in
      let no : (bytes_eq a.kind (command_kind_word c.kind) && bytes_eq a.bytes (kept_bytes c.kind c.bytes)) ≡ true = rw (kind, bytes) refl in
      cc)

  module _ (content : Content) where
    facts : (b : Bool) → nat_lt limits.facts (length (sold commands) + length (sold_by content)) ≡ b → KeepsToChanges limits commands c content → Is (answer_with commands c content (cond b (Err (Full Facts)) (Ok (suc (length commands)))))
    facts true over keeps = IsAnswer.facts_full content keeps (ltb-true _ _ over)
    facts false within keeps = IsAnswer.accepted content keeps (ltb-false _ _ within)

    changes : (b : Bool) → nat_lt limits.changes (changes_kept commands + changes_in content) ≡ b → BringsNewLines limits commands c content
        → Is (answer_with commands c content (cond b (Err (Full Changes)) (cond (nat_lt limits.facts (length (sold commands) + length (sold_by content))) (Err (Full Facts)) (Ok (suc (length commands))))))
    changes true over brings = IsAnswer.changes_full content brings (ltb-true _ _ over)
    changes false within brings = facts (nat_lt limits.facts (length (sold commands) + length (sold_by content))) refl (record { lines = brings; changes_left = ltb-false _ _ within })

    lines : (o : Option ℕ) → first_line_there (sold commands) 1 (sold_by content) ≡ o → WithdrawsStanding limits commands c content → Is (answer_with commands c content (number_past_lines limits commands content o))
    lines (Some number) is may = IsAnswer.line_there content number may (first_is (is_sold commands) number (sold_by content) is)
    lines None is may = changes (nat_lt limits.changes (changes_kept commands + changes_in content)) refl (record { withdraws = may; lines_new = none_first_passes (is_sold commands) 1 (sold_by content) is })

    voids : (o : Option ℕ) → first_line_missing (standing commands) 1 (withdrawn_by content) ≡ o → FitsFormat limits commands c content → Is (answer_with commands c content (number_past_voids limits commands content o))
    voids (Some number) is may = IsAnswer.no_line content number may (first_is (is_missing commands) number (withdrawn_by content) is)
    voids None is may = lines (first_line_there (sold commands) 1 (sold_by content)) refl (record { fits = may; lines_stand = none_first_passes (is_missing commands) 1 (withdrawn_by content) is })

    once : (b : Bool) → upgrades_again commands content ≡ b → MayBeCounted limits commands c content
        → Is (answer_with commands c content (cond b (Err Upgraded) (number_past_voids limits commands content (first_line_missing (standing commands) 1 (withdrawn_by content)))))
    once true again may = IsAnswer.upgraded content may again
    once false first may = voids (first_line_missing (standing commands) 1 (withdrawn_by content)) refl (record { counted = may; upgrades_once = first })

    room : (b : Bool) → nat_le limits.commands (length commands) ≡ b → Says commands c content
        → Is (answer_with commands c content (cond b (Err (Full Commands)) (cond (upgrades_again commands content) (Err Upgraded) (number_past_voids limits commands content (first_line_missing (standing commands) 1 (withdrawn_by content))))))
    room true full says = IsAnswer.commands_full content says (leb-true _ _ full)
    room false left says = once (upgrades_again commands content) refl (record { says = says; commands_left = leb-false _ _ left })

  read : (told : Result Content Refusal) → content_of c.kind (format_of commands) (current_policy commands) c.bytes ≡ told → IsNew commands c → Is (when_read limits commands c told)
  read (Err why) is new = IsAnswer.faulty why new is
  read (Ok content) is new = room content (nat_le limits.commands (length commands)) refl (record { new = new; read = is })

  known : (o : Option Accepted) → found ≡ o → is_key 40 c.id ≡ true → Is (by_id limits commands c o)
  known (Some a) is good = alike a (bytes_eq a.kind (command_kind_word c.kind) && bytes_eq a.bytes (kept_bytes c.kind c.bytes)) refl
      (record { good = good; there = found_there c.id commands a is; same_id = (bytes_eq-Decides a.id c.id).0 (find_passes (has_id c.id) a commands is) })
  known None is good = read (content_of c.kind (format_of commands) (current_policy commands) c.bytes) refl (record { good = good; others = none_has c.id commands is })

  called : (b : Bool) → is_key 40 c.id ≡ b → Is (cond b (by_id limits commands c found) (Err BadId))
  called true good = known found refl good
  called false bad = IsAnswer.bad_id bad

  -- ---- the other way round

  by_new : IsNew commands c → answer limits commands c ≡ when_read limits commands c (content_of c.kind (format_of commands) (current_policy commands) c.bytes)
  by_new new =
      let good = new.good in
      let none = none_found c.id commands new.others in
      rw (good, none) refl

  by_says : (content : Content) → Says commands c content → answer limits commands c ≡ answer_with commands c content (number_for limits commands content)
  by_says content says = by_new says.new ∙ ap (when_read limits commands c) says.read

  abbrev past_count : Content → Bool → Result ℕ Refusal
  past_count content b = cond b (Err (Full Commands)) (cond (upgrades_again commands content) (Err Upgraded) (number_past_voids limits commands content (first_line_missing (standing commands) 1 (withdrawn_by content))))

  abbrev past_format : Content → Bool → Result ℕ Refusal
  past_format content b = cond b (Err Upgraded) (number_past_voids limits commands content (first_line_missing (standing commands) 1 (withdrawn_by content)))

  by_count : (content : Content) → MayBeCounted limits commands c content → answer limits commands c ≡ answer_with commands c content (past_format content (upgrades_again commands content))
  by_count content may =
      let left = may.commands_left in
      let no : nat_le limits.commands (length commands) ≡ false = grind (arith, nat_tests) in
      by_says content may.says ∙ ap (λ b. answer_with commands c content (past_count content b)) no

  by_format : (content : Content) → FitsFormat limits commands c content → answer limits commands c ≡ answer_with commands c content (number_past_voids limits commands content (first_line_missing (standing commands) 1 (withdrawn_by content)))
  by_format content fits = by_count content fits.counted ∙ ap (λ b. answer_with commands c content (past_format content b)) fits.upgrades_once

  by_voids : (content : Content) → WithdrawsStanding limits commands c content → answer limits commands c ≡ answer_with commands c content (number_past_lines limits commands content (first_line_there (sold commands) 1 (sold_by content)))
  by_voids content withdraws = by_format content withdraws.fits ∙ ap (λ o. answer_with commands c content (number_past_voids limits commands content o)) (none_passes (is_missing commands) 1 (withdrawn_by content) withdraws.lines_stand)

  by_lines : (content : Content) → BringsNewLines limits commands c content → answer limits commands c ≡ answer_with commands c content (number_past_lines limits commands content None)
  by_lines content brings = by_voids content brings.withdraws ∙ ap (λ o. answer_with commands c content (number_past_lines limits commands content o)) (none_passes (is_sold commands) 1 (sold_by content) brings.lines_new)

  by_changes : (content : Content) → KeepsToChanges limits commands c content
      → answer limits commands c ≡ answer_with commands c content (cond (nat_lt limits.facts (length (sold commands) + length (sold_by content))) (Err (Full Facts)) (Ok (suc (length commands))))
  by_changes content keeps =
      let left = keeps.changes_left in
      let no : nat_lt limits.changes (changes_kept commands + changes_in content) ≡ false = grind (arith, nat_tests) in
      by_lines content keeps.lines ∙ ap (λ b. answer_with commands c content (cond b (Err (Full Changes)) (cond (nat_lt limits.facts (length (sold commands) + length (sold_by content))) (Err (Full Facts)) (Ok (suc (length commands)))))) no

  module _ (once : IsDistinct bytes_eq (ids commands)) where
    has_answer : (number : ℕ) (a : Accepted) (b : Bool) → HasIdOf commands c number a → (bytes_eq a.kind (command_kind_word c.kind) && bytes_eq a.bytes (kept_bytes c.kind c.bytes)) ≡ b
        → answer limits commands c ≡ told_already (cond b (Ok (receipt_of commands number a.content)) (Err Reused))
    has_answer number a b has is =
        let good = has.good in
        let at = there_found c.id number commands a once has.there has.same_id in
        let there = at.found in
        let number_is = at.placed in
        rw (good, there, number_is, is) refl

    only : (said : Result Reply Refusal) → Is said → said ≡ answer limits commands c
    only _ (IsAnswer.bad_id bad) = rw bad refl
    only _ (IsAnswer.already number a has same) =
        let kind = (bytes_eq-Decides a.kind (command_kind_word c.kind)).1 same.kind in
        let bytes = (bytes_eq-Decides a.bytes (kept_bytes c.kind c.bytes)).1 same.bytes in
        sym (has_answer number a true has (rw (kind, bytes) refl))
    only _ (IsAnswer.reused number a has other) = sym (has_answer number a false has (not_alike a other))
      where
        not_alike : (a : Accepted) → ¬ IsAlike a c → (bytes_eq a.kind (command_kind_word c.kind) && bytes_eq a.bytes (kept_bytes c.kind c.bytes)) ≡ false
        not_alike a other = elim (bytes_eq a.kind (command_kind_word c.kind) && bytes_eq a.bytes (kept_bytes c.kind c.bytes)) as (λ b. ((bytes_eq a.kind (command_kind_word c.kind) && bytes_eq a.bytes (kept_bytes c.kind c.bytes)) ≡ b) → b ≡ false) [
          | true ↦ λ same.
              let both = both_true (bytes_eq a.kind (command_kind_word c.kind)) (bytes_eq a.bytes (kept_bytes c.kind c.bytes)) same in
              absurd (other (record { kind = (bytes_eq-Decides a.kind (command_kind_word c.kind)).0 both.0; bytes = (bytes_eq-Decides a.bytes (kept_bytes c.kind c.bytes)).0 both.1 }))
          | false ↦ λ _. refl
        ] refl
    only _ (IsAnswer.faulty why new is) = sym (by_new new ∙ ap (when_read limits commands c) is)
    only _ (IsAnswer.commands_full content says full) =
        let yes : nat_le limits.commands (length commands) ≡ true = grind (arith, nat_tests) in
        sym (by_says content says ∙ ap (λ b. answer_with commands c content (past_count content b)) yes)
    only _ (IsAnswer.upgraded content may again) = sym (by_count content may ∙ ap (λ b. answer_with commands c content (past_format content b)) again)
    only _ (IsAnswer.no_line content number may first) = sym (by_format content may ∙ ap (λ o. answer_with commands c content (number_past_voids limits commands content o)) (is_first (is_missing commands) number (withdrawn_by content) first))
    only _ (IsAnswer.line_there content number may first) = sym (by_voids content may ∙ ap (λ o. answer_with commands c content (number_past_lines limits commands content o)) (is_first (is_sold commands) number (sold_by content) first))
    only _ (IsAnswer.changes_full content brings over) =
        let yes : nat_lt limits.changes (changes_kept commands + changes_in content) ≡ true = grind (arith, nat_tests) in
        sym (by_lines content brings ∙ ap (λ b. answer_with commands c content (cond b (Err (Full Changes)) (cond (nat_lt limits.facts (length (sold commands) + length (sold_by content))) (Err (Full Facts)) (Ok (suc (length commands)))))) yes)
    only _ (IsAnswer.facts_full content keeps over) =
        let yes : nat_lt limits.facts (length (sold commands) + length (sold_by content)) ≡ true = grind (arith, nat_tests) in
        sym (by_changes content keeps ∙ ap (λ b. answer_with commands c content (cond b (Err (Full Facts)) (Ok (suc (length commands))))) yes)
    only _ (IsAnswer.accepted content keeps within) =
        let no : nat_lt limits.facts (length (sold commands) + length (sold_by content)) ≡ false = grind (arith, nat_tests) in
        sym (by_changes content keeps ∙ ap (λ b. answer_with commands c content (cond b (Err (Full Facts)) (Ok (suc (length commands))))) no)

pub answer_is_by_cases : AnswerIsByCases
answer_is_by_cases limits commands c = called limits commands c (is_key 40 c.id) refl

pub answers_are_one : AnswersAreOne
answers_are_one limits commands c said once is = only limits commands c once said is
