-- What the rows of the tables say of the answer to a command.
use Rattle.std.specs.List.{AllByRecursion}
use Rattle.std.proofs.Common.{not, ◌≡◌, ℕ, suc, ◌+◌, ◌-◌, ◌<◌, ◌≤◌, Bool, true, false, leb, List, [], ◌∷◌, ◌++◌, length, Option, Some, None, Result, Ok, Err, refl, sym, ap, subst, ◌∙◌, arith, length-append}
use Rattle.std.proofs.lemmas.Bool.{le-leb, lt-leb, le-ltb, lt-ltb, leb-true, leb-false}
use Rattle.std.specs.Prelude.{find, bytes_eq, option_map, IsSome, unwrap_or}
use Rattle.wh_day.specs.Reading.{◌>>=◌}
use Rattle.wh_policy.specs.Policy.{trial_policy}
use Rattle.wh_policy.specs.Formats.{is_two}
use Rattle.wh_policy.specs.declared.attribute.Dim.{Dim}
use Rattle.wh_policy.specs.declared.attribute.Dim.TheVariants.{Product}
use Rattle.wh_policy.specs.declared.policy.Policy.{Policy}
use Rattle.wh_policy.specs.declared.record.DimensionRecord.{DimensionRecord}
use Rattle.wh_policy.specs.declared.record.SaleRecord.{SaleRecord}
use Rattle.wh_policy.specs.declared.record.VoidRecord.{VoidRecord}
use Rattle.wh_policy.specs.Written.{IsSound}
use Rattle.wh_batch.specs.declared.kind.BatchKind.TheVariants.{Dimension, Sales, Voids}
use Rattle.wh_history.specs.Keys.{at_place}
use Rattle.wh_history.specs.Accepted.{Accepted, Content, Governs, Describes, Sells, Upgrades, policy_after, format_of, sold, sold_by, records_by, placeholders_by, Withdraws, standing, withdrawn_by}
use Rattle.wh_history.specs.Tables.{Limits}
use Rattle.wh_batch.proofs.GoodLemmas.{cond_ok}
use Rattle.wh_history.proofs.Basics.{some_is}
use Rattle.wh_rows.specs.declared.rows.CommandRow.{CommandRow}
use Rattle.wh_rows.specs.Types.{is_key}
use Rattle.wh_batch.specs.BatchKind.{command_kind_word}
use Rattle.wh_admission.specs.Admission.{judged_records, judged_sales, judged_voids, judged_policy, content_of, kept_bytes, current_policy, accepted_as, receipt_of, changes_in, upgrades_again, first_line_there, first_line_missing, number_past_lines, number_past_voids, number_for, answer_with, when_read, by_id, answer, with_content, after_answer, accepted_after}
use Rattle.wh_engine.specs.Decided.{reply_to_known, IsNew}
use Rattle.wh_model.specs.Defined.{command_at}
use Rattle.wh_engine.specs.Faults.{Judges}
use Rattle.wh_plan.specs.Reading.{number_by_id, command_with}
use Rattle.wh_model.specs.Sound.{is_sold_line, changes_kept, IsAccepted}
use Rattle.wh_admission.specs.declared.command.Command.{Command}
use Rattle.wh_batch.specs.declared.kind.CommandKind.TheVariants.{Batch, Migration, Upgrade}
use Rattle.wh_engine.specs.declared.fault.Fault.{Fault}
use Rattle.wh_engine.specs.declared.fault.Fault.TheVariants as faults
use Rattle.wh_admission.specs.declared.command.Receipt.{Receipt}
use Rattle.wh_admission.specs.declared.command.Reply.TheVariants.{Accepted as Accepts, Already}
use Rattle.wh_admission.specs.declared.command.Refusal.{Refusal}
use Rattle.wh_admission.specs.declared.command.Refusal.TheVariants.{BadId, Upgraded, LineThere, NoLine, Full}
use Rattle.wh_admission.specs.declared.command.Limit.TheVariants.{Commands, Changes, Facts}
use Rattle.wh_plan.proofs.FoundCommands.{stored, told, find_numbered}
use Rattle.wh_model.proofs.GrownKeys.{at_last}
use Rattle.wh_admission.proofs.Migrated.{IsSoundIf, sound_after}
use Rattle.wh_admission.proofs.StaysAccepted.{stays_accepted, had_number, all_stand_there, none_first_passes}

-- ---- the room that there is

module _ (limits : Limits) (commands : List Accepted) (content : Content) where
  pub no_room : limits.commands ≤ length commands → number_for limits commands content ≡ Err (Full Commands)
  no_room full = rw (le-leb limits.commands (length commands) full) refl

  module _ (room : length commands < limits.commands) (once : upgrades_again commands content ≡ false) where
    past_commands : number_for limits commands content ≡ number_past_voids limits commands content (first_line_missing (standing commands) 1 (withdrawn_by content))
    past_commands = rw (lt-leb limits.commands (length commands) room, once) refl

    pub line_is_missing : (number : ℕ) → first_line_missing (standing commands) 1 (withdrawn_by content) ≡ Some number → number_for limits commands content ≡ Err (NoLine number)
    line_is_missing number missing = past_commands ∙ ap (number_past_voids limits commands content) missing

    module _ (stand : first_line_missing (standing commands) 1 (withdrawn_by content) ≡ None) where
      past_voids : number_for limits commands content ≡ number_past_lines limits commands content (first_line_there (sold commands) 1 (sold_by content))
      past_voids = past_commands ∙ ap (number_past_voids limits commands content) stand

      pub line_is_there : (number : ℕ) → first_line_there (sold commands) 1 (sold_by content) ≡ Some number → number_for limits commands content ≡ Err (LineThere number)
      line_is_there number there = past_voids ∙ ap (number_past_lines limits commands content) there

      module _ (new : first_line_there (sold commands) 1 (sold_by content) ≡ None) where
        past_lines : number_for limits commands content ≡ number_past_lines limits commands content None
        past_lines = past_voids ∙ ap (number_past_lines limits commands content) new

        pub too_many_changes : limits.changes < changes_kept commands + changes_in content → number_for limits commands content ≡ Err (Full Changes)
        too_many_changes many = past_lines ∙ rw (lt-ltb limits.changes (changes_kept commands + changes_in content) many) refl

        pub too_many_facts : changes_kept commands + changes_in content ≤ limits.changes → limits.facts < length (sold commands) + length (sold_by content) → number_for limits commands content ≡ Err (Full Facts)
        too_many_facts few many =
            past_lines ∙ rw (le-ltb limits.changes (changes_kept commands + changes_in content) few, lt-ltb limits.facts (length (sold commands) + length (sold_by content)) many) refl

        pub has_room : changes_kept commands + changes_in content ≤ limits.changes → length (sold commands) + length (sold_by content) ≤ limits.facts → number_for limits commands content ≡ Ok (suc (length commands))
        has_room few fewer =
            past_lines ∙ rw (le-ltb limits.changes (changes_kept commands + changes_in content) few, le-ltb limits.facts (length (sold commands) + length (sold_by content)) fewer) refl

-- a second upgrade is refused once there is room for it
pub upgraded_before : (limits : Limits) (commands : List Accepted) (content : Content) → length commands < limits.commands → upgrades_again commands content ≡ true → number_for limits commands content ≡ Err Upgraded
upgraded_before limits commands content room again = rw (lt-leb limits.commands (length commands) room, again) refl

-- and none has a number
pub not_again : (limits : Limits) (commands : List Accepted) (content : Content) (next : ℕ) → number_for limits commands content ≡ Ok next → upgrades_again commands content ≡ false
not_again limits commands content next numbered =
    let (few, rest) = cond_ok (leb limits.commands (length commands)) (Full Commands) _ next numbered in
    let (once, last) = cond_ok (upgrades_again commands content) Upgraded _ next rest in
    once

-- ---- the lines of voids that have a number

module _ (limits : Limits) (commands : List Accepted) (voids : List VoidRecord) (next : ℕ) (numbered : number_for limits commands (Withdraws voids) ≡ Ok next) where
  pub voids_stand : AllByRecursion (λ v. is_sold_line (standing commands) v ≡ true) voids
  voids_stand = all_stand_there (standing commands) voids (none_first_passes (λ v. not (is_sold_line (standing commands) v)) 1 voids (had_number limits commands (Withdraws voids) next numbered).0.lines_stand)

-- what is left below a limit
below-limit : (b : Bool) (kept more limit left : ℕ) → left ≡ limit - kept → kept ≤ limit → leb (kept + more) limit ≡ b → leb more left ≡ b
below-limit true kept more limit left is within h = le-leb more left (omega (arith, is, within, leb-true (kept + more) limit h))
below-limit false kept more limit left is within h = lt-leb more left (omega (arith, is, within, leb-false (kept + more) limit h))

pub room_left : (kept more limit left : ℕ) → left ≡ limit - kept → kept ≤ limit → leb more left ≡ leb (kept + more) limit
room_left kept more limit left is within = below-limit (leb (kept + more) limit) kept more limit left is within refl

-- ---- a command whose id is known

module _ (limits : Limits) (commands : List Accepted) (c : Command) where
  abbrev found : Option Accepted
  found = find (λ (a : Accepted). bytes_eq a.id c.id) commands

  abbrev number : ℕ
  number = number_by_id commands c.id

  -- the row of the command that was found
  row_found : command_with commands c.id ≡ option_map (λ (a : Accepted). stored number (told commands number a)) found
  row_found = ap (λ (o : Option Accepted). option_map (stored number) (option_map (told commands number) o)) (find_numbered commands c.id) ∙ twice found
    where
      twice : (o : Option Accepted) → option_map (stored number) (option_map (told commands number) o) ≡ option_map (λ (a : Accepted). stored number (told commands number a)) o
      twice None = refl
      twice (Some a) = refl

  by_row : (o : Option Accepted) (r : CommandRow) → option_map (λ (a : Accepted). stored number (told commands number a)) o ≡ Some r → by_id limits commands c o ≡ reply_to_known r c
  by_row None r h = absurd cc
  by_row (Some a) r h =
      let is = some_is _ _ h in
      ap (λ (q : CommandRow). reply_to_known q c) is

  pub known_answer : (r : CommandRow) → is_key 40 c.id ≡ true → command_with commands c.id ≡ Some r → answer limits commands c ≡ reply_to_known r c
  known_answer r good here = rw good (by_row found r (sym row_found ∙ here))

  -- ---- a command whose id is new

  no_row : (o : Option Accepted) → option_map (λ (a : Accepted). stored number (told commands number a)) o ≡ None → o ≡ None
  no_row None h = refl
  no_row (Some a) h = absurd cc

  pub is_new : command_with commands c.id ≡ None → IsNew commands c
  is_new none = no_row found (sym row_found ∙ none)

  pub new_answer : is_key 40 c.id ≡ true → IsNew commands c → answer limits commands c ≡ when_read limits commands c (content_of c.kind (format_of commands) (current_policy commands) c.bytes)
  new_answer good new = rw (good, new) refl

  pub bad_answer : is_key 40 c.id ≡ false → answer limits commands c ≡ Err BadId
  bad_answer bad = rw bad refl

  -- ---- why it is refused, and the room that there is

  abbrev after : Content → List Accepted
  after content = commands ++ accepted_as c content ∷ []

  module _ (good : is_key 40 c.id ≡ true) (new : IsNew commands c) where
    -- what it says is refused
    pub content_refused : (why : Refusal) → content_of c.kind (format_of commands) (current_policy commands) c.bytes ≡ Err why → answer limits commands c ≡ Err why
    content_refused why h = new_answer good new ∙ ap (when_read limits commands c) h

    -- there is no number for it
    pub number_refused : (content : Content) (why : Refusal) → content_of c.kind (format_of commands) (current_policy commands) c.bytes ≡ Ok content → number_for limits commands content ≡ Err why → answer limits commands c ≡ Err why
    number_refused content why read none = new_answer good new ∙ ap (when_read limits commands c) read ∙ ap (answer_with commands c content) none

    module _ (content : Content) (read : content_of c.kind (format_of commands) (current_policy commands) c.bytes ≡ Ok content) (next : ℕ) (room : number_for limits commands content ≡ Ok next) where
      -- it is accepted
      pub command_accepted : answer limits commands c ≡ Ok (Accepts (receipt_of (after content) next content))
      command_accepted = new_answer good new ∙ ap (when_read limits commands c) read ∙ ap (answer_with commands c content) room

      pub next_number : next ≡ suc (length commands)
      next_number = (had_number limits commands content next room).1

      pub list_accepted : IsAccepted limits commands → IsAccepted limits (commands ++ accepted_as c content ∷ [])
      list_accepted accepted = subst (IsAccepted limits) (ap (after_answer commands c) command_accepted ∙ ap (with_content commands c) read) (stays_accepted limits commands c accepted)

      -- its receipt, and its row among the commands
      pub own_receipt : receipt_of (after content) next content ≡ record { number = next; records = records_by content; placeholders = placeholders_by (after content) next content }
      own_receipt = refl

      pub own_row : command_at (after content) (suc (length commands)) ≡ Some (record { number = next; id = c.id; kind = command_kind_word c.kind; bytes = kept_bytes c.kind c.bytes; records = records_by content; placeholders = placeholders_by (after content) next content })
      own_row =
          let longer : suc (length commands) ≡ length (after content) = omega (arith, length-append commands (accepted_as c content ∷ [])) in
          ap (λ (n : ℕ). option_map (stored (suc (length commands))) (option_map (told (after content) (suc (length commands))) (at_place n (after content)))) longer
          ∙ ap (λ (o : Option Accepted). option_map (stored (suc (length commands))) (option_map (told (after content) (suc (length commands))) o)) (at_last commands (accepted_as c content))
          ∙ ap (λ (n : ℕ). Some (record { number = n; id = c.id; kind = command_kind_word c.kind; bytes = kept_bytes c.kind c.bytes; records = records_by content; placeholders = placeholders_by (after content) n content })) (sym next_number)

  -- ---- the list after a command

  pub after_refused : (why : Refusal) → answer limits commands c ≡ Err why → accepted_after limits commands c ≡ commands
  after_refused why said = ap (after_answer commands c) said

  pub after_repeat : (receipt : Receipt) → answer limits commands c ≡ Ok (Already receipt) → accepted_after limits commands c ≡ commands
  after_repeat receipt said = ap (after_answer commands c) said

  pub after_accepted : (receipt : Receipt) (content : Content) → answer limits commands c ≡ Ok (Accepts receipt) → content_of c.kind (format_of commands) (current_policy commands) c.bytes ≡ Ok content → accepted_after limits commands c ≡ commands ++ accepted_as c content ∷ []
  after_accepted receipt content said read = ap (after_answer commands c) said ∙ ap (with_content commands c) read

-- the policy in force is the last that was given
pub policy_in_force : (commands : List Accepted) → IsSome (policy_after None commands) → policy_after None commands ≡ Some (current_policy commands)
policy_in_force commands some = by_option (policy_after None commands) some
  where
    by_option : (o : Option Policy) → IsSome o → o ≡ Some (unwrap_or o trial_policy)
    by_option None some = absurd cc
    by_option (Some policy) some = refl

-- and it is sound
pub sound_in_force : (limits : Limits) (commands : List Accepted) → IsAccepted limits commands → IsSound (current_policy commands)
sound_in_force limits commands accepted = subst IsSoundIf (policy_in_force commands accepted.governed) (sound_after None commands tt accepted.policies)

-- ---- an answer that was judged

pub judged_ok : {X Y : Type 0} (fits : X → Y → Type 0) (x : X) (judged : Result Y Refusal) → Judges fits (Ok x) judged → (y : Y) × (judged ≡ Ok y) × fits x y
judged_ok fits x (Ok y) h = (y, refl, h)
judged_ok fits x (Err why) h = absurd h

-- a refusal that was judged is one of what hangs on it
pub judged_err : {X Y Z W : Type 0} (fits : X → Y → Type 0) (meets : Z → W → Type 0) (fault : Fault) (judged : Result Y Refusal) (answered : Result W Refusal) → Judges fits (Err fault) judged → ((why : Refusal) → judged ≡ Err why → answered ≡ Err why) → Judges meets (Err fault) answered
judged_err fits meets (faults.Refused why) judged answered h so = so why h
judged_err fits meets faults.Memory judged answered h so = tt
judged_err fits meets (faults.Store cause) judged answered h so = tt
judged_err fits meets (faults.Damaged table) judged answered h so = h
judged_err fits meets faults.Reopen judged answered h so = h
