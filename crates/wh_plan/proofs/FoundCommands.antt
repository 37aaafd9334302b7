-- The rows of table command in order of their numbers, and the row with an id.
use Rattle.std.proofs.Common.{◌≡◌, ℕ, suc, ◌+◌, ◌<◌, ◌≤◌, true, false, cond, List, [], ◌∷◌, filter, length, Option, Some, None, refl, sym, ◌∙◌, ap, arith, map}
use Rattle.std.specs.Prelude.{bytes_eq, option_map, find, filter_map}
use Rattle.std.specs.List.{range_with_len}
use Rattle.std.specs.Option.{option_to_list}
use Rattle.std.specs.Ordering.{nat_cmp}
use Rattle.std.specs.FinMap.{values, get, len, nat_cmp-IsAntisymmetric}
use Rattle.std.proofs.lemmas.Cmp.{nat_cmp_total}
use Rattle.std.proofs.lemmas.Slice.Eq.{bytes_eq-Decides}
use Rattle.wh_history.specs.Keys.{place, at_place, after_one}
use Rattle.wh_history.proofs.Places.{at_place-place}
use Rattle.wh_history.proofs.Basics.{some_is}
use Rattle.wh_history.specs.Accepted.{Accepted, records_by, placeholders_by}
use Rattle.wh_history.specs.Tables.{Limits, command_row, CommandRow as Told}
use Rattle.wh_rows.specs.declared.rows.CommandRow.{CommandRow}
use Rattle.wh_rows.specs.Tables.{Tables}
use Rattle.wh_sql.specs.Answers.{same_text}
use Rattle.wh_model.specs.Defined.{AreOf, command_at}
use Rattle.wh_plan.specs.Reading.{HaveDistinctIds, number_by_id, command_with}
use Rattle.wh_model.proofs.Listed.{passes_at, values-numbered, len-values, length_numbered}
use Rattle.wh_model.proofs.FoundPlaces.{same_text_is, text_itself, at_place-map, at_place_there, behind_one, place_given, place_at, once_is}
use Rattle.wh_model.proofs.GrownKeys.{at_past}

-- the row of a command that has this number
abbrev pub stored : ℕ → Told → CommandRow
stored number c = record { number = number; id = c.id; kind = c.kind; bytes = c.bytes; records = c.records; placeholders = c.placeholders }

-- what table command says of an accepted command with this number
abbrev pub told : List Accepted → ℕ → Accepted → Told
told commands number c = record { id = c.id; kind = c.kind; bytes = c.bytes; records = records_by c.content; placeholders = placeholders_by commands number c.content }

numbered_so : (number : ℕ) (o : Option Told) (r : CommandRow) → option_map (stored number) o ≡ Some r → r.number ≡ number
numbered_so number None r h = cc
numbered_so number (Some c) r h = sym (ap (λ (o : CommandRow). o.number) (some_is _ _ h))

module _ (commands : List Accepted) where
  abbrev ids : List (List ℕ)
  ids = map (λ (c : Accepted). c.id) commands

  pub command_number : (number : ℕ) (r : CommandRow) → command_at commands number ≡ Some r → r.number ≡ number
  command_number number r is = numbered_so number (command_row commands number) r is

  told_id : (number : ℕ) (o : Option Accepted) (r : CommandRow) → option_map (stored number) (option_map (λ (c : Accepted). told commands number c) o) ≡ Some r → option_map (λ (c : Accepted). c.id) o ≡ Some r.id
  told_id number None r h = cc
  told_id number (Some c) r h = ap (λ (q : CommandRow). Some q.id) (some_is _ _ h)

  -- the id of a row stands at its number
  pub id_at : (number : ℕ) (r : CommandRow) → command_at commands number ≡ Some r → at_place number ids ≡ Some r.id
  id_at number r is = at_place-map (λ (c : Accepted). c.id) number commands ∙ told_id number (at_place number commands) r is

  pub command_past : (number : ℕ) → length commands < number → command_at commands number ≡ None
  command_past number past = ap (λ (o : Option Accepted). option_map (stored number) (option_map (told commands number) o)) (at_past number commands past)

  there : (number : ℕ) → 1 ≤ number → number < 1 + length commands → (r : CommandRow) × (command_at commands number ≡ Some r)
  there number low high =
      let c = at_place_there number commands (omega arith) (omega arith) in
      (stored number (told commands number c.0), ap (λ (o : Option Accepted). option_map (stored number) (option_map (told commands number) o)) c.1)

  -- the command of an id
  pub find_numbered : (id : List ℕ) → at_place (number_by_id commands id) commands ≡ find (λ c. bytes_eq c.id id) commands
  find_numbered id = found commands
    where
      found : (cs : List Accepted) → at_place (place bytes_eq id (map (λ (c : Accepted). c.id) cs)) cs ≡ find (λ c. bytes_eq c.id id) cs
      found [] = refl
      found (c ∷ cs) =
          elim (bytes_eq c.id id) as (λ b. at_place (cond b 1 (after_one (place bytes_eq id (map (λ (c : Accepted). c.id) cs)))) (c ∷ cs) ≡ cond b (Some c) (find (λ c. bytes_eq c.id id) cs)) [
            | true ↦ refl
            | false ↦ behind_one (place bytes_eq id (map (λ (c : Accepted). c.id) cs)) c cs ∙ found cs
          ]

module _ (limits : Limits) (commands : List Accepted) (t : Tables) (are : AreOf limits commands t) where
  -- table command in order of its numbers
  pub command_rows : values t.command ≡ filter_map (command_at commands) (range_with_len 0 (suc (length commands)))
  command_rows = values-numbered (λ (r : CommandRow). r.number) t.command (command_at commands) are.command (command_number commands) (length commands) (command_past commands)

  pub commands_counted : len t.command ≡ length commands
  commands_counted =
      len-values nat_cmp t.command ∙ ap (λ (rs : List CommandRow). length rs) command_rows
      ∙ length_numbered (command_at commands) 1 (length commands) (there commands)

  -- a search by an id finds its command
  pub command_of : HaveDistinctIds commands → (id : List ℕ) → filter (λ r. same_text id r.id) (values t.command) ≡ option_to_list (command_with commands id)
  command_of distinct id =
      let once = once_is bytes_eq bytes_eq-Decides (ids commands) distinct in
      let key : (j : ℕ) (w : CommandRow) → get t.command j ≡ Some w → same_text id w.id ≡ true → j ≡ number_by_id commands id = λ j w here same.
      let is : command_at commands j ≡ Some w = sym (are.command j) ∙ here in
      let name : id ≡ w.id = same_text_is id w.id same in
      sym (ap (λ (n : List ℕ). place bytes_eq n (ids commands)) name ∙ place_at bytes_eq bytes_eq-Decides j (ids commands) w.id once (id_at commands j w is)) in
      let own : (w : CommandRow) → get t.command (number_by_id commands id) ≡ Some w → (w.number ≡ number_by_id commands id) × (same_text id w.id ≡ true) = λ w here.
      let is : command_at commands (number_by_id commands id) ≡ Some w = sym (are.command (number_by_id commands id)) ∙ here in
      let at = id_at commands (number_by_id commands id) w is in
      let name : w.id ≡ id = some_is _ _ (sym at ∙ at_place-place bytes_eq bytes_eq-Decides id (ids commands) (place_given (number_by_id commands id) (ids commands) w.id at)) in
      (command_number commands (number_by_id commands id) w is, ap (same_text id) name ∙ text_itself id) in
      passes_at nat_cmp nat_cmp_total nat_cmp-IsAntisymmetric (λ (r : CommandRow). r.number) (λ r. same_text id r.id) t.command (number_by_id commands id) own key
      ∙ ap option_to_list (are.command (number_by_id commands id))
