-- The rows of the command table, handed to a warehouse in memory one after the other.
use Rattle.std.proofs.Common.{◌≡◌, ◌≢◌, ℕ, ◌≤◌, Bool, true, false, List, [], ◌∷◌, ◌++◌, map, filter, length, Some, None, refl, sym, ap, subst, ◌∙◌, append_assoc, append-nil}
use Rattle.std.specs.List.{list_all}
use Rattle.std.specs.List.Sorted.{IsPermutation}
use Rattle.std.specs.Ordering.{nat_cmp}
use Rattle.std.specs.FinMap.{nat_cmp-IsAntisymmetric}
use Rattle.std.proofs.lemmas.Bool.{and_parts}
use Rattle.std.proofs.lemmas.Cmp.{nat_cmp_total}
use Rattle.sqlite.specs.Order.{Row}
use Rattle.wh_history.specs.Accepted.{Accepted, format_of}
use Rattle.wh_history.specs.Tables.{Limits}
use Rattle.wh_history.proofs.Basics.{some_is}
use Rattle.wh_model.specs.Defined.{command_at}
use Rattle.wh_rows.specs.Keys.{bind_number, stands_at_number}
use Rattle.wh_rows.specs.Limits.{are_limits}
use Rattle.wh_rows.specs.Parts.{IsKeyed, IsArranged}
use Rattle.wh_rows.specs.Raw.{Stored}
use Rattle.wh_rows.specs.Rows as row
use Rattle.wh_rows.specs.declared.rows.CommandRow.{CommandRow}
use Rattle.wh_rows.specs.declared.table.Table.TheVariants.{Command}
use Rattle.wh_model.proofs.Listed.{Ascends}
use Rattle.wh_rows.proofs.Places as places
use Rattle.wh_rows.proofs.Raw.{no_damage}
use Rattle.wh_admission.specs.Admission.{AreAdmitted}
use Rattle.sqlite.specs.Files.{over_files}
use Rattle.wh_admission.specs.Steps.{IsBegunWith}
use Rattle.wh_admission.specs.Checked.{AreRowsAt}
use Rattle.wh_engine.specs.declared.engine.Engine.{Engine}
use Rattle.wh_checking.specs.declared.replica.Replica.{Replica}
use Rattle.wh_engine.specs.declared.session.Session.{Session}
use Rattle.wh_checking.specs.Replica.{IsReplica, IsEngineOf, IsOpenFor, IsFollowed, TellsNone, IsReplicated, IsEndOf}
use Rattle.wh_admission.proofs.CommandRows.{row_of, row_is}
use Rattle.wh_admission.proofs.AdmittedSteps.{stepped}
use Rattle.wh_admission.proofs.CheckedTables.{commands_told}
use Rattle.wh_admission.proofs.ListedCommands.{rows_in, rows_last, rows_rise, all_found, next_told}
use Rattle.wh_checking.proofs.Comparing.{DoKeysRise, arranged_once, with_one, all_valid_with}
use Rattle.wh_checking.proofs.ListedTables.{listed_stored, stored_listed, listed_valid}

abbrev rows_of : List Accepted → List CommandRow
rows_of commands = rows_in [] commands

do_rise : (rows : List CommandRow) → Ascends nat_cmp row.command.key rows → DoKeysRise row.command rows
do_rise [] up = tt
do_rise (r ∷ rows) up = (up.0, do_rise rows up.1)

pub commands_rise : (commands : List Accepted) → DoKeysRise row.command (rows_of commands)
commands_rise commands = do_rise (rows_of commands) (rows_rise [] commands)

-- valid rows that stand in the same columns are the same
same_rows : (vs ws : List CommandRow) → list_all row.command.is_valid vs ≡ true → list_all row.command.is_valid ws ≡ true → map row.command.encode vs ≡ map row.command.encode ws → vs ≡ ws
same_rows [] [] valid good same = refl
same_rows [] (w ∷ ws) valid good same = absurd cc
same_rows (v ∷ vs) [] valid good same = absurd cc
same_rows (v ∷ vs) (w ∷ ws) valid good same =
    let one = and_parts _ _ valid in
    let other = and_parts _ _ good in
    let parts = tails (row.command.encode v) (row.command.encode w) (map row.command.encode vs) (map row.command.encode ws) same in
    let first = places.command.once v w one.0 other.0 parts.0 in
    let rest = same_rows vs ws one.1 other.1 parts.1 in
    λ i. first i ∷ rest i
  where
    tails : (x y : Row) (xs ys : List Row) → x ∷ xs ≡ y ∷ ys → (x ≡ y) × (xs ≡ ys)
    tails x y xs ys same = (cc, cc)

-- the rows that were handed out are those of these commands, which the replica has
pub record AreHeld (limits : Limits) (replay : Replica) (seen : List CommandRow) : Type 0 where
  pub commands : List Accepted
  pub begun : IsBegunWith limits commands
  pub held : IsReplica limits commands replay
  pub rows : seen ≡ rows_of commands

-- These rows were handed out, of values of their types, and what is left comes after them. As long as each was that of the next command, the replica has these commands;
-- else no list that was admitted begins with them.
pub record HasReplicated (stored : List Row) (limits : Limits) (Left : List Row → Type 0) (replay : Replica) (is_list : Bool) : Type 0 where
  pub seen : List CommandRow
  pub valid : list_all row.command.is_valid seen ≡ true
  pub before : (left : List Row) → Left left → IsArranged row.command.table stored (map row.command.encode seen ++ left)
  pub right : is_list ≡ true → AreHeld limits replay seen
  pub wrong : is_list ≡ false → (commands : List Accepted) → AreAdmitted limits commands → (more : List CommandRow) → seen ++ more ≢ rows_of commands

begun_with : (limits : Limits) (commands : List Accepted) (a : Accepted) → AreAdmitted limits (commands ++ a ∷ []) → IsBegunWith limits (commands ++ a ∷ [])
begun_with limits [] a it = it
begun_with limits (b ∷ commands) a it = it

module _ (stored : List Row) (limits : Limits) (Left : List Row → Type 0) where
  pub replicated_none : (replay : Replica) → are_limits limits ≡ true → IsReplica limits [] replay → ((left : List Row) → Left left → IsArranged row.command.table stored left) → HasReplicated stored limits Left replay true
  unfolding rows_in
  replicated_none replay good held starts = record {
    seen = [];
    valid = refl;
    before = starts;
    right = λ _. record { commands = []; begun = good; held = held; rows = refl };
    wrong = λ never. absurd cc;
  }

  module _ (Rest : List Row → Type 0) (r : CommandRow) (good : row.command.is_valid r ≡ true) (hands : (left : List Row) → Rest left → Left (row.command.encode r ∷ left)) where
    pub replicated_next : (old new : Replica) (taken : Bool) → ((commands : List Accepted) → IsBegunWith limits commands → IsReplica limits commands old → IsFollowed limits commands r (λ list. IsReplica limits list new) taken) → HasReplicated stored limits Left old true → HasReplicated stored limits Rest new taken
    replicated_next old new true told it =
        let held = it.right refl in
        let next = told held.commands held.begun held.held in
        let own : r ≡ row_of held.commands next.0 = some_is r (row_of held.commands next.0) (sym next.1.row_is ∙ row_is held.commands next.0 []) in
        record {
          seen = it.seen ++ r ∷ [];
          valid = all_valid_with row.command it.seen r it.valid good;
          before = λ left are. subst (IsArranged row.command.table stored) (with_one row.command it.seen r left) (it.before (row.command.encode r ∷ left) (hands left are));
          right = λ _. record {
            commands = held.commands ++ next.0 ∷ [];
            begun = begun_with limits held.commands next.0 next.1.admitted;
            held = next.2;
            rows = (λ i. held.rows i ++ own i ∷ []) ∙ sym (rows_last [] held.commands next.0);
          };
          wrong = λ never. absurd cc;
        }
    replicated_next old new false told it =
        let held = it.right refl in
        let not_next = told held.commands held.begun held.held in
        record {
          seen = it.seen ++ r ∷ [];
          valid = all_valid_with row.command it.seen r it.valid good;
          before = λ left are. subst (IsArranged row.command.table stored) (with_one row.command it.seen r left) (it.before (row.command.encode r ∷ left) (hands left are));
          right = λ never. absurd cc;
          wrong = λ _ commands admitted more same.
              let begins : rows_of held.commands ++ r ∷ more ≡ rows_of commands = ap (λ l. l ++ r ∷ more) (sym held.rows) ∙ sym (append_assoc it.seen (r ∷ []) more) ∙ same in
              let next = next_told limits held.commands commands more r held.begun admitted begins in
              not_next next.command next.rest next.admitted next.row_is;
        }

    pub replicated_past : (replay : Replica) → HasReplicated stored limits Left replay false → HasReplicated stored limits Rest replay false
    replicated_past replay it = record {
      seen = it.seen ++ r ∷ [];
      valid = all_valid_with row.command it.seen r it.valid good;
      before = λ left are. subst (IsArranged row.command.table stored) (with_one row.command it.seen r left) (it.before (row.command.encode r ∷ left) (hands left are));
      right = λ never. absurd cc;
      wrong = λ _ commands admitted more same. it.wrong refl commands admitted (r ∷ more) (sym (append_assoc it.seen (r ∷ []) more) ∙ same);
    }

-- ---- at the end

module _ (stored : Stored) (limits : Limits) (keyed : IsKeyed row.command bind_number stands_at_number) (once : (k : ℕ) → length (filter (stands_at_number k) (stored.rows Command)) ≤ 1) (Left : List Row → Type 0) (ends : Left []) where
  whole : (replay : Replica) (is_list : Bool) (it : HasReplicated (stored.rows Command) limits Left replay is_list) → IsArranged row.command.table (stored.rows Command) (map row.command.encode it.seen)
  whole replay is_list it = subst (IsArranged row.command.table (stored.rows Command)) (append-nil (map row.command.encode it.seen)) (it.before [] ends)

  -- the rows are those of the commands that the replica has
  module _ (replay : Replica) (engine : Engine _) (is : replay.engine ≡ Some engine) (it : HasReplicated (stored.rows Command) limits Left replay true) where
    abbrev held : AreHeld limits replay it.seen
    held = it.right refl

    for_them : IsOpenFor over_files limits held.commands engine
    for_them = subst (IsEngineOf over_files limits held.commands) is held.held.engine_is

    own_rows : AreRowsAt row.command (command_at held.commands) (stored.rows Command)
    own_rows =
        let valid : list_all row.command.is_valid (rows_of held.commands) ≡ true = ap (list_all row.command.is_valid) (sym held.rows) ∙ it.valid in
        let same : IsPermutation (stored.rows Command) (map row.command.encode (rows_of held.commands)) = subst (λ vs. IsPermutation (stored.rows Command) (map row.command.encode vs)) held.rows (whole replay true it).same in
        listed_stored row.command nat_cmp_total nat_cmp-IsAntisymmetric (command_at held.commands) (rows_of held.commands) (commands_rise held.commands) (all_found held.commands) (stored.rows Command) valid same

    format_is : engine.session.format ≡ format_of held.commands
    format_is = ap (λ (s : Session). s.format) for_them.1.session_is

    told_list : engine.session.format ≡ stored.format → IsReplicated over_files stored limits (Some engine.tables)
    told_list made = (held.commands, sym made ∙ format_is, for_them.1.admitted, own_rows, (for_them.0, for_them.1.rests))

    -- they make another format, and are the only ones
    told_other : engine.session.format ≢ stored.format → TellsNone stored limits
    told_other other = (
      λ commands formatted admitted are.
          let one = commands_told stored limits commands held.commands admitted for_them.1.admitted are own_rows in
          other (format_is ∙ ap format_of (sym one) ∙ sym formatted),
      no_damage row.command (stored.rows Command) it.seen it.valid (whole replay true it).same,
    )

  no_list : (replay : Replica) (is_list : Bool) (it : HasReplicated (stored.rows Command) limits Left replay is_list) → ((commands : List Accepted) → AreAdmitted limits commands → it.seen ≢ rows_of commands) → TellsNone stored limits
  no_list replay is_list it differ = (
    λ commands formatted admitted are.
        let same = stored_listed row.command nat_cmp_total nat_cmp-IsAntisymmetric (command_at commands) (rows_of commands) (commands_rise commands) (all_found commands) (stored.rows Command) are in
        let valid = listed_valid row.command nat_cmp_total nat_cmp-IsAntisymmetric (command_at commands) (rows_of commands) (commands_rise commands) (all_found commands) (stored.rows Command) are in
        let one = arranged_once row.command bind_number stands_at_number keyed (stored.rows Command) once (rows_of commands) it.seen (whole replay is_list it) (commands_rise commands) same in
        differ commands admitted (same_rows it.seen (rows_of commands) it.valid valid one),
    no_damage row.command (stored.rows Command) it.seen it.valid (whole replay is_list it).same,
  )

  told_none : (replay : Replica) → replay.engine ≡ None → HasReplicated (stored.rows Command) limits Left replay true → TellsNone stored limits
  unfolding rows_in
  told_none replay is it = no_list replay true it (λ commands admitted same.
      let held = it.right refl in
      let steps = stepped limits commands admitted in
      let none : held.commands ≡ [] = subst (IsEngineOf over_files limits held.commands) is held.held.engine_is in
      let empty : [] ≡ rows_of commands = ap rows_of (sym none) ∙ sym held.rows ∙ same in
      nothing (empty ∙ ap rows_of steps.begins))
    where
      nothing : {r : CommandRow} {rows : List CommandRow} → [] ≡ r ∷ rows → ⊥
      nothing h = cc

  told_wrong : (replay : Replica) → HasReplicated (stored.rows Command) limits Left replay false → TellsNone stored limits
  told_wrong replay it = no_list replay false it (λ commands admitted same. it.wrong refl commands admitted [] (append-nil it.seen ∙ same))

  -- what is told of the list at the end
  pub told_of : (replay : Replica) (is_list : Bool) (result : _) → IsEndOf stored.format is_list replay.engine result → HasReplicated (stored.rows Command) limits Left replay is_list → IsReplicated over_files stored limits result
  told_of replay is_list (Some tables) is it =
      subst (λ t. IsReplicated over_files stored limits (Some t)) (sym is.4) (told_list replay is.0 is.1 (subst (HasReplicated (stored.rows Command) limits Left replay) is.2 it) is.3)
  told_of replay false None other it = told_wrong replay it
  told_of replay true None other it = by_engine replay.engine refl
    where
      by_engine : (kept : _) → replay.engine ≡ kept → TellsNone stored limits
      by_engine None is = told_none replay is it
      by_engine (Some engine) is = told_other replay engine is it (other refl engine is)
