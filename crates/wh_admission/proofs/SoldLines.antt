-- No line is sold twice, and none is withdrawn that does not stand.
use Rattle.std.proofs.Common.{◌⊎◌, inl, inr, ◌≡◌, ◌==◌, ◌&&◌, ◌||◌, Bool, true, false, not, cond, List, [], ◌∷◌, Option, Some, None, Ok, refl, ap, sym, subst, ◌∙◌}
use Rattle.std.specs.Prelude.{find, bytes_eq, Result}
use Rattle.std.specs.List.{list_any}
use Rattle.wh_policy.specs.declared.record.SaleRecord.{SaleRecord}
use Rattle.wh_policy.specs.declared.record.VoidRecord.{VoidRecord}
use Rattle.wh_history.specs.Accepted.{Accepted, Content, Sells, Withdraws, sold, standing, withdrawn, withdraws_line, format_of}
use Rattle.wh_history.specs.Tables.{Limits}
use Rattle.wh_history.proofs.Standing.{found_standing}
use Rattle.wh_model.specs.Sound.{is_sold_line}
use Rattle.wh_model.proofs.GrownKeys.{all_at}
use Rattle.wh_model.proofs.SameLines.{withdrawn_lines_stay_sold}
use Rattle.wh_admission.specs.Admission.{content_of, current_policy, answer}
use Rattle.wh_admission.specs.Answers.{KeepsToChanges, is_missing, is_sold, IsAnswer, SoldLinesAreRefused, WithdrawnLinesAreNotSold, WithdrawnLinesAreRefused}
use Rattle.wh_admission.specs.declared.command.Command.{Command}
use Rattle.wh_admission.specs.declared.command.Receipt.{Receipt}
use Rattle.wh_admission.specs.declared.command.Refusal.{Refusal}
use Rattle.wh_admission.specs.declared.command.Reply.{Reply}
use Rattle.wh_admission.specs.declared.command.Reply.TheVariants.{Accepted as Accepts}
use Rattle.wh_admission.proofs.AnswersByCases.{answer_is_by_cases}
use Rattle.wh_admission.proofs.CheckedTables.{ok_is}

module _ (limits : Limits) (commands : List Accepted) (c : Command) (content : Content) (says : content_of c.kind (format_of commands) (current_policy commands) c.bytes ≡ Ok content) where
  -- what is accepted has passed the tests of lines
  passed : (receipt : Receipt) (said : Result Reply Refusal) → IsAnswer limits commands c said → said ≡ Ok (Accepts receipt) → KeepsToChanges limits commands c content
  passed receipt _ (IsAnswer.accepted read keeps within) is = subst (KeepsToChanges limits commands c) (ok_is read content (sym keeps.lines.withdraws.fits.counted.says.read ∙ says)) keeps
  passed receipt _ _ is = absurd cc

  keeps_to_lines : (receipt : Receipt) → answer limits commands c ≡ Ok (Accepts receipt) → KeepsToChanges limits commands c content
  keeps_to_lines receipt is = passed receipt (answer limits commands c) (answer_is_by_cases limits commands c) is

pub sold_lines_are_refused : SoldLinesAreRefused
sold_lines_are_refused limits commands c sales number s says there before receipt is =
    let keeps = keeps_to_lines limits commands c (Sells sales) says receipt is in
    let new = all_at (λ t. is_sold commands t ≡ false) number sales s keeps.lines.lines_new there in
    cc

pub withdrawn_lines_are_not_sold : WithdrawnLinesAreNotSold
withdrawn_lines_are_not_sold limits commands c sales number s ok says there gone =
    sold_lines_are_refused limits commands c sales number s says there (withdrawn_lines_stay_sold limits commands s ok gone)

-- what is not found is not there, and the other way round
not_there : {X : Type 0} (p : X → Bool) (xs : List X) → find p xs ≡ None → list_any p xs ≡ false
not_there p [] none = refl
not_there p (x ∷ xs) none =
    elim (p x) as (λ b. cond b (Some x) (find p xs) ≡ None → (b || list_any p xs) ≡ false) [
      | true ↦ λ some. absurd cc
      | false ↦ λ later. not_there p xs later
    ] none

not_found : {X : Type 0} (p : X → Bool) (xs : List X) → list_any p xs ≡ false → find p xs ≡ None
not_found p [] none = refl
not_found p (x ∷ xs) none =
    elim (p x) as (λ b. (b || list_any p xs) ≡ false → cond b (Some x) (find p xs) ≡ None) [
      | true ↦ λ some. absurd cc
      | false ↦ λ later. not_found p xs later
    ] none

-- the sale has the void's line
abbrev on_line : VoidRecord → SaleRecord → Bool
on_line v s = bytes_eq s.ticket v.ticket && (s.line == v.line)

either_none : (gone : Bool) (o : Option SaleRecord) → (gone ≡ true) ⊎ (o ≡ None) → cond gone None o ≡ None
either_none true o either = refl
either_none false o (inl gone) = absurd cc
either_none false o (inr none) = none

-- a line that was withdrawn, or never sold, does not stand
stands_not : (commands : List Accepted) (v : VoidRecord) → (withdraws_line v.ticket v.line (withdrawn commands) ≡ true) ⊎ (is_sold_line (sold commands) v ≡ false) → is_sold_line (standing commands) v ≡ false
stands_not commands v either =
    not_there (on_line v) (standing commands) (found_standing (withdrawn commands) v.ticket v.line (sold commands) ∙ either_none (withdraws_line v.ticket v.line (withdrawn commands)) (find (on_line v) (sold commands)) (unsold either))
  where
    unsold : (withdraws_line v.ticket v.line (withdrawn commands) ≡ true) ⊎ (is_sold_line (sold commands) v ≡ false) → (withdraws_line v.ticket v.line (withdrawn commands) ≡ true) ⊎ (find (on_line v) (sold commands) ≡ None)
    unsold (inl gone) = inl gone
    unsold (inr never) = inr (not_found (on_line v) (sold commands) never)

pub withdrawn_lines_are_refused : WithdrawnLinesAreRefused
withdrawn_lines_are_refused limits commands c lines number v says there either receipt is =
    let keeps = keeps_to_lines limits commands c (Withdraws lines) says receipt is in
    let stands : not (is_sold_line (standing commands) v) ≡ false = all_at (λ w. is_missing commands w ≡ false) number lines v keeps.lines.withdraws.lines_stand there in
    let none = stands_not commands v either in
    let missing : not (is_sold_line (standing commands) v) ≡ true = ap not none in
    cc
