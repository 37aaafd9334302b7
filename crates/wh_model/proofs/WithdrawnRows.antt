-- A batch of voids leaves every row but its own, takes out the facts of its lines, and gives each of these its number.
use Rattle.std.proofs.Common.{◌≡◌, ℕ, suc, false, cond, List, [], ◌∷◌, ◌++◌, length, Option, None, Some, refl, ap, ◌∙◌}
use Rattle.std.specs.Option.{option_or}
use Rattle.wh_policy.specs.declared.record.VoidRecord.{VoidRecord}
use Rattle.wh_history.specs.Accepted.{Accepted, Withdraws, format_of, withdrawn_by, withdraws_line}
use Rattle.wh_history.specs.Laws.{governs}
use Rattle.wh_rows.specs.declared.key.LineKey.{LineKey}
use Rattle.wh_rows.specs.declared.rows.VoidRow.{VoidRow}
use Rattle.wh_model.specs.Defined.{fact_at, void_at}
use Rattle.wh_model.specs.Laws.{VoidsTakeOutFacts}
use Rattle.wh_model.proofs.Formatted.{format_stays}
use Rattle.wh_model.proofs.QuietLists.{IsQuiet, void_quiet}
use Rattle.wh_model.proofs.QuietRows.{dimension_same, member_same, change_same, profile_same, fact_of_same}
use Rattle.wh_model.proofs.StandingFacts.{void_with, fact_voided, void_at_voided}

module _ (commands : List Accepted) (c : Accepted) (lines : List VoidRecord) (is : c.content ≡ Withdraws lines) where
  pub quiet : IsQuiet c.content
  quiet = rw is (void_quiet lines)

  pub no_policy : governs c.content ≡ false
  no_policy = rw is refl

  pub format_same : format_of (commands ++ c ∷ []) ≡ format_of commands
  format_same = format_stays commands c (rw is refl)

  pub fact_gone : (key : LineKey) → fact_at (commands ++ c ∷ []) key ≡ cond (withdraws_line key.ticket key.line lines) None (fact_at commands key)
  fact_gone key =
      fact_voided commands c (λ s. fact_of_same commands c quiet no_policy s) quiet.no_sale key
      ∙ ap (λ content. cond (withdraws_line key.ticket key.line (withdrawn_by content)) None (fact_at commands key)) is

  pub void_new : (key : LineKey) → void_at (commands ++ c ∷ []) key ≡ option_or (void_at commands key) (void_with key (cond (withdraws_line key.ticket key.line lines) (Some (suc (length commands))) None))
  void_new key =
      void_at_voided commands c key
      ∙ ap (λ content. option_or (void_at commands key) (void_with key (cond (withdraws_line key.ticket key.line (withdrawn_by content)) (Some (suc (length commands))) None))) is

pub voids_take_out_facts : VoidsTakeOutFacts
voids_take_out_facts commands c lines is = record {
  rows = dimension_same commands c (quiet commands c lines is) (no_policy commands c lines is);
  members = member_same commands c (quiet commands c lines is) (no_policy commands c lines is);
  changes = change_same commands c (quiet commands c lines is) (no_policy commands c lines is);
  profiles = profile_same commands c (quiet commands c lines is) (no_policy commands c lines is);
  facts = fact_gone commands c lines is;
}
