-- An upgrade leaves every row but its own and those of meta, and every fact.
use Rattle.std.proofs.Common.{◌≡◌, false, List, [], ◌∷◌, ◌++◌, Option, None, Some, refl, ap, ◌∙◌, ◌==◌, ◌&&◌}
use Rattle.std.specs.Prelude.{option_map, find, bytes_eq}
use Rattle.wh_policy.specs.declared.format.Format.TheVariants.{One, Two}
use Rattle.wh_policy.specs.declared.record.SaleRecord.{SaleRecord}
use Rattle.wh_history.specs.Accepted.{Accepted, Upgrades, formatted, format_of, withdrawn_by, standing}
use Rattle.wh_history.specs.Laws.{governs}
use Rattle.wh_history.specs.Tables.{fact_of}
use Rattle.wh_history.proofs.Standing.{standing-kept, void-kept}
use Rattle.wh_rows.specs.declared.key.LineKey.{LineKey}
use Rattle.wh_model.specs.Defined.{fact_at, void_at}
use Rattle.wh_model.proofs.Formatted.{format_with}
use Rattle.wh_model.proofs.QuietLists.{IsQuiet, upgrade_quiet}
use Rattle.wh_model.proofs.QuietRows.{fact_of_same}
use Rattle.wh_model.proofs.StandingFacts.{fact_kept, void_at_kept}

module _ (commands : List Accepted) (c : Accepted) (is : c.content ≡ Upgrades) where
  pub quiet : IsQuiet c.content
  quiet = rw is upgrade_quiet

  pub no_policy : governs c.content ≡ false
  no_policy = rw is refl

  unvoided : withdrawn_by c.content ≡ []
  unvoided = rw is refl

  -- the second format is made
  pub upgraded : format_of (commands ++ c ∷ []) ≡ Two
  upgraded = format_with One commands c ∙ ap (formatted (format_of commands)) is

  pub fact_same : (key : LineKey) → fact_at (commands ++ c ∷ []) key ≡ fact_at commands key
  fact_same = fact_kept commands c (λ s. fact_of_same commands c quiet no_policy s) unvoided (quiet.no_sale)

  pub void_same : (key : LineKey) → void_at (commands ++ c ∷ []) key ≡ void_at commands key
  void_same = void_at_kept commands c unvoided
