-- Edits of facts are the same in the table of either format.
use Rattle.std.proofs.Common.{◌≡◌, List, [], ◌∷◌, refl}
use Rattle.std.specs.Prelude.{◌≢◌, Result, IfErr, ⊤}
use Rattle.std.specs.FinMap.{FinMap}
use Rattle.wh_history.specs.declared.facts.Fact.{Fact}
use Rattle.wh_history.specs.declared.plan.Edit.{Edit}
use Rattle.wh_history.specs.declared.plan.Edit.TheVariants.{Put, Remove}
use Rattle.sqlite.specs.State.{State}
use Rattle.wh_policy.specs.declared.format.Format.{Format}
use Rattle.wh_rows.specs.AtRest.{IsCauseOf}
use Rattle.wh_rows.specs.Facts.{fact_layout}
use Rattle.wh_rows.specs.Keys.{bind_line}
use Rattle.wh_rows.specs.declared.cause.Cause.{Cause}
use Rattle.wh_rows.specs.declared.cause.Cause.TheVariants.{Memory}
use Rattle.wh_rows.specs.Rows as row
use Rattle.wh_rows.specs.Steps.{with_row, with_rows}
use Rattle.wh_rows.specs.declared.key.LineKey.{LineKey}
use Rattle.wh_sql.specs.Edits.{with_edit, statement_of}
use Rattle.wh_sql.specs.FactTexts.{fact_texts}

pub same_edit : (edit : Edit Fact LineKey) (facts : FinMap row.line_cmp Fact) → with_edit row.fact2 edit facts ≡ with_edit row.fact edit facts
same_edit (Put f) facts = refl
same_edit (Remove key) facts = refl

pub same_rows : (fs : List Fact) (facts : FinMap row.line_cmp Fact) → with_rows row.fact2 fs facts ≡ with_rows row.fact fs facts
same_rows [] facts = refl
same_rows (f ∷ fs) facts = same_rows fs (with_row row.fact f facts)

-- an edit in the table of a format was refused for what the store says of its statement
abbrev pub IsRefusedEdit : Format → Edit Fact LineKey → State → State → Result ⊤ Cause → Type 0
IsRefusedEdit format edit old new result = let asked = statement_of (fact_layout format) (fact_texts format) bind_line edit in
    IfErr result (λ cause. cause ≢ Memory → IsCauseOf asked.0 asked.1 old new cause)
