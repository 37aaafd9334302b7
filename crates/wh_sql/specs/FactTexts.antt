-- The statements on the facts of either format.
use Rattle.std.specs.Prelude.{ℕ, List}
use Rattle.wh_policy.specs.declared.format.Format.{Format}
use Rattle.wh_policy.specs.declared.format.Format.TheVariants.{One, Two}
use Rattle.wh_rows.specs.Inserting as texts_at_once
use Rattle.wh_rows.specs.Since.{sales_since, sales_since2}
use Rattle.wh_rows.specs.Texts.{Texts}
use Rattle.wh_rows.specs.Texts as texts

-- what their table is asked
abbrev pub fact_texts : Format → Texts
fact_texts One = texts.fact
fact_texts Two = texts.fact2

-- the text that shows all from a day on, in no order
abbrev pub since_asked : Format → List ℕ
since_asked One = sales_since
since_asked Two = sales_since2

-- the text that puts sixteen in
abbrev pub inserting : Format → List ℕ
inserting One = texts_at_once.fact
inserting Two = texts_at_once.fact2
