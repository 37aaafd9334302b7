-- The texts about the facts of either format.
use Rattle.std.specs.Prelude.{ℕ, List}
use Rattle.wh_policy.specs.declared.format.Format.{Format}
use Rattle.wh_policy.specs.declared.format.Format.TheVariants.{One, Two}
use Rattle.wh_rows.specs.declared.keyed_sale.FactColumn.{FactColumn}
use Rattle.wh_rows.specs.Facts.{facts_in, with_facts_in}
use Rattle.wh_rows.specs.KeyedSales.{keyed_sales, keyed_sales2}
use Rattle.wh_rows.specs.Rekey.{Rekey, rekey_text, rekeyed, rekey2_text}
use Rattle.wh_rows.specs.Tables.{Tables}

-- the text that shows all of them by one of their keys
abbrev pub facts_by : Format → FactColumn → List ℕ
facts_by One = keyed_sales
facts_by Two = keyed_sales2

-- the text that gives one of them other keys, and the tables with these
abbrev pub rekeying : Format → List ℕ
rekeying One = rekey_text
rekeying Two = rekey2_text

abbrev pub with_rekeyed : Format → Rekey → Tables → Tables
with_rekeyed format r t = with_facts_in format (rekeyed r (facts_in format t)) t
