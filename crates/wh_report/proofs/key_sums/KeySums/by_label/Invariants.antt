use Rattle.std.proofs.Common.{List}
use Rattle.wh_rows.specs.declared.keyed_sale.KeyedSale.{KeyedSale}
use Rattle.wh_report.specs.KeySums.{AreKeySums}
use Rattle.wh_report.specs.Labels.{labels_get}
use Rattle.wh_report.proofs.KeyedSums.{IsJoined}
use Rattle.wh_report.proofs.key_sums.KeySums.by_label.Given as goal

-- what is added, before what is still there
abbrev pub invariant-loop-key : goal.invariant-loop-key
invariant-loop-key l = (sales : List KeyedSale) → AreKeySums l.self sales → IsJoined (labels_get l.labels) sales l.self l.key-iterator l.summary
