use Rattle.std.proofs.Common.{◌≡◌, map, drop}
use Rattle.wh_query.specs.Asked.{words_of}
use Rattle.wh_query.specs.Led.{lead_of}
use Rattle.wh_query.specs.Slice.{lead_labels}
use Rattle.wh_query.proofs.Leading.{after_front}
use Rattle.wh_query.proofs.led.put_labels.Given as goal

-- the labels so far, before what is left, are all
abbrev pub invariant-columns : goal.invariant-columns
invariant-columns l = after_front (words_of l.labels.items) (lead_labels (map lead_of (drop l.column-index l.columns)) l.sale) ≡ lead_labels (map lead_of l.columns) l.sale
