use Rattle.std.proofs.Common.{◌≡◌, ◌++◌, take}
use Rattle.csv.specs.Records.{fields_of}
use Rattle.wh_query.specs.Asked.{words_of}
use Rattle.wh_query.proofs.text.push_labels.Given as goal

-- the labels so far stand behind what was there
abbrev pub invariant-labels : goal.invariant-labels
invariant-labels l = fields_of l.fields ≡ fields_of l.fn.fields ++ words_of (take l.label-index l.labels)
