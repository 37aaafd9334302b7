use Rattle.std.proofs.Common.{◌≡◌, ◌≤◌, length, map, take}
use Rattle.csv.specs.Records.{fields_of}
use Rattle.wh_batch.proofs.sale.nine_fields.Given as goal

abbrev pub invariant-loop-i : goal.invariant-loop-i
invariant-loop-i l = (length l.fields ≡ 9) × (map (λ f. f.now) (take l.i l.fields) ≡ take l.i (fields_of l.row)) × (l.i ≤ 9)
