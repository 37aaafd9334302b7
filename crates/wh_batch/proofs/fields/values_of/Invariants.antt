use Rattle.std.proofs.Common.{◌≡◌, map, drop}
use Rattle.wh_batch.specs.Fields.{values_of}
use Rattle.wh_day.proofs.Loops.{with_front}
use Rattle.wh_batch.proofs.fields.values_of.Given as goal

abbrev pub invariant-loop-field : goal.invariant-loop-field
invariant-loop-field l = with_front l.values (values_of (map (λ f. f.now) (drop l.field-index l.fields))) ≡ values_of (map (λ f. f.now) l.fields)
