use Rattle.std.proofs.Common.{◌≡◌, drop}
use Rattle.wh_day.specs.Value.{none_text}
use Rattle.wh_history.specs.Dated.{first_other_than, values_in, original}
use Rattle.wh_history.proofs.dated.original.Given as goal

abbrev pub invariant-loop-change : goal.invariant-loop-change
invariant-loop-change l = first_other_than none_text (values_in l.place (drop l.change-index l.changes)) ≡ original l.place l.changes
