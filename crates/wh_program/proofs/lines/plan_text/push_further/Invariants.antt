use Rattle.std.proofs.Common.{◌≡◌, ◌++◌, take}
use Rattle.std.specs.Prelude.{codes, flat_map}
use Rattle.sqlite.specs.Values.{bound}
use Rattle.wh_report.specs.Dump.{value_field}
use Rattle.wh_program.proofs.lines.plan_text.push_further.Given as goal

-- the columns so far were added
abbrev pub invariant-loop-value : goal.invariant-loop-value
invariant-loop-value l = l.text.items ≡ l.initial.text.items ++ flat_map (λ value. codes " " ++ value_field value) (bound (take l.value-index l.values))
