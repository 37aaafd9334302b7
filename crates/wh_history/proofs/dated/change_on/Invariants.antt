use Rattle.std.proofs.Common.{◌≡◌, map, drop, Bor}
use Rattle.std.specs.Option.{option_copied}
use Rattle.wh_history.specs.Dated.{at}
use Rattle.wh_history.specs.declared.member.Change.{Change}
use Rattle.wh_history.proofs.Steps.{goes_on}
use Rattle.wh_history.proofs.dated.change_on.Given as goal

-- what was found and what is left give the answer
abbrev pub invariant-loop-change : goal.invariant-loop-change
invariant-loop-change l = goes_on l.day (option_copied l.found) (map (λ (c : Bor Change). c.now) (drop l.change-index l.dated)) ≡ at l.day (map (λ (c : Bor Change). c.now) l.dated)
