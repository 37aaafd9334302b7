use Rattle.std.proofs.Common.{◌≡◌, ◌&&◌, map, drop, nat_lt, Bor}
use Rattle.std.specs.Prelude.{find}
use Rattle.wh_history.specs.Shapes.{shown}
use Rattle.wh_history.specs.declared.member.Change.{Change}
use Rattle.wh_history.specs.MovingDays.{first_kept, keeps_row}
use Rattle.wh_history.proofs.moving_days.first_kept.Given as goal

-- what is left has the first of all
abbrev pub invariant-loop-change : goal.invariant-loop-change
invariant-loop-change l =
    let stored = shown l.stored in
    let after = shown l.after in
    find (λ (c : Change). nat_lt l.last c.day && keeps_row stored after c.day) (map (λ (c : Bor Change). c.now) (drop l.change-index l.stored.dated.items)) ≡ first_kept stored after l.last
