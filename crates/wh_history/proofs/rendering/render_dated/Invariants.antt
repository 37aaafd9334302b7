use Rattle.std.proofs.Common.{◌≡◌, ◌++◌, ◌-◌, map, drop, Bor}
use Rattle.std.specs.Option.{option_copied}
use Rattle.wh_day.specs.Day.{first_day}
use Rattle.wh_history.specs.Dated.{dated}
use Rattle.wh_history.specs.Rows.{row, starts, spans}
use Rattle.wh_history.specs.Rendering.{IsStart}
use Rattle.wh_history.specs.declared.member.Change.{Change}
use Rattle.wh_history.proofs.Walks.{InForceAtOwn}
use Rattle.wh_history.proofs.Spans.{InOrder}
use Rattle.wh_history.proofs.rendering.render_dated.Given as goal

-- the rows so far and those of the changes that are left are all
abbrev pub invariant-loop-place : goal.invariant-loop-place
invariant-loop-place l =
    let kinds = l.frame.types.now in
    let m = l.frame.member.now in
    let left = map (λ (c : Bor Change). c.now) (drop (l.place - 1) l.changes) in
    let rows_of = map (row kinds l.frame.profile_now m) in
    record {
      order : InOrder left;
      own : InForceAtOwn (dated m.changes) left;
      start : IsStart m l.start.day l.start.surrogate (option_copied l.start.change);
      whole : l.found.items ++ rows_of (spans l.start.day (starts kinds left)) ≡ rows_of (spans first_day (starts kinds (dated m.changes)));
    }
