use Rattle.std.proofs.Common.{◌-◌, ◌∙◌, arith}
use Rattle.wh_engine.specs.Decided.{lines_in}
use Rattle.wh_engine.proofs.Decisions.{room_left}
use Rattle.wh_engine.proofs.admission.has_room_for_lines.Goals as goal

pub returns-clause-room : goal.returns-clause-room
returns-clause-room g c clean t rests few within =
    let left = c.args.limit - c.in_ok-kept.kept in
    c.has_room_left-2.ensures ∙ room_left (lines_in c.args.format t) c.args.records c.args.limit left (omega (arith, c.in_ok-kept.ensures.count clean t rests)) within
