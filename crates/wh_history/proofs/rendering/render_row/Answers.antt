use Rattle.std.specs.Option.{option_copied}
use Rattle.wh_history.proofs.Walks.{row_is}
use Rattle.wh_history.proofs.rendering.render_row.Goals as goal

pub returns : goal.returns
returns c =
    let frame = c.args.frame.now in
    let start = c.args.start.now in
    rw (c.in_ok-copy.ensures, c.eq.ensures, c.last.ensures, c.in_ok-main_texts.ensures, c.as_slice.ensures, c.in_ok-copy-2.ensures)
    (row_is frame.types.now frame.profile_now frame.member.now start.day c.args.to_day start.surrogate (option_copied start.change) frame.steady frame.second c.requires.frame c.requires.start)
