use Rattle.std.proofs.Common.{subst}
use Rattle.wh_engine.specs.Previewed.{IsForeseenAnew, named}
use Rattle.wh_engine.proofs.Decisions.{is_new}
use Rattle.wh_engine.proofs.preview.preview_anew.Goals as goal
use Rattle.wh_sql.proofs.Sparing.{tables_again}
use Rattle.wh_engine.proofs.Scanning.{reads_after}

pub returns-clause-previewed : goal.returns-clause-previewed
returns-clause-previewed g c clean commands t held rests =
    let limits = c.args.session.now.limits in
    let before = c.preview_of.ensures.reads.spares.clean clean in
    let still = tables_again c.in_ok-id.ensures.reads.spares before t rests tt in
    let none = c.in_ok-id.ensures.new before limits commands t held.are rests held.accepted.distinct in
    subst (λ bytes. IsForeseenAnew limits commands c.args.kind bytes c.preview_of.result) c.in_ok-bytes.ensures (c.preview_of.ensures.previewed clean commands t held still c.in_ok-id.ensures.good (is_new limits commands (named c.args.kind c.in_ok-bytes.bytes c.in_ok-id.id) none))

pub returns-clause-reads : goal.returns-clause-reads
returns-clause-reads g c = reads_after g.S.Store _ _ _ c.preview_of.result c.in_ok-id.ensures.reads.spares c.preview_of.ensures.reads
