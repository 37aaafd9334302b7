use Rattle.std.proofs.Common.{◌+◌, ◌≤◌, ◌≡◌, take, drop, subst, subst₂, sym, le_trans, arith}
use Rattle.std.proofs.lemmas.Grind.{common_steps}
use Rattle.wh_sql.specs.Answers.{state_of}
use Rattle.wh_program.specs.Answer.{status_code}
use Rattle.wh_program.specs.Room.{longest_answer, longest_reply}
use Rattle.wh_program.proofs.DeliveryLemmas.{AreSent, IsOut, parted_at, up_to_it, fits_longest, none_sent, all_out, next_done, next_refused, ended_out}
use Rattle.wh_program.proofs.visits.delivery.send_each.Goals as goal
use Rattle.wh_program.proofs.visits.delivery.send_each.Goals.{in-Done, in-Refused}

pub loop-command-init : goal.loop-command-init
loop-command-init g c = record { enough = c.requires; sent = none_sent c.args.engine.now.session (state_of g.S.Store c.args.engine.now.tables) (g.W.Write.contents c.args.out.now) }

pub send_next-requires : goal.send_next-requires
send_next-requires g c =
    let sent = c.args.commands.now in
    let i = c.loop-command.command-index in
    let command = c.command-item.result in
    let parts = parted_at sent i command c.loop-command-test.true c.command-item.is in
    le_trans (subst (λ list. longest_answer command.id ≤ longest_reply list) (sym parts) (fits_longest (take i sent) command (drop (i + 1) sent))) c.loop-command.invariant.enough

pub loop-command-preserved : goal.loop-command-preserved
loop-command-preserved g c =
    let sent = c.args.commands.now in
    let i = c.loop-command.command-index in
    let command = c.command-item.result in
    let status = c.loop-command.status in
    let next = up_to_it sent i command c.loop-command-test.true c.command-item.is in
    let first = c.args.engine.now.session in
    let at = c.loop-command.engine.session in
    let last = c.send_next.new.engine.session in
    let s0 = state_of g.S.Store c.args.engine.now.tables in
    let s1 = state_of g.S.Store c.loop-command.engine.tables in
    let s2 = state_of g.S.Store c.send_next.new.engine.tables in
    let old = g.W.Write.contents c.args.out.now in
    let mid = g.W.Write.contents c.loop-command.out in
    let new = g.W.Write.contents c.send_next.new.out in
    let shown = c.send_next.result in
    let reply = c.send_next.ensures.sent in
    record {
      enough = le_trans c.loop-command.invariant.enough c.send_next.ensures.room;
      sent = elim c.match-send_next.branch [
        | in-Done w ↦ subst₂ (λ list ending. AreSent list first last s0 s2 old new ending) next (sym w.status-is)
            (next_done (take i sent) command first at last s0 s1 s2 old mid new status shown reply.0 c.loop-command.invariant.sent reply.1 c.send_next.ensures.clean reply.2 reply.3 w.in-Done.is)
        | in-Refused w ↦ subst₂ (λ list ending. AreSent list first last s0 s2 old new ending) next (sym w.status-is)
            (next_refused (take i sent) command first at last s0 s1 s2 old mid new status shown reply.0 c.loop-command.invariant.sent reply.1 c.send_next.ensures.clean reply.2 reply.3 w.in-Refused.is)
      ];
    }

pub returns-in-Failed-clause-delivered : goal.returns-in-Failed-clause-delivered
returns-in-Failed-clause-delivered g c =
    let sent = c.args.commands.now in
    let i = c.loop-command.command-index in
    let command = c.command-item.result in
    let first = c.args.engine.now.session in
    let s0 = state_of g.S.Store c.args.engine.now.tables in
    let s1 = state_of g.S.Store c.loop-command.engine.tables in
    let s2 = state_of g.S.Store c.send_next.new.engine.tables in
    let old = g.W.Write.contents c.args.out.now in
    let mid = g.W.Write.contents c.loop-command.out in
    let new = g.W.Write.contents c.send_next.new.out in
    let shown = c.send_next.result in
    let reply = c.send_next.ensures.sent in
    subst₂ (λ list ending. IsOut list first s0 s2 old new (status_code ending)) (sym (parted_at sent i command c.loop-command-test.true c.command-item.is)) c.in-Failed.is
    (ended_out (take i sent) command first c.loop-command.engine.session c.send_next.new.engine.session s0 s1 s2 old mid new c.loop-command.status shown reply.0 c.loop-command.invariant.sent reply.1
    c.send_next.ensures.clean reply.2 reply.3 (drop (i + 1) sent) c.in-Failed.is)

pub returns-clause-delivered : goal.returns-clause-delivered
returns-clause-delivered g c =
    let whole : take c.loop-command.command-index c.args.commands.now ≡ c.args.commands.now = grind (arith, common_steps, c.loop-command-test.false) in
    all_out c.args.commands.now c.args.engine.now.session c.loop-command.engine.session (state_of g.S.Store c.args.engine.now.tables) (state_of g.S.Store c.loop-command.engine.tables)
    (g.W.Write.contents c.args.out.now) (g.W.Write.contents c.loop-command.out) c.loop-command.status (rw whole at c.loop-command.invariant.sent)
