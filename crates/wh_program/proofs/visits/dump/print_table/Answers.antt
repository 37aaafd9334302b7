use Rattle.std.proofs.Common.{inl, refl, sym, ap, ◌∙◌, Ok, Err}
use Rattle.std.specs.List.{concat}
use Rattle.wh_rows.specs.Names.{is_there}
use Rattle.wh_engine.specs.declared.session.Session.{Session}
use Rattle.wh_program.specs.Answer.{status_code, done}
use Rattle.wh_report.specs.Dump.{lines_of_table}
use Rattle.wh_report.specs.Output.{of_warehouse}
use Rattle.wh_sql.specs.Answers.{state_of}
use Rattle.wh_program.proofs.LookingLemmas.{through_looks}
use Rattle.wh_program.proofs.ReadingLemmas.{left, stopped-dump}
use Rattle.wh_program.proofs.visits.dump.print_table.Goals as goal

pub returns-in-Ok-clause-dumped : goal.returns-in-Ok-clause-dumped
returns-in-Ok-clause-dumped g c = λ clean limits commands ready.
    let at = ready.rests in
    let stays = left limits commands (Ok tt) c.dump.new.engine.session (state_of g.S.Store c.dump.new.engine.tables) (c.in-Ok.ensures.reads.serves clean limits commands ready) in
    let text = concat (lines_of_table c.args.table at.tables) in
    (stays.0, (Ok (done text), record { tables = at.tables; are = at.are; read = Ok tt; leaves = stays.1; tells = refl }, inl (record { status = refl; text = c.in-Ok.ensures.out clean at.tables (ap (is_there c.args.table) (at.are.format ∙ sym (ap (λ (s : Session). s.format) ready.session_is))) at.rests })), stays.2)

pub returns-in-Err-clause-dumped : goal.returns-in-Err-clause-dumped
returns-in-Err-clause-dumped g c = λ clean limits commands ready.
    let at = ready.rests in
    let read = of_warehouse {A = Unit {0}} (Err c.in-Err.fault) in
    let stays = left limits commands read c.dump.new.engine.session (state_of g.S.Store c.dump.new.engine.tables) (c.in-Err.ensures.reads.serves clean limits commands ready) in
    let said = stopped-dump (lines_of_table c.args.table at.tables) c.in-Err.fault (g.W.Write.contents c.args.out.now) (g.W.Write.contents c.dump.new.out) (g.W.Write.contents c.print_stop.new.out) (status_code c.print_stop.result)
    c.in-Err.ensures.kinds (c.in-Err.ensures.out clean at.tables (ap (is_there c.args.table) (at.are.format ∙ sym (ap (λ (s : Session). s.format) ready.session_is))) at.rests) c.print_stop.ensures in
    (stays.0, (said.0, record { tables = at.tables; are = at.are; read = read; leaves = stays.1; tells = said.1 }, said.2), stays.2)

pub returns-in-Ok-clause-looks : goal.returns-in-Ok-clause-looks
returns-in-Ok-clause-looks g c = through_looks c.dump.ensures.reads

pub returns-in-Err-clause-looks : goal.returns-in-Err-clause-looks
returns-in-Err-clause-looks g c = through_looks c.dump.ensures.reads
