use Rattle.std.specs.Prelude.{Option}
use Rattle.wh_sql.specs.Answers.{state_of}
use Rattle.wh_explain.specs.declared.left_out.LeftOut.{LeftOut}
use Rattle.wh_explain.specs.declared.line.TracedLines.{TracedLines}
use Rattle.wh_program.proofs.LookingLemmas.{read_looks, then_looks, through_looks}
use Rattle.wh_program.proofs.ExplainLemmas.{answered_in_place, of_refusal}
use Rattle.wh_program.proofs.visits.explain.traced.Goals as goal

pub returns-in-Ok-lines_of-clause-previewed : goal.returns-in-Ok-lines_of-clause-previewed
returns-in-Ok-lines_of-clause-previewed g c = λ clean limits commands ready.
    let read = c.lines_of.ensures in
    let refused = of_refusal limits commands c.args.kind c.args.bytes.now _ c.in-Err-Refused.why _ _ c.in-Err-Refused.field-0-is (c.in-Err-Refused.ensures.previewed (read.spares.clean clean) limits commands ready) in
    (refused.0, (c.in-Ok-lines_of.ensures.serves clean limits commands refused.1).1)

pub returns-in-Err-lines_of-clause-previewed : goal.returns-in-Err-lines_of-clause-previewed
returns-in-Err-lines_of-clause-previewed g c = λ clean limits commands ready.
    let read = c.lines_of.ensures in
    let refused = of_refusal limits commands c.args.kind c.args.bytes.now _ c.in-Err-Refused.why _ _ c.in-Err-Refused.field-0-is (c.in-Err-Refused.ensures.previewed (read.spares.clean clean) limits commands ready) in
    answered_in_place (Option TracedLines) limits commands c.args.kind c.args.bytes.now _ c.lines_of.new.engine.session (state_of g.S.Store c.lines_of.new.engine.tables) (c.in-Err-lines_of.ensures.serves clean limits commands refused.1)

pub returns-in-Ok-left_out_of-clause-previewed : goal.returns-in-Ok-left_out_of-clause-previewed
returns-in-Ok-left_out_of-clause-previewed g c = λ clean limits commands ready.
    let read = c.left_out_of.ensures in
    let foreseen = c.in-Ok.ensures.previewed (read.spares.clean clean) limits commands ready in
    (foreseen.0, (c.in-Ok-left_out_of.ensures.serves clean limits commands foreseen.1).1)

pub returns-in-Err-left_out_of-clause-previewed : goal.returns-in-Err-left_out_of-clause-previewed
returns-in-Err-left_out_of-clause-previewed g c = λ clean limits commands ready.
    let read = c.left_out_of.ensures in
    let foreseen = c.in-Ok.ensures.previewed (read.spares.clean clean) limits commands ready in
    answered_in_place (Option LeftOut) limits commands c.args.kind c.args.bytes.now _ c.left_out_of.new.engine.session (state_of g.S.Store c.left_out_of.new.engine.tables) (c.in-Err-left_out_of.ensures.serves clean limits commands foreseen.1)

pub returns-in-Ok-lines_of-clause-looks : goal.returns-in-Ok-lines_of-clause-looks
returns-in-Ok-lines_of-clause-looks g c = then_looks (read_looks c.preview.ensures.reads) (through_looks c.lines_of.ensures)

pub returns-in-Err-lines_of-clause-looks : goal.returns-in-Err-lines_of-clause-looks
returns-in-Err-lines_of-clause-looks g c = then_looks (read_looks c.preview.ensures.reads) (through_looks c.lines_of.ensures)

pub returns-in-Ok-left_out_of-clause-looks : goal.returns-in-Ok-left_out_of-clause-looks
returns-in-Ok-left_out_of-clause-looks g c = then_looks (read_looks c.preview.ensures.reads) (through_looks c.left_out_of.ensures)

pub returns-in-Err-left_out_of-clause-looks : goal.returns-in-Err-left_out_of-clause-looks
returns-in-Err-left_out_of-clause-looks g c = then_looks (read_looks c.preview.ensures.reads) (through_looks c.left_out_of.ensures)

pub returns-in-Err-clause-looks : goal.returns-in-Err-clause-looks
returns-in-Err-clause-looks g c = read_looks c.preview.ensures.reads
