use Rattle.std.proofs.Common.{◌≡◌, ◌<◌, Bool, Result, ◌++◌, ◌∷◌, [], ◌+◌, suc, take, drop, length, Ok, Err, sym, ap, ap₂, subst, subst₂, ◌∙◌, arith, length-take}
use Rattle.std.proofs.lemmas.Grind.{common_steps}
use Rattle.std.proofs.lemmas.List.{take_more, take-append-drop}
use Rattle.sqlite.specs.Effect.{Database}
use Rattle.sqlite.specs.Held.{state}
use Rattle.sqlite.specs.State.{State}
use Rattle.wh_admission.specs.Admission.{accepted_after_all}
use Rattle.wh_admission.specs.declared.command.Command.{Command}
use Rattle.wh_admission.specs.declared.command.Reply.{Reply}
use Rattle.wh_engine.specs.declared.fault.Fault.{Fault}
use Rattle.wh_sql.specs.Answers.{is_second_taken}
use Rattle.wh_engine.specs.Answered.{IsAgain, IsReady, IsAnswered, IsGoverned, IsFormatted, KeepsNothing, IsNotAccepted, IsWritten}
use Rattle.wh_engine.specs.Delivered.{answers_to, answer_or_stop, as_called, AcceptNothing, AreLed, EachUntilAccepted, IsLastWritten}
use Rattle.wh_engine.proofs.Keeping.{keeps_on, keeps_spares, keeps_where}
use Rattle.wh_engine.proofs.Delivering.{deliveries_join, answers_join, goes_on, not_stopped, keeps, keeps_at_stop, stop_is, stopped_at, nothing_before, called, last_written, policy_stays, led_on, led_among, flag_at_stop, many_at_stop, taken_before, until_among, until_on}
use Rattle.wh_engine.specs.Faults.{BlamesDamage, TellsTaken, stops}
use Rattle.wh_sql.proofs.Sparing.{stored_again}
use Rattle.wh_engine.proofs.engine.Engine.deliver.Goals as goal

pub returns-in-Err-clause-delivered : goal.returns-in-Err-clause-delivered
returns-in-Err-clause-delivered g c clean limits accepted ready =
    let sent = c.args.commands.now in
    let i = c.loop-command.command-index in
    let answers = c.loop-command.answers.items in
    let command = c.command-item.result in
    let session = c.apply-answered.new.self.session in
    let s = state g.S.Store c.apply-answered.new.self.tables.conn in
    let was = c.loop-command.invariant.so_far (c.apply-answered.ensures.keeps.clean clean) limits accepted ready in
    let count : length answers ≡ i = sym c.loop-command.answers.ok.0 ∙ c.loop-command.invariant.count in
    let more : take (suc i) sent ≡ take i sent ++ command ∷ [] =
    let on : suc i ≡ i + 1 = omega arith in
    ap (λ n. take n sent) on ∙ take_more sent i command c.loop-command-test.true ∙ ap (λ x. take i sent ++ x ∷ []) (sym c.command-item.is) in
    let within : length answers < length sent = let less = c.loop-command-test.true in omega (arith, count, less) in
    let told = c.apply-answered.ensures.answered clean limits (accepted_after_all limits accepted (take i sent)) was.1 in
    stopped_at limits accepted sent command answers c.apply-answered.result c.in-Err.fault session s
    (was.0 ∙ ap (λ n. answers_to limits accepted (take n sent)) (sym count)) within (subst (λ n. take (suc n) sent ≡ take n sent ++ command ∷ []) (sym count) more)
    (subst (λ n. IsAnswered limits (accepted_after_all limits accepted (take n sent)) command c.apply-answered.result session s) (sym count) told) (sym c.in-Err.ensures)

pub returns-in-Err-clause-keeps : goal.returns-in-Err-clause-keeps
returns-in-Err-clause-keeps g c =
    keeps_on g.S.Store _ _ _ _ _ _ (λ calm. calm.0) (λ calm. keeps_at_stop c.apply-answered.result c.in-Err.fault (sym c.in-Err.ensures) calm.1) c.loop-command.invariant.keeps c.apply-answered.ensures.keeps

pub returns-clause-keeps : goal.returns-clause-keeps
returns-clause-keeps g c = keeps_where g.S.Store _ _ _ _ (λ calm. calm.0) c.loop-command.invariant.keeps

pub returns-in-Err-clause-written : goal.returns-in-Err-clause-written
returns-in-Err-clause-written g c clean limits accepted ready =
    c.apply-answered.ensures.silent (subst IsNotAccepted (sym (stop_is c.apply-answered.result c.in-Err.fault (sym c.in-Err.ensures))) tt)

pub returns-in-Err-clause-silent : goal.returns-in-Err-clause-silent
returns-in-Err-clause-silent g c nothing =
    c.apply-answered.ensures.silent (subst IsNotAccepted (sym (stop_is c.apply-answered.result c.in-Err.fault (sym c.in-Err.ensures))) tt)

pub returns-in-Err-clause-many : goal.returns-in-Err-clause-many
returns-in-Err-clause-many g c =
    let kept = c.loop-command.invariant in
    let answers = c.loop-command.answers.items in
    let count = sym c.loop-command.answers.ok.0 ∙ kept.count in
    let within : length answers < length c.args.commands.now = let less = c.loop-command-test.true in omega (arith, count, less) in
    let stop = stop_is c.apply-answered.result c.in-Err.fault (sym c.in-Err.ensures) in
    many_at_stop c.args.commands.now answers c.in-Err.fault
    (λ reopen. let must = c.apply-answered.ensures.shuts.only (stop ∙ ap Err reopen) in let off = kept.goes_on in cc) within

pub returns-in-Err-clause-noted : goal.returns-in-Err-clause-noted
returns-in-Err-clause-noted g c off =
    let kept = c.loop-command.invariant in
    let sent = c.args.commands.now in
    let i = c.loop-command.command-index in
    let answers = c.loop-command.answers.items in
    let command = c.command-item.result in
    let fault = c.in-Err.fault in
    let noted = c.apply-answered.ensures.noted kept.goes_on in
    let stop = stop_is c.apply-answered.result fault (sym c.in-Err.ensures) in
    let stays : c.apply-answered.new.self.session.policy ≡ c.loop-command.self.session.policy =
    subst (IsGoverned c.loop-command.self.session.policy c.apply-answered.new.self.session.policy command) stop noted.policy in
    let same_format : c.apply-answered.new.self.session.format ≡ c.loop-command.self.session.format =
    subst (IsFormatted c.loop-command.self.session.format c.apply-answered.new.self.session.format command) stop noted.format in
    record {
      flag = noted.flag ∙ ap stops stop ∙ flag_at_stop fault;
      limits = noted.limits ∙ kept.limits;
      policy = λ nothing. stays ∙ kept.policy nothing;
      governed = subst₂ (λ p list. AreLed IsGoverned c.args.self.now.session.policy p answers list) (sym stays) (take-append-drop i sent)
          (led_among IsGoverned c.args.self.now.session.policy c.loop-command.self.session.policy answers (take i sent) (drop i sent) kept.governed);
      formatted = subst₂ (λ f list. AreLed IsFormatted c.args.self.now.session.format f answers list) (sym same_format) (take-append-drop i sent)
          (led_among IsFormatted c.args.self.now.session.format c.loop-command.self.session.format answers (take i sent) (drop i sent) kept.formatted);
    }

pub returns-in-Err-clause-blames : goal.returns-in-Err-clause-blames
returns-in-Err-clause-blames g c clean stored at nothing =
    let kept = c.loop-command.invariant in
    let before = c.apply-answered.ensures.keeps.clean clean in
    let then_at = stored_again (keeps_spares g.S.Store _ _ nothing kept.keeps) before stored at tt in
    subst (BlamesDamage stored) (stop_is c.apply-answered.result c.in-Err.fault (sym c.in-Err.ensures)) (c.apply-answered.ensures.blames clean stored then_at)

pub returns-in-Err-clause-again : goal.returns-in-Err-clause-again
returns-in-Err-clause-again g c clean stored at =
    let sent = c.args.commands.now in
    let i = c.loop-command.command-index in
    let answers = c.loop-command.answers.items in
    subst (EachUntilAccepted (IsAgain stored) answers) (take-append-drop i sent)
    (until_among (IsAgain stored) answers (take i sent) (drop i sent) (c.loop-command.invariant.again (c.apply-answered.ensures.keeps.clean clean) stored at))

pub returns-in-Err-clause-taken : goal.returns-in-Err-clause-taken
returns-in-Err-clause-taken g c clean =
    let sent = c.args.commands.now in
    let i = c.loop-command.command-index in
    let answers = c.loop-command.answers.items in
    let Says : Command → Result Reply Fault → Type 0 = λ _. TellsTaken (is_second_taken (state g.S.Store c.args.self.now.tables.conn).now.schema) in
    subst (EachUntilAccepted Says answers) (take-append-drop i sent) (until_among Says answers (take i sent) (drop i sent) (c.loop-command.invariant.taken (c.apply-answered.ensures.keeps.clean clean)))

pub loop-command-preserved : goal.loop-command-preserved
loop-command-preserved g c =
    let kept = c.loop-command.invariant in
    let sent = c.args.commands.now in
    let i = c.loop-command.command-index in
    let answers = c.loop-command.answers.items in
    let command = c.command-item.result in
    let answered = c.apply-answered.result in
    let answer = c.in-Ok-answer_or_stop.answer in
    let session = c.apply-answered.new.self.session in
    let s = state g.S.Store c.apply-answered.new.self.tables.conn in
    let e : answer_or_stop answered ≡ Ok answer = sym c.in-Ok-answer_or_stop.ensures in
    let noted = c.apply-answered.ensures.noted kept.goes_on in
    let more : take (i + 1) sent ≡ take i sent ++ command ∷ [] = take_more sent i command c.loop-command-test.true ∙ ap (λ x. take i sent ++ x ∷ []) (sym c.command-item.is) in
    let counted : length (take i sent) ≡ length answers = let all = length-take i sent in let less = c.loop-command-test.true in let count = sym c.loop-command.answers.ok.0 ∙ kept.count in omega (arith, all, less, count) in
    let split : AcceptNothing c.push_reserved.new.self.items → AcceptNothing answers × KeepsNothing answered × IsNotAccepted answered = λ nothing.
    let both = nothing_before answers answer (subst AcceptNothing c.push_reserved.ensures.items nothing) in
    let keeps_it = keeps answered answer e both.1 in
    (both.0, keeps_it.0, keeps_it.1) in
    record {
      goes_on = noted.flag ∙ not_stopped answered answer e;
      count = c.push_reserved.ensures.len ∙ ap (λ n. n + 1) kept.count;
      room = c.push_reserved.ensures.capacity ∙ kept.room;
      keeps = keeps_on g.S.Store _ _ _ _ _ _ (λ nothing. (split nothing).0) (λ nothing. (split nothing).1) kept.keeps c.apply-answered.ensures.keeps;
      again = λ clean stored at.
          let before = c.apply-answered.ensures.keeps.clean clean in
          let one = λ (nothing : AcceptNothing answers). subst (IsAgain stored command) (called answered answer e)
          (c.apply-answered.ensures.again clean stored (stored_again (keeps_spares g.S.Store _ _ nothing kept.keeps) before stored at tt)) in
          subst₂ (EachUntilAccepted (IsAgain stored)) (sym c.push_reserved.ensures.items) (sym more) (until_on (IsAgain stored) answers answer (take i sent) command (kept.again before stored at) counted one);
      taken = λ clean.
          let before = c.apply-answered.ensures.keeps.clean clean in
          let first = is_second_taken (state g.S.Store c.args.self.now.tables.conn).now.schema in
          let schema : State → Bool = λ s. is_second_taken s.now.schema in
          let one = λ (nothing : AcceptNothing answers).
          let same = (keeps_spares g.S.Store c.args.self.now.tables c.loop-command.self.tables nothing kept.keeps).same before tt in
          subst (TellsTaken first) (called answered answer e) (taken_before first (schema s) answered
          (λ calm. ap (λ (d : Database). is_second_taken d.schema) ((c.apply-answered.ensures.keeps.same clean calm).now ∙ same.now)) c.apply-answered.ensures.taken) in
          subst₂ (EachUntilAccepted (λ _. TellsTaken first)) (sym c.push_reserved.ensures.items) (sym more) (until_on (λ _. TellsTaken first) answers answer (take i sent) command (kept.taken before) counted one);
      limits = noted.limits ∙ kept.limits;
      policy = λ nothing. let parts = split nothing in policy_stays c.loop-command.self.session.policy session.policy command answered noted.policy parts.2 ∙ kept.policy parts.0;
      governed =
          let one = subst (λ r. IsGoverned c.loop-command.self.session.policy session.policy command r) (called answered answer e) noted.policy in
          subst₂ (AreLed IsGoverned c.args.self.now.session.policy session.policy) (sym c.push_reserved.ensures.items) (sym more)
          (led_on IsGoverned c.args.self.now.session.policy c.loop-command.self.session.policy session.policy answers answer (take i sent) command kept.governed counted one);
      formatted =
          let one = subst (λ r. IsFormatted c.loop-command.self.session.format session.format command r) (called answered answer e) noted.format in
          subst₂ (AreLed IsFormatted c.args.self.now.session.format session.format) (sym c.push_reserved.ensures.items) (sym more)
          (led_on IsFormatted c.args.self.now.session.format c.loop-command.self.session.format session.format answers answer (take i sent) command kept.formatted counted one);
      so_far = λ clean limits accepted ready.
          let was = kept.so_far (c.apply-answered.ensures.keeps.clean clean) limits accepted ready in
          let before = accepted_after_all limits accepted (take i sent) in
          let on = goes_on limits before command answered answer session s (c.apply-answered.ensures.answered clean limits before was.1) e in (
            c.push_reserved.ensures.items ∙ ap₂ (λ xs x. xs ++ x ∷ []) was.0 on.0 ∙ sym (answers_join limits accepted (take i sent) (command ∷ [])) ∙ ap (answers_to limits accepted) (sym more),
            subst (λ list. IsReady limits list session s) (sym (ap (accepted_after_all limits accepted) more ∙ deliveries_join limits accepted (take i sent) (command ∷ []))) on.1,
          );
      silent = λ nothing. c.apply-answered.ensures.silent (split nothing).2;
      written = λ clean limits accepted ready.
          let was = kept.so_far (c.apply-answered.ensures.keeps.clean clean) limits accepted ready in
          let before = accepted_after_all limits accepted (take i sent) in
          let on = goes_on limits before command answered answer session s (c.apply-answered.ensures.answered clean limits before was.1) e in
          let writes = c.apply-answered.new.self.writes in
          let wrote = subst (λ r. IsWritten limits before command r writes) (called answered answer e ∙ ap as_called on.0) (c.apply-answered.ensures.written clean limits before was.1) in
          subst (λ list. IsLastWritten limits accepted list writes) (sym more) (last_written limits accepted (take i sent) command writes wrote);
    }

pub returns-clause-delivered : goal.returns-clause-delivered
returns-clause-delivered g c clean limits accepted ready =
    let was = c.loop-command.invariant.so_far clean limits accepted ready in
    let whole : take c.loop-command.command-index c.args.commands.now ≡ c.args.commands.now = grind (arith, common_steps, c.loop-command-test.false) in
    rw whole at was

pub returns-clause-noted : goal.returns-clause-noted
returns-clause-noted g c off =
    let kept = c.loop-command.invariant in
    let whole : take c.loop-command.command-index c.args.commands.now ≡ c.args.commands.now = grind (arith, common_steps, c.loop-command-test.false) in
    record {
      flag = kept.goes_on;
      limits = kept.limits;
      policy = kept.policy;
      governed = rw whole at kept.governed;
      formatted = rw whole at kept.formatted;
    }

pub returns-clause-written : goal.returns-clause-written
returns-clause-written g c clean limits accepted ready =
    let was = c.loop-command.invariant.written clean limits accepted ready in
    let whole : take c.loop-command.command-index c.args.commands.now ≡ c.args.commands.now = grind (arith, common_steps, c.loop-command-test.false) in
    rw whole at was

pub returns-clause-again : goal.returns-clause-again
returns-clause-again g c clean stored at =
    let whole : take c.loop-command.command-index c.args.commands.now ≡ c.args.commands.now = grind (arith, common_steps, c.loop-command-test.false) in
    subst (EachUntilAccepted (IsAgain stored) c.loop-command.answers.items) whole (c.loop-command.invariant.again clean stored at)

pub returns-clause-taken : goal.returns-clause-taken
returns-clause-taken g c clean =
    let Says : Command → Result Reply Fault → Type 0 = λ _. TellsTaken (is_second_taken (state g.S.Store c.args.self.now.tables.conn).now.schema) in
    let whole : take c.loop-command.command-index c.args.commands.now ≡ c.args.commands.now = grind (arith, common_steps, c.loop-command-test.false) in
    subst (EachUntilAccepted Says c.loop-command.answers.items) whole (c.loop-command.invariant.taken clean)
