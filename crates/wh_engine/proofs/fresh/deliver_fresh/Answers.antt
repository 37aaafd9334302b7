use Rattle.std.proofs.Common.{◌≡◌, false, [], ◌∷◌, ap, ◌∙◌, sym, subst}
use Rattle.sqlite.specs.Held.{state}
use Rattle.sqlite.specs.State.{HasCleanDisk}
use Rattle.sqlite.specs.Steps.{over_memory}
use Rattle.wh_model.specs.Sound.{init_of}
use Rattle.wh_sql.proofs.Worked.{taken_in_none}
use Rattle.wh_sql.specs.Answers.{is_any_taken}
use Rattle.wh_engine.specs.Delivered.{IsDelivered}
use Rattle.wh_engine.specs.Opened.{IsNotMade}
use Rattle.wh_engine.proofs.fresh.deliver_fresh.Goals as goal

pub returns-in-Ok-init-clause-made : goal.returns-in-Ok-init-clause-made
returns-in-Ok-init-clause-made c clean =
    let first = c.in-Ok-init.engine in
    let last = c.deliver-replies.new.self in
    let commands = init_of first.session.policy c.args.policy.now ∷ [] in
    let delivered = subst (λ conn. HasCleanDisk (state over_memory conn)) c.close.ensures clean in
    let ready = c.in-Ok-init.ensures.made (c.deliver-replies.ensures.keeps.clean delivered) c.in-Ok.ensures in
    record {
      policy = first.session.policy;
      read = c.in-Ok-init.ensures.written.0;
      session = last.session;
      delivered = subst (λ conn. IsDelivered c.args.limits commands c.args.commands.now c.deliver-replies.result.answers.items c.deliver-replies.result.stop last.session (state over_memory conn))
          (sym c.close.ensures) (c.deliver-replies.ensures.delivered delivered c.args.limits commands ready);
    }

pub returns-clause-refused : goal.returns-clause-refused
returns-clause-refused c =
    let free : is_any_taken (state over_memory c.in-Ok.connection).now.schema ≡ false = ap is_any_taken c.in-Ok.ensures.now.schema ∙ taken_in_none in
    subst (λ taken. IsNotMade c.args.policy.now taken c.in-Err.fault) free c.in-Err.ensures.refused
