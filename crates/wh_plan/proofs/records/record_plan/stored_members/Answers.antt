use Rattle.std.proofs.Common.{[], ◌∷◌, ◌++◌, map, take, ap, ap₂, sym, ◌∙◌}
use Rattle.std.proofs.lemmas.List.{map-append, take_all}
use Rattle.wh_history.specs.Accepted.{member_of}
use Rattle.wh_plan.proofs.PlanNaturals.{next_taken}
use Rattle.wh_plan.proofs.records.record_plan.stored_members.Goals as goal
use Rattle.wh_sql.proofs.Sparing.{tables_again, then_spares}

pub loop-natural-preserved : goal.loop-natural-preserved
loop-natural-preserved g c =
    let kept = c.loop-natural.invariant.reads in
    let read = c.in_ok-stored_member.ensures.reads in
    record {
      reads = record {
        spares = then_spares kept.spares tt read.spares;
        sound = λ clean t at. tt;
        named = λ clean stored at. tt;
      };
      members = λ clean limits commands t are at full.
          let one = c.in_ok-stored_member.ensures.member clean limits commands t are (tables_again kept.spares (read.spares.clean clean) t at tt) full in
          let so_far = c.loop-natural.invariant.members (read.spares.clean clean) limits commands t are at full in
          let more = next_taken c.args.naturals.now c.loop-natural.natural-index c.natural-item.result c.loop-natural-test.true c.natural-item.is in
          c.in_ok-push.ensures.items
          ∙ ap₂ (λ ms m. ms ++ m ∷ []) so_far one
          ∙ sym (ap (map (member_of c.args.dim commands)) more ∙ map-append (member_of c.args.dim commands) (take c.loop-natural.natural-index c.args.naturals.now) (c.natural-item.result ∷ []));
    }

pub returns-clause-members : goal.returns-clause-members
returns-clause-members g c clean limits commands t are at full =
    c.loop-natural.invariant.members clean limits commands t are at full ∙ ap (map (member_of c.args.dim commands)) (take_all c.loop-natural.natural-index c.args.naturals.now c.loop-natural-test.false)
