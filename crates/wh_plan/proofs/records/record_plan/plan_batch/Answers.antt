use Rattle.std.proofs.Common.{List, ◌++◌, ◌∷◌, [], map, sym, ◌∙◌, ap, ap₂, subst}
use Rattle.std.specs.Prelude.{zip}
use Rattle.std.specs.List.{AllByRecursion}
use Rattle.wh_policy.specs.declared.attribute.AttributeType.{AttributeType}
use Rattle.wh_policy.specs.declared.format.Format.TheVariants.{One}
use Rattle.wh_history.specs.Accepted.{formatted, profiles_of, withdrawn_by}
use Rattle.wh_history.specs.Known.{number_in, KnowsEnough}
use Rattle.wh_history.specs.Laws.{governs}
use Rattle.wh_history.specs.Shapes.{Shape, rendered_in}
use Rattle.wh_history.specs.declared.member.Member.{Member}
use Rattle.wh_model.specs.Sound.{AreTypes}
use Rattle.wh_model.proofs.Formatted.{format_stays}
use Rattle.wh_plan.specs.RecordPlan.{AreTouched}
use Rattle.wh_plan.proofs.PlanPremises.{days_before, days_after}
use Rattle.wh_plan.proofs.records.record_plan.plan_batch.Goals as goal
use Rattle.wh_sql.proofs.Sparing.{tables_again}
use Rattle.wh_sql.proofs.InTurn.{then_failed, then_reads}

pub returns-clause-edits : goal.returns-clause-edits
returns-clause-edits g c clean limits commands t are at format sent accepted is governed sound command_is =
    let dim = c.args.dim in
    let after = commands ++ sent ∷ [] in
    let second = c.in_ok-facts.ensures.reads.spares.clean clean in
    let first = c.in_ok-learned.ensures.reads.spares.clean second in
    let found = c.in_ok-found.ensures.found first limits commands t are at sent accepted is in
    let at_first = tables_again c.in_ok-found.ensures.reads.spares first t at tt in
    let at_second = tables_again c.in_ok-learned.ensures.reads.spares second t at_first tt in
    let touched = c.in_ok-touched.ensures dim commands sent is (c.deref-2.ensures.value ∙ found.members_read) found.members_drawn found.anchors_drawn in
    let list = c.as_slice-after.ensures ∙ ap (λ t. t.list) touched in
    let typed : AreTypes commands dim c.deref.result.now = record { policy = c.args.terms.now.policy.now; governed = governed; sound = sound; are = c.deref.ensures.value ∙ c.in_ok-types.ensures } in
    let typed_now : AreTypes commands dim c.deref-3.result.now = record { policy = c.args.terms.now.policy.now; governed = governed; sound = sound; are = c.deref-3.ensures.value ∙ c.in_ok-types.ensures } in
    let learned = c.in_ok-learned.ensures.learned second limits commands t are at_first sent accepted is typed in
    let shape : Shape = record { dim = dim; kinds = c.deref-3.result.now; number = number_in c.in_ok-learned.learned.known } in
    let known = subst (λ (ks : List AttributeType). AllByRecursion (KnowsEnough dim ks (number_in c.in_ok-learned.learned.known) (profiles_of after)) c.as_slice-after.result.now) (c.deref.ensures.value ∙ sym c.deref-3.ensures.value) learned.enough in
    let members : AreTouched shape commands after c.args.records.now c.in_ok-members.members.items = record {
      pairs = c.in_ok-members.ensures ∙ ap₂ (λ (ms ns : List Member). zip ms (map (rendered_in shape) ns)) (c.deref-4.ensures.value ∙ found.members_read) list;
      enough = subst (AllByRecursion (KnowsEnough dim shape.kinds shape.number (profiles_of after))) list known;
    } in
    let facts = c.in_ok-facts.ensures.moved clean limits commands t are at_second format sent c.args.records.now accepted is typed_now (subst (AreTouched shape commands after c.args.records.now) (sym c.deref-5.ensures.value) members) in
    let rows = c.in_ok-rows.ensures commands sent is typed_now (days_before limits commands sent accepted) (days_after limits commands sent accepted) command_is
    (record { found = found; members_after = list; touched = members; profiles = learned.fresh; facts = facts.0; rekeyed = facts.1 }) in
    c.in_ok-edits_of_batch.ensures.exact commands sent format (format_stays commands sent (ap (formatted One) is)) (ap governs is) (ap withdrawn_by is) rows

pub returns-in_err-facts-clause-reads : goal.returns-in_err-facts-clause-reads
returns-in_err-facts-clause-reads g c = then_failed (then_reads c.in_ok-found.ensures.reads c.in_ok-learned.ensures.reads) c.in_err-facts.ensures.reads c.from_residual-in_err-facts.ensures
