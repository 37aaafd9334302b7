use Rattle.std.proofs.Common.{List, length, map, sym, ◌∙◌, ap, subst}
use Rattle.std.specs.List.{AllByRecursion}
use Rattle.wh_policy.specs.declared.attribute.AttributeType.{AttributeType}
use Rattle.wh_history.specs.Accepted.{members, anchors, member_of, profiles_of}
use Rattle.wh_history.specs.Known.{number_in, KnowsEnough}
use Rattle.wh_history.specs.declared.member.Member.{Member}
use Rattle.wh_plan.specs.SoldMembers.{numbered}
use Rattle.wh_model.specs.Sound.{AreTypes}
use Rattle.wh_plan.proofs.SaleBatches.SalesMembers.{sold_numbered}
use Rattle.wh_plan.proofs.SaleBatches.SalesRows.{members_were, anchors_were}
use Rattle.wh_plan.proofs.sales.sold_dimension.read_sold_dimension.Goals as goal
use Rattle.wh_sql.proofs.Sparing.{tables_again}
use Rattle.wh_sql.proofs.InTurn.{then_failed, then_reads}

pub returns-clause-sold : goal.returns-clause-sold
returns-clause-sold g c clean limits commands t are at sent full members_few anchors_few is governed sound =
    let dim = c.args.dim in
    let sales = c.args.sales.now in
    let second = c.in_ok-profiles.ensures.reads.spares.clean clean in
    let before = c.in_ok-members.ensures.reads.spares.clean second in
    let drawn = c.in_ok-drawn.ensures.drawn before limits commands t are at (members_were dim commands sent sales is members_few) (anchors_were dim commands sent sales is anchors_few) in
    let at_now = tables_again c.in_ok-drawn.ensures.reads.spares before t at tt in
    let at_second = tables_again c.in_ok-members.ensures.reads.spares second t at_now tt in
    let naturals = c.deref.ensures.value ∙ c.in_ok-naturals.ensures in
    let mentioned =
    c.deref-5.ensures.value
    ∙ c.in_ok-members.ensures.members second limits commands t are at_now full
    ∙ ap (λ k. numbered k.members k.anchors (map (member_of dim commands) c.deref.result.now)) drawn
    ∙ ap (λ ns. numbered (length (members dim commands)) (length (anchors dim commands)) (map (member_of dim commands) ns)) naturals
    ∙ sold_numbered dim commands sent sales is in
    let typed : AreTypes commands dim c.deref-2.result.now = record { policy = c.args.policy.now; governed = governed; sound = sound; are = c.deref-2.ensures.value ∙ c.in_ok-types.ensures } in
    let typed_now : AreTypes commands dim c.deref-4.result.now = record { policy = c.args.policy.now; governed = governed; sound = sound; are = c.deref-4.ensures.value ∙ c.in_ok-types.ensures } in
    let number = number_in c.in_ok-profiles.profiles in
    let known = c.in_ok-profiles.ensures.enough clean limits commands t are at_second typed in
    let enough = subst (λ (ms : List Member). AllByRecursion (KnowsEnough dim c.deref-4.result.now number (profiles_of commands)) ms) (c.deref-3.ensures.value ∙ sym c.deref-5.ensures.value)
    (subst (λ (ks : List AttributeType). AllByRecursion (KnowsEnough dim ks number (profiles_of commands)) c.deref-3.result.now) (c.deref-2.ensures.value ∙ sym c.deref-4.ensures.value) known) in
    c.in_ok-sold_dimension_of.ensures.sold commands sent is typed_now enough (ap (λ k. k.members) drawn) mentioned

pub returns-in_err-members-clause-reads : goal.returns-in_err-members-clause-reads
returns-in_err-members-clause-reads g c = then_failed c.in_ok-drawn.ensures.reads c.in_err-members.ensures.reads c.from_residual-in_err-members.ensures

pub returns-in_err-profiles-clause-reads : goal.returns-in_err-profiles-clause-reads
returns-in_err-profiles-clause-reads g c = then_failed (then_reads c.in_ok-drawn.ensures.reads c.in_ok-members.ensures.reads) c.in_err-profiles.ensures.reads c.from_residual-in_err-profiles.ensures
