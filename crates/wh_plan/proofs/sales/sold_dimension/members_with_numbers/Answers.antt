use Rattle.std.proofs.Common.{List, ℕ, ◌++◌, map, ap, sym, append-nil, ◌∙◌, arith, rules}
use Rattle.std.proofs.lemmas.List.{drop_all}
use Rattle.wh_history.specs.Accepted.{member_of}
use Rattle.wh_plan.specs.SoldMembers.{numbered}
use Rattle.wh_plan.proofs.SaleBatches.SalesNaturals.{grown_few, numbered_more}
use Rattle.wh_plan.proofs.sales.sold_dimension.members_with_numbers.Goals as goal
use Rattle.wh_sql.proofs.Sparing.{tables_again}
use Rattle.wh_sql.proofs.InTurn.{then_failed}

pub loop-natural-preserved : goal.loop-natural-preserved
loop-natural-preserved g c =
    let kept = c.loop-natural.invariant in
    let read = c.in_ok-member.ensures in
    let i = c.loop-natural.natural-index in
    let stored = c.in_ok-member.member in
    let given = c.give_numbers.ensures in
    let members_most = grown_few stored.durable c.loop-natural.members in
    let anchors_most = grown_few stored.opening c.loop-natural.anchors in
    let members_so_far = kept.members_few in
    let anchors_so_far = kept.anchors_few in
    let members_now = given.members in
    let anchors_now = given.anchors in
    record {
      members_few = omega arith;
      anchors_few = omega arith;
      reads = search rules;
      members = λ clean limits commands t are at full.
          let before = read.reads.spares.clean clean in
          numbered_more (member_of c.args.dim commands) c.args.naturals.now i c.natural-item.result c.loop-natural.found.items c.push.new.self.items (numbered c.args.drawn.members c.args.drawn.anchors (map (member_of c.args.dim commands) c.args.naturals.now)) stored
          c.give_numbers.new.member c.loop-natural.members c.loop-natural.anchors c.give_numbers.new.members c.give_numbers.new.anchors
          c.loop-natural-test.true c.natural-item.is (read.member clean limits commands t are (tables_again kept.reads.spares before t at tt) full) c.in_ok-push.ensures.items given.member given.members given.anchors (kept.members before limits commands t are at full);
    }

pub returns-clause-members : goal.returns-clause-members
returns-clause-members g c clean limits commands t are at full =
    let left = c.loop-natural in
    let none = drop_all left.natural-index c.args.naturals.now c.loop-natural-test.false in
    sym (append-nil left.found.items) ∙ ap (λ (rest : List (List ℕ)). left.found.items ++ numbered left.members left.anchors (map (member_of c.args.dim commands) rest)) (sym none) ∙ left.invariant.members clean limits commands t are at full

pub returns-in_err-member-clause-reads : goal.returns-in_err-member-clause-reads
returns-in_err-member-clause-reads g c = then_failed c.loop-natural.invariant.reads c.in_err-member.ensures.reads c.from_residual.ensures
