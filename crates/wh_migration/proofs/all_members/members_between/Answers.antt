use Rattle.std.proofs.Common.{◌≡◌, ◌+◌, map, take, drop, suc, sym, ◌∙◌, ap, rules, arith}
use Rattle.std.specs.Prelude.{option_map}
use Rattle.wh_history.specs.Accepted.{members, member_of}
use Rattle.wh_history.specs.Keys.{at_place}
use Rattle.wh_migration.proofs.AllMembers.{next_between, none_between}
use Rattle.wh_migration.proofs.all_members.members_between.Goals as goal
use Rattle.wh_sql.proofs.Sparing.{tables_again}

pub loop-durable-init : goal.loop-durable-init
loop-durable-init g c = record {
  reads = search rules;
  from = omega arith;
  upto = omega arith;
  members = λ clean limits commands t are at full. c.new-found.ensures.items ∙ sym (ap (map (member_of c.args.dim commands)) (none_between c.args.after (members c.args.dim commands)));
}

pub loop-durable-preserved : goal.loop-durable-preserved
loop-durable-preserved g c =
    let kept = c.loop-durable.invariant in
    let read = c.in_ok-member.ensures in
    let test = c.loop-durable-test.true in
    let from = kept.from in
    record {
      reads = search rules;
      from = omega arith;
      upto = omega arith;
      members = λ clean limits commands t are at full.
          let before = read.reads.spares.clean clean in
          let still = tables_again kept.reads.spares before t at tt in
          let further : suc c.loop-durable.durable ≡ c.loop-durable.durable + 1 = omega arith in
          let one = read.member clean limits commands t are still full ∙ ap (λ n. option_map (member_of c.args.dim commands) (at_place n (members c.args.dim commands))) (sym further) in
          c.in_ok-add_member.ensures
          ∙ next_between c.args.dim commands c.args.after c.loop-durable.durable c.loop-durable.found.items c.in_ok-member.member from (kept.members before limits commands t are at full) one
          ∙ ap (λ n. map (member_of c.args.dim commands) (drop c.args.after (take n (members c.args.dim commands)))) further;
    }

pub returns-clause-members : goal.returns-clause-members
returns-clause-members g c clean limits commands t are at full =
    let past = c.loop-durable-test.false in
    let within = c.loop-durable.invariant.upto in
    let all : c.loop-durable.durable ≡ c.args.last = omega arith in
    c.loop-durable.invariant.members clean limits commands t are at full ∙ ap (λ n. map (member_of c.args.dim commands) (drop c.args.after (take n (members c.args.dim commands)))) all
