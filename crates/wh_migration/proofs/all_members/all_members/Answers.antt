use Rattle.std.proofs.Common.{◌≡◌, length, map, take, ◌∙◌, ap, arith}
use Rattle.std.proofs.lemmas.Result.{IfOk-weaker}
use Rattle.wh_history.specs.Accepted.{members, member_of}
use Rattle.wh_migration.specs.Migrated.{all_members}
use Rattle.wh_plan.specs.declared.reading.LastMember.{LastMember}
use Rattle.wh_migration.proofs.AllMembers.{taken_all}
use Rattle.wh_migration.proofs.all_members.all_members.Goals as goal
use Rattle.wh_sql.proofs.Sparing.{tables_again}

pub returns-clause-members : goal.returns-clause-members
returns-clause-members g c clean limits commands t are at full =
    let before = c.members_between.ensures.reads.spares.clean clean in
    let last = c.in_ok-last.ensures.last before limits commands t are at in
    let still = tables_again c.in_ok-last.ensures.reads.spares before t at tt in
    let count : c.in_ok-last.last.durable ≡ length (members c.args.dim commands) = ap (λ (l : LastMember). l.durable) last in
    let all = ap (λ n. map (member_of c.args.dim commands) (take n (members c.args.dim commands))) count ∙ ap (map (member_of c.args.dim commands)) (taken_all (length (members c.args.dim commands)) (members c.args.dim commands) (omega arith)) in
    IfOk-weaker c.members_between.result (λ found. found.items ≡ map (member_of c.args.dim commands) (take c.in_ok-last.last.durable (members c.args.dim commands))) (λ found. found.items ≡ all_members c.args.dim commands)
    (λ found is. is ∙ all) (c.members_between.ensures.members clean limits commands t are still full)
