use Rattle.std.proofs.Common.{ap}
use Rattle.wh_plan.specs.declared.reading.LastMember.{LastMember}
use Rattle.wh_engine.proofs.counts.member_count.Goals as goal

pub returns-clause-members : goal.returns-clause-members
returns-clause-members g c clean t rests limits commands are = ap (λ (last : LastMember). last.durable) (c.in_ok-last.ensures.last clean limits commands t are rests)
