use Rattle.wh_session.proofs.SessionLemmas.{one_line, parted}
use Rattle.wh_session.proofs.laws.sessions_follow.Goals as goal

pub returns-clause-one : goal.returns-clause-one
returns-clause-one g c = one_line g.H.Host.holds g.H.Host.refuses g.H.Host.stores g.H.Host.shut

pub returns-clause-follow : goal.returns-clause-follow
returns-clause-follow g c = parted g.H.Host.holds g.H.Host.refuses g.H.Host.stores g.H.Host.shut
