use Rattle.wh_session.proofs.KeepLemmas.{session_keeps, shut_answered}
use Rattle.wh_session.proofs.laws.sessions_keep_to_their_file.Goals as goal

pub returns-clause-keep : goal.returns-clause-keep
returns-clause-keep g c = λ file lines before after old new code plain. session_keeps g.H.Host.holds g.H.Host.refuses g.H.Host.stores g.H.Host.shut file plain lines before after old new code

pub returns-clause-shut : goal.returns-clause-shut
returns-clause-shut g c = λ file words task before after old new code. shut_answered g.H.Host.holds g.H.Host.refuses g.H.Host.stores g.H.Host.shut file before after old new code words task
