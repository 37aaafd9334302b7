use Rattle.wh_session.proofs.SendingLemmas.{sends_all}
use Rattle.wh_session.proofs.laws.sending_is_delivering.Goals as goal

pub returns : goal.returns
returns g c = λ file entries lines before after old new code limits commands plain sending.
    sends_all g.H.Host.holds g.H.Host.refuses g.H.Host.stores g.H.Host.shut file plain lines entries sending before after old new code limits commands
