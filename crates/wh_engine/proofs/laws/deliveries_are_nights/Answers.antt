use Rattle.wh_sql.specs.Answers.{state_of}
use Rattle.wh_engine.proofs.DeliveredNights.{delivery_is_a_night}
use Rattle.wh_engine.proofs.laws.deliveries_are_nights.Goals as goal

pub returns : goal.returns
returns g c = delivery_is_a_night c.args.engine.now.session (state_of g.S.Store c.args.engine.now.tables)
