use Rattle.std.proofs.Common.{◌≡◌, map, take}
use Rattle.std.specs.Prelude.{Ok}
use Rattle.wh_engine.specs.Scanned.{ReadsThrough}
use Rattle.wh_sql.specs.Answers.{SaysAtRest, SaysAsStored, state_of}
use Rattle.wh_query.specs.Answered.{lead_in, AreLeads}
use Rattle.wh_query.specs.Led.{lead_of}
use Rattle.wh_query.proofs.answer.led_columns.Given as goal

-- the columns so far were read
abbrev pub invariant-columns : goal.invariant-columns
invariant-columns g l = record {
  reads : ReadsThrough {A = Unit {0}} l.fn.engine.session l.engine.session (state_of g.S.Store l.fn.engine.tables) (state_of g.S.Store l.engine.tables) (Ok tt);
  writes : l.engine.writes ≡ l.fn.engine.writes;
  led : SaysAtRest (state_of g.S.Store l.fn.engine.tables) (state_of g.S.Store l.engine.tables) (λ t. map lead_of l.leds.items ≡ map (lead_in t) (take l.column-index l.columns));
  stored : SaysAsStored (state_of g.S.Store l.fn.engine.tables) (state_of g.S.Store l.engine.tables) (λ stored. AreLeads stored (take l.column-index l.columns) (map lead_of l.leds.items));
}
