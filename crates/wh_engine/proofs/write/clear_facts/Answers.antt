use Rattle.wh_engine.proofs.write.clear_facts.Goals as goal

pub returns-clause-edited : goal.returns-clause-edited
returns-clause-edited g c clean before made at may = (c.in_ok-cleared.ensures.cleared clean before made at).1
