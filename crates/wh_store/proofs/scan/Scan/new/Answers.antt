use Rattle.wh_store.proofs.scan.Scan.new.Goals as goal

pub returns-clause-left_stored : goal.returns-clause-left_stored
returns-clause-left_stored g c stored left are = c.new.ensures.left_stored g.T.StoredTable.layout g.T.KeyedTable.bind (stored.rows g.T.KeyedTable.name) left are
