use Rattle.std.proofs.Common.{refl, ◌∙◌}
use Rattle.std.specs.FinMap.{values}
use Rattle.wh_rows.proofs.Edits.{filter_all}
use Rattle.wh_store.proofs.ScanningStored.{at_start}
use Rattle.wh_store.proofs.scan.Cursor.new.Goals as goal

pub returns-clause-left : goal.returns-clause-left
returns-clause-left g c layout rows = rw (c.into_iter.ensures.rest, c.new.ensures.items) (filter_all (values rows))

pub returns-clause-left_stored : goal.returns-clause-left_stored
returns-clause-left_stored g c layout bind stored left are = at_start layout bind stored _ _ _ left (c.into_iter.ensures.rest ∙ c.new.ensures.items) refl refl are
