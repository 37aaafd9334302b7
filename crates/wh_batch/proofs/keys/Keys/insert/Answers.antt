use Rattle.std.proofs.Common.{◌∙◌, ap, not}
use Rattle.wh_day.proofs.Loops.{list_any-map}
use Rattle.wh_batch.specs.Batch.{is_same_key}
use Rattle.wh_batch.specs.Keys.{key_of}
use Rattle.wh_batch.proofs.keys.Keys.insert.Goals as goal

pub returns-clause-added : goal.returns-clause-added
returns-clause-added c =
    rw (← c.self.view_is) (c.in_ok-insert.ensures.added ∙ ap not (list_any-map (is_same_key (key_of c.args.key)) key_of c.self.inside.set.keys))
