use Rattle.std.proofs.Common.{length}
use Rattle.wh_checking.proofs.alike.+same_values.Given as goal

abbrev pub decreases-same_values : goal.decreases-same_values
decreases-same_values l = length l.a.now
