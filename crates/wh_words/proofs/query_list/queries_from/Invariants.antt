use Rattle.std.proofs.Common.{map}
use Rattle.wh_words.specs.QueryList.{queries_from, says}
use Rattle.wh_words.specs.Task.{query_words}
use Rattle.wh_words.proofs.QueryListLemmas.{AreSaid}
use Rattle.wh_words.proofs.query_list.queries_from.Given as goal

abbrev pub invariant-lines : goal.invariant-lines
invariant-lines l = AreSaid (map query_words l.queries.items) l.lines l.above (queries_from 1 (map says l.lines))
