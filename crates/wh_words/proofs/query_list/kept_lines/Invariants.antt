use Rattle.wh_words.proofs.QueryListLemmas.{AreKept}
use Rattle.wh_words.proofs.query_list.kept_lines.Given as goal

abbrev pub invariant-lines : goal.invariant-lines
invariant-lines l = AreKept l.kept.items l.rest l.bytes
