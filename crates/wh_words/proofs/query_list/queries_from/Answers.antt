use Rattle.std.proofs.Common.{map}
use Rattle.wh_words.specs.QueryList.{said_in}
use Rattle.wh_words.specs.Task.{query_words}
use Rattle.wh_words.proofs.QueryListLemmas.{all_said, bad_at, good_at}
use Rattle.wh_words.proofs.query_list.queries_from.Goals as goal

pub returns-then-not-branch : goal.returns-then-not-branch
returns-then-not-branch c =
    bad_at (map query_words c.lines.queries.items) (map query_words c.add_said.new.queries.items) c.args.lines.now c.lines.above c.index-lines-above.result _ c.lines-test.true c.index-lines-above.is c.lines.invariant
    (said_in c.in-Ok.said) c.in-Ok.ensures (rw c.if-not-branch.true at c.in_ok-add_said-in-Ok.ensures)

pub lines-preserved : goal.lines-preserved
lines-preserved c =
    good_at (map query_words c.lines.queries.items) (map query_words c.add_said.new.queries.items) c.args.lines.now c.lines.above c.index-lines-above.result _ c.lines-test.true c.index-lines-above.is c.lines.invariant
    (said_in c.in-Ok.said) c.in-Ok.ensures (rw c.if-not-branch.false at c.in_ok-add_said-in-Ok.ensures)

pub returns : goal.returns
returns c = all_said (map query_words c.lines.queries.items) c.args.lines.now c.lines.above _ c.lines-test.false c.lines.invariant
