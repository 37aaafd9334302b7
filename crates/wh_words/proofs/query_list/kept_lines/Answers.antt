use Rattle.std.proofs.Common.{◌≤◌, arith, length}
use Rattle.std.proofs.lemmas.Bool.Decides.{nat_tests}
use Rattle.wh_words.proofs.QueryListLemmas.{all_kept, one_more_kept}
use Rattle.wh_words.proofs.query_list.kept_lines.Goals as goal

pub returns-then-is_empty : goal.returns-then-is_empty
returns-then-is_empty c =
    let is = c.if-is_empty.ensures in
    let none : length c.lines.rest.now ≤ 0 = grind (arith, nat_tests, is) in
    all_kept c.lines.kept.items c.lines.rest.now c.args.bytes.now none c.lines.invariant

pub lines-preserved : goal.lines-preserved
lines-preserved c =
    let is = c.if-is_empty.ensures in
    let some : 1 ≤ length c.lines.rest.now = grind (arith, nat_tests, is) in
    rw c.in_ok-push.ensures.items (one_more_kept c.lines.kept.items c.in_ok-kept_line.field-0 c.lines.rest.now c.args.bytes.now c.first_line.result.0.now c.first_line.result.1.now some c.first_line.ensures
    c.in_ok-kept_line.ensures c.lines.invariant)
