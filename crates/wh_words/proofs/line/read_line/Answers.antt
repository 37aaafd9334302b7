use Rattle.std.proofs.Common.{◌≤◌, ◌∙◌, arith, length, sym}
use Rattle.wh_words.specs.Line.{line_limit}
use Rattle.wh_words.proofs.LineLemmas.{remarked, too_long, worded}
use Rattle.wh_words.proofs.line.read_line.Goals as goal

pub returns-then-line-gt-LINE_LIMIT : goal.returns-then-line-gt-LINE_LIMIT
returns-then-line-gt-LINE_LIMIT c = rw (too_long c.args.line.now c.if-line-gt-LINE_LIMIT.true) tt

pub returns-then-is_remark : goal.returns-then-is_remark
returns-then-is_remark c =
    let short : length c.args.line.now ≤ line_limit = omega (arith, c.if-line-gt-LINE_LIMIT.false) in
    rw (remarked c.args.line.now short (sym c.is_remark.ensures ∙ c.if-is_remark.true)) tt

pub returns-in-Some : goal.returns-in-Some
returns-in-Some c =
    let short : length c.args.line.now ≤ line_limit = omega (arith, c.if-line-gt-LINE_LIMIT.false) in
    let found = sym (rw c.in-Some.is at c.in_ok-words.ensures) in
    rw (worded c.args.line.now short (sym c.is_remark.ensures ∙ c.if-is_remark.false), found) c.line_of_words.ensures

pub returns-in-None : goal.returns-in-None
returns-in-None c =
    let short : length c.args.line.now ≤ line_limit = omega (arith, c.if-line-gt-LINE_LIMIT.false) in
    let found = sym (rw c.in-None.is at c.in_ok-words.ensures) in
    rw (worded c.args.line.now short (sym c.is_remark.ensures ∙ c.if-is_remark.false), found) tt
