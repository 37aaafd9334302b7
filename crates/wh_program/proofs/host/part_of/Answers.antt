use Rattle.std.proofs.Common.{arith}
use Rattle.wh_program.proofs.InputLemmas.{part-past, part-whole}
use Rattle.wh_program.proofs.host.part_of.Goals as goal

pub returns-then-len-le-MANIFEST_LIMIT : goal.returns-then-len-le-MANIFEST_LIMIT
returns-then-len-le-MANIFEST_LIMIT c = λ whole is. part-whole c.args.bytes.items whole is (omega (arith, c.if-len-le-MANIFEST_LIMIT.true, c.len.ensures, c.args.bytes.ok.0))

pub returns : goal.returns
returns c = λ whole is. rw (c.in_ok-push.ensures.items, c.truncate.ensures.items) (part-past c.args.bytes.items whole is (omega (arith, c.if-len-le-MANIFEST_LIMIT.false, c.len.ensures, c.args.bytes.ok.0)))
