use Rattle.std.proofs.Common.{arith}
use Rattle.std.proofs.lemmas.Grind.{common_steps}
use Rattle.wh_report.proofs.KeyedSums.{key_full, one_key_more}
use Rattle.wh_report.proofs.key_sums.KeySums.add.Goals as goal

pub returns-then-is_full-clause-damaged : goal.returns-then-is_full-clause-damaged
returns-then-is_full-clause-damaged c = λ sales are _ _. key_full c.args.self.now sales c.args.sale.key c.or_insert-figures.result.now are (let v = c.or_insert-figures.ensures.value in let e = c.in_ok-self-inside.ensures.value in let n = c.new.ensures in cc) (c.is_full.ensures.0 c.if-is_full.true)

pub returns-clause-sums : goal.returns-clause-sums
returns-clause-sums c = λ sales are. one_key_more c.args.self.now _ sales c.args.sale c.in-Some.measures c.in-Some.ensures.value are (λ q. grind (arith, common_steps))
