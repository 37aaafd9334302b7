use Rattle.std.proofs.Common.{◌≡◌, ◌∙◌, ◌+◌, ◌≤◌, true, sym, refl, arith, length, take}
use Rattle.std.specs.Char.{is_ascii_digit}
use Rattle.std.specs.List.{list_all}
use Rattle.std.proofs.lemmas.Bool.Decides.{nat_tests}
use Rattle.std.proofs.lemmas.List.{take_all}
use Rattle.std.proofs.lemmas.List.Folds.{list_all_more, list_all_at}
use Rattle.wh_batch.proofs.NumberLemmas.{digits-bound, digits-small, digits-next, digits-none, digits-some}
use Rattle.wh_batch.proofs.numbers.read_digits.Goals as goal

pub loop-byte-init : goal.loop-byte-init
loop-byte-init c = (refl, refl)

pub overflow_mul-number : goal.overflow_mul-number
overflow_mul-number c =
    let small = digits-small c.args.text.now c.loop-byte.byte-index c.loop-byte.invariant.0 c.loop-byte-test.true (omega arith) in
    let value = c.loop-byte.invariant.1 in
    omega (arith, small, value)

pub overflow_add-number : goal.overflow_add-number
overflow_add-number c =
    let small = digits-small c.args.text.now c.loop-byte.byte-index c.loop-byte.invariant.0 c.loop-byte-test.true (omega arith) in
    let value = c.loop-byte.invariant.1 in
    let digit = c.if-not-is_ascii_digit.ensures.cases in
    omega (arith, small, value, digit.0, digit.1)

pub loop-byte-preserved : goal.loop-byte-preserved
loop-byte-preserved c =
    let text = c.args.text.now in
    let i = c.loop-byte.byte-index in
    let digit = c.if-not-is_ascii_digit.ensures in
    let all : list_all is_ascii_digit (take (i + 1) text) ≡ true = rw (list_all_more is_ascii_digit text i 0 c.loop-byte-test.true, c.loop-byte.invariant.0, ← digit.value) refl in
    (all, rw c.loop-byte.invariant.1 (digits-next text i c.loop-byte-test.true digit.cases))

pub returns-then-not-is_ascii_digit-clause-value : goal.returns-then-not-is_ascii_digit-clause-value
returns-then-not-is_ascii_digit-clause-value c =
    let other = c.is_ascii_digit.ensures.value in
    sym (digits-none c.args.most c.args.text.now (list_all_at is_ascii_digit c.args.text.now c.loop-byte.byte-index 0 c.loop-byte-test.true (sym other ∙ c.if-not-is_ascii_digit.true)))

pub returns-clause-value : goal.returns-clause-value
returns-clause-value c =
    let text = c.args.text.now in
    let whole = take_all c.loop-byte.byte-index text c.loop-byte-test.false in
    let digits = rw whole at c.loop-byte.invariant.0 in
    let value = rw whole at c.loop-byte.invariant.1 in
    let full = c.if-is_empty.ensures in
    let some : 1 ≤ length text = grind (arith, nat_tests, full) in
    rw value (sym (digits-some c.args.most text some c.if-text-most.false digits))

pub returns-clause-bound : goal.returns-clause-bound
returns-clause-bound c =
    let text = c.args.text.now in
    let whole = take_all c.loop-byte.byte-index text c.loop-byte-test.false in
    let digits = rw whole at c.loop-byte.invariant.0 in
    let value = rw whole at c.loop-byte.invariant.1 in
    rw value (digits-bound c.args.most text digits c.if-text-most.false)
