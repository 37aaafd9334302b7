use Rattle.std.proofs.Common.{◌≡◌, ◌+◌, ◌<◌, ◌≤◌, ℕ, Bool, true, false, cond, List, length, take, drop, get_or, sym, ◌∙◌, arith}
use Rattle.std.proofs.lemmas.List.{drop_more, take_min}
use Rattle.std.proofs.Math.ListN.{drop_of_length-le}
use Rattle.wh_batch.specs.Lines.{line_ends, ends_line}
use Rattle.wh_batch.proofs.row_place.lines_above.Goals.{then-ends_line, else-ends_line}
use Rattle.wh_batch.proofs.row_place.lines_above.Goals as goal

-- one byte on
ends-next : (before : List ℕ) (place previous ended : ℕ) (found : Bool) → place < length before → found ≡ ends_line previous (get_or before place 0)
    → ended + line_ends previous (drop place before) ≡ (ended + cond found 1 0) + line_ends (get_or before place 0) (drop (place + 1) before)
unfolding line_ends
ends-next before place previous ended found less is = rw (drop_more before place 0 less, is) (omega arith)

-- at the end
ends-done : (before : List ℕ) (place previous ended : ℕ) → length before ≤ place → ended + line_ends previous (drop place before) ≡ ended
unfolding line_ends
ends-done before place previous ended all = rw (drop_of_length-le before all) (omega arith)

pub loop-byte-preserved : goal.loop-byte-preserved
loop-byte-preserved c = elim c.if-ends_line.branch [
  | then-ends_line w ↦
      let next = ends-next (take c.min.result c.args.file.now) c.loop-byte.byte-index c.loop-byte.previous c.loop-byte.ended true c.loop-byte-test.true (sym w.if-ends_line.true ∙ c.ends_line.ensures) in
      rw (w.ended-is, w.previous-is) (omega arith, omega (arith, next))
  | else-ends_line w ↦
      let next = ends-next (take c.min.result c.args.file.now) c.loop-byte.byte-index c.loop-byte.previous c.loop-byte.ended false c.loop-byte-test.true (sym w.if-ends_line.false ∙ c.ends_line.ensures) in
      rw (w.ended-is, w.previous-is) (omega arith, omega (arith, next))
]

pub returns : goal.returns
returns c =
    let before = take c.min.result c.args.file.now in
    let done = ends-done before c.loop-byte.byte-index c.loop-byte.previous c.loop-byte.ended c.loop-byte-test.false in
    let all : c.loop-byte.ended ≡ line_ends 0 before = sym done ∙ c.loop-byte.invariant.1 in
    rw (← take_min c.args.start c.args.file.now, ← c.min.ensures) all
