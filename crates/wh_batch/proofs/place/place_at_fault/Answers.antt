use Rattle.std.proofs.Common.{map, sym, ◌∙◌, arith}
use Rattle.std.specs.List.{zip}
use Rattle.std.proofs.lemmas.Iterator.Adapters.{position_from-zero}
use Rattle.wh_batch.specs.Columns.{is_at_fault}
use Rattle.wh_batch.proofs.PlaceLemmas.{here-at-fault, none-at-fault}
use Rattle.wh_batch.proofs.place.place_at_fault.Goals as goal

pub returns-then-is_some : goal.returns-then-is_some
returns-then-is_some c =
    let all = position_from-zero is_at_fault (zip c.args.columns.now (map (λ f. f.now) c.args.fields.now)) in
    let wrong = rw c.holds.ensures at (rw c.in_ok-fault_in.ensures at (sym c.if-is_some.ensures)) in
    let here = here-at-fault c.args.columns.now c.args.fields.now c.loop-place.place c.index-columns-place.result _ (omega arith) (omega arith) c.index-columns-place.is wrong in
    sym here ∙ c.loop-place.invariant ∙ sym all

pub returns : goal.returns
returns c =
    let all = position_from-zero is_at_fault (zip c.args.columns.now (map (λ f. f.now) c.args.fields.now)) in
    let none = none-at-fault c.args.columns.now c.args.fields.now c.loop-place.place c.loop-place.place (rw c.min-place-end.ensures at c.loop-place-test.false) in
    sym none ∙ c.loop-place.invariant ∙ sym all
