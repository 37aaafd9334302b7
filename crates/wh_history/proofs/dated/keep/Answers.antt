use Rattle.std.proofs.Common.{◌≡◌, ◌<◌, length, rules, sym, ◌∙◌, Bor}
use Rattle.wh_history.specs.declared.member.Change.{Change}
use Rattle.wh_history.proofs.Steps.{keep_there}
use Rattle.wh_history.proofs.dated.keep.Goals as goal

pub returns-then-key-2-clause-ok : goal.returns-then-key-2-clause-ok
returns-then-key-2-clause-ok c =
    let found = c.index-then-place-len.result.now in
    let within : c.loop-place.place < length c.args.dated.now.items = search rules in
    let same : found.now.day ≡ c.args.change.now.day = sym c.key-then-place-len.ensures.value ∙ c.if-key-2.true ∙ c.key-key.ensures.value in
    keep_there (λ (b : Bor Change). b.now) c.args.change.now c.args.dated.now.items c.loop-place.place found within c.index-then-place-len.ensures same c.loop-place.invariant.kept
