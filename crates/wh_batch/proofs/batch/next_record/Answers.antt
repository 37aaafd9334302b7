use Rattle.std.proofs.Common.{◌≡◌, Bool, true, false, not, refl}
use Rattle.std.specs.List.{list_any}
use Rattle.wh_batch.specs.Batch.{is_same_key}
use Rattle.wh_batch.proofs.FaultLemmas.{twice-same}
use Rattle.wh_batch.proofs.batch.next_record.Goals as goal

is-true : (b : Bool) → false ≡ not b → b ≡ true
is-true true h = refl
is-true false h = absurd cc

pub returns-then-not-branch-clause-counts : goal.returns-then-not-branch-clause-counts
returns-then-not-branch-clause-counts g c =
    let layout = g.L.RecordLayout.layout c.args.layout.now in
    let left = rw c.if-not-branch.true at c.in_ok-insert.ensures.keys in
    let added = rw c.if-not-branch.true at c.in_ok-insert.ensures.added in
    let twice : list_any (is_same_key (layout.key c.in_ok-record.record)) c.args.keys.now ≡ true = rw c.key.ensures at (is-true _ added) in
    rw left (twice-same layout c.args.keys.now _ c.in_ok-record.record c.in_ok-record.ensures twice)
