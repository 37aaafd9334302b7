use Rattle.std.proofs.Common.{◌≡◌, [], ◌++◌, map}
use Rattle.wh_batch.specs.Faults.{faults_after}
use Rattle.wh_batch.proofs.listing.faults_after.Given as goal

abbrev pub invariant-loop-number : goal.invariant-loop-number
invariant-loop-number g l =
    let layout = g.L.RecordLayout.layout l.layout in
    map (λ f. f.fault) l.all.items ++ faults_after layout l.keys l.number l.rows ≡ faults_after layout [] 1 l.fn.rows
