use Rattle.std.proofs.Common.{◌≡◌, ◌≤◌, ℕ, List, drop, length}
use Rattle.std.specs.Prelude.{bytes_eq, find}
use Rattle.std.specs.BTreeMap.{get_by}
use Rattle.std.specs.Cmp.Lexicographic.{slice_cmp}
use Rattle.std.specs.Option.{option_copied}
use Rattle.std.specs.Ordering.{nat_cmp}
use Rattle.wh_plan.proofs.by_natural.by_natural.Given as goal

abbrev pub invariant-loop-left : goal.invariant-loop-left
invariant-loop-left g l = record {
  within : l.left ≤ length l.list;
  found : (natural : List ℕ) → option_copied (get_by (λ k. slice_cmp nat_cmp natural k.now) l.found) ≡ find (λ x. bytes_eq (g.T.HasNatural.name x) natural) (drop l.left l.list);
}

abbrev pub decreases-loop-left : goal.decreases-loop-left
decreases-loop-left g l = l.left
