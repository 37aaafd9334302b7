use Rattle.std.proofs.Common.{rules}
use Rattle.std.specs.Ordering.{is_lt}
use Rattle.std.proofs.lemmas.List.Sorted.{ranks_by}
use Rattle.std.proofs.lemmas.Fn.{always_returns_same}
use Rattle.wh_rows.proofs.Orders.{line_cmp_total}
use Rattle.wh_rows.specs.Rows as row
use Rattle.wh_plan.specs.VoidEdits.{by_line}
use Rattle.wh_plan.proofs.voids.sort_by_line.Goals as goal

pub returns-clause-sorted : goal.returns-clause-sorted
returns-clause-sorted c =
    c.sort_unstable_by.ensures.sorted (λ a b. is_lt (by_line a b)) (ranks_by line_cmp_total row.void.key) (always_returns_same _ _ _ (λ a r f k. search rules))
