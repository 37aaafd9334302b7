use Rattle.std.proofs.Common.{◌≡◌, ◌∙◌, ap, arith, length, refl}
use Rattle.std.specs.Prelude.{max}
use Rattle.wh_history.specs.Accepted.{members, anchors}
use Rattle.wh_rows.specs.Firsts.{greatest}
use Rattle.wh_plan.proofs.FoundAnchors.{anchors_counted}
use Rattle.wh_plan.proofs.numbers.numbers_drawn.Goals as goal
use Rattle.wh_sql.proofs.Sparing.{tables_again}

pub returns-clause-drawn : goal.returns-clause-drawn
returns-clause-drawn g c clean limits commands t are at members_few anchors_few =
    let dim = c.args.dim in
    let before = c.in_ok-anchor.ensures.reads.spares.clean clean in
    let at_now = tables_again c.in_ok-last.ensures.reads.spares before t at tt in
    let last = c.in_ok-last.ensures.last before limits commands t are at in
    let anchor = c.in_ok-anchor.ensures.rows clean t at_now in
    let counted = anchors_counted greatest refl (λ n ns. refl) limits commands t are dim in
    let all : max c.in_ok-last.last.opening c.in_ok-anchor.anchor ≡ length (anchors dim commands) = ap (λ n. max n c.in_ok-anchor.anchor) (ap (λ m. m.opening) last) ∙ ap (max _) anchor ∙ counted in
    let members_are : c.min.result ≡ length (members dim commands) = let first = ap (λ m. m.durable) last in let least = c.min.ensures in omega arith in
    let anchors_are : c.min-2.result ≡ length (anchors dim commands) = let most = c.max.ensures in let least = c.min-2.ensures in omega arith in
    λ i. record { members = members_are i; anchors = anchors_are i }
