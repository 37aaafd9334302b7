use Rattle.std.proofs.Common.{◌≡◌, None, Some, map, rules, sym, ◌∙◌, ap}
use Rattle.std.specs.Prelude.{filter_map, flat_map}
use Rattle.sqlite_trees.proofs.ListLemmas.{IsPermutation-same}
use Rattle.wh_history.specs.Shapes.{shape_of}
use Rattle.wh_rows.specs.Facts.{facts_in}
use Rattle.wh_plan.specs.MovedFacts.{moved_of_touched, pair_of}
use Rattle.wh_plan.specs.OnePass.{first_moving, moved_fact, mover}
use Rattle.wh_plan.proofs.MovedTouched.{facts_moved_in_any_order}
use Rattle.wh_plan.proofs.OnePass.{found_moved, none_moves}
use Rattle.wh_plan.proofs.records.moved_facts.facts_to_move.Goals as goal

pub returns-in_default-clause-moved : goal.returns-in_default-clause-moved
returns-in_default-clause-moved g c clean limits commands t are at format sent records accepted is typed touch =
    let shape = shape_of c.args.dimension.now in
    let table = facts_in c.args.format t in
    let touched = map pair_of c.args.touched.now in
    let none : c.first_moving.result ≡ None = search rules in
    facts_moved_in_any_order limits commands sent shape records t are accepted is typed c.args.touched.now touch c.args.format format c.new.result.items
    (λ apart. IsPermutation-same (flat_map (moved_of_touched shape table) touched) c.new.result.items (none_moves shape table touched (sym c.first_moving.ensures ∙ none) ∙ sym c.new.ensures.items))

pub returns-clause-moved : goal.returns-clause-moved
returns-clause-moved g c clean limits commands t are at format sent records accepted is typed touch =
    let shape = shape_of c.args.dimension.now in
    let touched = map pair_of c.args.touched.now in
    let movers = mover c.in_ok-members.members in
    let first : first_moving touched ≡ Some c.in-Some.from = sym c.first_moving.ensures ∙ c.in-Some.is in
    let found = c.in_ok-found.found.items in
    let made = c.in_ok-moved_facts.ensures ∙ ap (filter_map (moved_fact shape movers)) c.deref.ensures.value in
    facts_moved_in_any_order limits commands sent shape records t are accepted is typed c.args.touched.now touch c.args.format format c.in_ok-moved_facts.field-0.items
    (λ apart. found_moved shape (facts_in c.args.format t) touched apart movers c.in_ok-members.ensures c.in-Some.from first found (c.in_ok-found.ensures.rows clean t at) c.in_ok-moved_facts.field-0.items made)
