use Rattle.std.proofs.Common.{◌≡◌, ◌+◌, ◌-◌, ◌<◌, length, drop, arith, ◌∙◌, ap}
use Rattle.std.specs.Prelude.{bytes_eq, find}
use Rattle.std.specs.BTreeMap.{get_by}
use Rattle.std.specs.Cmp.Lexicographic.{slice_cmp}
use Rattle.std.specs.Option.{option_copied}
use Rattle.std.specs.Ordering.{nat_cmp}
use Rattle.std.proofs.lemmas.List.{get_or_default}
use Rattle.std.proofs.lemmas.Map.Text.{btree_map_updates_str}
use Rattle.wh_plan.proofs.PlanningChanges.{named_more}
use Rattle.wh_plan.proofs.by_natural.by_natural.Goals as goal

pub loop-left-preserved : goal.loop-left-preserved
loop-left-preserved g c =
    let list = c.args.list.now in
    let name = g.T.HasNatural.name in
    let i = c.loop-left.left - 1 in
    let within : i < length list = omega arith in
    let next : c.loop-left.left ≡ i + 1 = omega arith in
    let first = c.index-list-left.result in
    let second = c.index-list-left-in-loop-left in
    let one_is = second.is ∙ get_or_default list i second.result first within in
    record {
      within = omega arith;
      found = λ natural.
          ap option_copied (btree_map_updates_str c.name.result.now c.loop-left.found c.insert.new.self _ c.in_ok-insert.ensures.updates natural)
          ∙ named_more name list i first c.name.result.now natural _ (get_by (λ k. slice_cmp nat_cmp natural k.now) c.loop-left.found) within (c.name.ensures ∙ ap name c.index-list-left.is) one_is (c.loop-left.invariant.found natural ∙ ap (λ n. find (λ x. bytes_eq (name x) natural) (drop n list)) next);
    }
