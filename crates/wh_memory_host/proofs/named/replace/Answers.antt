use Rattle.std.proofs.Common.{rules, ◌≡◌, ◌<◌, true, false, length, get_or, ap, ◌∙◌, add-one}
use Rattle.std.proofs.lemmas.List.{set-get_or}
use Rattle.wh_memory_host.specs.Named.{named}
use Rattle.wh_memory_host.specs.declared.named.NamedValue.{NamedValue}
use Rattle.wh_memory_host.proofs.NamedLemmas.{has_name, found, put_there, put_elsewhere, skipped, is_another}
use Rattle.wh_memory_host.proofs.named.replace.Goals as goal

pub returns-then-eq-clause-replaced : goal.returns-then-eq-clause-replaced
returns-then-eq-clause-replaced g c =
    let item : NamedValue g.row.T.Denot = c.item-item.result in
    let same : has_name (get_or c.args.all.now c.loop-item.item-index item) c.args.name.now ≡ true = search rules in
    let below : c.loop-item.item-index < length c.args.all.now = search rules in
    let was = found c.args.all.now c.loop-item.item-index c.args.name.now item below c.loop-item.invariant.1 same in
    let now = put_there c.args.all.now c.loop-item.item-index c.args.name.now (record { name = (get_or c.args.all.now c.loop-item.item-index item).name; value = c.args.value }) below c.loop-item.invariant.1 same in
    (search (rules, was), search (rules, now))

pub returns-then-eq-clause-others : goal.returns-then-eq-clause-others
returns-then-eq-clause-others g c = λ other apart.
    let item : NamedValue g.row.T.Denot = c.item-item.result in
    let there : NamedValue g.row.T.Denot = get_or c.loop-item.all c.loop-item.item-index item in
    let same : has_name there c.args.name.now ≡ true = search rules in
    let another = is_another there c.args.name.now other same apart in
    put_elsewhere c.loop-item.all c.loop-item.item-index other (record { name = there.name; value = c.replace.new.dest }) item another another ∙ ap (λ items. named items other) c.loop-item.invariant.0

pub loop-item-preserved : goal.loop-item-preserved
loop-item-preserved g c =
    let item : NamedValue g.row.T.Denot = c.item-item.result in
    let another : has_name (get_or c.args.all.now c.loop-item.item-index item) c.args.name.now ≡ false = search rules in
    let below : c.loop-item.item-index < length c.args.all.now = search rules in
    (set-get_or c.loop-item.all c.loop-item.item-index item ∙ c.loop-item.invariant.0, rw (add-one c.loop-item.item-index) (skipped c.args.all.now c.loop-item.item-index c.args.name.now item below c.loop-item.invariant.1 another))
