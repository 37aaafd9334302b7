use Rattle.std.proofs.Common.{rules, ◌≡◌, None, ◌++◌, take, drop, length, ap, ◌∙◌}
use Rattle.std.specs.Prelude.{unwrap_or}
use Rattle.std.proofs.Math.Seq.{take-append_seam}
use Rattle.wh_memory_host.specs.Named.{named}
use Rattle.wh_memory_host.proofs.memory.put_back.Goals as goal

pub returns-clause-others : goal.returns-clause-others
returns-clause-others c = λ other apart.
    let behind = drop (length c.replace.new.all) c.args.kept.now.items in
    let count : c.args.kept.now.len ≡ length c.replace.new.all = search rules in
    let items : take c.args.kept.now.len (c.replace.new.all ++ behind) ≡ c.replace.new.all = rw count (take-append_seam c.replace.new.all behind) in
    let others = c.replace.ensures.others other apart ∙ ap (λ items. named items other) c.deref_mut.ensures.value in
    ap (λ found. unwrap_or found None) (ap (λ items. named items other) items ∙ others)
