use Rattle.std.proofs.Common.{rules, ◌≡◌, None}
use Rattle.wh_memory_host.specs.Memory.{kept_named}
use Rattle.wh_memory_host.proofs.MemoryLemmas.{is_empty}
use Rattle.wh_memory_host.proofs.memory.taken_or_new.Goals as goal

pub returns-in-Ok-clause-lent : goal.returns-in-Ok-clause-lent
returns-in-Ok-clause-lent c = λ content stood.
    let none : kept_named c.args.kept.now c.args.name.now ≡ None = search rules in
    is_empty content _ c.in-Ok.connection none stood c.in-Ok.ensures.empty
