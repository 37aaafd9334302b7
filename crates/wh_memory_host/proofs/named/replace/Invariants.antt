use Rattle.std.proofs.Common.{◌≡◌, None, take}
use Rattle.wh_memory_host.specs.Named.{named}
use Rattle.wh_memory_host.proofs.named.replace.Given as goal

-- nothing is put yet, and no item so far has the name
abbrev pub invariant-loop-item : goal.invariant-loop-item
invariant-loop-item g l = (l.all ≡ l.initial.all) × (named (take l.item-index l.initial.all) l.initial.name ≡ None)
