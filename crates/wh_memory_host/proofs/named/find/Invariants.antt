use Rattle.std.proofs.Common.{◌≡◌, drop}
use Rattle.wh_memory_host.specs.Named.{named}
use Rattle.wh_memory_host.proofs.named.find.Given as goal

-- no item so far has the name
abbrev pub invariant-loop-item : goal.invariant-loop-item
invariant-loop-item g l = named l.all l.name ≡ named (drop l.item-index l.all) l.name
