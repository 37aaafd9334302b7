use Rattle.std.proofs.Common.{◌≡◌, Some, sym, subst}
use Rattle.wh_memory_host.specs.Memory.{kept_named}
use Rattle.wh_program.specs.Standing.{IsKept}
use Rattle.wh_store.proofs.InMemory.{is_clean}
use Rattle.wh_memory_host.proofs.memory.MemoryHostHost.with_existing.Goals as goal

pub returns-clause-visited : goal.returns-clause-visited
returns-clause-visited g c = λ content stood.
    let did = c.visit-output.ensures (is_clean c.visit-output.result.1) content (c.in-Ok.ensures.lent content stood.1) in
    let kept : kept_named c.put_back.new.kept.items c.args.name.now ≡ Some c.visit-output.result.1 = c.put_back.ensures.kept c.in-Ok.ensures.placed in
    (did.0, did.1, (stood.0, subst (IsKept did.0) (sym kept) did.2))
