use Rattle.std.proofs.lemmas.Result.{IfOk-weaker}
use Rattle.wh_store.proofs.Opened.{opened_in_memory}
use Rattle.wh_store.proofs.reopen.open_fresh.Goals as goal

pub returns : goal.returns
returns c = IfOk-weaker c.open_in_memory.result _ _ opened_in_memory c.open_in_memory.ensures.empty
