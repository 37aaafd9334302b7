use Rattle.std.proofs.Common.{◌≡◌, true, rules}
use Rattle.sqlite.specs.Held.{state}
use Rattle.wh_rows.specs.Limits.{are_limits}
use Rattle.wh_engine.proofs.MadePolicies.{policies_are_good}
use Rattle.wh_engine.proofs.OpenedTables.{leaves_made, made_ready}
use Rattle.wh_engine.proofs.engine.Engine.init.Goals as goal

pub returns-in-Ok-commit_init-clause-made : goal.returns-in-Ok-commit_init-clause-made
returns-in-Ok-commit_init-clause-made g c clean rests =
    let limited : are_limits c.args.limits ≡ true = search rules in
    let written = c.in-Ok.ensures in
    let here = rw c.in-Ok-for_init.ensures.same at (c.in-Ok-commit_init.ensures.made clean) in
    made_ready c.args.limits c.in-Ok.read c.args.policy.now (state g.S.Store c.commit_init.new.tables.conn) limited written (here rests (policies_are_good c.args.policy.now c.in-Ok.read written))

pub returns-in-Err-clause-left : goal.returns-in-Err-clause-left
returns-in-Err-clause-left g c clean rests =
    let here = rw c.close.ensures at clean in
    let written = c.in-Ok.ensures in
    let left = rw c.in-Ok-for_init.ensures.same at (c.in-Err.ensures.left here) in
    rw c.close.ensures (leaves_made c.args.limits c.in-Ok.read c.args.policy.now (state g.S.Store c.commit_init.new.tables.conn) written (left rests (policies_are_good c.args.policy.now c.in-Ok.read written)))
