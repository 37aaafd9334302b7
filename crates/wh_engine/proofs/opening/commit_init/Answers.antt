use Rattle.std.proofs.Common.{◌≡◌, [], ◌∷◌, None, Some, rules}
use Rattle.sqlite.specs.Held.{state}
use Rattle.sqlite.specs.State.{HasCleanDisk}
use Rattle.wh_rows.specs.AtRest.{IsAtRest}
use Rattle.wh_plan.specs.FirstRows.{IsGoodPolicy}
use Rattle.wh_model.specs.Sound.{init_of}
use Rattle.wh_engine.proofs.OpenedTables.{rests_if_kept, leaves_making}
use Rattle.wh_engine.proofs.opening.commit_init.Goals as goal

pub returns-clause-made : goal.returns-clause-made
returns-clause-made g c =
    let end = c.commit.new.self.0 in
    let same : end ≡ c.tables-2-1.given.0 = search rules in
    let made = λ (clean : HasCleanDisk (state g.S.Store end.conn)) (rests : IsAtRest None (state g.S.Store c.args.tables.now.conn)) (good : IsGoodPolicy c.args.policy.now).
    let before = c.commit.ensures.clean clean in
    let begun = c.in_ok-writing.ensures.begun (c.write_init.ensures.clean before) None rests in
    let all = c.in_ok-write_init.ensures.made before begun good in
    rests_if_kept c.args.limits (init_of c.args.policy.now c.args.bytes.now ∷ []) (state g.S.Store end.conn) all.0 all.1 c.commit.result (c.commit.ensures.written clean None (Some all.0) all.2) in
    rw same at made

pub returns-clause-left : goal.returns-clause-left
returns-clause-left g c =
    let end = c.commit.new.self.0 in
    let same : end ≡ c.tables-2-1.given.0 = search rules in
    let left = λ (clean : HasCleanDisk (state g.S.Store end.conn)) (rests : IsAtRest None (state g.S.Store c.args.tables.now.conn)) (good : IsGoodPolicy c.args.policy.now).
    let before = c.commit.ensures.clean clean in
    let begun = c.in_ok-writing.ensures.begun (c.write_init.ensures.clean before) None rests in
    let all = c.in_ok-write_init.ensures.made before begun good in
    leaves_making c.args.limits c.args.policy.now c.args.bytes.now (state g.S.Store end.conn) all.0 all.1 (c.commit.ensures.left clean None (Some all.0) all.2) in
    rw same at left
