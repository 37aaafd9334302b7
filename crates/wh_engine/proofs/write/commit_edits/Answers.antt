use Rattle.std.proofs.Common.{◌≡◌, ◌⊎◌, inl, inr, Some, rules}
use Rattle.std.specs.Prelude.{IsTrue}
use Rattle.sqlite.specs.Held.{state}
use Rattle.sqlite.specs.State.{HasCleanDisk}
use Rattle.sqlite.specs.Tree.{Trees}
use Rattle.wh_policy.specs.declared.format.Format.TheVariants.{One}
use Rattle.wh_rows.specs.AtRest.{AreTrees, IsAtRest}
use Rattle.wh_rows.specs.Tables.{Tables}
use Rattle.wh_plan.specs.Edits.{with_format, with_all_edits}
use Rattle.wh_plan.specs.Writable.{MayBeWritten}
use Rattle.wh_engine.proofs.write.commit_edits.Goals as goal

pub returns-in_err-edit_format-clause-left : goal.returns-in_err-edit_format-clause-left
returns-in_err-edit_format-clause-left g c =
    let end = c.drop-writing.new.self.0 in
    let same : end ≡ c.tables-in_err-edit_format-1.given.0 = search rules in
    let left = λ (clean : HasCleanDisk (state g.S.Store end.conn)) (t : Tables) (rests : IsAtRest (Some t) (state g.S.Store c.args.tables.now.conn)) (may : MayBeWritten c.args.edits.now) (first : IsTrue c.args.edits.now.upgrades → t.format ≡ One) (trees : Trees)
    (left : g.S.Store.recovers end.conn.store trees).
    let before = c.drop-writing.ensures.clean clean in
    let begun = c.in_ok-writing.ensures.begun (c.edit_format.ensures.clean before) (Some t) rests in
    let all : AreTrees (Some t) trees ⊎ AreTrees (Some (with_all_edits c.args.edits.now t)) trees = elim (c.drop-writing.ensures.survives.crash clean trees left) [
      | inl was ↦ inl ((c.edit_format.ensures.left before (Some t) t first begun).each trees was)
      | inr none ↦ absurd none
    ] in all in
    rw same at left

pub returns-in_err-write_edits-clause-left : goal.returns-in_err-write_edits-clause-left
returns-in_err-write_edits-clause-left g c =
    let end = c.drop-writing-in_err-write_edits.new.self.0 in
    let same : end ≡ c.tables-in_err-write_edits-1.given.0 = search rules in
    let left = λ (clean : HasCleanDisk (state g.S.Store end.conn)) (t : Tables) (rests : IsAtRest (Some t) (state g.S.Store c.args.tables.now.conn)) (may : MayBeWritten c.args.edits.now) (first : IsTrue c.args.edits.now.upgrades → t.format ≡ One) (trees : Trees)
    (left : g.S.Store.recovers end.conn.store trees).
    let before = c.drop-writing-in_err-write_edits.ensures.clean clean in
    let formatted = c.write_edits.ensures.writes.clean before in
    let begun = c.in_ok-writing.ensures.begun (c.edit_format.ensures.clean formatted) (Some t) rests in
    let made = c.in_ok-edit_format.ensures.made formatted (Some t) t first begun in
    let all : AreTrees (Some t) trees ⊎ AreTrees (Some (with_all_edits c.args.edits.now t)) trees = elim (c.drop-writing-in_err-write_edits.ensures.survives.crash clean trees left) [
      | inl was ↦ inl ((c.write_edits.ensures.writes.left before (Some t) (with_format c.args.edits.now t) made may).each trees was)
      | inr none ↦ absurd none
    ] in all in
    rw same at left

pub returns-clause-written : goal.returns-clause-written
returns-clause-written g c =
    let end = c.commit.new.self.0 in
    let same : end ≡ c.tables-2-1.given.0 = search rules in
    let written = λ (clean : HasCleanDisk (state g.S.Store end.conn)) (t : Tables) (rests : IsAtRest (Some t) (state g.S.Store c.args.tables.now.conn)) (may : MayBeWritten c.args.edits.now) (first : IsTrue c.args.edits.now.upgrades → t.format ≡ One).
    let before = c.commit.ensures.clean clean in
    let formatted = c.write_edits.ensures.writes.clean before in
    let begun = c.in_ok-writing.ensures.begun (c.edit_format.ensures.clean formatted) (Some t) rests in
    let made = c.in_ok-edit_format.ensures.made formatted (Some t) t first begun in
    c.commit.ensures.written clean (Some t) _ (c.in_ok-write_edits.ensures.written before (Some t) _ made may) in
    rw same at written

pub returns-clause-left : goal.returns-clause-left
returns-clause-left g c =
    let end = c.commit.new.self.0 in
    let same : end ≡ c.tables-2-1.given.0 = search rules in
    let left = λ (clean : HasCleanDisk (state g.S.Store end.conn)) (t : Tables) (rests : IsAtRest (Some t) (state g.S.Store c.args.tables.now.conn)) (may : MayBeWritten c.args.edits.now) (first : IsTrue c.args.edits.now.upgrades → t.format ≡ One).
    let before = c.commit.ensures.clean clean in
    let formatted = c.write_edits.ensures.writes.clean before in
    let begun = c.in_ok-writing.ensures.begun (c.edit_format.ensures.clean formatted) (Some t) rests in
    let made = c.in_ok-edit_format.ensures.made formatted (Some t) t first begun in
    c.commit.ensures.left clean (Some t) _ (c.in_ok-write_edits.ensures.written before (Some t) _ made may) in
    rw same at left
