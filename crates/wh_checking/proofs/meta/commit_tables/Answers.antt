use Rattle.std.proofs.Common.{◌≡◌, None, Some, rules}
use Rattle.sqlite.specs.Steps.{over_memory}
use Rattle.wh_rows.specs.AtRest.{IsAtRest}
use Rattle.wh_sql.specs.Making.{made_with}
use Rattle.wh_sql.specs.Answers.{state_of}
use Rattle.wh_store.proofs.InMemory.{is_clean}
use Rattle.std.specs.Prelude.{IsTrue}
use Rattle.wh_rows.specs.Rows as row
use Rattle.wh_checking.specs.Meta.{made_saying}
use Rattle.wh_checking.proofs.meta.commit_tables.Goals as goal

pub returns : goal.returns
returns c =
    let end = c.commit.new.self.0 in
    let same : end ≡ c.tables-2-1.given.0 = search rules in
    let made = λ (rests : IsAtRest None (state_of over_memory c.args.tables.now)) (valid : IsTrue (row.meta.is_valid c.args.row.now)).
    let begun = c.in_ok-writing.ensures.begun (is_clean c.in_ok-writing.writing.tables.now.conn) None rests in
    let written = c.in_ok-init.ensures.made (is_clean c.init.new.self.tables.now.conn) begun in
    let put = c.in_ok-put.ensures.edited (is_clean c.put.new.self.tables.now.conn) None (made_with c.args.limits) written valid in
    c.commit.ensures.written (is_clean end.conn) None (Some (made_saying c.args.limits c.args.row.now)) put in
    rw same at made
