-- The rows that are given are read where they are facts of the members, and at the end these are those of the answer.
use Rattle.std.proofs.Common.{◌≡◌, [], None, Some, Err, refl, ap, ◌∙◌, rules}
use Rattle.std.specs.Prelude.{Vec}
use Rattle.std.specs.declared.alloc.Global.{Global}
use Rattle.sqlite.specs.Held.{state}
use Rattle.sqlite.specs.Values.{bound}
use Rattle.sqlite.specs.State.{HasCleanDisk, Survives, CommitsShowing, FailsToQuery, Shown}
use Rattle.sqlite.specs.Given.{row_if}
use Rattle.wh_sql.specs.Reads.{ReadsOnly}
use Rattle.wh_sql.specs.declared.fault.ReadFault.TheVariants.{Memory, Store}
use Rattle.wh_sql.proofs.Giving.{handed, never_commits, giving_begins, still_survives, still_same, giving_goes_on, all_given, giving_refused}
use Rattle.wh_sql.proofs.Reading.{reads_unchanged}
use Rattle.wh_rows.specs.Since.{is_of_members}
use Rattle.wh_sql.proofs.RowByRow.{none_read, reads_memory}
use Rattle.wh_sql.proofs.Picking.{shows_picked, fails_to_pick}
use Rattle.wh_sql.proofs.picked.rows_of_members.Goals as goal

pub returns-in-Err-clause-reads : goal.returns-in-Err-clause-reads
returns-in-Err-clause-reads g c sound named =
    let old = state g.S.Store c.args.conn.now in
    let new = state g.S.Store c.query.follows.lender-at-none in
    let held = c.query.follows.holds-at-none in
    let kept : Survives old new (CommitsShowing c.args.text.now (bound c.args.params.now) old) = search rules in
    reads_unchanged old new (never_commits c.args.text.now (bound c.args.params.now) old new (c.requires c.args.conn.now.schema) kept) _ (λ clean served. absurd served) sound named

pub rows-init : goal.rows-init
rows-init g c = (
  refl,
  record {
    rows = [];
    giving = giving_begins g.S.Store c.args.text.now (bound c.args.params.now) c.args.conn.now (c.requires c.args.conn.now.schema) c.in-Ok.shown.conn.now c.in-Ok.ensures.begun c.in-Ok.ensures.survives;
    are = none_read g.T.StoredTable.layout c.new.result c.new.ensures.items;
  },
)

pub returns-in-Err-advance-clause-refused : goal.returns-in-Err-advance-clause-refused
returns-in-Err-advance-clause-refused g c clean =
    let now = c.advance.new.self.conn.now in
    let late : HasCleanDisk (state g.S.Store now) = search rules in
    let error = c.in-Err-advance.error in
    let fails : FailsToQuery c.args.text.now (bound c.args.params.now) (state g.S.Store c.args.conn.now) (state g.S.Store now) error =
    giving_refused g.S.Store c.args.text.now (bound c.args.params.now) c.args.conn.now c.rows.shown.conn.now c.rows.invariant.1.giving now c.advance.ensures.survives error c.in-Err-advance.ensures.err late in
    (error, c.from-in-Err-advance.ensures, search rules)

pub returns-in-Err-advance-clause-reads : goal.returns-in-Err-advance-clause-reads
returns-in-Err-advance-clause-reads g c sound named =
    let now = c.advance.new.self.conn.now in
    let survives = still_survives g.S.Store c.args.text.now (bound c.args.params.now) c.args.conn.now c.rows.shown.conn.now c.rows.invariant.1.giving now c.advance.ensures.survives in
    let reads : ReadsOnly {A = Vec g.row.T-Row.Denot Global} (state g.S.Store c.args.conn.now) (state g.S.Store now) (Err (Store c.from-in-Err-advance.result)) =
    reads_unchanged _ _ survives _ (λ clean served. absurd served) (λ clean t at. tt) (λ clean stored at. tt) in
    search rules

pub returns-in_err-read-in-Some-clause-reads : goal.returns-in_err-read-in-Some-clause-reads
returns-in_err-read-in-Some-clause-reads g c sound named =
    let now = c.advance.new.self.conn.now in
    let it = c.rows.invariant.1.giving in
    let fault : c.from_residual.result ≡ Err c.in_err-read-in-Some.field-0.0 = search rules in
    let survives = still_survives g.S.Store c.args.text.now (bound c.args.params.now) c.args.conn.now c.rows.shown.conn.now it now c.advance.ensures.survives in
    let same = still_same g.S.Store c.args.text.now (bound c.args.params.now) c.args.conn.now c.rows.shown.conn.now it now c.advance.ensures.survives c.in_default.ensures.same in
    let reads : ReadsOnly (state g.S.Store c.args.conn.now) (state g.S.Store now) c.from_residual.result = reads_memory _ _ survives same c.from_residual.result (fault ∙ ap Err c.in_err-read-in-Some.ensures.memory) in
    search rules

pub returns-in-None-clause-shows : goal.returns-in-None-clause-shows
returns-in-None-clause-shows g c clean =
    let now = c.advance.new.self.conn.now in
    let it = c.rows.invariant.1 in
    let late : HasCleanDisk (state g.S.Store now) = search rules in
    let shown : Shown c.args.text.now (bound c.args.params.now) (state g.S.Store c.args.conn.now) (state g.S.Store now) it.rows =
    all_given g.S.Store c.args.text.now (bound c.args.params.now) c.args.conn.now c.rows.shown.conn.now it.giving now c.advance.ensures.survives
    (handed g.S.Store c.rows.shown.conn.now now None (row_if c.advance.new.self.has_row now) (rw c.in-None.is at c.get.ensures) c.in_default.ensures.ok) late in
    rw c.ok_or.ensures.value (shows_picked g.T.StoredTable.layout c.table.result (is_of_members (g.M.SomeMembers.among c.args.members.now) c.args.dim) _ _ _ _ it.rows (search rules) c.rows.read it.are)

pub returns-in-None-clause-refused : goal.returns-in-None-clause-refused
returns-in-None-clause-refused g c clean =
    let now = c.advance.new.self.conn.now in
    let it = c.rows.invariant.1 in
    let late : HasCleanDisk (state g.S.Store now) = search rules in
    let shown : Shown c.args.text.now (bound c.args.params.now) (state g.S.Store c.args.conn.now) (state g.S.Store now) it.rows =
    all_given g.S.Store c.args.text.now (bound c.args.params.now) c.args.conn.now c.rows.shown.conn.now it.giving now c.advance.ensures.survives
    (handed g.S.Store c.rows.shown.conn.now now None (row_if c.advance.new.self.has_row now) (rw c.in-None.is at c.get.ensures) c.in_default.ensures.ok) late in
    rw (c.ok_or.ensures.value, c.table.ensures) (fails_to_pick g.T.StoredTable.layout g.T.KeyedTable.name (is_of_members (g.M.SomeMembers.among c.args.members.now) c.args.dim) _ _ _ _ it.rows (search rules) c.rows.read it.are)

pub returns-in-None-clause-reads : goal.returns-in-None-clause-reads
returns-in-None-clause-reads g c sound named =
    let now = c.advance.new.self.conn.now in
    let it = c.rows.invariant.1.giving in
    let survives = still_survives g.S.Store c.args.text.now (bound c.args.params.now) c.args.conn.now c.rows.shown.conn.now it now c.advance.ensures.survives in
    let same = still_same g.S.Store c.args.text.now (bound c.args.params.now) c.args.conn.now c.rows.shown.conn.now it now c.advance.ensures.survives c.in_default.ensures.same in
    reads_unchanged _ _ (search rules) c.ok_or.result (λ clean served. search rules) sound named

pub rows-preserved : goal.rows-preserved
rows-preserved g c =
    let now = c.advance.new.self.conn.now in
    let it = c.rows.invariant.1 in (
      c.advance.ensures.same_reference ∙ c.rows.invariant.0,
      record {
        rows = _;
        giving = giving_goes_on g.S.Store c.args.text.now (bound c.args.params.now) c.args.conn.now c.rows.shown.conn.now it.giving now c.advance.ensures.survives c.in_default.ensures.same c.in-Some.row.now
            (handed g.S.Store c.rows.shown.conn.now now (Some c.in-Some.row.now) (row_if c.advance.new.self.has_row now) (rw c.in-Some.is at c.get.ensures) c.in_default.ensures.ok);
        are = c.in_ok-read-in-Some.ensures.read it.rows it.are;
      },
    )

pub returns-clause-reads : goal.returns-clause-reads
returns-clause-reads g c sound named =
    let now = c.rows.shown.conn.now in
    let it = c.rows.invariant.1.giving in
    let reads : ReadsOnly {A = Vec g.row.T-Row.Denot Global} (state g.S.Store c.args.conn.now) (state g.S.Store now) (Err Memory) = reads_memory _ _ it.survives it.same _ refl in
    search rules
