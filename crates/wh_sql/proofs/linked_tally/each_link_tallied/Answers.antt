-- The rows that are given begin an answer of the text, and at the end they are one.
use Rattle.std.proofs.Common.{◌≡◌, [], None, Some, Ok, Err, refl, ◌∙◌, rules}
use Rattle.sqlite.specs.Held.{state}
use Rattle.sqlite.specs.State.{HasCleanDisk, Survives, CommitsShowing, FailsToQuery}
use Rattle.sqlite.specs.Given.{row_if}
use Rattle.wh_sql.specs.LinkedTally.{linked_by}
use Rattle.wh_sql.specs.Reads.{ReadsOnly}
use Rattle.wh_sql.specs.declared.fault.ReadFault.TheVariants.{Memory, Store}
use Rattle.wh_sql.proofs.Giving.{handed, never_commits, still_survives, still_same, giving_goes_on, all_given, giving_refused}
use Rattle.wh_sql.proofs.LinkedTallying.{tally_returns_nothing, tally_begins, tally_goes_on, tally_damage, tally_of_stored, tally_of_tables}
use Rattle.wh_sql.proofs.Tallying.{tally_reads}
use Rattle.wh_sql.proofs.linked_tally.each_link_tallied.Goals as goal

pub returns-in-Err : goal.returns-in-Err
returns-in-Err g c = record {
  reads = let old = state g.S.Store c.args.conn.now in let new = state g.S.Store c.query.follows.lender-at-none in let held = rw c.linked_by.ensures at c.query.follows.holds-at-none in let kept : Survives old new (CommitsShowing (linked_by c.args.format) [] old) = search rules in tally_reads c.args.format old new (never_commits (linked_by c.args.format) [] old new (tally_returns_nothing c.args.format c.args.conn.now.schema) kept) _ (λ clean served. absurd served) (λ clean stored is. tt);
  rows = λ clean t at. tt;
  stored = λ clean stored at. tt;
  damaged = λ clean stored at. tt;
  refused = search rules;
}

pub facts-init : goal.facts-init
facts-init g c =
    let made = rw c.linked_by.ensures at c.in-Ok.ensures in
    (refl, tally_begins g.S.Store c.args.format c.args.conn.now g.C.LinkAggregate.counts c.in-Ok.rows.conn.now c.args.tally.now made.begun made.survives c.requires)

pub returns-in-Err-advance : goal.returns-in-Err-advance
returns-in-Err-advance g c = record {
  reads = let now = c.advance.new.self.conn.now in let survives = still_survives g.S.Store (linked_by c.args.format) [] c.args.conn.now c.facts.rows.conn.now c.facts.invariant.1.giving now c.advance.ensures.survives in let reads : ReadsOnly {A = Unit {0}} (state g.S.Store c.args.conn.now) (state g.S.Store now) (Err (Store c.from-in-Err-advance.result)) = tally_reads c.args.format _ _ survives _ (λ clean served. absurd served) (λ clean stored is. tt) in search rules;
  rows = λ clean t at. tt;
  stored = λ clean stored at. tt;
  damaged = λ clean stored at. tt;
  refused = λ clean why is. let now = c.advance.new.self.conn.now in let late : HasCleanDisk (state g.S.Store now) = search rules in let error = c.in-Err-advance.error in let fails : FailsToQuery (linked_by c.args.format) [] (state g.S.Store c.args.conn.now) (state g.S.Store now) error = giving_refused g.S.Store (linked_by c.args.format) [] c.args.conn.now c.facts.rows.conn.now c.facts.invariant.1.giving now c.advance.ensures.survives error c.in-Err-advance.ensures.err late in (error, cc (is, c.from-in-Err-advance.ensures), search rules);
}

pub returns-in_err-count_row-in-Some : goal.returns-in_err-count_row-in-Some
returns-in_err-count_row-in-Some g c = record {
  reads = let now = c.advance.new.self.conn.now in let it = c.facts.invariant.1 in let fault : c.from_residual.result ≡ Err c.in_err-count_row-in-Some.field-0.0 = search rules in let survives = still_survives g.S.Store (linked_by c.args.format) [] c.args.conn.now c.facts.rows.conn.now it.giving now c.advance.ensures.survives in let same = still_same g.S.Store (linked_by c.args.format) [] c.args.conn.now c.facts.rows.conn.now it.giving now c.advance.ensures.survives c.in_default.ensures.same in let reads : ReadsOnly (state g.S.Store c.args.conn.now) (state g.S.Store now) c.from_residual.result = tally_reads c.args.format _ _ survives c.from_residual.result (λ clean served. same clean) (tally_damage g.S.Store c.args.format c.args.conn.now now it.sales c.in-Some.row.now (giving_goes_on g.S.Store (linked_by c.args.format) [] c.args.conn.now c.facts.rows.conn.now it.giving now c.advance.ensures.survives c.in_default.ensures.same c.in-Some.row.now (handed g.S.Store c.facts.rows.conn.now now (Some c.in-Some.row.now) (row_if c.advance.new.self.has_row now) (rw c.in-Some.is at c.get.ensures) c.in_default.ensures.ok)) c.from_residual.result c.in_err-count_row-in-Some.field-0.0 fault c.in_err-count_row-in-Some.ensures.damaged) in search rules;
  rows = λ clean t at. search rules;
  stored = λ clean stored at. search rules;
  damaged = λ clean stored at. let now = c.advance.new.self.conn.now in let it = c.facts.invariant.1 in let late : HasCleanDisk (state g.S.Store now) = search rules in let fault : c.from_residual.result ≡ Err c.in_err-count_row-in-Some.field-0.0 = search rules in tally_damage g.S.Store c.args.format c.args.conn.now now it.sales c.in-Some.row.now (giving_goes_on g.S.Store (linked_by c.args.format) [] c.args.conn.now c.facts.rows.conn.now it.giving now c.advance.ensures.survives c.in_default.ensures.same c.in-Some.row.now (handed g.S.Store c.facts.rows.conn.now now (Some c.in-Some.row.now) (row_if c.advance.new.self.has_row now) (rw c.in-Some.is at c.get.ensures) c.in_default.ensures.ok)) c.from_residual.result c.in_err-count_row-in-Some.field-0.0 fault c.in_err-count_row-in-Some.ensures.damaged late stored at.now;
  refused = search rules;
}

pub returns-in-None : goal.returns-in-None
returns-in-None g c = record {
  reads = let now = c.advance.new.self.conn.now in let it = c.facts.invariant.1 in let survives = still_survives g.S.Store (linked_by c.args.format) [] c.args.conn.now c.facts.rows.conn.now it.giving now c.advance.ensures.survives in let same = still_same g.S.Store (linked_by c.args.format) [] c.args.conn.now c.facts.rows.conn.now it.giving now c.advance.ensures.survives c.in_default.ensures.same in let reads : ReadsOnly {A = Unit {0}} (state g.S.Store c.args.conn.now) (state g.S.Store now) (Ok tt) = tally_reads c.args.format _ _ survives _ (λ clean served. same clean) (λ clean stored is. tt) in search rules;
  rows = λ clean t at. let now = c.advance.new.self.conn.now in let late : HasCleanDisk (state g.S.Store now) = search rules in tally_of_tables g.S.Store c.args.format c.args.conn.now c.facts.rows.conn.now c.facts.invariant.1 now (all_given g.S.Store (linked_by c.args.format) [] c.args.conn.now c.facts.rows.conn.now c.facts.invariant.1.giving now c.advance.ensures.survives (handed g.S.Store c.facts.rows.conn.now now None (row_if c.advance.new.self.has_row now) (rw c.in-None.is at c.get.ensures) c.in_default.ensures.ok)) late t at.now.tables;
  stored = λ clean stored at. let now = c.advance.new.self.conn.now in let late : HasCleanDisk (state g.S.Store now) = search rules in tally_of_stored g.S.Store c.args.format c.args.conn.now c.facts.rows.conn.now c.facts.invariant.1 now (all_given g.S.Store (linked_by c.args.format) [] c.args.conn.now c.facts.rows.conn.now c.facts.invariant.1.giving now c.advance.ensures.survives (handed g.S.Store c.facts.rows.conn.now now None (row_if c.advance.new.self.has_row now) (rw c.in-None.is at c.get.ensures) c.in_default.ensures.ok)) late stored at.now;
  damaged = λ clean stored at. tt;
  refused = λ clean. tt;
}

pub facts-preserved : goal.facts-preserved
facts-preserved g c =
    let now = c.advance.new.self.conn.now in
    let it = c.facts.invariant.1 in
    let counted = c.in_ok-count_row-in-Some.ensures.counted in (
      c.advance.ensures.same_reference ∙ c.facts.invariant.0,
      tally_goes_on g.S.Store c.args.format c.args.conn.now c.facts.rows.conn.now it now c.in-Some.row.now
          (giving_goes_on g.S.Store (linked_by c.args.format) [] c.args.conn.now c.facts.rows.conn.now it.giving now c.advance.ensures.survives c.in_default.ensures.same c.in-Some.row.now
          (handed g.S.Store c.facts.rows.conn.now now (Some c.in-Some.row.now) (row_if c.advance.new.self.has_row now) (rw c.in-Some.is at c.get.ensures) c.in_default.ensures.ok)) counted.0 counted.1 c.count_row.new.tally counted.2,
    )

pub returns : goal.returns
returns g c = record {
  reads = let now = c.facts.rows.conn.now in let it = c.facts.invariant.1.giving in let reads : ReadsOnly {A = Unit {0}} (state g.S.Store c.args.conn.now) (state g.S.Store now) (Err Memory) = tally_reads c.args.format _ _ it.survives _ (λ clean served. it.same clean) (λ clean stored is. tt) in search rules;
  rows = λ clean t at. tt;
  stored = λ clean stored at. tt;
  damaged = λ clean stored at. tt;
  refused = search rules;
}
