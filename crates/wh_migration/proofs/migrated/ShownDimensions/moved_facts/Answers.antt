use Rattle.std.proofs.Common.{◌≡◌, rules, ap, subst, Option}
use Rattle.std.specs.FinMap.{values}
use Rattle.wh_history.specs.declared.facts.Fact.{Fact}
use Rattle.wh_rows.specs.Facts.{facts_in}
use Rattle.wh_rows.specs.Rows as row
use Rattle.wh_rows.proofs.Edits.{filter_all}
use Rattle.wh_store.specs.Scan.{rows_left, HandsOut}
use Rattle.wh_migration.specs.Migrated.{moved_anew}
use Rattle.wh_migration.proofs.ScannedFacts.{moved_further, moved_whole}
use Rattle.wh_migration.proofs.migrated.ShownDimensions.moved_facts.Goals as goal
use Rattle.wh_sql.proofs.Sparing.{tables_again}
use Rattle.wh_sql.proofs.InTurn.{then_failed}

pub facts-init : goal.facts-init
facts-init g c =
    record {
      reads = search rules;
      moved = λ clean t at there.
          let left : rows_left row.fact (facts_in c.args.format t) c.new-cursor.result ≡ values (facts_in c.args.format t) = rw (c.new-cursor.ensures.none, c.new-cursor.ensures.more, c.new-cursor.ensures.all) (filter_all (values (facts_in c.args.format t))) in
          rw c.new-moved.ensures.items (ap (moved_anew c.args.self.now) left);
    }

pub facts-preserved : goal.facts-preserved
facts-preserved g c =
    let kept = c.facts.invariant in
    let read = c.in_ok-fact.ensures in
    record {
      reads = search rules;
      moved = λ clean t at there.
          let before = read.reads.spares.clean clean in
          moved_further c.args.self.now c.facts.moved.items c.add_moved.new.moved.items c.in-Some.fact (rows_left row.fact (facts_in c.args.format t) c.facts.cursor) (rows_left row.fact (facts_in c.args.format t) c.next_fact.new.cursor) (moved_anew c.args.self.now (values (facts_in c.args.format t)))
          c.in_ok-add_moved-in-Some.ensures (subst (λ (found : Option Fact). HandsOut (rows_left row.fact (facts_in c.args.format t) c.facts.cursor) found (rows_left row.fact (facts_in c.args.format t) c.next_fact.new.cursor)) c.in-Some.is (read.rows clean t (tables_again kept.reads.spares before t at tt) there)) (kept.moved before t at there);
    }

pub returns-in-None-clause-moved : goal.returns-in-None-clause-moved
returns-in-None-clause-moved g c clean t at there =
    let kept = c.facts.invariant in
    let read = c.in_ok-fact.ensures in
    let before = read.reads.spares.clean clean in
    moved_whole c.args.self.now c.facts.moved.items (rows_left row.fact (facts_in c.args.format t) c.facts.cursor) (moved_anew c.args.self.now (values (facts_in c.args.format t))) (subst (λ (found : Option Fact). HandsOut (rows_left row.fact (facts_in c.args.format t) c.facts.cursor) found (rows_left row.fact (facts_in c.args.format t) c.next_fact.new.cursor)) c.in-None.is (read.rows clean t (tables_again kept.reads.spares before t at tt) there)).0 (kept.moved before t at there)

pub returns-in_err-fact-clause-reads : goal.returns-in_err-fact-clause-reads
returns-in_err-fact-clause-reads g c = then_failed c.facts.invariant.reads c.in_err-fact.ensures.reads c.from_residual.ensures
