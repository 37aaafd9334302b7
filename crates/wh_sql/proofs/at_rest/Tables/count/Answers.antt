-- The text means the number of all rows.
use Rattle.std.proofs.Common.{[], length, ◌∙◌, inr}
use Rattle.std.proofs.lemmas.Result.{MatchResult-weaker}
use Rattle.std.specs.FinMap.{len}
use Rattle.sqlite.specs.Held.{state}
use Rattle.wh_sql.proofs.Reading.{too_many, uncounted, reads_only, count_stored, count_of, count_quiet, names_no_table}
use Rattle.wh_sql.proofs.at_rest.Tables.count.Goals as goal

pub returns-in-Err : goal.returns-in-Err
returns-in-Err g c =
    let old = state g.S.Store c.args.self.now.conn in
    let new = state g.S.Store c.query_all.new.self in
    record {
      reads = reads_only g.T.KeyedTable.texts.count [] (count_quiet g.T.KeyedTable.name g.T.StoredTable.layout g.T.KeyedTable.texts.count g.met.T.KeyedTable.means.counts) old new (rw c.statements.ensures.4 at c.query_all.ensures.survives) _ (λ clean served. absurd served) (λ clean t at. tt) (λ clean stored at. tt);
      count = λ clean t at. tt;
      stored = λ clean stored at. tt;
      refused = λ clean t at. inr (c.in-Err.error, c.from.ensures, rw c.statements.ensures.4 at (c.in-Err.ensures.err clean));
    }

pub returns : goal.returns
returns g c =
    let d = g.T.StoredTable in
    let table = g.T.KeyedTable in
    let means = g.met.T.KeyedTable.means in
    let old = state g.S.Store c.args.self.now.conn in
    let new = state g.S.Store c.query_all.new.self in
    let shown = rw c.statements.ensures.4 at c.in-Ok.ensures.ok in
    record {
      reads = reads_only table.texts.count [] (count_quiet table.name d.layout table.texts.count means.counts) old new (rw c.statements.ensures.4 at c.query_all.ensures.survives) c.count_shown.result
          (λ clean served. (c.in-Ok.shown.items, shown clean))
          (λ clean t at. too_many _ (len (d.rows t)) c.count_shown.result (c.count_shown.ensures (len (d.rows t)) (c.deref.ensures.value ∙ count_of table.name means.placed table.texts.count old new t means.counts c.in-Ok.shown.items at.now.tables (shown clean))))
          (λ clean stored at.
          let is = count_stored d.layout table.name means.named table.texts.count means.counts old new c.in-Ok.shown.items (shown clean) stored at.now in
          names_no_table stored c.count_shown.result (too_many _ (length (stored.rows table.name)) c.count_shown.result (c.count_shown.ensures (length (stored.rows table.name)) (c.deref.ensures.value ∙ is))));
      count = λ clean t at.
          let is = count_of table.name means.placed table.texts.count old new t means.counts c.in-Ok.shown.items at.now.tables (shown clean) in
          MatchResult-weaker c.count_shown.result (c.count_shown.ensures (len (d.rows t)) (c.deref.ensures.value ∙ is)) (λ count same. same) (λ refusal many. tt);
      stored = λ clean stored at.
          let is = count_stored d.layout table.name means.named table.texts.count means.counts old new c.in-Ok.shown.items (shown clean) stored at.now in
          MatchResult-weaker c.count_shown.result (c.count_shown.ensures (length (stored.rows table.name)) (c.deref.ensures.value ∙ is)) (λ count same. same) (λ refusal many. tt);
      refused = λ clean t at.
          let is = count_of table.name means.placed table.texts.count old new t means.counts c.in-Ok.shown.items at.now.tables (shown clean) in
          uncounted _ (len (d.rows t)) table.texts.count old new c.count_shown.result (c.count_shown.ensures (len (d.rows t)) (c.deref.ensures.value ∙ is));
    }
