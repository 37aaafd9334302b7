use Rattle.std.proofs.Common.{rules, ◌≡◌, [], ◌++◌, map, filter, None, sym, ap, subst, ◌∙◌, if◌then◌else◌}
use Rattle.std.specs.Vec.Iter.{into_iter_items}
use Rattle.std.specs.FinMap.{values}
use Rattle.wh_rows.specs.Parts.{is_behind}
use Rattle.wh_sql.specs.Answers.{state_of}
use Rattle.wh_store.specs.Scan.{rows_left, HandsOut, AreLeft}
use Rattle.wh_store.proofs.Absent.{none_typed, none_there}
use Rattle.wh_store.proofs.Scanning.{handed, none_handed, none_is, no_items}
use Rattle.wh_store.proofs.ScanningStored.{handed_of, none_stored}
use Rattle.wh_store.proofs.scan.next_row.Goals as goal

pub returns-clause-next : goal.returns-clause-next
returns-clause-next g c = record {
  reads = search rules;
  rows = λ clean t same_format at.
      let d = g.T.StoredTable in
      let none : c.next.result ≡ None = none_is c.next.result c.in_default.not-Some in
      let lens = rw none at c.next.ensures.cases in
      let empty : into_iter_items c.next.new.self ≡ [] = no_items _ _ c.next.new.self.rest.ok.0 lens.1 in
      let before : into_iter_items c.args.cursor.now.ahead ≡ [] = no_items _ _ c.args.cursor.now.ahead.rest.ok.0 lens.0 in
      let left = c.in_ok-read_ahead.ensures.rows clean t at c.if-cursor.false empty in
      let cursor = c.args.cursor.now in
      let same : rows_left d.layout (d.rows t) (record { ahead = c.next.new.self; unread = cursor.unread; is_over = cursor.is_over }) ≡ rows_left d.layout (d.rows t) cursor =
      ap (λ l. l ++ (if cursor.is_over then [] else filter (is_behind d.layout cursor.unread.after) (values (d.rows t)))) (empty ∙ sym before) in
      let later = c.read_ahead.new.cursor in
      subst (λ l. HandsOut l c.next-2.result (rows_left d.layout (d.rows t) (record { ahead = c.next-2.new.self; unread = later.unread; is_over = later.is_over }))) (left ∙ same)
      (handed c.next-2.result (into_iter_items later.ahead) (into_iter_items c.next-2.new.self) (filter (is_behind d.layout later.unread.after) (values (d.rows t))) later.is_over c.next-2.ensures.items c.in_ok-read_ahead.ensures.short
      (λ is. no_items _ _ c.next-2.new.self.rest.ok.0 (rw is at c.next-2.ensures.cases).1));
  stored = λ clean stored same_format at.
      let d = g.T.StoredTable in
      let bind = g.T.KeyedTable.bind in
      let rows = stored.rows g.T.KeyedTable.name in
      let none : c.next.result ≡ None = none_is c.next.result c.in_default.not-Some in
      let lens = rw none at c.next.ensures.cases in
      let empty : into_iter_items c.next.new.self ≡ [] = no_items _ _ c.next.new.self.rest.ok.0 lens.1 in
      let before : into_iter_items c.args.cursor.now.ahead ≡ [] = no_items _ _ c.args.cursor.now.ahead.rest.ok.0 lens.0 in
      let later = c.read_ahead.new.cursor in
      let cursor = c.args.cursor.now in
      let back = c.in_ok-read_ahead.ensures.stored clean stored at c.if-cursor.false empty in
      handed_of d.layout bind rows later.unread.after later.is_over c.next-2.result (into_iter_items later.ahead) (into_iter_items c.next-2.new.self) (AreLeft d.layout bind rows cursor)
      c.next-2.ensures.items c.in_ok-read_ahead.ensures.short (λ is. no_items _ _ c.next-2.new.self.rest.ok.0 (rw is at c.next-2.ensures.cases).1)
      (λ left are. let was = back left are in (was.0, was.1, was.2 ∙ ap (λ vs. map d.layout.encode vs ++ was.0) (empty ∙ sym before)));
  damaged = search rules;
  refused = search rules;
  keyed = search rules;
  ended = search rules;
  over = search rules;
  absent = search rules;
}

-- ---- of a table that the format hasn't

pub returns-then-not-is_in-clause-next : goal.returns-then-not-is_in-clause-next
returns-then-not-is_in-clause-next g c = record {
  reads = search rules;
  rows = λ clean t same at.
      let d = g.T.StoredTable in
      let absent = same ∙ sym (rw c.table.ensures at c.is_in.ensures) ∙ c.if-not-is_in.true in
      let none : c.next.result ≡ None = none_is c.next.result c.in_default.not-Some in
      let lens = rw none at c.next.ensures.cases in
      let cursor = c.args.cursor.now in
      let nothing = none_typed d.layout d.rows d.with_rows g.T.KeyedTable.name g.met.T.KeyedTable.means.placed (state_of g.S.Store c.args.tables.now) t at absent in
      none_handed (into_iter_items cursor.ahead) (into_iter_items c.next.new.self) (filter (is_behind d.layout cursor.unread.after) (values (d.rows t))) cursor.is_over
      (no_items _ _ cursor.ahead.rest.ok.0 lens.0) (no_items _ _ c.next.new.self.rest.ok.0 lens.1) (ap (filter (is_behind d.layout cursor.unread.after)) nothing);
  stored = λ clean stored same at.
      let d = g.T.StoredTable in
      let absent = same ∙ sym (rw c.table.ensures at c.is_in.ensures) ∙ c.if-not-is_in.true in
      let none : c.next.result ≡ None = none_is c.next.result c.in_default.not-Some in
      let lens = rw none at c.next.ensures.cases in
      let cursor = c.args.cursor.now in
      none_stored d.layout g.T.KeyedTable.bind (stored.rows g.T.KeyedTable.name) (into_iter_items cursor.ahead) cursor.unread.after cursor.is_over
      (no_items _ _ cursor.ahead.rest.ok.0 lens.0) (none_there g.T.KeyedTable.name (state_of g.S.Store c.args.tables.now) stored at absent);
  damaged = search rules;
  refused = search rules;
  keyed = search rules;
  ended = search rules;
  over = search rules;
  absent = search rules;
}
