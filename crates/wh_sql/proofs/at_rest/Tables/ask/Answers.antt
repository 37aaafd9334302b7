-- The text means the rows that answer the question.
use Rattle.std.proofs.lemmas.Result.{err_from_is_err_and}
use Rattle.sqlite.specs.Held.{state}
use Rattle.wh_sql.proofs.Reading.{part_quiet, part_answered, rows_are, undamaged, part_named, not_asked, unasked_harmless, unasked_shows, asked_stored, asked_damage}
use Rattle.wh_sql.proofs.Refusals.{err_when}
use Rattle.wh_sql.proofs.at_rest.Tables.ask.Goals as goal

pub rows_shown-requires : goal.rows_shown-requires
rows_shown-requires g c =
    let q = g.Q.Question in
    let of = c.args.question.now in
    rw c.text.ensures (part_quiet g.T.KeyedTable.name q.front g.T.StoredTable.layout (q.bind of) (q.keep of) (q.means of) (λ format. g.met.Q.Question.reads format of))

pub returns-in_err-values : goal.returns-in_err-values
returns-in_err-values g c =
    let p = err_from_is_err_and c.from_residual.result c.from_residual.ensures.1 in
    let cause = c.in_err-values.field-0.0 in
    rw (p.1, p.2) (record {
      reads = not_asked (state g.S.Store c.args.self.now.conn) cause;
      rows = λ clean t at. tt;
      stored = λ clean stored at. tt;
      damaged = λ clean stored at. unasked_harmless g.Q.Question.front g.T.StoredTable.layout g.T.KeyedTable.name _ cause;
      refused = λ clean can. unasked_shows g.T.StoredTable.layout g.T.KeyedTable.name _ _ _ _ cause (λ other. (c.in_err-values.ensures.err other).1 can);
    })

pub returns : goal.returns
returns g c =
    let q = g.Q.Question in
    let table = g.T.KeyedTable in
    let means = g.met.T.KeyedTable.means in
    let layout = g.T.StoredTable.layout in
    let of = c.args.question.now in
    let old = state g.S.Store c.args.self.now.conn in
    let new = state g.S.Store c.rows_shown.new.conn in
    let asked = part_answered table.name means.placed old new (q.means of) (q.bind of) q.front (q.keep of) (λ format. g.met.Q.Question.reads format of) in
    let shows = rw (c.text.ensures, c.deref.ensures.value, c.in_ok-values.ensures.ok) at c.rows_shown.ensures.shows in
    let refused = rw (c.text.ensures, c.deref.ensures.value, c.in_ok-values.ensures.ok) at c.rows_shown.ensures.refused in
    let reads = rw c.text.ensures at c.rows_shown.ensures.reads in
    record {
      reads = reads asked.quiet (λ clean t at. undamaged asked c.rows_shown.result table.name (refused clean) t at.now.tables)
          (λ clean stored at. part_named layout table.name means.named means.harmed (q.means of) (q.bind of) old new q.front (q.keep of) (λ format. g.met.Q.Question.reads format of) c.rows_shown.result (refused clean) stored at.now);
      rows = λ clean t at. rows_are asked c.rows_shown.result (shows clean) t at.now.tables;
      stored = λ clean stored at. asked_stored layout table.name means.named (q.stands of) (q.keep of) (q.means of) (q.bind of) old new stored at.now q.front (λ format. g.met.Q.Question.reads_stored format of) c.rows_shown.result (shows clean);
      damaged = λ clean stored at. asked_damage layout table.name means.named (q.stands of) (q.keep of) (q.means of) (q.bind of) old new stored at.now q.front (λ format. g.met.Q.Question.reads_stored format of) c.rows_shown.result (refused clean);
      refused = λ clean. err_when c.rows_shown.result (q.can_be_asked of) _ (refused clean);
    }
