-- The text means all facts from the day on, and of these the members' are read.
use Rattle.std.proofs.Common.{[], ◌∷◌, pos, rules, None}
use Rattle.std.proofs.lemmas.Result.{err_from_is_err_and}
use Rattle.sqlite.specs.Held.{state}
use Rattle.sqlite_value.specs.declared.value.Value.TheVariants.{Int}
use Rattle.wh_sql.proofs.Reading.{not_asked, unasked_harmless}
use Rattle.wh_sql.proofs.Picking.{since_quiet, picked_stored, picked_damage, picked_names, picked_rows, picked_sound}
use Rattle.wh_sql.proofs.picked.facts_of_members.Goals as goal

pub rows_of_members-requires : goal.rows_of_members-requires
rows_of_members-requires g c = rw c.since_text.ensures (since_quiet g.F.StoredTable.layout g.F.KeyedTable.name c.args.from _ g.F.Facts.since_means (Int (pos c.args.from) ∷ []) (λ format. g.met.F.Facts.shows_since format c.args.from))

pub returns-in_err-values : goal.returns-in_err-values
returns-in_err-values g c =
    let p = err_from_is_err_and c.from_residual.result c.from_residual.ensures.1 in
    let cause = c.in_err-values.field-0.0 in
    rw (p.1, p.2) (record {
      reads = not_asked (state g.S.Store c.args.conn.now) cause;
      rows = λ clean t at. tt;
      stored = λ clean stored at. tt;
      damaged = λ clean stored at. unasked_harmless None g.F.StoredTable.layout g.F.KeyedTable.name _ cause;
      refused = search rules;
    })

pub returns : goal.returns
returns g c =
    let table = g.F.KeyedTable in
    let means = g.met.F.KeyedTable.means in
    let layout = g.F.StoredTable.layout in
    let facts = g.F.Facts in
    let among = g.M.SomeMembers.among c.args.members.now in
    let dim = c.args.dim in
    let from = c.args.from in
    let old = state g.S.Store c.args.conn.now in
    let new = state g.S.Store c.rows_of_members.new.conn in
    let shows = rw (c.since_text.ensures, c.deref.ensures.value, c.in_ok-values.ensures.ok) at c.rows_of_members.ensures.shows in
    let refused = rw (c.since_text.ensures, c.deref.ensures.value, c.in_ok-values.ensures.ok) at c.rows_of_members.ensures.refused in
    record {
      reads = c.rows_of_members.ensures.reads (λ clean t at. picked_sound layout table.name among dim from facts.since_means (Int (pos from) ∷ []) facts.fact means.placed (λ format. g.met.F.Facts.shows_since format from) (λ row. g.met.F.Facts.of_members among dim row) old new t at.now.tables c.rows_of_members.result (refused clean))
          (λ clean stored at. picked_names layout table.name means.harmed _ stored c.rows_of_members.result (picked_damage layout table.name means.named among dim from _ facts.since_means (Int (pos from) ∷ []) (λ format. g.met.F.Facts.shows_since format from) old new stored at.now c.rows_of_members.result (refused clean)));
      rows = λ clean t at. picked_rows layout table.name among dim from facts.since_means (Int (pos from) ∷ []) facts.fact means.placed (λ format. g.met.F.Facts.shows_since format from) (λ row. g.met.F.Facts.of_members among dim row) old new t at.now.tables c.rows_of_members.result (shows clean);
      stored = λ clean stored at. picked_stored layout table.name means.named among dim from _ facts.since_means (Int (pos from) ∷ []) (λ format. g.met.F.Facts.shows_since format from) old new stored at.now c.rows_of_members.result (shows clean);
      damaged = λ clean stored at. picked_damage layout table.name means.named among dim from _ facts.since_means (Int (pos from) ∷ []) (λ format. g.met.F.Facts.shows_since format from) old new stored at.now c.rows_of_members.result (refused clean);
      refused = refused;
    }
